-- `analyses::calls::found_entry` meets its contract.
-- Assumes nothing.
use Rattle.model.specs.GrammarFile.{grammar_of}
use Rattle.analyses.proofs.Tables.{start_small, file_starts, file_enters}
use Rattle.analyses.proofs.calls.found_entry.Goals as goal

pub entry_from-requires : goal.entry_from-requires
entry_from-requires c =
    let a = c.args in
    let e = c.tables_of.ensures in
    let t = e.tables c.requires.0 in (
      start_small a.file.now c.requires.0 _ e.start,
      λ w f. file_enters a.file.now c.requires.0 _ _ a.sentence.now w a.n a.limit _ t.0 t.1 e.start f c.requires.1 a.out.now c.requires.2,
    )

pub returns : goal.returns
returns c =
    let a = c.args in
    let e = c.tables_of.ensures in
    let t = e.tables c.requires.0 in
    let k = c.entry_from.ensures in
    let says = k.2.of_grammar (grammar_of a.file.now) (file_starts a.file.now c.requires.0 _ _ a.sentence.now k.0 a.n a.limit _ t.0 t.1 e.start k.1 c.requires.1) in
    (says.verdict_is, says.output_is)
