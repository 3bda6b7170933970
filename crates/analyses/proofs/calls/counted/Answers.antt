-- `analyses::calls::counted` meets its contract.
-- Assumes nothing.
use Rattle.model.specs.GrammarFile.{grammar_of}
use Rattle.analyses.proofs.Tables.{start_small, file_starts, file_counts}
use Rattle.analyses.proofs.calls.counted.Goals as goal

pub count_from-requires : goal.count_from-requires
count_from-requires c =
    let a = c.args in
    let e = c.tables_of.ensures in
    let t = e.tables c.requires.0 in
    (start_small a.file.now c.requires.0 _ e.start, λ w f. file_counts a.file.now c.requires.0 _ _ a.sentence.now w a.n a.limit _ t.0 t.1 e.start f c.requires.1)

pub returns : goal.returns
returns c =
    let a = c.args in
    let e = c.tables_of.ensures in
    let t = e.tables c.requires.0 in
    let k = c.count_from.ensures in
    k.2.of_grammar (grammar_of a.file.now) (file_starts a.file.now c.requires.0 _ _ a.sentence.now k.0 a.n a.limit _ t.0 t.1 e.start k.1 c.requires.1)
