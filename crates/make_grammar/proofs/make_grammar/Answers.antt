-- `make_grammar::make_grammar` meets its contract.
-- Assumes nothing.
use Rattle.model.proofs.Verdicts.{handed_on, tests_pass, tests_met}
use Rattle.minimalist.specs.Lexicon.{entries_refusal}
use Rattle.minimalist.proofs.MakeGrammar.{refused_entries}
use Rattle.make_grammar.proofs.make_grammar.Goals as goal

pub returns-in_err-entries_refusal : goal.returns-in_err-entries_refusal
returns-in_err-entries_refusal c =
    let a = c.args in
    let k = c.entries_refusal in
    rw (handed_on c.from_residual.result c.from_residual.ensures.1) (refused_entries a.lexicon.now a.words a.start c.known_bytes.ensures a.out.now _
    (tests_met (entries_refusal a.lexicon.now a.words a.start) k.result k.ensures c.in_err-entries_refusal.was))

pub made-requires : goal.made-requires
made-requires c =
    let a = c.args in
    let k = c.entries_refusal in
    (c.known_bytes.ensures, tests_pass (entries_refusal a.lexicon.now a.words a.start) k.result k.ensures c.in_ok-entries_refusal.was)
