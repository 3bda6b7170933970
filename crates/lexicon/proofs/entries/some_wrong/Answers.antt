-- `lexicon::some_wrong` meets its contract.
-- Assumes nothing.
use Rattle.std.proofs.Common.{refl, ◌∙◌, arith, rules, tests, ℕ}
use Rattle.std.proofs.lemmas.Iterator.{YieldsList-from_range}
use Rattle.std.proofs.lemmas.Iterator.Search.{any_from_yields_List}
use Rattle.grammar.proofs.Below.{any_below_is}
use Rattle.minimalist.specs.Lexicon.{entry_bytes, wrong_entry}
use Rattle.lexicon.proofs.entries.some_wrong.Goals as goal

pub returns : goal.returns
returns c =
    let a = c.args in
    let test = λ (i : ℕ). wrong_entry a.words (entry_bytes a.bytes.now i) in
    any_from_yields_List test _ _ c.any.result c.any.ensures.ran (YieldsList-from_range 0 a.n a.n refl (omega arith)) (λ x b q k. search (rules, tests))
    ∙ any_below_is test a.n
