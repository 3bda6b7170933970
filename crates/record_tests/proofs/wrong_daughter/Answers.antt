-- `record_tests::wrong_daughter` meets its contract.
-- Assumes nothing.
use Rattle.std.proofs.Common.{refl, ◌∙◌, arith, rules, tests, leb, length, ℕ, ◌+◌}
use Rattle.std.proofs.lemmas.Iterator.{YieldsList-from_range}
use Rattle.std.proofs.lemmas.Iterator.Search.{any_from_yields_List}
use Rattle.model.specs.GrammarFile.{field}
use Rattle.grammar.proofs.Below.{any_below_is}
use Rattle.record_tests.proofs.wrong_daughter.Goals as goal

pub returns : goal.returns
returns c =
    let a = c.args in
    let test = λ (j : ℕ). leb (length a.dimensions.now) (field a.e.now (2 + j)) in
    any_from_yields_List test _ _ c.any.result c.any.ensures.ran (YieldsList-from_range 0 a.n a.n refl (omega arith)) (λ x b q k. search (rules, tests))
    ∙ any_below_is test a.n
