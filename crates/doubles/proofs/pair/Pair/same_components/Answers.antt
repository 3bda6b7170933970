-- `doubles::Pair::same_components` meets its contract.
-- Assumes nothing.
use Rattle.std.proofs.Common.{refl, ap, ◌∙◌, rules, tests, arith, eqb, ℕ, ◌+◌, ◌%◌}
use Rattle.std.proofs.lemmas.Iterator.{YieldsList-from_range}
use Rattle.std.proofs.lemmas.Iterator.Search.{all_from_yields_List}
use Rattle.model.specs.Base.{all_below}
use Rattle.model.specs.GrammarFile.{field}
use Rattle.grammar.proofs.Below.{all_below_is}
use Rattle.doubles.proofs.pair.Pair.same_components.Goals as goal

pub returns : goal.returns
returns c =
    let p = c.args.self.now in
    let test = λ (k : ℕ). eqb (field p.e.now (11 + k) % 4) (field p.earlier.now (11 + k) % 4) in
    all_from_yields_List test _ _ c.all.result c.all.ensures.ran (YieldsList-from_range 0 p.variables p.variables refl (omega arith)) (λ x b q k. search (rules, tests))
    ∙ all_below_is test p.variables ∙ ap (all_below test) p.counted
