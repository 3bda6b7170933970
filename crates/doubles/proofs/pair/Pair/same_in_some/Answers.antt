-- `doubles::Pair::same_in_some` meets its contract.
-- Assumes nothing.
use Rattle.std.proofs.Common.{◌∙◌, rules, tests}
use Rattle.std.proofs.lemmas.Iterator.{YieldsList-from_slice}
use Rattle.std.proofs.lemmas.Iterator.Search.{any_from_yields_List}
use Rattle.model.specs.GrammarFile.{same_in_order}
use Rattle.doubles.specs.declared.order.Order.{Order}
use Rattle.doubles.specs.Order.{positions}
use Rattle.doubles.proofs.Reordering.{some_order}
use Rattle.doubles.proofs.pair.Pair.same_in_some.Goals as goal

pub returns : goal.returns
returns c =
    let p = c.args.self.now in
    let test = λ (order : Order). same_in_order p.earlier.now p.e.now (positions order) in
    any_from_yields_List test _ _ c.any.result c.any.ensures.ran (YieldsList-from_slice c.args.orders.now (cc)) (λ x b q k. search (rules, tests))
    ∙ some_order (same_in_order p.earlier.now p.e.now) c.args.orders.now
