-- `rule_table::table::in_order` meets its contract.
-- Assumes nothing.
use mathlib.Core.Path.{ap, sym, ◌∙◌}
use Prim.Native.Nat.{ℕ}
use lib.ListN.{get_or}
use Rattle.ranks.proofs.Lists.{three_of}
use Rattle.rule_table.specs.Cells.{in_order}
use Rattle.rule_table.proofs.Ordering.{order_three}
use Rattle.rule_table.proofs.table.in_order.Goals as goal

pub returns-in-3 : goal.returns-in-3
returns-in-3 c =
    let a = c.args in
    let r = c.rising in
    three_of r.result r.ensures.long ∙ order_three a.x a.y a.z (get_or r.result 0 0) (get_or r.result 1 0) (get_or r.result 2 0) r.ensures.order ∙ ap (λ (n : ℕ). in_order n a.x a.y a.z) (sym c.in-3.is)
