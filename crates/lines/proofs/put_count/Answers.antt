-- `lines::put_count` meets its contract.
-- Assumes nothing.
use mathlib.Core.Bool.{true, false}
use Rattle.lines.proofs.Placed.{item_long, put_long, put_join, put_same, count_line}
use native.Mathlib.Omega.{arith}
use Rattle.lines.proofs.put_count.Goals as goal

pub put_item-p-requires : goal.put_item-p-requires
put_item-p-requires c =
    omega (arith, c.requires, item_long c.args.a false)

pub put_item-requires : goal.put_item-requires
put_item-requires c =
    let w = c.put_item-p.ensures in
    omega (arith, c.requires, item_long c.args.a false, item_long c.args.b true, w.place, put_long w)

pub returns : goal.returns
returns c =
    let a = c.args in
    put_same (put_join c.put_item-p.ensures c.put_item.ensures) (count_line a.a a.b)
