-- `lines::put_line` meets its contract.
-- Assumes nothing.
use mathlib.Core.Path.{refl}
use Prim.Native.Nat.{◌+◌, ◌<◌}
use native.Mathlib.Omega.{arith}
use lib.Dec.{eqb}
use lib.ListN.{length}
use Rattle.lines.proofs.Placed.{item_short, line_more}
use Rattle.lines.proofs.put_line.Goals as goal

pub loop-i-preserved : goal.loop-i-preserved
loop-i-preserved c =
    let a = c.args in
    let i = c.loop-i in
    let w = c.put_item-p.ensures in
    let small : c.from.result < 65536 = omega (arith, c.type_inv.list i.i, c.from.ensures) in (
      omega (arith, i.invariant.0, w.place, item_short c.from.result (eqb (i.i + 1) (length a.list.now)) small),
      line_more a.list.now a.out.now a.at i.out i.i i.p i.invariant.1 (length a.list.now) _ _ refl c.loop-i-test.true c.from.ensures refl w,
    )
