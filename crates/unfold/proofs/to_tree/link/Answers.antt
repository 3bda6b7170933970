-- `unfold::to_tree::link` meets its contract.
-- Assumes nothing.
use Prim.Native.Nat.{◌<◌}
use native.Mathlib.Omega.{arith}
use lib.ListN.{length}
use Rattle.unfold.proofs.UnfoldTables.{linked_next}
use Rattle.unfold.proofs.to_tree.link.Goals as goal

pub loop-k-preserved : goal.loop-k-preserved
loop-k-preserved c =
    let l = c.loop-k in
    let inside : c.from.result < length l.steps = omega (arith, c.requires.1 l.k c.loop-k-test.true) in
    linked_next c.args.taken.now l.steps l.k c.from.result l.invariant c.from.ensures inside
