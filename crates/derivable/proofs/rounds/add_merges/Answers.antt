-- `derivable::add_merges` meets its contract. The loop keeps: the table holds what the merges of form i with the first j forms add.
-- Assumes nothing.
use native.Mathlib.Omega.{arith}
use Rattle.derivable.proofs.Growing.{grows_then, merges_further}
use Rattle.derivable.proofs.rounds.add_merges.Goals as goal

pub loop-j-preserved : goal.loop-j-preserved
loop-j-preserved c =
    let t = c.loop-j in
    let a = c.args in
    grows_then t.invariant c.add_merge.ensures (λ forms l. merges_further a.i t.j a.table.now.count forms l (omega arith) (omega arith))
