-- `ranks::queue::settle` meets its contract.
-- Assumes nothing.
use Prim.Native.Nat.{◌+◌, ◌-◌, ◌≤◌}
use Rattle.ranks.proofs.Settling.{Settling}
use Rattle.ranks.proofs.queue.settle.Given as goal

abbrev pub invariant-loop-p : goal.invariant-loop-p
invariant-loop-p l = (l.from ≤ l.p) × (l.p + l.gap ≤ l.end) × Settling l.e l.initial.w l.w l.from l.gap l.end l.p

abbrev pub decreases-loop-p : goal.decreases-loop-p
decreases-loop-p l = l.end - l.p
