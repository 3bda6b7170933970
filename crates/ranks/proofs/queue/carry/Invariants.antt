-- `ranks::queue::carry` meets its contract.
-- Assumes nothing.
use Rattle.std.proofs.Common.{◌≡◌, ◌+◌, ◌-◌}
use Rattle.ranks.specs.Queue.{Mapped}
use Rattle.ranks.proofs.queue.carry.Given as goal

abbrev pub invariant-loop-i : goal.invariant-loop-i
invariant-loop-i g l = (l.k ≡ l.out + (l.i - l.from)) × Mapped g.after l.initial.w l.w l.from l.i l.out
