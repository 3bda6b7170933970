-- `tally::prefixes::tally_all` meets its contract.
-- Assumes nothing.
use Prim.Native.Nat.{◌-◌}
use Rattle.tally.proofs.Passed.{SoFar}
use Rattle.tally.proofs.prefixes.tally_all.Given as goal

abbrev pub invariant-loop-so : goal.invariant-loop-so
invariant-loop-so l = SoFar l.tables.rules l.tables.chain l.sentence l.initial.walk.queues l.n l.limit l.m l.initial.held l.walk.queues l.held l.walk.path l.walk.turns l.at l.so

abbrev pub decreases-loop-so : goal.decreases-loop-so
decreases-loop-so l = l.limit - l.so.effort
