-- `pages::fill` meets its contract.
-- Assumes nothing.
use Prim.Native.Nat.{◌-◌}
use lib.ListN.{length}
use Rattle.pages.proofs.Pages.{FilledSoFar}
use Rattle.pages.proofs.fill.Given as goal

abbrev pub invariant-loop-out : goal.invariant-loop-out
invariant-loop-out l = FilledSoFar l.tables.rules l.tables.chain l.sentence l.initial.walk.queues l.initial.walk.path l.initial.walk.turns l.initial.out l.initial.here l.walk.queues l.walk.path l.walk.turns l.out l.here

abbrev pub decreases-loop-out : goal.decreases-loop-out
decreases-loop-out l = length l.out - l.here.place
