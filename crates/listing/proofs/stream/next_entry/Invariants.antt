-- `listing::stream::next_entry` meets its contract.
-- Assumes nothing.
use Rattle.listing.proofs.Entries.{still_left, NoneSoFar}
use Rattle.listing.proofs.stream.next_entry.Given as goal

abbrev pub invariant-loop-here : goal.invariant-loop-here
invariant-loop-here l = NoneSoFar l.tables.rules l.tables.chain l.sentence l.initial.walk.queues l.initial.walk.path l.initial.walk.turns l.initial.here l.walk.queues l.walk.path l.walk.turns l.here

abbrev pub decreases-loop-here : goal.decreases-loop-here
decreases-loop-here l = still_left l.walk.path l.here
