-- `walk::prefixes::find` meets its contract.
-- Assumes nothing.
use mathlib.Core.Path.{◌≡◌}
use Prim.Native.Nat.{◌-◌}
use Rattle.walk.specs.Chain.{no_rule}
use Rattle.walk.specs.Named.{number_of}
use Rattle.walk.specs.Turns.{found}
use Rattle.walk.specs.Prefixes.{MayFind}
use Rattle.walk.proofs.prefixes.find.Given as goal

abbrev pub invariant-loop-next : goal.invariant-loop-next
invariant-loop-next l =
    MayFind l.tables.rules l.tables.chain l.sentence l.at l.next
    × (found l.tables.rules l.tables.chain l.sentence l.at (number_of l.initial.next) ≡ found l.tables.rules l.tables.chain l.sentence l.at (number_of l.next))

abbrev pub decreases-loop-next : goal.decreases-loop-next
decreases-loop-next l = no_rule - number_of l.next
