-- `rule_table::places::first_of` meets its contract.
-- Assumes nothing.
use mathlib.Core.Path.{◌≡◌}
use Prim.Native.Nat.{◌-◌}
use Rattle.rule_table.specs.Places.{first_of}
use Rattle.rule_table.proofs.places.first_of.Given as goal

abbrev pub invariant-loop-v : goal.invariant-loop-v
invariant-loop-v l = first_of l.e l.x 0 12 ≡ first_of l.e l.x l.v (12 - l.v)
