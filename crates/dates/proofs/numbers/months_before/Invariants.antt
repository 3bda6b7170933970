-- `dates::numbers::months_before` meets its contract. The invariant: the total is that of the months passed.
-- Assumes nothing.
use mathlib.Core.Path.{◌≡◌}
use Prim.Native.Nat.{◌*◌, ◌-◌, ◌≤◌}
use Rattle.calendar.specs.Calendar.{days_of_months}
use Rattle.dates.proofs.numbers.months_before.Given as goal

abbrev pub invariant-loop-k : goal.invariant-loop-k
invariant-loop-k l = (l.total ≡ days_of_months l.year (l.k - 1)) × (l.total ≤ 31 * l.k)
