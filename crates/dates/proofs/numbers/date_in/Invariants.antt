-- `dates::numbers::date_in` meets its contract. The invariant: the days of the months passed and the days left make up the number.
-- Assumes nothing.
use mathlib.Core.Path.{◌≡◌}
use Prim.Native.Nat.{◌+◌, ◌-◌}
use Rattle.calendar.specs.Calendar.{days_of_months}
use Rattle.dates.proofs.numbers.date_in.Given as goal

abbrev pub invariant-loop-month : goal.invariant-loop-month
invariant-loop-month l = days_of_months l.year (l.month - 1) + l.left ≡ l.number
