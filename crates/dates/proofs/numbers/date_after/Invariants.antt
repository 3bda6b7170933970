-- `dates::numbers::date_after` meets its contract. The invariant: the days of the years passed and the days left make up the number.
-- Assumes nothing.
use mathlib.Core.Path.{◌≡◌}
use Prim.Native.Nat.{ℕ, ◌+◌, ◌-◌}
use Rattle.calendar.specs.Calendar.{first_year, days_of_years}
use Rattle.dates.proofs.numbers.date_after.Given as goal

-- the day's number
abbrev pub counted : ℕ → ℕ → ℕ
counted start count = days_of_years (start - first_year) + count

abbrev pub invariant-loop-year : goal.invariant-loop-year
invariant-loop-year l = days_of_years (l.year - first_year) + l.left ≡ counted l.start l.count
