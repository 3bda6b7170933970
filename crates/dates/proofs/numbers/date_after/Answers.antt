-- `dates::numbers::date_after` meets its contract: after the last year, no day of the span is left.
-- Assumes nothing.
use mathlib.Core.Path.{◌≡◌, ap, ◌∙◌}
use Prim.Native.Nat.{◌-◌}
use native.Mathlib.Omega.{arith}
use Rattle.calendar.specs.Calendar.{first_year, years, days_of_years}
use Rattle.calendar.proofs.Calendar.{years_sum}
use Rattle.dates.proofs.YearsAndMonths.{date_of_year}
use Rattle.dates.proofs.numbers.date_after.Goals as goal
use Rattle.dates.proofs.numbers.date_after.Invariants.{counted}

pub returns-then-left-in_year : goal.returns-then-left-in_year
returns-then-left-in_year c =
    let t = c.loop-year in
    let a = c.args in
    c.date_in.ensures ∙ date_of_year (counted a.start a.count) t.year t.left (omega arith) t.invariant (omega arith)
    (omega (arith, c.if-left-in_year.true, c.year_length-in_year.ensures))

pub unreachable-requires : goal.unreachable-requires
unreachable-requires c =
    let all : c.loop-year.year - first_year ≡ years = omega arith in
    omega (arith, ap days_of_years all, years_sum)
