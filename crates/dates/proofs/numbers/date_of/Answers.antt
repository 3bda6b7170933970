-- `dates::numbers::date_of` meets its contract. The year looked up has begun by that day, and the days since then give its one date.
-- Assumes nothing.
use mathlib.Core.Path.{◌≡◌, refl, ap, ◌∙◌}
use Prim.Native.Nat.{◌+◌, ◌-◌, ◌/◌}
use native.Mathlib.Omega.{arith}
use borrow.Author.Tests.{le-leb, lt-leb}
use Rattle.std.specs.Prelude.{Ok}
use Rattle.calendar.specs.Calendar.{first_year, days, days_of_years, date_of}
use Rattle.dates.proofs.YearsAndMonths.{years_begun}
use Rattle.dates.proofs.numbers.date_of.Goals as goal

pub returns-then-number-ge-DAYS : goal.returns-then-number-ge-DAYS
returns-then-number-ge-DAYS c = rw (le-leb days c.args.number (omega (arith, c.if-number-ge-DAYS.true))) refl

pub overflow_sub-number : goal.overflow_sub-number
overflow_sub-number c = omega (arith, years_begun c.args.number)

pub date_after-requires : goal.date_after-requires
date_after-requires c = (omega arith, omega arith, omega (arith, years_begun c.args.number))

pub returns : goal.returns
returns c =
    let n = c.args.number in
    let year = first_year + n / 366 in
    let same : days_of_years (year - first_year) + (n - c.from.result) ≡ n = omega (arith, years_begun n) in
    rw (lt-leb days n (omega (arith, c.if-number-ge-DAYS.false))) (ap Ok (c.date_after.ensures ∙ ap date_of same))
