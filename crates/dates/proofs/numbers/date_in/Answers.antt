-- `dates::numbers::date_in` meets its contract: after twelve months, no day of the year is left.
-- Assumes nothing.
use mathlib.Core.Path.{◌≡◌, ap, ◌∙◌}
use Prim.Native.Nat.{◌-◌}
use native.Mathlib.Omega.{arith}
use Rattle.calendar.specs.Calendar.{days_of_months}
use Rattle.calendar.proofs.Calendar.{length_in_lem, months_sum}
use Rattle.dates.proofs.YearsAndMonths.{month_over, date_found}
use Rattle.dates.proofs.numbers.date_in.Goals as goal

pub returns-then-left-in_month : goal.returns-then-left-in_month
returns-then-left-in_month c =
    let t = c.loop-month in
    let a = c.args in
    date_found a.year a.number t.month t.left t.auto.month t.invariant (omega arith)
    (omega (arith, c.if-left-in_month.true, c.from-in_month.ensures, length_in_lem a.year t.month c.month_length.ensures c.is_leap-leap.ensures))

pub loop-month-preserved : goal.loop-month-preserved
loop-month-preserved c =
    let t = c.loop-month in
    let a = c.args in
    month_over a.year a.number t.month t.left t.auto.month t.invariant c.from-in_month.result
    (c.from-in_month.ensures ∙ length_in_lem a.year t.month c.month_length.ensures c.is_leap-leap.ensures) c.if-left-in_month.false

pub unreachable-requires : goal.unreachable-requires
unreachable-requires c =
    let all : c.loop-month.month - 1 ≡ 12 = omega arith in
    omega (arith, ap (days_of_months c.args.year) all, months_sum c.args.year)
