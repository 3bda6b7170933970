-- `dates::numbers::months_before` meets its contract: a month more.
-- Assumes nothing.
use mathlib.Core.Path.{◌≡◌, ap}
use Prim.Native.Nat.{◌+◌, ◌-◌}
use native.Mathlib.Omega.{arith}
use Rattle.calendar.specs.Calendar.{days_of_months}
use Rattle.calendar.proofs.Calendar.{length_in_lem, length_within, month_more}
use Rattle.dates.proofs.numbers.months_before.Goals as goal

pub loop-k-preserved : goal.loop-k-preserved
loop-k-preserved c =
    let t = c.loop-k in
    let year = c.args.year in
    let same : t.k + 1 - 1 ≡ t.k = omega arith in (
      omega (arith, ap (days_of_months year) same, month_more year t.k t.auto.k, c.from-total.ensures, length_in_lem year t.k c.month_length.ensures c.is_leap-leap.ensures),
      omega (arith, c.from-total.ensures, c.month_length.ensures, (length_within c.is_leap-leap.result t.k).1),
    )
