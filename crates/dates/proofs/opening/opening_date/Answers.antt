-- `dates::opening::opening_date` meets its contract.
-- Assumes nothing.
use mathlib.Core.Path.{ap}
use Prim.Native.Nat.{ℕ, ◌+◌, ◌/◌, ◌%◌}
use Rattle.calendar.proofs.Calendar.{length_in_lem, is_date_lem}
use Rattle.dates.proofs.OpeningMonth.{opening_by}
use Rattle.dates.proofs.opening.opening_date.Goals as goal

pub returns : goal.returns
returns c =
    let d = c.args.d in
    let months = c.from.result + c.args.term in
    opening_by d c.args.term months (is_date_lem d c.requires.0) (ap (λ (n : ℕ). n + c.args.term) c.from.ensures) c.month_length-last.result c.min.result
    (length_in_lem (d.year + months / 12) (months % 12 + 1) c.month_length-last.ensures c.is_leap.ensures) c.min.ensures
