-- `dates::numbers::number_of` meets its contract: the number of a date of the span is one of the span's.
-- Assumes nothing.
use native.Mathlib.Omega.{arith}
use Rattle.calendar.proofs.Calendar.{is_date_lem, number_below}
use Rattle.dates.proofs.numbers.number_of.Goals as goal

pub overflow_add-result-2 : goal.overflow_add-result-2
overflow_add-result-2 c = record { fits = omega (arith, number_below c.args.d (is_date_lem c.args.d c.requires)) }
