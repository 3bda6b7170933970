-- `downgrater::calls::dg_day_number` meets its contract.
-- Assumes nothing.
use mathlib.Core.Path.{◌∙◌}
use Rattle.calendar.specs.Calendar.{date}
use Rattle.dates.proofs.WideDates.{number_alike}
use Rattle.packing.specs.Packing.{ValueFits, Says}
use Rattle.downgrater.proofs.Ranges.{number_fits}
use Rattle.downgrater.proofs.Answers.{fitting, said}
use Rattle.downgrater.proofs.calls.dg_day_number.Goals as goal

pub verdict_bits-requires : goal.verdict_bits-requires
verdict_bits-requires c =
    let a = c.args in
    fitting ValueFits (c.day_number.ensures ∙ number_alike c.date_from.ensures) (number_fits (date a.year a.month a.day))

pub returns : goal.returns
returns c =
    said Says (c.day_number.ensures ∙ number_alike c.date_from.ensures) _ c.verdict_bits.ensures
