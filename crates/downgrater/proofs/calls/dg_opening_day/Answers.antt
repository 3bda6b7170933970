-- `downgrater::calls::dg_opening_day` meets its contract.
-- Assumes nothing.
use mathlib.Core.Path.{◌∙◌}
use Rattle.calendar.specs.Calendar.{date}
use Rattle.dates.proofs.WideDates.{opening_alike}
use Rattle.packing.specs.Packing.{ValueFits, Says}
use Rattle.downgrater.proofs.Ranges.{opening_fits}
use Rattle.downgrater.proofs.Answers.{fitting, said}
use Rattle.downgrater.proofs.calls.dg_opening_day.Goals as goal

pub verdict_bits-requires : goal.verdict_bits-requires
verdict_bits-requires c =
    let a = c.args in
    fitting ValueFits (c.opening_day.ensures ∙ opening_alike c.date_from.ensures a.term) (opening_fits (date a.year a.month a.day) a.term)

pub returns : goal.returns
returns c =
    let a = c.args in
    said Says (c.opening_day.ensures ∙ opening_alike c.date_from.ensures a.term) _ c.verdict_bits.ensures
