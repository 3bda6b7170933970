-- `downgrater::calls::dg_is_open` meets its contract.
-- Assumes nothing.
use mathlib.Core.Path.{◌∙◌}
use Rattle.calendar.specs.Calendar.{date}
use Rattle.dates.proofs.WideDates.{open_alike}
use Rattle.packing.specs.Packing.{ValueFits, Says}
use Rattle.downgrater.proofs.Ranges.{open_fits}
use Rattle.downgrater.proofs.Answers.{fitting, said}
use Rattle.downgrater.proofs.calls.dg_is_open.Goals as goal

pub verdict_bits-requires : goal.verdict_bits-requires
verdict_bits-requires c =
    let a = c.args in
    fitting ValueFits (c.is_open.ensures ∙ open_alike c.date_from.ensures a.term a.asked) (open_fits (date a.year a.month a.day) a.term a.asked)

pub returns : goal.returns
returns c =
    let a = c.args in
    said Says (c.is_open.ensures ∙ open_alike c.date_from.ensures a.term a.asked) _ c.verdict_bits.ensures
