-- `downgrater::calls::dg_date_of` meets its contract.
-- Assumes nothing.
use Rattle.packing.specs.Packing.{SaysDate}
use Rattle.downgrater.proofs.Answers.{said}
use Rattle.downgrater.proofs.calls.dg_date_of.Goals as goal

pub returns : goal.returns
returns c = said SaysDate c.date_of.ensures _ c.date_bits.ensures
