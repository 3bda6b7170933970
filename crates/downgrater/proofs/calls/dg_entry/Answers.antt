-- `downgrater::calls::dg_entry` meets its contract.
-- Assumes nothing.
use Rattle.packing.specs.Packing.{ValueFits, Says}
use Rattle.downgrater.proofs.Ranges.{entry_fits}
use Rattle.downgrater.proofs.Answers.{fitting, said}
use Rattle.downgrater.proofs.calls.dg_entry.Goals as goal

pub verdict_bits-requires : goal.verdict_bits-requires
verdict_bits-requires c =
    let a = c.args in
    fitting ValueFits c.entry.ensures.0 (entry_fits a.file.now a.sentence.now a.n a.limit a.m a.out.now)

pub returns : goal.returns
returns c =
    let k = c.entry.ensures in
    (said Says k.0 _ c.verdict_bits.ensures, k.1)
