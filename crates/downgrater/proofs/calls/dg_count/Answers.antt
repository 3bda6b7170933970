-- `downgrater::calls::dg_count` meets its contract.
-- Assumes nothing.
use Rattle.packing.specs.Packing.{CountsFit, SaysCount}
use Rattle.downgrater.proofs.Ranges.{count_fits}
use Rattle.downgrater.proofs.Answers.{fitting, said}
use Rattle.downgrater.proofs.calls.dg_count.Goals as goal

pub count_bits-requires : goal.count_bits-requires
count_bits-requires c =
    let a = c.args in
    fitting CountsFit c.count.ensures (count_fits a.file.now a.sentence.now a.n a.limit)

pub returns : goal.returns
returns c = said SaysCount c.count.ensures _ c.count_bits.ensures
