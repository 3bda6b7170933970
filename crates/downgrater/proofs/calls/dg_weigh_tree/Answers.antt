-- `downgrater::calls::dg_weigh_tree` meets its contract.
-- Assumes nothing.
use Rattle.downgrater.proofs.Ranges.{sum_fits}
use Rattle.downgrater.proofs.Answers.{sum_said}
use Rattle.downgrater.proofs.calls.dg_weigh_tree.Goals as goal

pub verdict_bits-requires : goal.verdict_bits-requires
verdict_bits-requires c = sum_fits c.weigh_tree.result c.weigh_tree.ensures.small

pub returns : goal.returns
returns c = sum_said _ c.verdict_bits.ensures c.weigh_tree.ensures
