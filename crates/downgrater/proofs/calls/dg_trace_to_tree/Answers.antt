-- `downgrater::calls::dg_trace_to_tree` meets its contract.
-- Assumes nothing.
use Rattle.packing.specs.Packing.{ValueFits, Says}
use Rattle.downgrater.proofs.Ranges.{to_tree_fits}
use Rattle.downgrater.proofs.Answers.{fitting, said}
use Rattle.downgrater.proofs.calls.dg_trace_to_tree.Goals as goal

pub verdict_bits-requires : goal.verdict_bits-requires
verdict_bits-requires c =
    let a = c.args in
    fitting ValueFits c.trace_to_tree.ensures.0 (to_tree_fits a.file.now a.sentence.now a.trace.now a.out.now)

pub returns : goal.returns
returns c =
    let k = c.trace_to_tree.ensures in
    (said Says k.0 _ c.verdict_bits.ensures, k.1)
