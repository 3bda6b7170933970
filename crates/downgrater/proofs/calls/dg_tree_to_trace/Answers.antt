-- `downgrater::calls::dg_tree_to_trace` meets its contract.
-- Assumes nothing.
use Rattle.packing.specs.Packing.{ValueFits, Says}
use Rattle.downgrater.proofs.Ranges.{to_trace_fits}
use Rattle.downgrater.proofs.Answers.{fitting, said}
use Rattle.downgrater.proofs.calls.dg_tree_to_trace.Goals as goal

pub verdict_bits-requires : goal.verdict_bits-requires
verdict_bits-requires c =
    let a = c.args in
    fitting ValueFits c.tree_to_trace.ensures.0 (to_trace_fits a.file.now a.sentence.now a.tree.now a.out.now)

pub returns : goal.returns
returns c =
    let k = c.tree_to_trace.ensures in
    (said Says k.0 _ c.verdict_bits.ensures, k.1)
