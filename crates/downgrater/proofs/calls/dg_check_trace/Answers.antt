-- `downgrater::calls::dg_check_trace` meets its contract.
-- Assumes nothing.
use Rattle.packing.specs.Packing.{ValueFits, Says}
use Rattle.downgrater.proofs.Ranges.{trace_fits}
use Rattle.downgrater.proofs.Answers.{fitting, said}
use Rattle.downgrater.proofs.calls.dg_check_trace.Goals as goal

pub verdict_bits-requires : goal.verdict_bits-requires
verdict_bits-requires c =
    let a = c.args in
    fitting ValueFits c.check_trace.ensures (trace_fits a.file.now a.sentence.now a.trace.now)

pub returns : goal.returns
returns c = said Says c.check_trace.ensures _ c.verdict_bits.ensures
