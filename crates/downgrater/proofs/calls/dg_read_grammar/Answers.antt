-- `downgrater::calls::dg_read_grammar` meets its contract.
-- Assumes nothing.
use Rattle.packing.specs.Packing.{ValueFits, Says}
use Rattle.downgrater.proofs.Ranges.{read_fits}
use Rattle.downgrater.proofs.Answers.{fitting, said}
use Rattle.downgrater.proofs.calls.dg_read_grammar.Goals as goal

pub verdict_bits-requires : goal.verdict_bits-requires
verdict_bits-requires c =
    let a = c.args in
    fitting ValueFits c.read_grammar.ensures (read_fits a.file.now)

pub returns : goal.returns
returns c = said Says c.read_grammar.ensures _ c.verdict_bits.ensures
