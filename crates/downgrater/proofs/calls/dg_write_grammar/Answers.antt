-- `downgrater::calls::dg_write_grammar` meets its contract.
-- Assumes nothing.
use Rattle.packing.specs.Packing.{ValueFits, Says}
use Rattle.downgrater.proofs.Ranges.{write_fits}
use Rattle.downgrater.proofs.Answers.{fitting, said}
use Rattle.writer.specs.Writing.{heading}
use Rattle.downgrater.proofs.calls.dg_write_grammar.Goals as goal

pub verdict_bits-requires : goal.verdict_bits-requires
verdict_bits-requires c =
    let a = c.args in
    let h = heading a.categories a.start a.words a.rules a.dimensions.now in
    fitting ValueFits c.write_grammar.ensures.0 (write_fits h a.records.now a.out.now)

pub returns : goal.returns
returns c =
    let k = c.write_grammar.ensures in
    (said Says k.0 _ c.verdict_bits.ensures, k.1)
