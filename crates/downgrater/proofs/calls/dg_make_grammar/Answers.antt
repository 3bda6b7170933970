-- `downgrater::calls::dg_make_grammar` meets its contract.
-- Assumes nothing.
use Rattle.packing.specs.Packing.{ValueFits, Says}
use Rattle.downgrater.proofs.Ranges.{make_fits}
use Rattle.downgrater.proofs.Answers.{fitting, said, made}
use Rattle.downgrater.proofs.calls.dg_make_grammar.Goals as goal

pub verdict_bits-requires : goal.verdict_bits-requires
verdict_bits-requires c =
    let a = c.args in
    fitting ValueFits c.make_grammar.ensures.verdict_is (make_fits a.lexicon.now a.words a.start a.out.now)

pub returns : goal.returns
returns c =
    let k = c.make_grammar.ensures in
    (said Says k.verdict_is _ c.verdict_bits.ensures, made _ _ _ _ _ _ k)
