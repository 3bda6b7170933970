-- `steps::opens` meets its contract.
-- Assumes nothing.
use Rattle.steps.proofs.Applying.{opens_lexical}
use Rattle.steps.proofs.opens.Goals as goal

pub returns-then-d-eq0 : goal.returns-then-d-eq0
returns-then-d-eq0 c =
    let a = c.args in
    opens_lexical a.t.now a.sentence.now a.at a.r.0 _ _ c.place_of-cell.ensures c.daughters-d.ensures.0 c.if-d-eq0.true _ c.word.ensures _ c.hears.ensures
