-- `report::sentence::Sentence::read` meets its contract.
-- Assumes nothing.
use native.Mathlib.Omega.{arith}
use Rattle.report.proofs.Pairs.{words_read}
use Rattle.report.proofs.sentence.Sentence.read.Goals as goal

pub returns : goal.returns
returns c =
    let i = c.loop-k in
    record { long = i.invariant.room; words_are = words_read c.args.bytes.now i.words i.k c.min-spoken.result i.invariant (omega arith) (omega arith) (rw c.saturating_sub.ensures at c.min-spoken.ensures) }
