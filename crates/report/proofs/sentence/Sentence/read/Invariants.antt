-- `report::sentence::Sentence::read` meets its contract.
-- Assumes nothing.
use Rattle.report.proofs.Pairs.{WordsTo}
use Rattle.report.proofs.sentence.Sentence.read.Given as goal

abbrev pub invariant-loop-k : goal.invariant-loop-k
invariant-loop-k l = WordsTo l.bytes l.words l.k
