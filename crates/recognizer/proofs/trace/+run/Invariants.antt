-- The measure of `recognizer::trace::run`: what may still be predicted.
-- Assumes nothing.
use Rattle.recognizer.proofs.trace.+run.Given as goal

abbrev pub decreases-run : goal.decreases-run
decreases-run l = l.at.left
