-- `ranks::prediction::alone` meets its contract.
-- Assumes nothing.
use native.Mathlib.Omega.{arith}
use Rattle.ranks.proofs.prediction.alone.Goals as goal

pub overflow_add-result-2 : goal.overflow_add-result-2
overflow_add-result-2 c = record { fits = omega (arith, c.requires.0, c.requires.1, c.requires.2) }

pub overflow_add-result-3 : goal.overflow_add-result-3
overflow_add-result-3 c = record { fits = omega (arith, c.requires.0, c.requires.1, c.requires.2) }
