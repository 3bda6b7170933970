-- `ranks::prediction::lifted` meets its contract.
-- Assumes nothing.
use native.Mathlib.Omega.{arith}
use Rattle.ranks.proofs.TwoComponents.{far_small}
use Rattle.ranks.proofs.prediction.lifted.Goals as goal

pub overflow_mul-result-3 : goal.overflow_mul-result-3
overflow_mul-result-3 c = record { fits = omega (arith, far_small c.args.base c.args.far0 c.args.far1 c.requires.3 c.requires.1 c.requires.2) }

pub overflow_add-result-2 : goal.overflow_add-result-2
overflow_add-result-2 c = record { fits = omega (arith, c.requires.0, far_small c.args.base c.args.far0 c.args.far1 c.requires.3 c.requires.1 c.requires.2) }

pub overflow_add-result-3 : goal.overflow_add-result-3
overflow_add-result-3 c = record { fits = omega (arith, c.requires.0, c.requires.4, far_small c.args.base c.args.far0 c.args.far1 c.requires.3 c.requires.1 c.requires.2) }
