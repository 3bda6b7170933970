-- `ranks::prediction::shifted` meets its contract.
-- Assumes nothing.
use mathlib.Core.List.{[], ◌∷◌}
use Prim.Native.Nat.{◌+◌, ◌*◌}
use native.Mathlib.Omega.{arith}
use Rattle.ranking.specs.Ranks.{shifted}
use Rattle.ranks.specs.Prediction.{remade}
use Rattle.ranks.proofs.Moved.{less, shifted_sum}
use Rattle.ranks.proofs.prediction.shifted.Goals as goal

pub overflow_sub-result : goal.overflow_sub-result
overflow_sub-result c = omega (arith, shifted_sum c.args.x c.args.len0 c.requires.1)

pub returns : goal.returns
returns c =
    let x = c.args.x in
    let n = c.args.len0 in
    less (remade (shifted (0 ∷ []) (n ∷ [])) x) 2251799948165633 (x + n * 2251799948165633) (shifted_sum x n c.requires.1)
