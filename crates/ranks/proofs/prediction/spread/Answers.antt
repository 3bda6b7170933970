-- `ranks::prediction::spread` meets its contract.
-- Assumes nothing.
use mathlib.Core.Path.{sym, ap, ◌∙◌}
use Prim.Native.Nat.{ℕ, ◌-◌, ◌*◌}
use native.Mathlib.Omega.{arith}
use lib.Bits.{bit_and}
use Rattle.ranks.specs.Prediction.{unpacked}
use Rattle.ranks.proofs.Packing.{packed_unpacked}
use Rattle.ranks.proofs.Lanes.{spread_lanes}
use Rattle.ranks.proofs.prediction.spread.Goals as goal

pub overflow_mul-result : goal.overflow_mul-result
overflow_mul-result c = record { fits = omega (arith, c.requires.0.each.least) }

pub returns : goal.returns
returns c =
    let t = c.args.t in
    ap (λ (y : ℕ). bit_and (y * 512 - y) (c.args.len * 2251799948165633)) (sym (packed_unpacked t))
    ∙ spread_lanes c.args.len (unpacked t) c.requires.1 c.requires.0
