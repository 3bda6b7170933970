-- `ranks::prediction::reached` meets its contract.
-- Assumes nothing.
use mathlib.Core.Path.{sym, ap, ◌∙◌}
use Prim.Native.Nat.{ℕ, ◌+◌, ◌-◌, ◌*◌, ◌/◌}
use native.Mathlib.Omega.{arith}
use lib.Bits.{bit_and}
use Rattle.ranks.specs.Prediction.{unpacked}
use Rattle.ranks.proofs.Packing.{packed_unpacked}
use Rattle.ranks.proofs.Lanes.{above_lanes}
use Rattle.ranks.proofs.prediction.reached.Goals as goal

pub returns : goal.returns
returns c =
    let x = c.args.x in
    ap (λ (y : ℕ). bit_and ((y + (255 - c.args.f) * 2251799948165633) / 256) 2251799948165633) (sym (packed_unpacked x))
    ∙ above_lanes c.args.f (unpacked x) c.requires.1 c.requires.0 (omega arith)
