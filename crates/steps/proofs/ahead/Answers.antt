-- `steps::ahead` meets its contract.
-- Assumes nothing.
use mathlib.Core.Path.{ap, ap₂, ◌∙◌}
use Prim.Native.Nat.{ℕ, ◌+◌, ◌-◌}
use Rattle.ranks.specs.Table.{daughters_in}
use Rattle.steps.proofs.ahead.Goals as goal

pub returns : goal.returns
returns c =
    let a = c.args in
    ap₂ (λ (d n : ℕ). record { from = a.at.to; to = a.at.to + (a.at.to - a.at.from - 1 + d); read = a.at.read + n; steps = a.at.steps + 1; left = a.at.left - 1 })
    (c.daughters-d.ensures.0 ∙ ap (daughters_in a.t.now) c.place_of.ensures) c.read_by-n.ensures.0
