-- `ranks::daughters::made_two_at` meets its contract.
-- Assumes nothing.
use mathlib.Core.Path.{ap₂, ◌∙◌}
use Prim.Native.Nat.{ℕ}
use Rattle.ranks.specs.Prediction.{packed}
use Rattle.ranks.specs.Daughters.{daughter, two_bases, MakesTwo}
use Rattle.ranks.proofs.Stepping.{read_as}
use Rattle.ranks.proofs.daughters.made_two_at.Goals as goal

pub made_two-requires : goal.made_two-requires
made_two-requires c =
    let a = c.args in
    read_as (λ (u v : ℕ). MakesTwo u v a.lowest a.base a.mark) c.daughter_cell.ensures c.places_cell.ensures (c.requires.2 c.if-j-d.true)

pub returns-then-j-d : goal.returns-then-j-d
returns-then-j-d c =
    let a = c.args in
    λ l. c.made_two.ensures ∙ ap₂ (λ (u v : ℕ). packed (daughter (two_bases a.lowest a.base) u v a.mark)) c.daughter_cell.ensures c.places_cell.ensures
