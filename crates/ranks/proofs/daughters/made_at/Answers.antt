-- `ranks::daughters::made_at` meets its contract.
-- Assumes nothing.
use mathlib.Core.Path.{◌≡◌, ap₂, ◌∙◌}
use Prim.Native.Nat.{ℕ, ◌%◌}
use Rattle.ranks.specs.Prediction.{Sized, packed}
use Rattle.ranks.specs.Daughters.{daughter, Alone}
use Rattle.ranks.proofs.Stepping.{read_as}
use Rattle.ranks.proofs.daughters.made_at.Goals as goal

pub made-requires : goal.made-requires
made-requires c =
    let a = c.args in
    let m = c.requires.3 c.if-j-d.true in
    let x = c.daughter_cell in
    let y = c.places_cell in
    (c.requires.2, read_as (λ (u v : ℕ). Sized (daughter a.b.now u v a.mark)) x.ensures y.ensures m.sized, read_as (λ (u v : ℕ). v % 8 ≡ 1 → Alone u v) x.ensures y.ensures m.repeats.one)

pub returns-then-j-d : goal.returns-then-j-d
returns-then-j-d c =
    let a = c.args in
    λ l. c.made.ensures ∙ ap₂ (λ (u v : ℕ). packed (daughter a.b.now u v a.mark)) c.daughter_cell.ensures c.places_cell.ensures
