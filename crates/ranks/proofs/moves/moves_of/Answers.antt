-- `ranks::moves::moves_of` meets its contract.
-- Assumes nothing.
use mathlib.Core.Path.{ap, ap₂, ◌∙◌}
use mathlib.Core.List.{List}
use Prim.Native.Nat.{ℕ}
use lib.ListN.{get_or}
use Rattle.ranks.specs.declared.prediction.Moves.{Moves}
use Rattle.ranks.specs.Moves.{nothing, with_one}
use Rattle.ranks.proofs.moves.moves_of.Goals as goal

pub returns : goal.returns
returns c =
    let f = c.ranks_of-f in
    let n = c.lengths_of-n in
    let e3 = c.with_one-m3.ensures in
    let e2 = c.with_one-m2.ensures ∙ ap (λ (m : Moves). with_one m (get_or f.result 2 0) (get_or n.result 2 0)) e3 in
    let e1 = c.with_one-m1.ensures ∙ ap (λ (m : Moves). with_one m (get_or f.result 1 0) (get_or n.result 1 0)) e2 in
    c.with_one.ensures ∙ ap (λ (m : Moves). with_one m (get_or f.result 0 0) (get_or n.result 0 0)) e1
    ∙ ap₂ (λ (ks ns : List ℕ). with_one (with_one (with_one (with_one nothing (get_or ks 3 0) (get_or ns 3 0)) (get_or ks 2 0) (get_or ns 2 0)) (get_or ks 1 0) (get_or ns 1 0)) (get_or ks 0 0) (get_or ns 0 0)) f.ensures n.ensures
