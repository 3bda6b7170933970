-- `ranks::step::expand_narrow` meets its contract.
-- Assumes nothing.
use mathlib.Core.Path.{sym, ap}
use mathlib.Core.List.{List, [], ◌∷◌, ◌++◌, map}
use Prim.Native.Nat.{ℕ, ◌+◌}
use lib.ListN.{get_or, take}
use lib.Seq.{slice}
use Rattle.ranking.specs.Ranks.{shifted}
use Rattle.ranks.specs.Prediction.{remade}
use Rattle.ranks.proofs.Lists.{three_of}
use Rattle.ranks.proofs.Stepping.{narrow_next, next_as}
use Rattle.ranks.proofs.step.expand_narrow.Goals as goal

pub returns : goal.returns
returns c =
    let a = c.args in
    let e0 = get_or a.e.now 0 0 in
    let e1 = get_or a.e.now 1 0 in
    let e2 = get_or a.e.now 2 0 in
    next_as a.w.now c.shift.new.w a.to
    (ap (λ (l : List ℕ). take a.d l ++ map (remade (shifted (0 ∷ []) (a.len ∷ []))) (slice (a.from + 1) a.to a.w.now)) (sym (three_of a.e.now c.told-e)))
    (narrow_next (remade (shifted (0 ∷ []) (a.len ∷ []))) a.w.now c.shift.new.w a.from a.to a.d e0 e1 e2 c.requires.0 c.shift.ensures)
