-- The queue that a part of the array holds: its front, and how many predictions it has.
-- Assumes nothing.
use mathlib.Core.Path.{◌≡◌, ap, ◌∙◌}
use mathlib.Core.List.{List, [], ◌∷◌, map}
use Prim.Native.Nat.{ℕ, suc, ◌-◌, ◌<◌, ◌≤◌}
use native.Mathlib.Omega.{arith}
use lib.ListN.{length, get_or, length-map}
use lib.Seq.{slice, slice_empty, slice-cons, length-slice}
use Rattle.model.specs.Grammar.{Grammar}
use Rattle.ranks.specs.Held.{prediction_of, queue_in, Held}

module _ (g : Grammar) (w : List ℕ) (from to : ℕ) (held : Held g w from to) where
  -- the front is the prediction of the first number
  pub queue_front : from < to → queue_in g w from to ≡ prediction_of g (get_or w from 0) ∷ queue_in g w (suc from) to
  queue_front some = ap (map (prediction_of g)) (slice-cons from to w 0 some (omega (arith, held.long, held.within)))

  -- a prediction for each number
  pub queue_length : length (queue_in g w from to) ≡ to - from
  queue_length = length-map (slice from to w) (prediction_of g) ∙ length-slice from to w (omega (arith, held.long, held.within))

  pub queue_none : to ≤ from → queue_in g w from to ≡ []
  queue_none none_left =
      let e : from ≡ to = omega (arith, held.ordered) in
      ap (λ (i : ℕ). queue_in g w i to) e ∙ ap (map (prediction_of g)) (slice_empty to w)
