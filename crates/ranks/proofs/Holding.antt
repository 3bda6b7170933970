-- The queue that a part of an array holds, prediction by prediction.
-- Assumes nothing.
use mathlib.Core.Path.{◌≡◌, refl, sym, ap, subst⁻¹, ◌∙◌}
use mathlib.Core.List.{List, [], ◌∷◌, map}
use Prim.Native.Nat.{ℕ, zero, suc, ◌+◌, ◌-◌, ◌<◌, ◌≤◌}
use native.Mathlib.Omega.{arith}
use lib.ListN.{length, get_or, take, drop, length-map}
use lib.Seq.{slice, length-slice, drop-cons}
use Rattle.model.specs.Grammar.{Grammar}
use Rattle.model.proofs.Apart.{Every}
use Rattle.ranking.specs.Ranks.{Ranked}
use Rattle.ranks.specs.Prediction.{Prediction, unpacked}
use Rattle.ranks.specs.Queue.{room}
use Rattle.ranks.specs.Queue as places
use Rattle.ranks.specs.Held.{in_lanes, number_of, prediction_of, queue_in, Fits, Held}
use Rattle.ranks.proofs.Lists.{slice_drop}
use Rattle.ranks.proofs.Numbers.{unpacked_number, read_all}

-- an array with these numbers holds the queue
module _ (g : Grammar) (w : List ℕ) (from to : ℕ) (q : List (Ranked ℕ)) (fit : Every (Fits g) q) (is : slice from to w ≡ map number_of q) where
  pub queue_is : queue_in g w from to ≡ q
  queue_is = ap (map (prediction_of g)) is ∙ read_all g q fit

  pub held : length w ≡ room → from ≤ to → to ≤ room → Held g w from to
  held long ordered within =
      record {
        long = long;
        ordered = ordered;
        within = within;
        fit = subst⁻¹ (Every (Fits g)) queue_is fit;
        numbers = ap (map number_of) queue_is ∙ sym is;
      }

-- its first number and the others
pub slice_first_rest : (w : List ℕ) (from to : ℕ) → from < to → to ≤ length w → slice from to w ≡ get_or w from 0 ∷ slice (suc from) to w
slice_first_rest w from to h k =
    let z : to - from ≡ suc (to - suc from) = omega arith in
    slice_drop from to w ∙ ap (take (to - from)) (drop-cons w from 0 (omega arith)) ∙ ap (λ (n : ℕ). take n (get_or w from 0 ∷ drop (suc from) w)) z
    ∙ ap (λ (l : List ℕ). get_or w from 0 ∷ l) (sym (slice_drop (suc from) to w))

module _ (g : Grammar) (w : List ℕ) (from to : ℕ) (h : Held g w from to) where
  pub queue_length : length (queue_in g w from to) ≡ to - from
  queue_length = length-map (slice from to w) (prediction_of g) ∙ length-slice from to w (omega (arith, h.long, h.within))

  pub queue_first : from < to → queue_in g w from to ≡ prediction_of g (get_or w from 0) ∷ queue_in g w (from + 1) to
  queue_first k =
      let z : suc from ≡ from + 1 = omega arith in
      ap (map (prediction_of g)) (slice_first_rest w from to k (omega (arith, h.long, h.within)) ∙ ap (λ (n : ℕ). get_or w from 0 ∷ slice n to w) z)

  -- the numbers of the front and of those behind it
  pub front_number : from < to → get_or w from 0 ≡ number_of (prediction_of g (get_or w from 0))
  front_number k =
      let e : get_or w from 0 ∷ slice (suc from) to w ≡ number_of (prediction_of g (get_or w from 0)) ∷ map number_of (queue_in g w (from + 1) to)
      = sym (slice_first_rest w from to k (omega (arith, h.long, h.within))) ∙ sym h.numbers ∙ ap (map number_of) (queue_first k) in
      cc

  pub others_numbers : from < to → slice (from + 1) to w ≡ map number_of (queue_in g w (from + 1) to)
  others_numbers k =
      let z : from + 1 ≡ suc from = omega arith in
      let e : get_or w from 0 ∷ slice (suc from) to w ≡ number_of (prediction_of g (get_or w from 0)) ∷ map number_of (queue_in g w (from + 1) to)
      = sym (slice_first_rest w from to k (omega (arith, h.long, h.within))) ∙ sym h.numbers ∙ ap (map number_of) (queue_first k) in
      let d : slice (suc from) to w ≡ map number_of (queue_in g w (from + 1) to) = cc in
      ap (λ (n : ℕ). slice n to w) z ∙ d

-- what holds of each prediction holds of each number of the part
pub each_held : (g : Grammar) (P : Prediction → Type 0) (w : List ℕ) (from to : ℕ) (q : List (Ranked ℕ)) → to ≤ length w → slice from to w ≡ map number_of q → Every (Fits g) q
    → Every (λ p. P (in_lanes p)) q → places.Every P w from to
each_held g P w from to q k is fit h i a b = walk (i - from) from q is fit h a refl
  where
    never : {X : Type 0} {x : ℕ} {l : List ℕ} → ◌≡◌ {A = List ℕ} (x ∷ l) [] → X
    never e = absurd (omega (arith, ap length e))

    walk : (m from : ℕ) (q : List (Ranked ℕ)) → slice from to w ≡ map number_of q → Every (Fits g) q → Every (λ p. P (in_lanes p)) q → from ≤ i → i - from ≡ m → P (unpacked (get_or w i 0))
    walk m from [] is fit h a d = never (sym (slice_first_rest w from to (omega arith) k) ∙ is)
    walk zero from (p ∷ q) is fit h a d =
        let z : from ≡ i = omega arith in
        let s : get_or w from 0 ∷ slice (suc from) to w ≡ number_of p ∷ map number_of q = sym (slice_first_rest w from to (omega arith) k) ∙ is in
        let f : get_or w from 0 ≡ number_of p = cc in
        subst⁻¹ P (ap (λ (j : ℕ). unpacked (get_or w j 0)) (sym z) ∙ ap unpacked f ∙ unpacked_number g p fit.0) h.0
    walk (suc m) from (p ∷ q) is fit h a d =
        let s : get_or w from 0 ∷ slice (suc from) to w ≡ number_of p ∷ map number_of q = sym (slice_first_rest w from to (omega arith) k) ∙ is in
        let r : slice (suc from) to w ≡ map number_of q = cc in
        walk m (suc from) q r fit.1 h.1 (omega arith) (omega arith)
