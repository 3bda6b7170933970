-- A yield that fits a sentence: in parts, and place by place.
-- Assumes nothing.
use mathlib.Core.Path.{◌≡◌, refl, ap}
use mathlib.Core.List.{List, [], ◌∷◌, ◌++◌}
use Prim.Native.Nat.{ℕ, zero, suc, ◌<◌, ◌≤◌}
use native.Mathlib.Omega.{arith}
use borrow.Author.Tests.{le-leb}
use lib.Dec.{T}
use lib.ListN.{length, get_or}
use Rattle.model.specs.Step.{lowest, highest, word_fits}
use Rattle.model.specs.Tree.{string_fits, Within}
use Rattle.model.specs.Demands.{◌⇔◌}
use Rattle.model.proofs.Tests.{and_l, and_r, and_both, within_low}

-- the joined yields of two parts fit what the parts fit
pub fits_append : (a b c d : List ℕ) → T (string_fits a c) → T (string_fits b d) → T (string_fits (a ++ b) (c ++ d))
fits_append [] b [] d t u = u
fits_append [] b (y ∷ c) d t u = absurd t
fits_append (x ∷ a) b [] d t u = absurd t
fits_append (x ∷ a) b (y ∷ c) d t u =
    and_both (word_fits x y) (string_fits (a ++ b) (c ++ d)) (and_l (word_fits x y) (string_fits a c) t)
    (fits_append a b c d (and_r (word_fits x y) (string_fits a c) t) u)

-- and what they fit is parted as they are
pub record Parted (a b ws : List ℕ) : Type 0 where
  pub taken : List ℕ
  pub rest : List ℕ
  pub split : ws ≡ taken ++ rest
  pub first : T (string_fits a taken)
  pub second : T (string_fits b rest)

pub fits_part : (a b ws : List ℕ) → T (string_fits (a ++ b) ws) → Parted a b ws
fits_part [] b ws t = record { taken = []; rest = ws; split = refl; first = tt; second = t }
fits_part (x ∷ a) b [] t = absurd t
fits_part (x ∷ a) b (y ∷ ws) t =
    let p = fits_part a b ws (and_r (word_fits x y) (string_fits (a ++ b) ws) t) in
    record {
      taken = y ∷ p.taken;
      rest = p.rest;
      split = ap (λ (l : List ℕ). y ∷ l) p.split;
      first = and_both (word_fits x y) (string_fits a p.taken) (and_l (word_fits x y) (string_fits (a ++ b) ws) t) p.first;
      second = p.second;
    }

-- the empty string fits the empty sentence alone
pub fits_none : (ws : List ℕ) → T (string_fits [] ws) → ws ≡ []
fits_none [] t = refl
fits_none (y ∷ ws) t = absurd t

-- a word that lies between the ends of a place fits it
between_word : (w p : ℕ) → lowest p ≤ w → w ≤ highest p → T (word_fits w p)
between_word w p l h = rw (le-leb (lowest p) w l, le-leb w (highest p) h) tt

fits_within : (words sentence : List ℕ) → T (string_fits words sentence) → Within words sentence
fits_within [] [] t = record { as_long = refl; between = λ k h. let z : ⊥ = omega arith in absurd z }
fits_within [] (p ∷ ps) t = absurd t
fits_within (w ∷ ws) [] t = absurd t
fits_within (w ∷ ws) (p ∷ ps) t = go (fits_within ws ps (and_r (word_fits w p) (string_fits ws ps) t))
  where
    place : Within ws ps → (k : ℕ) → k < length (p ∷ ps) → (lowest (get_or (p ∷ ps) k 0) ≤ get_or (w ∷ ws) k 0) × (get_or (w ∷ ws) k 0 ≤ highest (get_or (p ∷ ps) k 0))
    place h zero l = within_low (lowest p) (highest p) w (and_l (word_fits w p) (string_fits ws ps) t)
    place h (suc k) l = h.between k (omega arith)

    go : Within ws ps → Within (w ∷ ws) (p ∷ ps)
    go h = record { as_long = ap suc h.as_long; between = place h }

within_fits : (words sentence : List ℕ) → Within words sentence → T (string_fits words sentence)
within_fits [] [] h = tt
within_fits [] (p ∷ ps) h = let z : ⊥ = omega (arith, h.as_long) in absurd z
within_fits (w ∷ ws) [] h = let z : ⊥ = omega (arith, h.as_long) in absurd z
within_fits (w ∷ ws) (p ∷ ps) h =
    let (low, high) = h.between 0 (omega arith) in
    and_both (word_fits w p) (string_fits ws ps) (between_word w p low high)
    (within_fits ws ps (record { as_long = omega (arith, h.as_long); between = λ k l. h.between (suc k) (omega arith) }))

-- "its yield has the sentence's length and lies within the ranges place by place"
pub fitting : (words sentence : List ℕ) → T (string_fits words sentence) ⇔ Within words sentence
fitting words sentence = (fits_within words sentence, within_fits words sentence)
