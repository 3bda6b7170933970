-- Components of length 1 move nothing.
-- Assumes nothing.
use mathlib.Core.Path.{◌≡◌, refl, ap}
use mathlib.Core.Bool.{Bool, true, false}
use mathlib.Core.List.{List, [], ◌∷◌}
use Prim.Native.Nat.{ℕ, ◌+◌, ◌-◌, ◌≤◌}
use native.Mathlib.Omega.{arith}
use borrow.Author.Tests.{eqb-true, eqb-false}
use lib.Dec.{eqb}
use lib.ListN.{get_or}
use Rattle.ranks.specs.declared.prediction.Moves.{Moves}
use Rattle.ranking.specs.Ranks.{above, passed, added, shifted}
use Rattle.ranks.specs.Prediction.{Prediction, Apart, unpacked}
use Rattle.ranks.specs.Queue.{Every}
use Rattle.ranks.specs.Moves.{moves_ranks, moves_lengths, with_other, with_if, with_one, gathered}
use Rattle.ranks.proofs.Moved.{each_also}

-- of the one behind the first
pub first_one : (n0 f1 n1 : ℕ) → n1 ≡ 1 → (r : ℕ) → shifted (0 ∷ []) (n0 ∷ []) r ≡ shifted (0 ∷ (f1 ∷ [])) (n0 ∷ (n1 ∷ [])) r
first_one n0 f1 n1 h1 r = let e : above f1 n1 r ≡ above f1 1 r = ap (λ (n : ℕ). above f1 n r) h1 in omega (arith, e)

-- two and three behind the others
module _ (n0 f1 n1 f2 n2 f3 n3 : ℕ) (h2 : n2 ≡ 1) (h3 : n3 ≡ 1) where
  abbrev four : List ℕ
  four = 0 ∷ (f1 ∷ (f2 ∷ (f3 ∷ [])))

  abbrev lengths : List ℕ
  lengths = n0 ∷ (n1 ∷ (n2 ∷ (n3 ∷ [])))

  of_two_lem : (r : ℕ) → above f2 n2 r ≡ above f2 1 r
  of_two_lem r = ap (λ (n : ℕ). above f2 n r) h2

  of_three : (r : ℕ) → above f3 n3 r ≡ above f3 1 r
  of_three r = ap (λ (n : ℕ). above f3 n r) h3

  pub first_two : (r : ℕ) → shifted (0 ∷ (f1 ∷ [])) (n0 ∷ (n1 ∷ [])) r ≡ shifted four lengths r
  first_two r = omega (arith, of_two_lem r, of_three r)

  pub two_apart : (w : List ℕ) (from to : ℕ) → Every (Apart four lengths) w from to → Every (Apart (0 ∷ (f1 ∷ [])) (n0 ∷ (n1 ∷ []))) w from to
  two_apart w from to h i a b = each_also one (unpacked (get_or w i 0)) (h i a b)
    where
      one : (r : ℕ) → passed r four ≤ r + added r four lengths → passed r (0 ∷ (f1 ∷ [])) ≤ r + added r (0 ∷ (f1 ∷ [])) (n0 ∷ (n1 ∷ []))
      one r k = omega (arith, k, of_two_lem r, of_three r)

-- ---- what is gathered moves as the whole front does

-- there is room for a component of rank f and len variables: the place of rank 0, or the last of the other three, is free
pub record Free (m : Moves) (f len : ℕ) : Type 0 where
  pub zero_free : (len ≡ 1 → ⊥) → f ≡ 0 → m.len0 ≡ 1
  pub last_free : (len ≡ 1 → ⊥) → (f ≡ 0 → ⊥) → m.len3 ≡ 1

with_balanced : (m : Moves) (f len r : ℕ) → Free m f len
    → added r (moves_ranks (with_one m f len)) (moves_lengths (with_one m f len)) + (above f 1 r + passed r (moves_ranks m)) ≡ above f len r + added r (moves_ranks m) (moves_lengths m) + passed r (moves_ranks (with_one m f len))
with_balanced m f len r h = go (eqb len 1) refl
  where
    other : (b : Bool) → eqb f 0 ≡ b → (len ≡ 1 → ⊥)
        → added r (moves_ranks (with_other b m f len)) (moves_lengths (with_other b m f len)) + (above f 1 r + passed r (moves_ranks m)) ≡ above f len r + added r (moves_ranks m) (moves_lengths m) + passed r (moves_ranks (with_other b m f len))
    other true e n =
        let z : f ≡ 0 = eqb-true f 0 e in
        let a : above f 1 r ≡ above 0 1 r = ap (λ (k : ℕ). above k 1 r) z in
        let b : above f len r ≡ above 0 len r = ap (λ (k : ℕ). above k len r) z in
        let d : above 0 m.len0 r ≡ above 0 1 r = ap (λ (k : ℕ). above 0 k r) (h.zero_free n z) in
        omega (arith, a, b, d)
    other false e n =
        let d : above m.f3 m.len3 r ≡ above m.f3 1 r = ap (λ (k : ℕ). above m.f3 k r) (h.last_free n (eqb-false f 0 e)) in
        omega (arith, d)

    go : (b : Bool) → eqb len 1 ≡ b
        → added r (moves_ranks (with_if b m f len)) (moves_lengths (with_if b m f len)) + (above f 1 r + passed r (moves_ranks m)) ≡ above f len r + added r (moves_ranks m) (moves_lengths m) + passed r (moves_ranks (with_if b m f len))
    go true e = let d : above f len r ≡ above f 1 r = ap (λ (k : ℕ). above f k r) (eqb-true len 1 e) in omega (arith, d)
    go false e = other (eqb f 0) refl (eqb-false len 1 e)

-- for every component, behind those after it
abbrev pub Fair : List ℕ → List ℕ → Type 0
Fair [] ns = Unit
Fair (k ∷ ks) [] = ⊥
Fair (k ∷ ks) (n ∷ ns) = Free (gathered ks ns) k n × Fair ks ns

gathered_balanced : (ks ns : List ℕ) (r : ℕ) → Fair ks ns
    → added r (moves_ranks (gathered ks ns)) (moves_lengths (gathered ks ns)) + passed r ks ≡ added r ks ns + passed r (moves_ranks (gathered ks ns))
gathered_balanced [] ns r h = omega arith
gathered_balanced (k ∷ ks) [] r h = absurd h
gathered_balanced (k ∷ ks) (n ∷ ns) r h = omega (arith, with_balanced (gathered ks ns) k n r h.0, gathered_balanced ks ns r h.1)

pub gathered_moves : (ks ns : List ℕ) (r : ℕ) → Fair ks ns → shifted (moves_ranks (gathered ks ns)) (moves_lengths (gathered ks ns)) r ≡ shifted ks ns r
gathered_moves ks ns r h = same (added r (moves_ranks (gathered ks ns)) (moves_lengths (gathered ks ns))) (passed r (moves_ranks (gathered ks ns))) (added r ks ns) (passed r ks) (gathered_balanced ks ns r h)
  where
    same : (a p b q : ℕ) → a + q ≡ b + p → r + a - p ≡ r + b - q
    same a p b q e = omega arith

pub gathered_apart : (ks ns : List ℕ) (p : Prediction) → Fair ks ns → Apart ks ns p → Apart (moves_ranks (gathered ks ns)) (moves_lengths (gathered ks ns)) p
gathered_apart ks ns p h a = each_also (λ r. enough (added r (moves_ranks (gathered ks ns)) (moves_lengths (gathered ks ns))) (passed r (moves_ranks (gathered ks ns))) (added r ks ns) (passed r ks) r (gathered_balanced ks ns r h)) p a
  where
    enough : (a p b q r : ℕ) → a + q ≡ b + p → q ≤ r + b → p ≤ r + a
    enough a p b q r e k = omega arith
