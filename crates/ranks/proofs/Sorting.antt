-- In which order numbers are put in their places makes no difference.
-- Assumes nothing.
use mathlib.Core.Path.{◌≡◌, refl, sym, ap, ap₂, ◌∙◌}
use mathlib.Core.Bool.{Bool, true, false}
use mathlib.Core.List.{List, [], ◌∷◌}
use Prim.Native.Nat.{ℕ, ◌<◌, ◌≤◌, min, max}
use native.Mathlib.Omega.{arith}
use borrow.Author.Tests.{ltb-true, ltb-false, lt-ltb, le-ltb}
use lib.Dec.{ltb}
use Rattle.ranks.specs.Queue.{insert_if, insert}
use Rattle.ranks.specs.Daughters.{Rising}

insert_before : (a x : ℕ) (q : List ℕ) → a < x → insert a (x ∷ q) ≡ a ∷ (x ∷ q)
insert_before a x q h = ap (λ (b : Bool). insert_if b a x q (insert a q)) (lt-ltb a x h)

pub insert_after : (a x : ℕ) (q : List ℕ) → x ≤ a → insert a (x ∷ q) ≡ x ∷ insert a q
insert_after a x q h = ap (λ (b : Bool). insert_if b a x q (insert a q)) (le-ltb a x h)

swap_less : (a b : ℕ) (q : List ℕ) → a < b → insert b (insert a q) ≡ insert a (insert b q)
swap_less a b [] h = insert_after b a [] (omega arith) ∙ sym (insert_before a b [] h)
swap_less a b (x ∷ q) h = go (ltb a x) refl (ltb b x) refl (swap_less a b q h)
  where
    go : (s : Bool) → ltb a x ≡ s → (t : Bool) → ltb b x ≡ t → insert b (insert a q) ≡ insert a (insert b q)
        → insert b (insert_if s a x q (insert a q)) ≡ insert a (insert_if t b x q (insert b q))
    go true e true d k = insert_after b a (x ∷ q) (omega arith) ∙ ap (λ (l : List ℕ). a ∷ l) (insert_before b x q (ltb-true b x d)) ∙ sym (insert_before a b (x ∷ q) h)
    go true e false d k = insert_after b a (x ∷ q) (omega arith) ∙ ap (λ (l : List ℕ). a ∷ l) (insert_after b x q (ltb-false b x d)) ∙ sym (insert_before a x (insert b q) (ltb-true a x e))
    go false e true d k = absurd (omega (arith, ltb-false a x e, ltb-true b x d))
    go false e false d k = insert_after b x (insert a q) (ltb-false b x d) ∙ ap (λ (l : List ℕ). x ∷ l) k ∙ sym (insert_after a x (insert b q) (ltb-false a x e))

pub insert_swap : (a b : ℕ) (q : List ℕ) → insert b (insert a q) ≡ insert a (insert b q)
insert_swap a b q = go (ltb a b) refl (ltb b a) refl
  where
    go : (s : Bool) → ltb a b ≡ s → (t : Bool) → ltb b a ≡ t → insert b (insert a q) ≡ insert a (insert b q)
    go true e t d = swap_less a b q (ltb-true a b e)
    go false e true d = sym (swap_less b a q (ltb-true b a d))
    go false e false d = let z : a ≡ b = omega (arith, ltb-false a b e, ltb-false b a d) in ap₂ (λ (x y : ℕ). insert x (insert y q)) (sym z) z

-- the smaller of two first, or the first of them first
pub insert_pair : (a b : ℕ) (q : List ℕ) → insert (max a b) (insert (min a b) q) ≡ insert b (insert a q)
insert_pair a b q = go (ltb b a) refl
  where
    go : (t : Bool) → ltb b a ≡ t → insert (max a b) (insert (min a b) q) ≡ insert b (insert a q)
    go true e =
        let h = ltb-true b a e in
        let x : max a b ≡ a = omega (arith, h) in
        let n : min a b ≡ b = omega (arith, h) in
        ap₂ (λ (u v : ℕ). insert u (insert v q)) x n ∙ swap_less b a q h
    go false e =
        let h = ltb-false b a e in
        let x : max a b ≡ b = omega (arith, h) in
        let n : min a b ≡ a = omega (arith, h) in
        ap₂ (λ (u v : ℕ). insert u (insert v q)) x n

-- three comparisons
pub network : (x y z a b c low mid high : ℕ) → a ≡ min x y → b ≡ max x y → c ≡ min b z → low ≡ min a c → mid ≡ max a c → high ≡ max b z → Rising x y z low mid high
network x y z a b c low mid high ea eb ec el em eh = record {
  first = omega arith;
  second = omega arith;
  same = λ q.
      (λ i. insert (eh i) (insert (em i) (insert (el i) q)))
      ∙ ap (insert (max b z)) (insert_pair a c q)
      ∙ ap (λ (u : ℕ). insert (max b z) (insert u (insert a q))) ec
      ∙ insert_pair b z (insert a q)
      ∙ ap (insert z) ((λ i. insert (eb i) (insert (ea i) q)) ∙ insert_pair x y q);
}
