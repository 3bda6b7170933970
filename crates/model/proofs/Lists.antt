-- Membership in the lists that the definitions make, and lists in order.
-- Assumes nothing.
use mathlib.Core.Option.{some}
use lib.ListN.{length, get_or, get_elem?}
use mathlib.Core.Path.{◌≡◌, refl, ap, subst, sym, ◌∙◌}
use mathlib.Core.Logic.{◌⊎◌, inl, inr}
use mathlib.Core.List.Memᴰ
use mathlib.Core.List.{List, [], ◌∷◌, ◌++◌, map, Memᴰ, append_assoc}
use Prim.Native.Nat.{ℕ, zero, suc, ◌+◌, ◌<◌, ◌≤◌}
use native.Mathlib.Omega.{arith}
use native.Mathlib.Decide.{ℕ_discrete}
use Rattle.model.specs.Base.{each, numbers_from}

module _ {A : Type 0} where
  pub mem_left : {a : A} {s : List A} (t : List A) → Memᴰ a s → Memᴰ a (s ++ t)
  mem_left t (Memᴰ.head e) = Memᴰ.head e
  mem_left t (Memᴰ.tail m) = Memᴰ.tail (mem_left t m)

  pub mem_right : {a : A} (s : List A) {t : List A} → Memᴰ a t → Memᴰ a (s ++ t)
  mem_right [] m = m
  mem_right (x ∷ s) m = Memᴰ.tail (mem_right s m)

  -- what has a number in the list has one below its length
  pub number_below : (l : List A) (r : ℕ) {x : A} → get_elem? l r ≡ some x → r < length l
  number_below [] r e = let z : ◌≡◌ {A = ℕ} 0 1 = cc in absurd (omega arith)
  number_below (y ∷ l) zero e = omega arith
  number_below (y ∷ l) (suc r) e = omega (arith, number_below l r e)

  -- what stands at a place of the list is in it
  pub mem_get_d : (l : List A) (d : A) (i : ℕ) → i < length l → Memᴰ (get_or l i d) l
  mem_get_d [] d i h = let z : ⊥ = omega arith in absurd z
  mem_get_d (x ∷ l) d zero h = Memᴰ.head refl
  mem_get_d (x ∷ l) d (suc i) h = Memᴰ.tail (mem_get_d l d i (omega arith))

module _ {A B : Type 0} where
  -- what is in one of the joined lists
  pub each_out : (f : A → List B) (xs : List A) {y : B} → Memᴰ y (each f xs) → (x : A) × Memᴰ x xs × Memᴰ y (f x)
  each_out f [] m = elim m [ ]
  each_out f (x ∷ xs) {y} m = go (λ (m' : Memᴰ y (each f xs)). each_out f xs m') (Memᴰ.append_cases (f x) m)
    where
      go : (Memᴰ y (each f xs) → (z : A) × Memᴰ z xs × Memᴰ y (f z))
          → Memᴰ y (f x) ⊎ Memᴰ y (each f xs) → (z : A) × Memᴰ z (x ∷ xs) × Memᴰ y (f z)
      go ih (inl h) = (x, Memᴰ.head refl, h)
      go ih (inr h) = let (z, i, j) = ih h in (z, Memᴰ.tail i, j)

  pub each_in : (f : A → List B) {x : A} {xs : List A} {y : B} → Memᴰ x xs → Memᴰ y (f x) → Memᴰ y (each f xs)
  each_in f {y = y} (Memᴰ.head {x = z} {xs = zs} e) m = mem_left (each f zs) (subst (λ (u : A). Memᴰ y (f u)) e m)
  each_in f (Memᴰ.tail {x = z} i) m = mem_right (f z) (each_in f i m)

  pub map_out : (f : A → B) (xs : List A) {y : B} → Memᴰ y (map f xs) → (x : A) × Memᴰ x xs × (y ≡ f x)
  map_out f [] m = elim m [ ]
  map_out f (x ∷ xs) {y} m = go (λ (m' : Memᴰ y (map f xs)). map_out f xs m') (Memᴰ.cases_cons m)
    where
      go : (Memᴰ y (map f xs) → (z : A) × Memᴰ z xs × (y ≡ f z)) → (y ≡ f x) ⊎ Memᴰ y (map f xs) → (z : A) × Memᴰ z (x ∷ xs) × (y ≡ f z)
      go ih (inl e) = (x, Memᴰ.head refl, e)
      go ih (inr h) = let (z, i, e) = ih h in (z, Memᴰ.tail i, e)

  pub map_in : (f : A → B) {x : A} {xs : List A} → Memᴰ x xs → Memᴰ (f x) (map f xs)
  map_in f (Memᴰ.head e) = Memᴰ.head (ap f e)
  map_in f (Memᴰ.tail m) = Memᴰ.tail (map_in f m)

pub numbers_in : (r from count : ℕ) → from ≤ r → r < from + count → Memᴰ r (numbers_from from count)
numbers_in r from zero lo hi = let z : ⊥ = omega arith in absurd z
numbers_in r from (suc count) lo hi = go (ℕ_discrete r from) (λ lo'. numbers_in r (suc from) count lo' (omega arith))
  where
    go : Dec (r ≡ from) → (suc from ≤ r → Memᴰ r (numbers_from (suc from) count)) → Memᴰ r (from ∷ numbers_from (suc from) count)
    go (yes e) ih = Memᴰ.head e
    go (no d) ih = Memᴰ.tail (ih (omega arith))

pub numbers_out : {r : ℕ} (from count : ℕ) → Memᴰ r (numbers_from from count) → from ≤ r
numbers_out from zero m = elim m [ ]
numbers_out {r} from (suc count) m = go (λ (h : Memᴰ r (numbers_from (suc from) count)). numbers_out (suc from) count h) (Memᴰ.cases_cons m)
  where
    go : (Memᴰ r (numbers_from (suc from) count) → suc from ≤ r) → (r ≡ from) ⊎ Memᴰ r (numbers_from (suc from) count) → from ≤ r
    go ih (inl e) = omega arith
    go ih (inr h) = omega (arith, ih h)

pub numbers_next : (a n : ℕ) → numbers_from a (suc n) ≡ numbers_from a n ++ ((a + n) ∷ [])
numbers_next a zero = let e : a ≡ a + 0 = omega arith in ap (λ (x : ℕ). x ∷ []) e
numbers_next a (suc n) =
    let e : suc a + n ≡ a + suc n = omega arith in
    ap (λ (l : List ℕ). a ∷ l) (numbers_next (suc a) n ∙ ap (λ (x : ℕ). numbers_from (suc a) n ++ (x ∷ [])) e)

pub length_numbers : (a n : ℕ) → length (numbers_from a n) ≡ n
length_numbers a zero = refl
length_numbers a (suc n) = ap suc (length_numbers (suc a) n)

-- joined lists
module _ {A B : Type 0} where
  pub each_append : (f : A → List B) (a b : List A) → each f (a ++ b) ≡ each f a ++ each f b
  each_append f [] b = refl
  each_append f (x ∷ a) b = ap (λ (l : List B). f x ++ l) (each_append f a b) ∙ sym (append_assoc (f x) (each f a) (each f b))

  pub map_append : (f : A → B) (a b : List A) → map f (a ++ b) ≡ map f a ++ map f b
  map_append f [] b = refl
  map_append f (x ∷ a) b = ap (λ (l : List B). f x ∷ l) (map_append f a b)
