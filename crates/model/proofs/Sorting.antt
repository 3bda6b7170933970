-- The queue after a sort: the same predictions, in order of their least index. And the least index is one of the indices.
-- Assumes nothing.
use Rattle.std.specs.Prelude.{if◌then◌else◌}
use mathlib.Core.Path.{◌≡◌, refl, sym, subst}
use mathlib.Core.Logic.{◌⊎◌, inl, inr}
use mathlib.Core.Bool.{Bool, true, false}
use mathlib.Core.List.Memᴰ
use mathlib.Core.List.{List, [], ◌∷◌, Memᴰ}
use lib.Dec.{T}
use Rattle.model.specs.Step.{Index, before, least, Prediction, least_of, insert, sort}
use Rattle.model.proofs.Order.{before_irrefl}
use Rattle.model.proofs.Digits.{before_asym, before_between}

-- no index of the list is before the least
pub least_least : (is : List Index) (i : Index) → Memᴰ i is → T (before i (least is)) → ⊥
least_least [] i m t = elim m [ ]
least_least (x ∷ []) i m t = go (Memᴰ.cases_cons m)
  where
    go : (i ≡ x) ⊎ Memᴰ i [] → ⊥
    go (inl e) = before_irrefl x (rw e at t)
    go (inr n) = elim n [ ]
least_least (x ∷ y ∷ ys) i m t = go (before (least (y ∷ ys)) x) refl t (Memᴰ.cases_cons m) (λ n u. least_least (y ∷ ys) i n u)
  where
    go : (b : Bool) → before (least (y ∷ ys)) x ≡ b → T (before i (if b then least (y ∷ ys) else x))
        → (i ≡ x) ⊎ Memᴰ i (y ∷ ys) → (Memᴰ i (y ∷ ys) → T (before i (least (y ∷ ys))) → ⊥) → ⊥
    go true e u (inl f) ih = before_asym (least (y ∷ ys)) x (rw e tt) (rw f at u)
    go true e u (inr n) ih = ih n u
    go false e u (inl f) ih = before_irrefl x (rw f at u)
    go false e u (inr n) ih = pick (before_between i (least (y ∷ ys)) x u)
      where
        pick : T (before i (least (y ∷ ys))) ⊎ T (before (least (y ∷ ys)) x) → ⊥
        pick (inl v) = ih n v
        pick (inr v) = rw e at v

module _ {A : Type 0} where
  pub insert_out : (p : Prediction A) (q : List (Prediction A)) {x : Prediction A} → Memᴰ x (insert p q) → (x ≡ p) ⊎ Memᴰ x q
  insert_out p [] m = Memᴰ.cases_cons m
  insert_out p (y ∷ q) {x} m = go (before (least_of y) (least_of p)) m (λ n. insert_out p q n)
    where
      go : (b : Bool) → Memᴰ x (if b then y ∷ insert p q else p ∷ y ∷ q) → (Memᴰ x (insert p q) → (x ≡ p) ⊎ Memᴰ x q)
          → (x ≡ p) ⊎ Memᴰ x (y ∷ q)
      go false n ih = Memᴰ.cases_cons n
      go true n ih = pick (Memᴰ.cases_cons n)
        where
          later : (x ≡ p) ⊎ Memᴰ x q → (x ≡ p) ⊎ Memᴰ x (y ∷ q)
          later (inl e) = inl e
          later (inr k) = inr (Memᴰ.tail k)

          pick : (x ≡ y) ⊎ Memᴰ x (insert p q) → (x ≡ p) ⊎ Memᴰ x (y ∷ q)
          pick (inl e) = inr (Memᴰ.head e)
          pick (inr k) = later (ih k)

  pub insert_self : (p : Prediction A) (q : List (Prediction A)) → Memᴰ p (insert p q)
  insert_self p [] = Memᴰ.head refl
  insert_self p (y ∷ q) = go (before (least_of y) (least_of p)) (insert_self p q)
    where
      go : (b : Bool) → Memᴰ p (insert p q) → Memᴰ p (if b then y ∷ insert p q else p ∷ y ∷ q)
      go true m = Memᴰ.tail m
      go false m = Memᴰ.head refl

  pub insert_in : (p : Prediction A) {x : Prediction A} {q : List (Prediction A)} → Memᴰ x q → Memᴰ x (insert p q)
  insert_in p {x = x} (Memᴰ.head {x = y} {xs = q} e) = go (before (least_of y) (least_of p))
    where
      go : (b : Bool) → Memᴰ x (if b then y ∷ insert p q else p ∷ y ∷ q)
      go true = Memᴰ.head e
      go false = Memᴰ.tail (Memᴰ.head e)
  insert_in p {x = x} (Memᴰ.tail {x = y} {xs = q} m) = go (before (least_of y) (least_of p)) (insert_in p m)
    where
      go : (b : Bool) → Memᴰ x (insert p q) → Memᴰ x (if b then y ∷ insert p q else p ∷ y ∷ q)
      go true n = Memᴰ.tail n
      go false n = Memᴰ.tail (Memᴰ.tail m)

  pub sort_out : (q : List (Prediction A)) {x : Prediction A} → Memᴰ x (sort q) → Memᴰ x q
  sort_out [] m = elim m [ ]
  sort_out (p ∷ q) {x} m = go (insert_out p (sort q) m) (λ n. sort_out q n)
    where
      go : (x ≡ p) ⊎ Memᴰ x (sort q) → (Memᴰ x (sort q) → Memᴰ x q) → Memᴰ x (p ∷ q)
      go (inl e) ih = Memᴰ.head e
      go (inr n) ih = Memᴰ.tail (ih n)

  pub sort_in : {x : Prediction A} {q : List (Prediction A)} → Memᴰ x q → Memᴰ x (sort q)
  sort_in {x = x} (Memᴰ.head {x = p} {xs = q} e) = subst (λ (y : Prediction A). Memᴰ y (insert p (sort q))) (sym e) (insert_self p (sort q))
  sort_in (Memᴰ.tail {x = p} m) = insert_in p (sort_in m)

  -- no prediction has a least index before that of one that stands before it
  abbrev pub Sorted : List (Prediction A) → Type 0
  Sorted [] = Unit {0}
  Sorted (p ∷ q) = ((x : Prediction A) → Memᴰ x q → T (before (least_of x) (least_of p)) → ⊥) × Sorted q

  pub insert_sorted : (p : Prediction A) (q : List (Prediction A)) → Sorted q → Sorted (insert p q)
  insert_sorted p [] s = (λ x m t. elim m [ ], tt)
  insert_sorted p (y ∷ q) s = go (before (least_of y) (least_of p)) refl (insert_sorted p q s.1)
    where
      go : (b : Bool) → before (least_of y) (least_of p) ≡ b → Sorted (insert p q) → Sorted (if b then y ∷ insert p q else p ∷ y ∷ q)
      go true e ih = (λ x m t. pick x t (insert_out p q m), ih)
        where
          pick : (x : Prediction A) → T (before (least_of x) (least_of y)) → (x ≡ p) ⊎ Memᴰ x q → ⊥
          pick x t (inl f) = before_asym (least_of y) (least_of p) (rw e tt) (rw f at t)
          pick x t (inr m) = s.0 x m t
      go false e ih = (λ x m t. pick x t (Memᴰ.cases_cons m), s)
        where
          no_before : T (before (least_of y) (least_of p)) → ⊥
          no_before t = rw e at t

          either : (x : Prediction A) → Memᴰ x q → T (before (least_of x) (least_of y)) ⊎ T (before (least_of y) (least_of p)) → ⊥
          either x m (inl u) = s.0 x m u
          either x m (inr u) = no_before u

          pick : (x : Prediction A) → T (before (least_of x) (least_of p)) → (x ≡ y) ⊎ Memᴰ x q → ⊥
          pick x t (inl f) = no_before (rw f at t)
          pick x t (inr m) = either x m (before_between (least_of x) (least_of y) (least_of p) t)

  pub sort_sorted : (q : List (Prediction A)) → Sorted (sort q)
  sort_sorted [] = tt
  sort_sorted (p ∷ q) = insert_sorted p (sort q) (sort_sorted q)
