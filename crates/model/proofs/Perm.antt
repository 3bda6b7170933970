-- Lists with the same elements, in another order.
-- Assumes nothing.
use lib.ListN.{length}
use Prim.Native.Nat.{ℕ, suc, ◌+◌}
use native.Mathlib.Omega.{arith}
use mathlib.Core.Path.{◌≡◌, refl, sym, ap, subst, ◌∙◌}
use mathlib.Core.Logic.{◌⊎◌, inl, inr}
use mathlib.Core.List.Memᴰ
use mathlib.Core.List.{List, [], ◌∷◌, ◌++◌, map, append_assoc, append-nil, head-eq_of_cons-eq, tail-eq_of_cons-eq, cons≢nil, Memᴰ}
use Rattle.model.specs.Base.{each, total}
use Rattle.model.specs.WellFormed.{Perm, same, more, swap, chain}

module _ {A : Type 0} where
  pub perm_sym : {l m : List A} → Perm l m → Perm m l
  perm_sym (same e) = same (sym e)
  perm_sym (more x p) = more x (perm_sym p)
  perm_sym (swap x y) = swap y x
  perm_sym (chain p q) = chain (perm_sym q) (perm_sym p)

  pub perm_left : (k : List A) {l m : List A} → Perm l m → Perm (k ++ l) (k ++ m)
  perm_left [] p = p
  perm_left (x ∷ k) p = more x (perm_left k p)

  pub perm_right : {l m : List A} (k : List A) → Perm l m → Perm (l ++ k) (m ++ k)
  perm_right k (same e) = same (ap (λ (x : List A). x ++ k) e)
  perm_right k (more x p) = more x (perm_right k p)
  perm_right k (swap x y) = swap x y
  perm_right k (chain p q) = chain (perm_right k p) (perm_right k q)

  -- an element, moved behind a list
  pub perm_move : (x : A) (k l : List A) → Perm (x ∷ (k ++ l)) (k ++ (x ∷ l))
  perm_move x [] l = same refl
  perm_move x (y ∷ k) l = chain (swap x y) (more y (perm_move x k l))

  pub perm_exchange : (a b : List A) → Perm (a ++ b) (b ++ a)
  perm_exchange [] b = same (sym (append-nil b))
  perm_exchange (x ∷ a) b = chain (more x (perm_exchange a b)) (perm_move x b a)

  pub perm_mem : {l m : List A} {a : A} → Perm l m → Memᴰ a l → Memᴰ a m
  perm_mem {a = a} (same e) i = subst (λ (l : List A). Memᴰ a l) e i
  perm_mem {a = a} (more {l = l} {m = m} x p) i = go (Memᴰ.cases_cons i) (λ j. perm_mem p j)
    where
      go : (a ≡ x) ⊎ Memᴰ a l → (Memᴰ a l → Memᴰ a m) → Memᴰ a (x ∷ m)
      go (inl e) ih = Memᴰ.head e
      go (inr j) ih = Memᴰ.tail (ih j)
  perm_mem {a = a} (swap {l = l} x y) i = go (Memᴰ.cases_cons i)
    where
      two : (a ≡ y) ⊎ Memᴰ a l → Memᴰ a (y ∷ x ∷ l)
      two (inl e) = Memᴰ.head e
      two (inr j) = Memᴰ.tail (Memᴰ.tail j)

      go : (a ≡ x) ⊎ Memᴰ a (y ∷ l) → Memᴰ a (y ∷ x ∷ l)
      go (inl e) = Memᴰ.tail (Memᴰ.head e)
      go (inr j) = two (Memᴰ.cases_cons j)
  perm_mem (chain p q) i = perm_mem q (perm_mem p i)

module _ {A B : Type 0} where
  pub perm_map : (f : A → B) {l m : List A} → Perm l m → Perm (map f l) (map f m)
  perm_map f (same e) = same (ap (map f) e)
  perm_map f (more x p) = more (f x) (perm_map f p)
  perm_map f (swap x y) = swap (f x) (f y)
  perm_map f (chain p q) = chain (perm_map f p) (perm_map f q)

  pub perm_each : (f : A → List B) {l m : List A} → Perm l m → Perm (each f l) (each f m)
  perm_each f (same e) = same (ap (each f) e)
  perm_each f (more x p) = perm_left (f x) (perm_each f p)
  perm_each f (swap {l = l} x y) =
      chain (same (sym (append_assoc (f x) (f y) (each f l))))
      (chain (perm_right (each f l) (perm_exchange (f x) (f y))) (same (append_assoc (f y) (f x) (each f l))))
  perm_each f (chain p q) = chain (perm_each f p) (perm_each f q)

  -- a list whose elements are those of `map f d` is itself `map f` of one with those of d
  pub record Lifted (f : A → B) (l : List B) (d : List A) : Type 0 where
    pub list : List A
    pub maps : l ≡ map f list
    pub perm : Perm list d

  map_cons : (f : A → B) (y : B) (l : List B) (d : List A) → y ∷ l ≡ map f d → (x : A) × (d' : List A) × (d ≡ x ∷ d') × (y ≡ f x) × (l ≡ map f d')
  map_cons f y l [] e = absurd (cons≢nil e)
  map_cons f y l (x ∷ d) e = (x, d, refl, head-eq_of_cons-eq e, tail-eq_of_cons-eq e)

  lift_by : (f : A → B) {l m : List B} → Perm l m → (d : List A) → m ≡ map f d → Lifted f l d
  lift_by f (same e) d h = record { list = d; maps = e ∙ h; perm = same refl }
  lift_by f (more {l = l} {m = m} y p) d h =
      let (x, d', e₁, e₂, e₃) = map_cons f y m d h in
      let r = lift_by f p d' e₃ in
      record { list = x ∷ r.list; maps = cc (e₂, r.maps); perm = chain (more x r.perm) (same (sym e₁)) }
  lift_by f (swap {l = l} y z) d h =
      let (x, d', e₁, e₂, e₃) = map_cons f z (y ∷ l) d h in
      let (x', d'', e₄, e₅, e₆) = map_cons f y l d' e₃ in
      let e : ◌≡◌ {A = List A} (x ∷ x' ∷ d'') d = cc (e₁, e₄) in
      record { list = x' ∷ x ∷ d''; maps = cc (e₂, e₅, e₆); perm = chain (swap x' x) (same e) }
  lift_by f (chain p q) d h =
      let r = lift_by f q d h in
      let s = lift_by f p r.list r.maps in
      record { list = s.list; maps = s.maps; perm = chain s.perm r.perm }

  pub lift : (f : A → B) {l : List B} (d : List A) → Perm l (map f d) → Lifted f l d
  lift f d p = lift_by f p d refl

pub perm_length : {A : Type 0} {l m : List A} → Perm l m → length l ≡ length m
perm_length (same e) = ap length e
perm_length (more x p) = ap suc (perm_length p)
perm_length (swap x y) = refl
perm_length (chain p q) = perm_length p ∙ perm_length q

-- a sum does not depend on the order
pub perm_total : {l m : List ℕ} → Perm l m → total l ≡ total m
perm_total (same e) = ap total e
perm_total (more x p) = ap (λ (n : ℕ). x + n) (perm_total p)
perm_total (swap x y) = omega arith
perm_total (chain p q) = perm_total p ∙ perm_total q
