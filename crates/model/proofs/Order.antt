-- Dictionary order.
-- Assumes nothing.
use mathlib.Core.Path.{◌≡◌, refl}
use mathlib.Core.Logic.{◌⊎◌, inl, inr}
use mathlib.Core.Bool.{◌&&◌}
use mathlib.Core.List.Memᴰ
use mathlib.Core.List.{List, [], ◌∷◌, ◌++◌, map, Memᴰ}
use Prim.Native.Nat.{ℕ, zero, suc, ◌<◌}
use native.Mathlib.Omega.{arith}
use lib.Dec.{T, ltb, eqb, lt→ltb, eqb_refl, ltb→lt}
use Rattle.model.specs.Base.{each, numbers_from}
use Rattle.model.specs.Step.{before}
use Rattle.model.specs.LivePrefixes.{InOrder}
use Rattle.model.proofs.Lists.{each_out, map_out, numbers_out}
use Rattle.model.proofs.Tests.{and_r, and_both, or_left, or_right, or_cases}

pub before_tail : (r : ℕ) (p q : List ℕ) → T (before p q) → T (before (r ∷ p) (r ∷ q))
before_tail r p q t = or_right (ltb r r) (eqb r r && before p q) (and_both (eqb r r) (before p q) (eqb_refl r) t)

pub before_head : (r s : ℕ) (p q : List ℕ) → r < s → T (before (r ∷ p) (s ∷ q))
before_head r s p q h = or_left (ltb r s) (eqb r s && before p q) (lt→ltb r s h)

pub before_irrefl : (p : List ℕ) → T (before p p) → ⊥
before_irrefl [] t = t
before_irrefl (r ∷ p) t = go (or_cases (ltb r r) (eqb r r && before p p) t) (λ u. before_irrefl p u)
  where
    go : T (ltb r r) ⊎ T (eqb r r && before p p) → (T (before p p) → ⊥) → ⊥
    go (inl u) ih = omega (arith, ltb→lt r r u)
    go (inr u) ih = ih (and_r (eqb r r) (before p p) u)

pub order_append : (xs ys : List (List ℕ)) → InOrder xs → InOrder ys
    → ((x y : List ℕ) → Memᴰ x xs → Memᴰ y ys → T (before x y)) → InOrder (xs ++ ys)
order_append [] ys o u h = u
order_append (x ∷ xs) ys o u h =
    (λ q m. go q (Memᴰ.append_cases xs m), order_append xs ys o.1 u (λ a b i j. h a b (Memᴰ.tail i) j))
  where
    go : (q : List ℕ) → Memᴰ q xs ⊎ Memᴰ q ys → T (before x q)
    go q (inl m) = o.0 q m
    go q (inr m) = h x q (Memᴰ.head refl) m

pub order_map : (r : ℕ) (xs : List (List ℕ)) → InOrder xs → InOrder (map (λ p. r ∷ p) xs)
order_map r [] o = tt
order_map r (x ∷ xs) o =
    (λ q m. let (p, i, e) = map_out (λ p. r ∷ p) xs m in rw e (before_tail r x p (o.0 p i)), order_map r xs o.1)

-- every list of f r begins with r
abbrev pub Heads : (ℕ → List (List ℕ)) → Type 0
Heads f = (r : ℕ) (q : List ℕ) → Memᴰ q (f r) → (p : List ℕ) × (q ≡ r ∷ p)

pub order_each : (f : ℕ → List (List ℕ)) → Heads f → ((r : ℕ) → InOrder (f r)) → (from count : ℕ) → InOrder (each f (numbers_from from count))
order_each f h o from zero = tt
order_each f h o from (suc count) =
    order_append (f from) (each f (numbers_from (suc from) count)) (o from) (order_each f h o (suc from) count)
    (λ x y i j.
    let (s, k, l) = each_out f (numbers_from (suc from) count) j in
    let (p, e) = h from x i in
    let (q, e') = h s y l in
    rw (e, e') (before_head from s p q (numbers_out (suc from) count k)))
