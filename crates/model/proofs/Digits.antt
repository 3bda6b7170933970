-- The order of indices, and what it is for one to stand left of another: they differ at a digit, so that neither begins the other.
-- Assumes nothing.
use mathlib.Core.Path.{◌≡◌, refl}
use mathlib.Core.Logic.{◌⊎◌, inl, inr}
use mathlib.Core.Bool.{Bool, true, false, ◌&&◌, ◌||◌}
use mathlib.Core.List.{[], ◌∷◌, ◌++◌}
use Prim.Native.Nat.{ℕ, ◌<◌}
use native.Mathlib.Omega.{arith}
use native.Mathlib.Decide.{ℕ_discrete, dec_lt}
use lib.Dec.{T, ltb, eqb, lt→ltb, eqb_refl, ltb→lt, eqb→eq}
use Rattle.model.specs.Step.{Index, before}

pub lex_cases : (x y : ℕ) (b : Bool) → T (ltb x y || (eqb x y && b)) → (x < y) ⊎ ((x ≡ y) × T b)
lex_cases x y b t = go (ltb x y) (eqb x y) refl refl t
  where
    go : (l e : Bool) → ltb x y ≡ l → eqb x y ≡ e → T (l || (e && b)) → (x < y) ⊎ ((x ≡ y) × T b)
    go true e p q u = inl (ltb→lt x y (rw p tt))
    go false true p q u = inr (eqb→eq x y (rw q tt), u)
    go false false p q u = absurd u

pub lex_less : (x y : ℕ) (b : Bool) → x < y → T (ltb x y || (eqb x y && b))
lex_less x y b h = go (ltb x y) (lt→ltb x y h)
  where
    go : (l : Bool) → T l → T (l || (eqb x y && b))
    go true t = tt
    go false t = absurd t

pub lex_same : (x y : ℕ) (b : Bool) → x ≡ y → T b → T (ltb x y || (eqb x y && b))
lex_same x y b h u = go (ltb x y) (eqb x y) (rw h (eqb_refl y))
  where
    go : (l e : Bool) → T e → T (l || (e && b))
    go true e t = tt
    go false true t = u
    go false false t = absurd t

pub data Compared (a b : ℕ) : Type 0 where
  less : a < b → Compared a b
  same : a ≡ b → Compared a b
  more : b < a → Compared a b

pub compared : (a b : ℕ) → Compared a b
compared a b = go (dec_lt a b) (ℕ_discrete a b)
  where
    go : Dec (a < b) → Dec (a ≡ b) → Compared a b
    go (yes h) e = less h
    go (no h) (yes e) = same e
    go (no h) (no e) = more (omega arith)

pub before_asym : (i j : Index) → T (before i j) → T (before j i) → ⊥
before_asym [] [] t u = t
before_asym [] (y ∷ ys) t u = u
before_asym (x ∷ xs) [] t u = t
before_asym (x ∷ xs) (y ∷ ys) t u = go (lex_cases x y (before xs ys) t) (lex_cases y x (before ys xs) u) (λ a b. before_asym xs ys a b)
  where
    go : (x < y) ⊎ ((x ≡ y) × T (before xs ys)) → (y < x) ⊎ ((y ≡ x) × T (before ys xs)) → (T (before xs ys) → T (before ys xs) → ⊥) → ⊥
    go (inl a) (inl b) ih = omega arith
    go (inl a) (inr b) ih = omega arith
    go (inr a) (inl b) ih = omega arith
    go (inr a) (inr b) ih = ih a.1 b.1

-- an index before another is before, or behind it, a third
pub before_between : (i k j : Index) → T (before i j) → T (before i k) ⊎ T (before k j)
before_between [] [] [] t = absurd t
before_between [] [] (y ∷ ys) t = inr tt
before_between [] (z ∷ zs) j t = inl tt
before_between (x ∷ xs) k [] t = absurd t
before_between (x ∷ xs) [] (y ∷ ys) t = inr tt
before_between (x ∷ xs) (z ∷ zs) (y ∷ ys) t = go (lex_cases x y (before xs ys) t) (compared x z) (λ u. before_between xs zs ys u)
  where
    go : (x < y) ⊎ ((x ≡ y) × T (before xs ys)) → Compared x z → (T (before xs ys) → T (before xs zs) ⊎ T (before zs ys))
        → T (before (x ∷ xs) (z ∷ zs)) ⊎ T (before (z ∷ zs) (y ∷ ys))
    go a (less h) ih = inl (lex_less x z (before xs zs) h)
    go (inl a) (same e) ih = inr (lex_less z y (before zs ys) (omega arith))
    go (inl a) (more h) ih = inr (lex_less z y (before zs ys) (omega arith))
    go (inr a) (more h) ih = inr (lex_less z y (before zs ys) (omega arith))
    go (inr a) (same e) ih = pick (ih a.1)
      where
        pick : T (before xs zs) ⊎ T (before zs ys) → T (before (x ∷ xs) (z ∷ zs)) ⊎ T (before (z ∷ zs) (y ∷ ys))
        pick (inl u) = inl (lex_same x z (before xs zs) e u)
        pick (inr u) = inr (lex_same z y (before zs ys) (omega arith) u)

-- i stands left of j
abbrev pub left : Index → Index → Bool
left [] j = false
left (x ∷ xs) [] = false
left (x ∷ xs) (y ∷ ys) = ltb x y || (eqb x y && left xs ys)

pub before_trans : (a b c : Index) → T (before a b) → T (before b c) → T (before a c)
before_trans a b c t u = go (before_between b a c u)
  where
    go : T (before b a) ⊎ T (before a c) → T (before a c)
    go (inl v) = absurd (before_asym a b t v)
    go (inr v) = v

pub left_before : (i j : Index) → T (left i j) → T (before i j)
left_before [] j t = absurd t
left_before (x ∷ xs) [] t = absurd t
left_before (x ∷ xs) (y ∷ ys) t = go (lex_cases x y (left xs ys) t) (λ u. left_before xs ys u)
  where
    go : (x < y) ⊎ ((x ≡ y) × T (left xs ys)) → (T (left xs ys) → T (before xs ys)) → T (before (x ∷ xs) (y ∷ ys))
    go (inl h) ih = lex_less x y (before xs ys) h
    go (inr h) ih = lex_same x y (before xs ys) h.0 (ih h.1)

pub left_append : (i j a b : Index) → T (left i j) → T (left (i ++ a) (j ++ b))
left_append [] j a b t = absurd t
left_append (x ∷ xs) [] a b t = absurd t
left_append (x ∷ xs) (y ∷ ys) a b t = go (lex_cases x y (left xs ys) t) (λ u. left_append xs ys a b u)
  where
    go : (x < y) ⊎ ((x ≡ y) × T (left xs ys)) → (T (left xs ys) → T (left (xs ++ a) (ys ++ b))) → T (left (x ∷ (xs ++ a)) (y ∷ (ys ++ b)))
    go (inl h) ih = lex_less x y (left (xs ++ a) (ys ++ b)) h
    go (inr h) ih = lex_same x y (left (xs ++ a) (ys ++ b)) h.0 (ih h.1)

pub left_last : (i : Index) (p q : ℕ) → p < q → T (left (i ++ (p ∷ [])) (i ++ (q ∷ [])))
left_last [] p q h = lex_less p q false h
left_last (x ∷ i) p q h = lex_same x x (left (i ++ (p ∷ [])) (i ++ (q ∷ []))) refl (left_last i p q h)

pub left_tail : (d : ℕ) (i j : Index) → T (left (d ∷ i) (d ∷ j)) → T (left i j)
left_tail d i j t = go (lex_cases d d (left i j) t)
  where
    go : (d < d) ⊎ ((d ≡ d) × T (left i j)) → T (left i j)
    go (inl h) = let z : ⊥ = omega arith in absurd z
    go (inr h) = h.1
