-- Lists of rule numbers in dictionary order have places, which grow: fewer lists come after the later of two, whatever the grammar is.
-- Assumes nothing.
use Rattle.std.specs.Prelude.{if◌then◌else◌}
use mathlib.Core.Path.{◌≡◌, refl, ap, subst}
use mathlib.Core.Logic.{◌⊎◌, inl, inr}
use mathlib.Core.Bool.{Bool, true, false, ◌&&◌}
use mathlib.Core.List.{List, [], ◌∷◌}
use Prim.Native.Nat.{ℕ, zero, suc, ◌+◌, ◌-◌, ◌*◌, ◌<◌, ◌≤◌}
use native.Mathlib.Nat.{mul-le-mul_right}
use native.Mathlib.Omega.{arith}
use lib.Dec.{T, eqb, ltb, eqb→eq, ltb→lt}
use Rattle.model.specs.Base.{keep, every}
use Rattle.model.specs.Step.{before}
use Rattle.model.proofs.Tests.{and_l, and_r, or_cases, and_both}
use Rattle.ranking.specs.Recognizer.{Recognizer}
use Rattle.walk.specs.Rest.{LeadsAlong}

-- a list of at most n rule numbers
abbrev pub RuleList : ℕ → List ℕ → Type 0
RuleList n [] = Unit {0}
RuleList zero (r ∷ p) = ⊥
RuleList (suc n) (r ∷ p) = (r < 256) × RuleList n p

-- a list that leads along has rule numbers of the grammar, and no more of them than steps
pub leads_rules : {S A : Type 0} (m : Recognizer S A) (rules : ℕ) → rules ≤ 256 → (n : ℕ) (s : S) (p : List ℕ) (left : ℕ) (t : S) → LeadsAlong m rules n s p left t → RuleList n p
leads_rules m rules few n s [] left t h = tt
leads_rules m rules few zero s (r ∷ p) left t h = absurd h
leads_rules m rules few (suc n) s (r ∷ p) left t h = (omega (arith, h.3), leads_rules m rules few n h.0 p left t h.4)

-- how many such lists there are, and how many of them come before one of them
abbrev pub lists_of : ℕ → ℕ
lists_of zero = 1
lists_of (suc n) = 1 + 256 * lists_of n

abbrev pub place_of : ℕ → List ℕ → ℕ
place_of n [] = 0
place_of zero (r ∷ p) = 0
place_of (suc n) (r ∷ p) = 1 + r * lists_of n + place_of n p

times : (a b l : ℕ) → a < b → a * l + l ≤ b * l
times a b l h = omega (arith, mul-le-mul_right l h)

place_below : (n : ℕ) (p : List ℕ) → RuleList n p → place_of n p < lists_of n
place_below zero [] h = omega arith
place_below (suc n) [] h = omega arith
place_below zero (r ∷ p) h = absurd h
place_below (suc n) (r ∷ p) h = omega (arith, times r 256 (lists_of n) h.0, place_below n p h.1)

place_grows : (n : ℕ) (p q : List ℕ) → RuleList n p → RuleList n q → T (before p q) → place_of n p < place_of n q
place_grows n [] [] h k t = absurd t
place_grows zero [] (y ∷ q) h k t = absurd k
place_grows (suc n) [] (y ∷ q) h k t = omega arith
place_grows n (x ∷ p) [] h k t = absurd t
place_grows zero (x ∷ p) (y ∷ q) h k t = absurd h
place_grows (suc n) (x ∷ p) (y ∷ q) h k t = go (or_cases (ltb x y) (eqb x y && before p q) t) (λ u. place_grows n p q h.1 k.1 u)
  where
    go : T (ltb x y) ⊎ T (eqb x y && before p q) → (T (before p q) → place_of n p < place_of n q) → place_of (suc n) (x ∷ p) < place_of (suc n) (y ∷ q)
    go (inl u) ih = omega (arith, times x y (lists_of n) (ltb→lt x y u), place_below n p h.1)
    go (inr u) ih =
        let e : x ≡ y = eqb→eq x y (and_l (eqb x y) (before p q) u) in
        omega (arith, ap (λ (z : ℕ). z * lists_of n) e, ih (and_r (eqb x y) (before p q) u))

-- how many lists of at most n rule numbers are left from a list on
abbrev pub lists_left : ℕ → List ℕ → ℕ
lists_left n p = lists_of n - place_of n p

pub fewer_left : (n : ℕ) (p q : List ℕ) → RuleList n p → RuleList n q → T (before p q) → lists_left n q < lists_left n p
fewer_left n p q h k t = omega (arith, place_grows n p q h k t, place_below n p h)

-- what a test keeps passes it
kept_passes : (test : List ℕ → Bool) (l : List (List ℕ)) → T (every test (keep test l))
kept_passes test [] = tt
kept_passes test (x ∷ l) = go (test x) refl (kept_passes test l)
  where
    go : (b : Bool) → test x ≡ b → T (every test (keep test l)) → T (every test (if b then x ∷ keep test l else keep test l))
    go true e ih = and_both (test x) (every test (keep test l)) (rw e tt) ih
    go false e ih = ih

pub first_passes : (test : List ℕ → Bool) (l : List (List ℕ)) (p : List ℕ) (m : List (List ℕ)) → keep test l ≡ p ∷ m → T (test p)
first_passes test l p m e = and_l (test p) (every test m) (subst (λ (k : List (List ℕ)). T (every test k)) e (kept_passes test l))
