-- A front has room for what is gathered: one of its ranks is 0, and no two components that move others share rank 0.
-- Assumes nothing.
use mathlib.Core.Path.{◌≡◌, refl}
use mathlib.Core.Bool.{Bool, true, false}
use mathlib.Core.Logic.{◌⊎◌, ⊎_elim}
use mathlib.Core.List.{List, [], ◌∷◌}
use Prim.Native.Nat.{ℕ, ◌<◌}
use native.Mathlib.Omega.{arith}
use borrow.Author.Tests.{eqb-true, eqb-false}
use lib.Dec.{eqb}
use Rattle.ranks.specs.declared.prediction.Moves.{Moves}
use Rattle.ranks.specs.Moves.{nothing, with_other, with_if, with_one, gathered, Bounded}
use Rattle.ranks.proofs.Gathering.{Fair}

-- ---- bounds

abbrev pub Bytes : List ℕ → Type 0
Bytes [] = Unit
Bytes (x ∷ xs) = (x < 256) × Bytes xs

with_bounded : (m : Moves) (f len : ℕ) → Bounded m → f < 256 → len < 256 → Bounded (with_one m f len)
with_bounded m f len b h k = go (eqb len 1)
  where
    other : (t : Bool) → Bounded (with_other t m f len)
    other true = record { len0 = k; f1 = b.f1; len1 = b.len1; f2 = b.f2; len2 = b.len2; f3 = b.f3; len3 = b.len3 }
    other false = record { len0 = b.len0; f1 = h; len1 = k; f2 = b.f1; len2 = b.len1; f3 = b.f2; len3 = b.len2 }

    go : (t : Bool) → Bounded (with_if t m f len)
    go true = b
    go false = other (eqb f 0)

none_bounded : Bounded nothing
none_bounded = record { len0 = omega arith; f1 = omega arith; len1 = omega arith; f2 = omega arith; len2 = omega arith; f3 = omega arith; len3 = omega arith }

pub gathered_bounded : (ks ns : List ℕ) → Bytes ks → Bytes ns → Bounded (gathered ks ns)
gathered_bounded [] ns h k = none_bounded
gathered_bounded (f ∷ ks) [] h k = none_bounded
gathered_bounded (f ∷ ks) (n ∷ ns) h k = with_bounded (gathered ks ns) f n (gathered_bounded ks ns h.1 k.1) h.0 k.0

-- ---- one component more

module _ (m : Moves) (f len : ℕ) where
  -- P holds of the result where it holds of each of the three that it can be
  by_tests : (P : Moves → Type 0) → (len ≡ 1 → P m) → ((len ≡ 1 → ⊥) → f ≡ 0 → P (with_other true m f len)) → ((len ≡ 1 → ⊥) → (f ≡ 0 → ⊥) → P (with_other false m f len)) → P (with_one m f len)
  by_tests P a b c = go (eqb len 1) refl
    where
      other : (t : Bool) → eqb f 0 ≡ t → (len ≡ 1 → ⊥) → P (with_other t m f len)
      other true e n = b n (eqb-true f 0 e)
      other false e n = c n (eqb-false f 0 e)

      go : (t : Bool) → eqb len 1 ≡ t → P (with_if t m f len)
      go true e = a (eqb-true len 1 e)
      go false e = other (eqb f 0) refl (eqb-false len 1 e)

  zero_stays : m.len0 ≡ 1 → ((len ≡ 1 → ⊥) → f ≡ 0 → ⊥) → (with_one m f len).len0 ≡ 1
  zero_stays e h = by_tests (λ (r : Moves). r.len0 ≡ 1) (λ a. e) (λ a b. absurd (h a b)) (λ a b. e)

  two_next : m.len1 ≡ 1 → m.len2 ≡ 1 → (with_one m f len).len2 ≡ 1
  two_next d e = by_tests (λ (r : Moves). r.len2 ≡ 1) (λ a. e) (λ a b. e) (λ a b. d)

  three_next : m.len2 ≡ 1 → m.len3 ≡ 1 → (with_one m f len).len3 ≡ 1
  three_next d e = by_tests (λ (r : Moves). r.len3 ≡ 1) (λ a. e) (λ a b. e) (λ a b. d)

  one_same : f ≡ 0 → m.len1 ≡ 1 → (with_one m f len).len1 ≡ 1
  one_same z e = by_tests (λ (r : Moves). r.len1 ≡ 1) (λ a. e) (λ a b. e) (λ a b. absurd (b z))

  two_same : f ≡ 0 → m.len2 ≡ 1 → (with_one m f len).len2 ≡ 1
  two_same z e = by_tests (λ (r : Moves). r.len2 ≡ 1) (λ a. e) (λ a b. e) (λ a b. absurd (b z))

  three_same : f ≡ 0 → m.len3 ≡ 1 → (with_one m f len).len3 ≡ 1
  three_same z e = by_tests (λ (r : Moves). r.len3 ≡ 1) (λ a. e) (λ a b. e) (λ a b. absurd (b z))

-- ---- four components

-- two components that move others are not both of rank 0
abbrev pub Unlike : ℕ → ℕ → ℕ → ℕ → Type 0
Unlike f n g m = (n ≡ 1 → ⊥) → f ≡ 0 → (m ≡ 1 → ⊥) → g ≡ 0 → ⊥

module _ (f0 f1 f2 f3 n0 n1 n2 n3 : ℕ) where
  abbrev m3 : Moves
  m3 = with_one nothing f3 n3

  abbrev m2 : Moves
  m2 = with_one m3 f2 n2

  abbrev m1 : Moves
  m1 = with_one m2 f1 n1

  two_of_m3 : m3.len2 ≡ 1
  two_of_m3 = two_next nothing f3 n3 refl refl

  three_of_m3 : m3.len3 ≡ 1
  three_of_m3 = three_next nothing f3 n3 refl refl

  three_of_m2 : m2.len3 ≡ 1
  three_of_m2 = three_next m3 f2 n2 two_of_m3 three_of_m3

  pub fair_four : (f0 ≡ 0) ⊎ ((f1 ≡ 0) ⊎ ((f2 ≡ 0) ⊎ (f3 ≡ 0)))
      → Unlike f0 n0 f1 n1 → Unlike f0 n0 f2 n2 → Unlike f0 n0 f3 n3 → Unlike f1 n1 f2 n2 → Unlike f1 n1 f3 n3 → Unlike f2 n2 f3 n3
      → Fair (f0 ∷ (f1 ∷ (f2 ∷ (f3 ∷ [])))) (n0 ∷ (n1 ∷ (n2 ∷ (n3 ∷ []))))
  fair_four z u01 u02 u03 u12 u13 u23 = (
    record {
      zero_free = λ a b. zero_stays m2 f1 n1 (zero_stays m3 f2 n2 (zero_stays nothing f3 n3 refl (λ c d. u03 a b c d)) (λ c d. u02 a b c d)) (λ c d. u01 a b c d);
      last_free = λ a b.
          ⊎_elim
          (λ (e : f0 ≡ 0). absurd (b e))
          (⊎_elim
          (λ (e : f1 ≡ 0). three_same m2 f1 n1 e three_of_m2)
          (⊎_elim
          (λ (e : f2 ≡ 0). three_next m2 f1 n1 (two_same m3 f2 n2 e two_of_m3) three_of_m2)
          (λ (e : f3 ≡ 0). three_next m2 f1 n1 (two_next m3 f2 n2 (one_same nothing f3 n3 e refl) two_of_m3) three_of_m2)))
          z;
    },
    (
      record { zero_free = λ a b. zero_stays m3 f2 n2 (zero_stays nothing f3 n3 refl (λ c d. u13 a b c d)) (λ c d. u12 a b c d); last_free = λ a b. three_of_m2 },
      (
        record { zero_free = λ a b. zero_stays nothing f3 n3 refl (λ c d. u23 a b c d); last_free = λ a b. three_of_m3 },
        (record { zero_free = λ a b. refl; last_free = λ a b. refl }, tt),
      ),
    ),
  )
