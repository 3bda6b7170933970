-- A test of some, or of all, of the numbers below n: one number further, at a number that decides, and in the library's words for what a range gives.
-- Assumes nothing.
use mathlib.Core.Path.{◌≡◌, refl, sym, ap, ◌∙◌}
use mathlib.Core.Bool.{Bool, true, false, ◌&&◌, ◌||◌}
use Prim.Native.Nat.{ℕ, zero, suc, ◌+◌, ◌<◌}
use native.Mathlib.Nat.{add-zero, zero-add}
use native.Mathlib.Omega.{arith}
use native.Mathlib.Decide.{ℕ_discrete}
use native.Mathlib.Numerals.{add-one}
use Rattle.std.specs.List.{range_with_len, list_all, list_any}
use Rattle.model.specs.Base.{any_below, all_below}
use Rattle.grammar.proofs.Walks.{and_none}

or_right : (a : Bool) → a || true ≡ true
or_right true = refl
or_right false = refl

module _ (test : ℕ → Bool) where
  pub any_more : (k : ℕ) → any_below test k ≡ false → test k ≡ false → any_below test (k + 1) ≡ false
  any_more k e t = rw (add-one k) (rw (e, t))

  pub all_more : (k : ℕ) → all_below test k ≡ true → test k ≡ true → all_below test (k + 1) ≡ true
  all_more k e t = rw (add-one k) (rw (e, t))

  -- a number that does not pass makes no difference
  pub any_less : (k : ℕ) → test k ≡ false → any_below test (suc k) ≡ any_below test k
  any_less k t = rw t (go (any_below test k))
    where
      go : (b : Bool) → b || false ≡ b
      go true = refl
      go false = refl

  pub any_hit : (k n : ℕ) → k < n → test k ≡ true → any_below test n ≡ true
  any_hit k zero h t = let z : ⊥ = omega arith in absurd z
  any_hit k (suc n) h t = go (ℕ_discrete k n) (λ l. any_hit k n l t)
    where
      go : Dec (k ≡ n) → (k < n → any_below test n ≡ true) → any_below test n || test n ≡ true
      go (yes e) ih = ap (λ (m : ℕ). any_below test n || test m) (sym e) ∙ rw t (or_right (any_below test n))
      go (no d) ih = rw (ih (omega arith))

  pub all_miss : (k n : ℕ) → k < n → test k ≡ false → all_below test n ≡ false
  all_miss k zero h t = let z : ⊥ = omega arith in absurd z
  all_miss k (suc n) h t = go (ℕ_discrete k n) (λ l. all_miss k n l t)
    where
      go : Dec (k ≡ n) → (k < n → all_below test n ≡ false) → all_below test n && test n ≡ false
      go (yes e) ih = ap (λ (m : ℕ). all_below test n && test m) (sym e) ∙ and_none (all_below test n) t
      go (no d) ih = rw (ih (omega arith))

  -- n numbers from a on, the last one apart
  all_range : (a n : ℕ) → list_all test (range_with_len a (suc n)) ≡ list_all test (range_with_len a n) && test (a + n)
  all_range a zero = rw (add-zero a) (and_true (test a))
    where
      and_true : (b : Bool) → b && true ≡ b
      and_true true = refl
      and_true false = refl
  all_range a (suc n) =
      let at : a + 1 + n ≡ a + suc n = omega arith in
      ap (λ (b : Bool). test a && b) (all_range (a + 1) n) ∙ rw at (regroup (test a) (list_all test (range_with_len (a + 1) n)) (test (a + suc n)))
    where
      regroup : (x y z : Bool) → x && (y && z) ≡ (x && y) && z
      regroup true y z = refl
      regroup false y z = refl

  any_range : (a n : ℕ) → list_any test (range_with_len a (suc n)) ≡ list_any test (range_with_len a n) || test (a + n)
  any_range a zero = rw (add-zero a) (or_false (test a))
    where
      or_false : (b : Bool) → b || false ≡ b
      or_false true = refl
      or_false false = refl
  any_range a (suc n) =
      let at : a + 1 + n ≡ a + suc n = omega arith in
      ap (λ (b : Bool). test a || b) (any_range (a + 1) n) ∙ rw at (regroup (test a) (list_any test (range_with_len (a + 1) n)) (test (a + suc n)))
    where
      regroup : (x y z : Bool) → x || (y || z) ≡ (x || y) || z
      regroup true y z = refl
      regroup false y z = refl

  pub all_below_is : (n : ℕ) → list_all test (range_with_len 0 n) ≡ all_below test n
  all_below_is zero = refl
  all_below_is (suc n) = all_range 0 n ∙ rw (zero-add n, all_below_is n)

  pub any_below_is : (n : ℕ) → list_any test (range_with_len 0 n) ≡ any_below test n
  any_below_is zero = refl
  any_below_is (suc n) = any_range 0 n ∙ rw (zero-add n, any_below_is n)
