-- Years or months one after the other: a day lies in one of them, at one place.
-- Assumes nothing.
use Rattle.std.specs.Prelude.{if◌then◌else◌}
use mathlib.Core.Path.{◌≡◌, refl, sym, ap, ◌∙◌}
use mathlib.Core.Bool.{Bool, true, false}
use Prim.Native.Nat.{ℕ, zero, suc, ◌+◌, ◌-◌, ◌<◌, ◌≤◌}
use native.Mathlib.Omega.{arith}
use native.Mathlib.Nat.{add-suc, suc-add, add-zero, zero-add}
use lib.Dec.{ltb}
use borrow.Author.Tests.{ltb-true, ltb-false}
use Rattle.model.specs.Base.{sum_below}
use Rattle.model.proofs.Sums.{sum_rises}
use Rattle.calendar.specs.Calendar.{Passed, passed_from}

module _ (f : ℕ → ℕ) where
  -- day p, counted from the start of number k, lies at s
  pub record At (k n p : ℕ) (s : Passed) : Type 0 where
    pub there : s.whole < k + n
    pub inside : s.left < f s.whole
    pub same : sum_below f s.whole + s.left ≡ sum_below f k + p

  pub found : (k n p : ℕ) → sum_below f k + p < sum_below f (k + n) → At k n p (passed_from f k n p)
  found k zero p h = absurd (omega (arith, ap (sum_below f) (add-zero k)))
  found k (suc n) p h =
      go (ltb p (f k)) refl
      (λ l. found (suc k) n (p - f k) (omega (arith, ap (sum_below f) (suc-add k n ∙ sym (add-suc k n)))))
    where
      go : (b : Bool) → ltb p (f k) ≡ b → (f k ≤ p → At (suc k) n (p - f k) (passed_from f (suc k) n (p - f k)))
          → At k (suc n) p (if b then record { whole = k; left = p } else passed_from f (suc k) n (p - f k))
      go true e later = record { there = omega arith; inside = ltb-true p (f k) e; same = refl }
      go false e later =
          let l : f k ≤ p = ltb-false p (f k) e in
          let r : At (suc k) n (p - f k) (passed_from f (suc k) n (p - f k)) = later l in
          record { there = omega (arith, r.there); inside = r.inside; same = omega (arith, r.same) }

  pub sum_up_to : (s t : ℕ) → s < t → sum_below f s + f s ≤ sum_below f t
  sum_up_to s t l =
      let e : suc s + (t - suc s) ≡ t = omega arith in
      omega (arith, sum_rises f (suc s) (t - suc s), ap (sum_below f) e)

  -- there is no other such place
  one_place : (s t p q : ℕ) → p < f s → q < f t → sum_below f s + p ≡ sum_below f t + q → (s ≡ t) × (p ≡ q)
  one_place s t p q hp hq e = go (ltb s t) refl (ltb t s) refl
    where
      go : (a : Bool) → ltb s t ≡ a → (b : Bool) → ltb t s ≡ b → (s ≡ t) × (p ≡ q)
      go true x b y = absurd (omega (arith, sum_up_to s t (ltb-true s t x)))
      go false x true y = absurd (omega (arith, sum_up_to t s (ltb-true t s y)))
      go false x false y =
          let same : s ≡ t = omega (arith, ltb-false s t x, ltb-false t s y) in
          (same, omega (arith, ap (sum_below f) same))

  -- so where k of them and `left` days more are over, that is what has passed
  pub passed_is : (n k left p : ℕ) → k < n → left < f k → sum_below f k + left ≡ p → passed_from f 0 n p ≡ record { whole = k; left = left }
  passed_is n k left p few inside sum =
      let a : At 0 n p (passed_from f 0 n p) = found 0 n p (omega (arith, sum_up_to k n few, ap (sum_below f) (zero-add n))) in
      let w = one_place (passed_from f 0 n p).whole k (passed_from f 0 n p).left left a.inside inside (omega (arith, a.same)) in
      λ i. record { whole = w.0 i; left = w.1 i }
