-- Sums over the numbers below one.
-- Assumes nothing.
use mathlib.Core.Path.{◌≡◌, refl}
use mathlib.Core.List.{List, [], ◌∷◌}
use Prim.Native.Nat.{ℕ, zero, suc, ◌+◌, ◌<◌, ◌≤◌}
use native.Mathlib.Omega.{arith}
use lib.ListN.{length, get_or}
use Rattle.model.specs.Base.{sum_below, total}

pub sum_same : (f g : ℕ → ℕ) (n : ℕ) → ((j : ℕ) → j < n → f j ≡ g j) → sum_below f n ≡ sum_below g n
sum_same f g zero h = refl
sum_same f g (suc n) h = omega (arith, sum_same f g n (λ j k. h j (omega arith)), h n (omega arith))

pub sum_first : (f : ℕ → ℕ) (n : ℕ) → sum_below f (suc n) ≡ f 0 + sum_below (λ j. f (suc j)) n
sum_first f zero = omega arith
sum_first f (suc n) = omega (arith, sum_first f n)

pub sum_rises : (f : ℕ → ℕ) (m n : ℕ) → sum_below f m ≤ sum_below f (m + n)
sum_rises f m zero = let z : m + 0 ≡ m = omega arith in rw z (omega arith)
sum_rises f m (suc n) = let z : m + suc n ≡ suc (m + n) = omega arith in rw z (omega (arith, sum_rises f m n))

pub sum_total : (l : List ℕ) (n : ℕ) → length l ≤ n → sum_below (λ j. get_or l j 0) n ≡ total l
sum_total [] zero h = refl
sum_total [] (suc n) h = omega (arith, sum_total [] n (omega arith))
sum_total (x ∷ l) zero h = absurd (omega arith)
sum_total (x ∷ l) (suc n) h = omega (arith, sum_first (λ j. get_or (x ∷ l) j 0) n, sum_total l n (omega arith))
