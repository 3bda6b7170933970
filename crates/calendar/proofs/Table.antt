-- Tables: the list that a rule makes has the rule's value at each entry. A table of the code is compared with that list once, entry by entry, by a test that the
-- prover computes (the two lists are the same by computation), and so the rule is carried to each entry.
-- Assumes nothing.
use mathlib.Core.Path.{◌≡◌, refl, sym, ap, ◌∙◌}
use mathlib.Core.List.{List, [], ◌∷◌}
use Prim.Native.Nat.{ℕ, zero, suc, ◌+◌, ◌<◌}
use native.Mathlib.Nat.{add-zero, zero-add, add-suc, suc-add, le_of_suc-le-suc, not-suc-le-zero}
use lib.ListN.{get_or}
use Rattle.model.specs.Base.{sum_below}

module _ (f : ℕ → ℕ) where
  -- f at k, k + 1, .., for `count` numbers
  abbrev pub table_from : ℕ → ℕ → List ℕ
  table_from k zero = []
  table_from k (suc count) = f k ∷ table_from (suc k) count

  entry_from : (k count i : ℕ) → i < count → get_or (table_from k count) i 0 ≡ f (k + i)
  entry_from k zero i h = absurd (not-suc-le-zero h)
  entry_from k (suc count) zero h = ap f (sym (add-zero k))
  entry_from k (suc count) (suc i) h = entry_from (suc k) count i (le_of_suc-le-suc h) ∙ ap f (suc-add k i ∙ sym (add-suc k i))

  pub entry : (count i : ℕ) → i < count → get_or (table_from 0 count) i 0 ≡ f i
  entry count i h = entry_from 0 count i h ∙ ap f (zero-add i)

  -- n, and each number after it f more than the one before, f at k, k + 1, ..
  abbrev pub sums_from : ℕ → ℕ → ℕ → List ℕ
  sums_from k n zero = []
  sums_from k n (suc count) = n ∷ sums_from (suc k) (n + f k) count

  sum_from : (k n count i : ℕ) → n ≡ sum_below f k → i < count → get_or (sums_from k n count) i 0 ≡ sum_below f (k + i)
  sum_from k n zero i e h = absurd (not-suc-le-zero h)
  sum_from k n (suc count) zero e h = e ∙ ap (sum_below f) (sym (add-zero k))
  sum_from k n (suc count) (suc i) e h =
      sum_from (suc k) (n + f k) count i (ap (λ (m : ℕ). m + f k) e) (le_of_suc-le-suc h) ∙ ap (sum_below f) (suc-add k i ∙ sym (add-suc k i))

  pub sum_entry : (count i : ℕ) → i < count → get_or (sums_from 0 0 count) i 0 ≡ sum_below f i
  sum_entry count i h = sum_from 0 0 count i refl h ∙ ap (sum_below f) (zero-add i)
