-- A list walked from the front, one element further: what a sum says of what is left; and the first elements of two lists compared.
-- Assumes nothing.
use mathlib.Core.Path.{◌≡◌, refl, sym, ap, ◌∙◌}
use mathlib.Core.Bool.{Bool, true, false, ◌&&◌}
use mathlib.Core.List.{List, [], ◌∷◌, map}
use Prim.Native.Nat.{ℕ, zero, suc, ◌+◌, ◌*◌, ◌<◌, ◌≤◌}
use native.Mathlib.Omega.{arith}
use native.Mathlib.Numerals.{add-one}
use native.Mathlib.Decide.{ℕ_discrete}
use borrow.Author.Tests.{ne_eqb}
use lib.Dec.{eqb}
use lib.ListN.{length, get_or, take, drop, drop_of_length-le}
use lib.Seq.{drop-cons}
use Rattle.model.specs.Base.{total, same_list}
use Rattle.model.specs.GrammarFile.{weighted}
use Rattle.model.proofs.Tests.{not_both}

-- a weighted sum
module _ (l : List ℕ) (i : ℕ) where
  pub weighted_more : i < length l → weighted (i + 1) (drop i l) ≡ (i + 1) * get_or l i 0 + weighted (i + 1 + 1) (drop (i + 1) l)
  weighted_more h = rw (add-one (i + 1), add-one i, drop-cons l i 0 h)

  pub weighted_end : length l ≤ i → weighted (i + 1) (drop i l) ≡ 0
  weighted_end h = rw (drop_of_length-le l {i = i} h)

times : (x : ℕ) {m n : ℕ} → m ≡ n → m * x ≡ n * x
times x e = ap (λ (k : ℕ). k * x) e

-- four terms of a weighted sum
pub weighted_four : (l : List ℕ) (i : ℕ) → i + 4 ≤ length l
    → weighted (i + 1) (drop i l)
    ≡ (i + 1) * get_or l i 0 + (i + 2) * get_or l (i + 1) 0 + (i + 3) * get_or l (i + 2) 0 + (i + 4) * get_or l (i + 3) 0 + weighted (i + 4 + 1) (drop (i + 4) l)
weighted_four l i h =
    let rest : ℕ → ℕ = λ j. weighted (j + 1) (drop j l) in
    let e₂ : i + 1 + 1 ≡ i + 2 = omega arith in
    let e₃ : i + 2 + 1 ≡ i + 3 = omega arith in
    let e₄ : i + 3 + 1 ≡ i + 4 = omega arith in
    omega (
      arith,
      weighted_more l i (omega arith),
      weighted_more l (i + 1) (omega arith),
      times (get_or l (i + 1) 0) e₂,
      ap rest e₂,
      weighted_more l (i + 2) (omega arith),
      times (get_or l (i + 2) 0) e₃,
      ap rest e₃,
      weighted_more l (i + 3) (omega arith),
      times (get_or l (i + 3) 0) e₄,
      ap rest e₄,
    )

-- the sum of what f gives
module _ (f : ℕ → ℕ) (l : List ℕ) (i : ℕ) where
  pub sum_more : i < length l → total (map f (drop i l)) ≡ f (get_or l i 0) + total (map f (drop (i + 1) l))
  sum_more h = rw (add-one, drop-cons l i 0 h)

  pub sum_end : length l ≤ i → total (map f (drop i l)) ≡ 0
  sum_end h = rw (drop_of_length-le l {i = i} h)

pub and_none : (t : Bool) {b : Bool} → b ≡ false → t && b ≡ false
and_none true e = e
and_none false e = refl

-- the first n elements compared: they differ if they do at a place below n, and where they are the same they are so at each
pub differ_at : (n : ℕ) (a b : List ℕ) (i : ℕ) → i < n → (get_or a i 0 ≡ get_or b i 0 → ⊥) → same_list (take n a) (take n b) ≡ false
differ_at zero a b i l d = absurd (omega arith)
differ_at (suc n) [] [] i l d = absurd (d refl)
differ_at (suc n) [] (y ∷ b) i l d = refl
differ_at (suc n) (x ∷ a) [] i l d = refl
differ_at (suc n) (x ∷ a) (y ∷ b) zero l d = rw (ne_eqb x y d)
differ_at (suc n) (x ∷ a) (y ∷ b) (suc i) l d = and_none (eqb x y) (differ_at n a b i (omega arith) d)

pub same_at : (n : ℕ) (a b : List ℕ) → same_list (take n a) (take n b) ≡ true → (i : ℕ) → i < n → get_or a i 0 ≡ get_or b i 0
same_at n a b e i l = go (ℕ_discrete (get_or a i 0) (get_or b i 0))
  where
    go : Dec (get_or a i 0 ≡ get_or b i 0) → get_or a i 0 ≡ get_or b i 0
    go (yes s) = s
    go (no d) = not_both (sym e ∙ differ_at n a b i l d)
