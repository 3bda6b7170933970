-- The library's words for what a chain of iterators gives are the words of document 01: a test of all, a sum, a count and a comparison of bytes.
-- Assumes nothing.
use Rattle.std.proofs.Common.{◌≡◌, refl, sym, arith, if◌then◌else◌, Bool, true, false, cond, List, [], ◌∷◌, map, ℕ, ◌+◌, ◌*◌, ◌≤◌, length, eqb}
use Rattle.std.specs.List.{list_all, sum, sum_by, count_by}
use Rattle.std.proofs.lemmas.List.Recursion.{is_sum_by, is_count_by}
use Rattle.std.proofs.lemmas.Bool.Decides.{same_from_decides, Decides-eqb}
use Rattle.model.specs.Base.{every, occurrences, total}
use Rattle.model.specs.GrammarFile.{all_zero}

-- the order in which two numbers are compared makes no difference
eqb_swap : (x y : ℕ) → eqb x y ≡ eqb y x
eqb_swap x y =
    let d = Decides-eqb y x in
    same_from_decides (eqb x y) (eqb y x) (Decides-eqb x y) (λ e. sym (d.0 e), λ e. d.1 (sym e))

pub every_is : (test : ℕ → Bool) (l : List ℕ) → list_all test l ≡ every test l
every_is test [] = refl
every_is test (x ∷ l) = rw (every_is test l)

-- a test of all bytes
pub all_zero_is : (l : List ℕ) → list_all (λ x. eqb x 0) l ≡ all_zero l
all_zero_is [] = refl
all_zero_is (x ∷ l) = rw (eqb_swap x 0, all_zero_is l)

pub total_is : (l : List ℕ) → sum l ≡ total l
total_is l = sym (is_sum_by total (λ x. x) refl (λ _ _. refl) l)

pub total_map_is : (f : ℕ → ℕ) (l : List ℕ) → sum_by f l ≡ total (map f l)
total_map_is f l = sym (is_sum_by (λ l. total (map f l)) f refl (λ _ _. refl) l)

pub occurrences_is : (x : ℕ) (l : List ℕ) → count_by (λ y. eqb y x) l ≡ occurrences x l
occurrences_is x l = sym (is_count_by (occurrences x) (λ y. eqb y x) refl (λ y l. rw (eqb_swap x y) (one (eqb y x) (occurrences x l))) l)
  where
    one : (b : Bool) (n : ℕ) → (if b then 1 else 0) + n ≡ cond b (1 + n) n
    one true n = refl
    one false n = omega arith

-- a sum of bytes
pub sum_by_few : (f : ℕ → ℕ) (l : List ℕ) → ((x : ℕ) → f x ≤ 255) → sum_by f l ≤ 255 * length l
sum_by_few f l few = omega (arith, total_map_is f l, total_few l)
  where
    total_few : (l : List ℕ) → total (map f l) ≤ 255 * length l
    total_few [] = omega arith
    total_few (x ∷ l) = omega (arith, few x, total_few l)
