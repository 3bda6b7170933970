-- The decimal digits of a number, from the last one on, and how many they are.
-- Assumes nothing.
use Rattle.std.specs.Prelude.{if◌then◌else◌}
use mathlib.Core.Path.{◌≡◌, refl, sym, ap, ◌∙◌}
use mathlib.Core.Bool.{Bool, true, false}
use mathlib.Core.List.{List, [], ◌∷◌}
use Prim.Native.Nat.{ℕ, zero, suc, ◌+◌, ◌-◌, ◌*◌, ◌/◌, ◌%◌, ◌<◌, ◌≤◌}
use native.Mathlib.Omega.{arith}
use native.Mathlib.Nat.{mod-eq_of_lt, div-lt_iff_lt-mul}
use borrow.Author.Tests.{lt-ltb, le-ltb}
use lib.Dec.{ltb}
use lib.ListN.{length, drop, set}
use lib.Seq.{drop-length}
use Rattle.model.specs.Program.{decimal, digits_before, digit_zero}

drop_set : (l : List ℕ) (j a : ℕ) → j < length l → drop j (set l j a) ≡ a ∷ drop (suc j) l
drop_set [] j a h = let z : ⊥ = omega arith in absurd z
drop_set (x ∷ l) zero a h = refl
drop_set (x ∷ l) (suc j) a h = drop_set l j a (omega arith)

-- one more digit, written before those that stand from place suc j on
pub digit_more : (j n : ℕ) (text : List ℕ) (d : ℕ) → j < length text → d ≡ digit_zero + n % 10 → 10 ≤ n
    → digits_before (suc j) n (drop (suc j) text) ≡ digits_before j (n / 10) (drop j (set text j d))
digit_more j n text d h e k =
    ap (λ (b : Bool). if b then (digit_zero + n) ∷ drop (suc j) text else digits_before j (n / 10) ((digit_zero + n % 10) ∷ drop (suc j) text)) (le-ltb n 10 k)
    ∙ ap (λ (x : ℕ). digits_before j (n / 10) (x ∷ drop (suc j) text)) (sym e)
    ∙ ap (λ (l : List ℕ). digits_before j (n / 10) l) (sym (drop_set text j d h))

-- the first digit
pub digit_first : (j n : ℕ) (text : List ℕ) (d : ℕ) → j < length text → d ≡ digit_zero + n % 10 → n < 10
    → digits_before (suc j) n (drop (suc j) text) ≡ drop j (set text j d)
digit_first j n text d h e k =
    ap (λ (b : Bool). if b then (digit_zero + n) ∷ drop (suc j) text else digits_before j (n / 10) ((digit_zero + n % 10) ∷ drop (suc j) text)) (lt-ltb n 10 k)
    ∙ ap (λ (x : ℕ). x ∷ drop (suc j) text) (ap (λ (m : ℕ). digit_zero + m) (sym (mod-eq_of_lt k)) ∙ sym e)
    ∙ sym (drop_set text j d h)

-- 10 to the power k
abbrev tens : ℕ → ℕ
tens zero = 1
tens (suc k) = tens k * 10

-- a number below 10 to the power k + 1 has at most k + 1 digits
few_digits : (k most n : ℕ) (rest : List ℕ) → n < tens (suc k) → length (digits_before most n rest) ≤ suc k + length rest
few_digits k zero n rest h = omega arith
few_digits zero (suc most) n rest h = by (ltb n 10) (lt-ltb n 10 h)
  where
    by : (b : Bool) → b ≡ true → length (if b then (digit_zero + n) ∷ rest else digits_before most (n / 10) ((digit_zero + n % 10) ∷ rest)) ≤ 1 + length rest
    by true e = omega arith
    by false e = let z : ◌≡◌ {A = ℕ} 0 1 = cc in absurd (omega arith)
few_digits (suc k) (suc most) n rest h = by (ltb n 10) (few_digits k most (n / 10) ((digit_zero + n % 10) ∷ rest) ((div-lt_iff_lt-mul {k = 10} (omega arith)).1 h))
  where
    by : (b : Bool) → length (digits_before most (n / 10) ((digit_zero + n % 10) ∷ rest)) ≤ suc k + suc (length rest)
        → length (if b then (digit_zero + n) ∷ rest else digits_before most (n / 10) ((digit_zero + n % 10) ∷ rest)) ≤ suc (suc k) + length rest
    by true l = omega arith
    by false l = omega arith

-- at most so many digits as are asked for
most_digits : (most n : ℕ) (rest : List ℕ) → length (digits_before most n rest) ≤ most + length rest
most_digits zero n rest = omega arith
most_digits (suc most) n rest = by (ltb n 10) (most_digits most (n / 10) ((digit_zero + n % 10) ∷ rest))
  where
    by : (b : Bool) → length (digits_before most (n / 10) ((digit_zero + n % 10) ∷ rest)) ≤ most + suc (length rest)
        → length (if b then (digit_zero + n) ∷ rest else digits_before most (n / 10) ((digit_zero + n % 10) ∷ rest)) ≤ suc most + length rest
    by true l = omega arith
    by false l = omega arith

-- 16 bits have at most five digits, 64 bits at most twenty
pub word_digits : (n : ℕ) → n < 65536 → length (decimal n) ≤ 5
word_digits n h = omega (arith, few_digits 4 20 n [] (omega arith))

pub all_digits : (n : ℕ) → length (decimal n) ≤ 20
all_digits n = omega (arith, most_digits 20 n [])

-- the digits of n, as far as they are written: the last 20 - i of them from place i on, the rest still to come
pub begun : (n : ℕ) (text : List ℕ) → length text ≡ 20 → decimal n ≡ digits_before 20 n (drop 20 text)
begun n text l = sym (ap (λ (t : List ℕ). digits_before 20 n t) (ap (λ (k : ℕ). drop k text) (sym l) ∙ drop-length text))

pub one_more : (n i rest : ℕ) (text : List ℕ) (d : ℕ) → 0 < i → i ≤ length text → decimal n ≡ digits_before i rest (drop i text) → d ≡ digit_zero + rest % 10
    → 10 ≤ rest → decimal n ≡ digits_before (i - 1) (rest / 10) (drop (i - 1) (set text (i - 1) d))
one_more n zero rest text d h l e f k = let z : ⊥ = omega arith in absurd z
one_more n (suc j) rest text d h l e f k =
    let p : j ≡ suc j - 1 = omega arith in
    e ∙ digit_more j rest text d (omega arith) f k ∙ ap (λ (m : ℕ). digits_before m (rest / 10) (drop m (set text m d))) p

pub all_there : (n i rest : ℕ) (text : List ℕ) (d : ℕ) → 0 < i → i ≤ length text → decimal n ≡ digits_before i rest (drop i text) → d ≡ digit_zero + rest % 10
    → rest < 10 → drop (i - 1) (set text (i - 1) d) ≡ decimal n
all_there n zero rest text d h l e f k = let z : ⊥ = omega arith in absurd z
all_there n (suc j) rest text d h l e f k =
    let p : j ≡ suc j - 1 = omega arith in
    sym (e ∙ digit_first j rest text d (omega arith) f k ∙ ap (λ (m : ℕ). drop m (set text m d)) p)
