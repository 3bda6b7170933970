-- The row of a form: its bytes one by one, and that no two forms have the same row.
-- Assumes nothing.
use mathlib.Core.Path.{◌≡◌, refl, sym, ap, ap₂, ◌∙◌}
use mathlib.Core.Bool.{Bool, true, false}
use mathlib.Core.List.{List, [], ◌∷◌, map}
use Prim.Native.Nat.{ℕ, zero, suc, ◌+◌, ◌*◌, ◌/◌, ◌%◌, ◌<◌, ◌≤◌}
use native.Mathlib.Omega.{arith}
use native.Mathlib.Decide.{dec_lt}
use lib.ListN.{length, get_or, length-map, get_or-eq_default}
use lib.Seq.{ext_get_or}
use borrow.Author.Tests.{lt-ltb}
use Rattle.model.specs.Base.{numbers_from}
use Rattle.model.proofs.Lists.{length_numbers}
use Rattle.minimalist.specs.Schemes.{Form}
use Rattle.forms.specs.Rows.{flag, head_byte, chain_byte, cell_byte, row_byte, row_of, NonZero, Small}

-- a list made by a function of the place
pub listed_at : (f : ℕ → ℕ) (from n i : ℕ) → i < n → get_or (map f (numbers_from from n)) i 0 ≡ f (from + i)
listed_at f from zero i h = let z : ⊥ = omega arith in absurd z
listed_at f from (suc n) zero h = let e : from ≡ from + 0 = omega arith in ap f e
listed_at f from (suc n) (suc i) h = let e : suc from + i ≡ from + suc i = omega arith in listed_at f (suc from) n i (omega arith) ∙ ap f e

pub listed_long : (f : ℕ → ℕ) (n : ℕ) → length (map f (numbers_from 0 n)) ≡ n
listed_long f n = length-map (numbers_from 0 n) f ∙ length_numbers 0 n

pub listed_by : (f : ℕ → ℕ) (n : ℕ) (l : List ℕ) → length l ≡ n → ((p : ℕ) → p < n → get_or l p 0 ≡ f p) → l ≡ map f (numbers_from 0 n)
listed_by f n l h e =
    ext_get_or 0 l (map f (numbers_from 0 n)) (h ∙ sym (listed_long f n))
    (λ i k. let z : 0 + i ≡ i = omega arith in e i (omega arith) ∙ ap f (sym z) ∙ sym (listed_at f 0 n i (omega arith)))

module _ (a : Form) where
  pub row_long : length (row_of a) ≡ 64
  unfolding row_of
  row_long = listed_long (row_byte a) 64

  pub row_at : (p : ℕ) → p < 64 → get_or (row_of a) p 0 ≡ row_byte a p
  unfolding row_of
  row_at p h = let z : 0 + p ≡ p = omega arith in listed_at (row_byte a) 0 64 p h ∙ ap (row_byte a) z

  pub row_by : (l : List ℕ) → length l ≡ 64 → ((p : ℕ) → p < 64 → get_or l p 0 ≡ row_byte a p) → l ≡ row_of a
  unfolding row_of
  row_by l h e = listed_by (row_byte a) 64 l h e

  pub cell_is : (p k i : ℕ) → p ≡ 8 * k + i → i < 8 → row_byte a p ≡ cell_byte a k i
  cell_is p k i e h =
      let x : p / 8 ≡ k = omega arith in
      let y : p % 8 ≡ i = omega arith in
      ap₂ (λ (s t : ℕ). cell_byte a s t) x y

  pub cell_at : (p k i : ℕ) → p ≡ 8 * k + i → i < 8 → k < 8 → get_or (row_of a) p 0 ≡ cell_byte a k i
  cell_at p k i e h l = row_at p (omega arith) ∙ cell_is p k i e h

  head_byte_lem : (i : ℕ) → i < 6 → head_byte a i ≡ get_or a.head i 0
  head_byte_lem i h = rw (lt-ltb i 6 h)

  pub head_at : (i : ℕ) → i < 6 → get_or (row_of a) i 0 ≡ get_or a.head i 0
  head_at i h = cell_at i 0 i (omega arith) (omega arith) (omega arith) ∙ head_byte_lem i h

  pub flag_at : get_or (row_of a) 6 0 ≡ flag a.lexical
  flag_at = cell_at 6 0 6 (omega arith) (omega arith) (omega arith)

  pub count_at : get_or (row_of a) 7 0 ≡ length a.moving
  count_at = cell_at 7 0 7 (omega arith) (omega arith) (omega arith)

  pub chain_at : (p k i : ℕ) → p ≡ 8 * (k + 1) + i → i < 8 → k < 7 → get_or (row_of a) p 0 ≡ chain_byte a k i
  chain_at p k i e h l = cell_at p (suc k) i (omega arith) h (omega arith)

-- features that are not 0 are the same where the bytes are, with 0 after them
pub set_ext : (x y : List ℕ) → NonZero x → NonZero y → ((i : ℕ) → get_or x i 0 ≡ get_or y i 0) → x ≡ y
set_ext [] [] p q e = refl
set_ext [] (y ∷ ys) p q e = absurd (q 0 (omega arith) (sym (e 0)))
set_ext (x ∷ xs) [] p q e = absurd (p 0 (omega arith) (e 0))
set_ext (x ∷ xs) (y ∷ ys) p q e =
    ap₂ (λ (z : ℕ) (zs : List ℕ). z ∷ zs) (e 0)
    (set_ext xs ys (λ i h. p (suc i) (omega arith)) (λ i h. q (suc i) (omega arith)) (λ i. e (suc i)))

six_ext : (x y : List ℕ) → length x ≤ 6 → length y ≤ 6 → NonZero x → NonZero y → ((i : ℕ) → i < 6 → get_or x i 0 ≡ get_or y i 0) → x ≡ y
six_ext x y h k p q e = set_ext x y p q (λ i. go i (dec_lt i 6))
  where
    go : (i : ℕ) → Dec (i < 6) → get_or x i 0 ≡ get_or y i 0
    go i (yes l) = e i l
    go i (no l) = get_or-eq_default x 0 {n = i} (omega arith) ∙ sym (get_or-eq_default y 0 {n = i} (omega arith))

flag_one : (x y : Bool) → flag x ≡ flag y → x ≡ y
flag_one true true e = refl
flag_one true false e = let z : ⊥ = omega arith in absurd z
flag_one false true e = let z : ⊥ = omega arith in absurd z
flag_one false false e = refl

module _ (a b : Form) (p : Small a) (q : Small b) (e : row_of a ≡ row_of b) where
  byte_one : (i : ℕ) → get_or (row_of a) i 0 ≡ get_or (row_of b) i 0
  byte_one i = ap (λ (l : List ℕ). get_or l i 0) e

  lexical_one : a.lexical ≡ b.lexical
  lexical_one = flag_one a.lexical b.lexical (sym (flag_at a) ∙ byte_one 6 ∙ flag_at b)

  head_one : a.head ≡ b.head
  head_one = six_ext a.head b.head p.head_few q.head_few p.head_set q.head_set (λ i h. sym (head_at a i h) ∙ byte_one i ∙ head_at b i h)

  moving_one : a.moving ≡ b.moving
  moving_one =
      ext_get_or [] a.moving b.moving (sym (count_at a) ∙ byte_one 7 ∙ count_at b)
      (λ k h. six_ext (get_or a.moving k []) (get_or b.moving k []) (p.chain_few k) (q.chain_few k) (p.chain_set k) (q.chain_set k)
      (λ i l. sym (chain_at a (8 * (k + 1) + i) k i refl (omega arith) (omega (arith, p.moving_few))) ∙ byte_one (8 * (k + 1) + i) ∙ chain_at b (8 * (k + 1) + i) k i refl (omega arith) (omega (arith, p.moving_few))))

  -- forms with the same row are the same
  pub row_one : a ≡ b
  row_one = λ i. record { lexical = lexical_one i; head = head_one i; moving = moving_one i }

-- the first feature of the head
pub first_at : (x : List ℕ) (a : Form) → x ≡ row_of a → get_or x 0 0 ≡ get_or a.head 0 0
first_at x a r = ap (λ (l : List ℕ). get_or l 0 0) r ∙ head_at a 0 (omega arith)
