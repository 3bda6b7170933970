-- Elements of the lists that the writer joins, pads and checks, and a number read back from its bytes.
-- Assumes nothing.
use mathlib.Core.Path.{◌≡◌, refl, sym, ap, subst, ◌∙◌}
use mathlib.Core.List.{List, [], ◌∷◌, ◌++◌}
use Prim.Native.Nat.{ℕ, zero, suc, ◌+◌, ◌-◌, ◌*◌, ◌/◌, ◌%◌, ◌<◌, ◌≤◌}
use native.Mathlib.Nat.{mul-le-mul_left}
use native.Mathlib.Omega.{arith}
use native.Mathlib.Decide.{dec_lt, ℕ_discrete}
use lib.Dec.{T, ltb, eqb, eqb→eq, ltb→lt, lt→ltb}
use lib.ListN.{length, get_or, set, replicate, length-append, length-take, length-drop, length-replicate, get_or-append, get_or-eq_default}
use lib.Seq.{get_or-take, get_or-drop, get_or-append-add, ext_get_or, get_or-set_same, get_or-set_other}
use Rattle.model.specs.Base.{each, numbers_from}
use Rattle.model.specs.GrammarFile.{fields, weighted, all_zero}
use Rattle.model.specs.Writer.{all_bytes, little2, little4, padded}
use Rattle.model.proofs.Tests.{every_get_d, every_by}

-- a part of a list
pub fields_length : (l : List ℕ) (i n : ℕ) → i + n ≤ length l → length (fields l i n) ≡ n
fields_length l i n h = simp (length-take, length-drop) (omega arith)

pub fields_at : (l : List ℕ) (i n j : ℕ) → j < n → get_or (fields l i n) j 0 ≡ get_or l (i + j) 0
fields_at l i n j h = rw (get_or-take, get_or-drop)

-- parts of two lists are the same where the elements are
pub fields_same : (a b : List ℕ) (i j n : ℕ) → i + n ≤ length a → j + n ≤ length b
    → ((k : ℕ) → k < n → get_or a (i + k) 0 ≡ get_or b (j + k) 0) → fields a i n ≡ fields b j n
fields_same a b i j n ha hb same =
    ext_get_or 0 (fields a i n) (fields b j n) (fields_length a i n ha ∙ sym (fields_length b j n hb))
    (λ k h. let h' : k < n = omega (arith, fields_length a i n ha) in fields_at a i n k h' ∙ same k h' ∙ sym (fields_at b j n k h'))

-- an element of two joined lists
pub after_front : (a b : List ℕ) (n p j : ℕ) → length a ≡ n → p ≡ n + j → get_or (a ++ b) p 0 ≡ get_or b j 0
after_front a b n p j la e = ap (λ (k : ℕ). get_or (a ++ b) k 0) (omega arith) ∙ get_or-append-add a b j 0

-- every element of a list of zeros is 0
pub zero_at : (n i : ℕ) → ◌≡◌ {A = ℕ} (get_or (replicate n 0) i 0) 0
zero_at zero i = refl
zero_at (suc n) zero = refl
zero_at (suc n) (suc i) = zero_at n i

-- zeros after a list change no element
pub with_zeros : (l : List ℕ) (n i : ℕ) → get_or (l ++ replicate n 0) i 0 ≡ get_or l i 0
with_zeros l n i = go (dec_lt i (length l))
  where
    go : Dec (i < length l) → get_or (l ++ replicate n 0) i 0 ≡ get_or l i 0
    go (yes h) = get_or-append l (replicate n 0) 0 i h
    go (no h) =
        after_front l (replicate n 0) (length l) i (i - length l) refl (omega arith) ∙ zero_at n (i - length l)
        ∙ sym (get_or-eq_default l 0 (omega arith))

pub padded_length : (n : ℕ) (l : List ℕ) → length (padded n l) ≡ n
padded_length n l = fields_length (l ++ replicate n 0) 0 n (omega (arith, length-append l (replicate n 0), length-replicate {A = ℕ} n 0))

pub padded_at : (n : ℕ) (l : List ℕ) (i : ℕ) → i < n → get_or (padded n l) i 0 ≡ get_or l i 0
padded_at n l i h =
    fields_at (l ++ replicate n 0) 0 n i h ∙ ap (λ (k : ℕ). get_or (l ++ replicate n 0) k 0) (omega arith) ∙ with_zeros l n i

-- a list of n bytes is its own padding
pub padded_whole : (n : ℕ) (l : List ℕ) → length l ≡ n → padded n l ≡ l
padded_whole n l e = ext_get_or 0 (padded n l) l (padded_length n l ∙ sym e) (λ i h. padded_at n l i (omega (arith, padded_length n l)))

-- lists of n elements each, joined: their length, and element i of the list of number j
module _ (f : ℕ → List ℕ) (n : ℕ) where
  pub joined_length : (from count : ℕ) → ((k : ℕ) → from ≤ k → k < from + count → length (f k) ≡ n) → length (each f (numbers_from from count)) ≡ n * count
  joined_length from zero long = omega arith
  joined_length from (suc count) long =
      let first = long from (omega arith) (omega arith) in
      let rest = joined_length (suc from) count (λ k lo hi. long k (omega arith) (omega arith)) in
      omega (arith, length-append (f from) (each f (numbers_from (suc from) count)))

  pub joined_at : (from count : ℕ) → ((k : ℕ) → from ≤ k → k < from + count → length (f k) ≡ n) → (j i : ℕ) → j < count → i < n
      → get_or (each f (numbers_from from count)) (n * j + i) 0 ≡ get_or (f (from + j)) i 0
  joined_at from zero long j i hj hi = let z : ⊥ = omega arith in absurd z
  joined_at from (suc count) long zero i hj hi =
      let a : n * 0 + i ≡ i = omega arith in
      let b : from + 0 ≡ from = omega arith in
      rw (a, b) (get_or-append (f from) (each f (numbers_from (suc from) count)) 0 i (omega (arith, long from (omega arith) (omega arith))))
  joined_at from (suc count) long (suc j) i hj hi =
      let b : from + suc j ≡ suc from + j = omega arith in
      rw b (after_front (f from) (each f (numbers_from (suc from) count)) n (n * suc j + i) (n * j + i) (long from (omega arith) (omega arith)) (omega arith)
      ∙ joined_at (suc from) count (λ k lo hi. long k (omega arith) (omega arith)) j i (omega arith) hi)

-- zeros
pub zeros_by : (l : List ℕ) → ((k : ℕ) → k < length l → get_or l k 0 ≡ 0) → T (all_zero l)
zeros_by l h = every_by (eqb 0) l (λ k b. subst (λ (x : ℕ). T (eqb 0 x)) (sym (h k b)) tt)

pub zeros_at : (l : List ℕ) → T (all_zero l) → (k : ℕ) → get_or l k 0 ≡ 0
zeros_at l t k = go (dec_lt k (length l))
  where
    go : Dec (k < length l) → get_or l k 0 ≡ 0
    go (yes h) = sym (eqb→eq 0 (get_or l k 0) (every_get_d (eqb 0) l t k h))
    go (no h) = get_or-eq_default l 0 (omega arith)

-- a byte of a part that is all 0
pub zero_field : (e : List ℕ) (i k : ℕ) → T (all_zero (fields e i k)) → (p j : ℕ) → p ≡ i + j → j < k → get_or e p 0 ≡ 0
zero_field e i k t p j q h = ap (λ (x : ℕ). get_or e x 0) q ∙ sym (fields_at e i k j h) ∙ zeros_at (fields e i k) t j

-- every element is a byte, the 0 past the end too
pub bytes_at : (l : List ℕ) → T (all_bytes l) → (k : ℕ) → get_or l k 0 < 256
bytes_at l t k = go (dec_lt k (length l))
  where
    go : Dec (k < length l) → get_or l k 0 < 256
    go (yes h) = ltb→lt (get_or l k 0) 256 (every_get_d (λ b. ltb b 256) l t k h)
    go (no h) = omega (arith, get_or-eq_default l 0 {n = k} (omega arith))

-- lists of bytes
abbrev pub Bytes : List ℕ → Type 0
Bytes l = (k : ℕ) → get_or l k 0 < 256

pub bytes_append : (a b : List ℕ) → Bytes a → Bytes b → Bytes (a ++ b)
bytes_append [] b ha hb k = hb k
bytes_append (x ∷ a) b ha hb zero = ha 0
bytes_append (x ∷ a) b ha hb (suc k) = bytes_append a b (λ k. ha (suc k)) hb k

pub bytes_fields : (l : List ℕ) (i n : ℕ) → Bytes l → Bytes (fields l i n)
bytes_fields l i n h k = go (dec_lt k n)
  where
    go : Dec (k < n) → get_or (fields l i n) k 0 < 256
    go (yes b) = omega (arith, fields_at l i n k b, h (i + k))
    go (no b) = omega (arith, get_or-eq_default (fields l i n) 0 {n = k} (simp length-take (omega arith)))

pub all_bytes_lem : (l : List ℕ) → Bytes l → T (all_bytes l)
all_bytes_lem l h = every_by (λ b. ltb b 256) l (λ k m. lt→ltb (get_or l k 0) 256 (h k))

pub all_fields : (l : List ℕ) (i n : ℕ) → T (all_bytes l) → T (all_bytes (fields l i n))
all_fields l i n t = all_bytes_lem (fields l i n) (bytes_fields l i n (bytes_at l t))

pub bytes_little2 : (n : ℕ) → Bytes (little2 n)
bytes_little2 n zero = omega arith
bytes_little2 n (suc zero) = omega arith
bytes_little2 n (suc (suc k)) = omega arith

pub bytes_padded : (n : ℕ) (l : List ℕ) → Bytes l → Bytes (padded n l)
bytes_padded n l h = bytes_fields (l ++ replicate n 0) 0 n (λ k. omega (arith, with_zeros l n k, h k))

-- the sum of 508 bytes, each times its place, fits 4 bytes
sum_bound : (i : ℕ) (l : List ℕ) → Bytes l → weighted i l ≤ 255 * (length l * (i + length l))
sum_bound i [] h = omega arith
sum_bound i (x ∷ l) h =
    let a : x ≤ 255 = omega (arith, h 0) in
    omega (arith, mul-le-mul_left i a, sum_bound (suc i) l (λ k. h (suc k)))

pub sum_fits : (l : List ℕ) → length l ≡ 508 → Bytes l → weighted 1 l < 4294967296
sum_fits l e h = omega (arith, subst (λ (n : ℕ). weighted 1 l ≤ 255 * (n * (1 + n))) e (sum_bound 1 l h))

-- a number read back from its bytes, and bytes written again from their number
pub two_back : (n : ℕ) → n < 65536 → n % 256 + 256 * (n / 256 % 256) ≡ n
two_back n h = omega arith

pub two_again : (a b n : ℕ) → a < 256 → b < 256 → a + 256 * b ≡ n → (n % 256 ≡ a) × (n / 256 % 256 ≡ b)
two_again a b n ha hb e = omega arith

pub four_back : (n : ℕ) → n < 4294967296 → n % 256 + 256 * (n / 256 % 256) + 65536 * (n / 65536 % 256 + 256 * (n / 65536 / 256 % 256)) ≡ n
four_back n h = omega (arith, two_back (n / 65536) (omega arith))

pub four_again : (a b c d n : ℕ) → a < 256 → b < 256 → c < 256 → d < 256 → n ≡ a + 256 * b + 65536 * (c + 256 * d) → little4 n ≡ a ∷ b ∷ c ∷ d ∷ []
four_again a b c d n ha hb hc hd e =
    let low : (n % 256 ≡ a) × (n / 256 % 256 ≡ b) = omega arith in
    let high : n / 65536 ≡ c + 256 * d = omega arith in
    let x = two_again c d (n / 65536) hc hd (sym high) in
    cc (low.0, low.1, x.0, x.1)

-- a list filled by what f gives, one byte further
pub filled_more : (f : ℕ → ℕ) (out : List ℕ) (p v : ℕ) → p < length out → v ≡ f p → ((q : ℕ) → q < p → get_or out q 0 ≡ f q) → (q : ℕ) → q < p + 1 → get_or (set out p v) q 0 ≡ f q
filled_more f out p v h e before q l = go (ℕ_discrete q p)
  where
    go : Dec (q ≡ p) → get_or (set out p v) q 0 ≡ f q
    go (yes s) = ap (λ (x : ℕ). get_or (set out p v) x 0) s ∙ get_or-set_same out p v 0 h ∙ e ∙ ap f (sym s)
    go (no d) = get_or-set_other out p q v 0 d ∙ before q (omega arith)
