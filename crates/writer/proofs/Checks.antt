-- The checks put into a buffer block by block, and the file that comes out.
-- Assumes nothing.
use mathlib.Core.Path.{◌≡◌, refl, sym, ap, ◌∙◌}
use mathlib.Core.List.{List, [], ◌∷◌, ◌++◌, append_assoc}
use Prim.Native.Nat.{ℕ, zero, suc, ◌+◌, ◌-◌, ◌*◌, ◌/◌, ◌%◌, ◌<◌, ◌≤◌}
use native.Mathlib.Omega.{arith}
use native.Mathlib.Decide.{dec_lt, ℕ_discrete}
use borrow.Rule.Slice.PartMut.{put_mid, post_of, Post-is}
use mir.Syntax.{w32}
use lib.ListN.{length, get_or, set, take, drop}
use lib.Seq.{sets, length-sets, get_or-set_same, get_or-set_other}
use Rattle.std.specs.Int.{to_le_bytes}
use Rattle.std.proofs.lemmas.List.Edits.{sets-eq}
use Rattle.model.specs.GrammarFile.{weighted, byte_of, check_of, blocks_for}
use Rattle.model.specs.Writer.{Heading, little4, file_of}
use Rattle.model.proofs.ByteLists.{fields_same}
use Rattle.model.proofs.WriterFile.{file_written, same_file}
use Rattle.writer.specs.Writing.{Filled, Checked}

-- the four bytes of a number, and where they are copied into a part of the buffer
pub little_bytes : (n : ℕ) → to_le_bytes w32 n ≡ little4 n
little_bytes n =
    let e : n / 16777216 ≡ n / 65536 / 256 = omega arith in
    ap (λ (m : ℕ). n % 256 ∷ n / 256 % 256 ∷ n / 65536 % 256 ∷ m % 256 ∷ []) e

pub check_put : (before part : List ℕ) (at n : ℕ) → at + 4 ≤ length before → part ≡ little4 n → put_mid at (at + 4 - at) before part ≡ sets before at (little4 n)
check_put before part at n h e =
    ap (λ (y : List ℕ). take at before ++ (y ++ post_of at (at + 4 - at) before)) e
    ∙ ap (λ (y : List ℕ). take at before ++ (little4 n ++ y)) (Post-is at (at + 4) before (omega arith))
    ∙ sym (append_assoc (take at before) (little4 n) (drop (at + 4) before))
    ∙ sym (sets-eq (little4 n) before at h)

-- a run of stores leaves what is before it and after it
sets_before : (vs l : List ℕ) (a p : ℕ) → p < a → get_or (sets l a vs) p 0 ≡ get_or l p 0
sets_before [] l a p h = refl
sets_before (v ∷ vs) l a p h = sets_before vs (set l a v) (suc a) p (omega arith) ∙ get_or-set_other l a p v 0 (λ e. omega arith)

sets_after : (vs l : List ℕ) (a p : ℕ) → a + length vs ≤ p → get_or (sets l a vs) p 0 ≡ get_or l p 0
sets_after [] l a p h = refl
sets_after (v ∷ vs) l a p h = sets_after vs (set l a v) (suc a) p (omega arith) ∙ get_or-set_other l a p v 0 (λ e. omega arith)

sets_in : (vs l : List ℕ) (a j : ℕ) → a + length vs ≤ length l → j < length vs → get_or (sets l a vs) (a + j) 0 ≡ get_or vs j 0
sets_in [] l a j h k = let z : ⊥ = omega arith in absurd z
sets_in (v ∷ vs) l a zero h k =
    let e : a + 0 ≡ a = omega arith in
    ap (λ (p : ℕ). get_or (sets (set l a v) (suc a) vs) p 0) e ∙ sets_before vs (set l a v) (suc a) a (omega arith)
    ∙ get_or-set_same l a v 0 (omega arith)
sets_in (v ∷ vs) l a (suc j) h k =
    let e : a + suc j ≡ suc a + j = omega arith in
    ap (λ (p : ℕ). get_or (sets (set l a v) (suc a) vs) p 0) e
    ∙ sets_in vs (set l a v) (suc a) j (omega (arith, length-sets l a (v ∷ []))) (omega arith)

-- no checks yet
pub no_checks : (l : List ℕ) → Checked l l 0
no_checks l = record { long = refl; front = λ k i h. refl; check = λ k j h g. let z : ⊥ = omega arith in absurd z }

module _ (before now : List ℕ) (n : ℕ) (c : Checked before now n) where
  -- the checks are of bytes that they do not change
  pub same_check : (k : ℕ) → 512 * k + 508 ≤ length before → check_of now k ≡ check_of before k
  same_check k room =
      ap (weighted 1)
      (fields_same now before (512 * k) (512 * k) 508 (omega (arith, c.long)) room (λ i hi. c.front k i hi))

  module _ (room : 512 * n + 512 ≤ length before) where
    abbrev more : List ℕ
    more = sets now (512 * n + 508) (little4 (check_of now n))

    front_more : (k i : ℕ) → i < 508 → byte_of more k i ≡ byte_of before k i
    front_more k i hi = go (dec_lt (512 * k + i) (512 * n + 508))
      where
        go : Dec (512 * k + i < 512 * n + 508) → byte_of more k i ≡ byte_of before k i
        go (yes l) = sets_before (little4 (check_of now n)) now (512 * n + 508) (512 * k + i) l ∙ c.front k i hi
        go (no l) = sets_after (little4 (check_of now n)) now (512 * n + 508) (512 * k + i) (omega arith) ∙ c.front k i hi

    check_more : (k j : ℕ) → k < n + 1 → j < 4 → byte_of more k (508 + j) ≡ get_or (little4 (check_of before k)) j 0
    check_more k j hk hj = go (ℕ_discrete k n)
      where
        go : Dec (k ≡ n) → byte_of more k (508 + j) ≡ get_or (little4 (check_of before k)) j 0
        go (yes e) =
            let s : 512 * k + (508 + j) ≡ 512 * n + 508 + j = omega arith in
            ap (λ (p : ℕ). get_or more p 0) s
            ∙ sets_in (little4 (check_of now n)) now (512 * n + 508) j (omega (arith, c.long)) hj
            ∙ ap (λ (m : ℕ). get_or (little4 m) j 0) (same_check n (omega arith) ∙ ap (check_of before) (sym e))
        go (no d) = sets_before (little4 (check_of now n)) now (512 * n + 508) (512 * k + (508 + j)) (omega arith) ∙ c.check k j (omega arith) hj

    pub checked_more : Checked before more (n + 1)
    checked_more =
        record { long = length-sets now (512 * n + 508) (little4 (check_of now n)) ∙ c.long; front = front_more; check = check_more }

-- a filled buffer with its checks is the file
pub file_put : (h : Heading) (records filled out : List ℕ) → length filled ≡ 512 * blocks_for h.rules → Filled h records filled
    → Checked filled out (blocks_for h.rules) → out ≡ file_of h records
file_put h records filled out long full c =
    same_file h records out (file_of h records)
    (record {
      long = c.long ∙ long;
      front = λ k i hk hi.
          let b : (512 * k + i) / 512 ≡ k = omega arith in
          let r : (512 * k + i) % 512 ≡ i = omega arith in
          c.front k i hi ∙ full (512 * k + i) (omega (arith, long)) ∙ cc;
      check = λ k j hk hj.
          c.check k j hk hj ∙ ap (λ (m : ℕ). get_or (little4 m) j 0) (sym (same_check filled out (blocks_for h.rules) c k (omega (arith, long))));
    })
    (file_written h records)
