-- The bytes of the file that the writer makes, block by block: its length, what each block holds, and its checks. A file with such blocks is that file.
-- Assumes nothing.
use mathlib.Core.Path.{◌≡◌, refl, sym, ap, subst, ◌∙◌}
use mathlib.Core.List.{List, [], ◌∷◌, ◌++◌}
use Prim.Native.Nat.{ℕ, zero, suc, ◌+◌, ◌-◌, ◌*◌, ◌/◌, ◌%◌, ◌<◌, ◌≤◌}
use native.Mathlib.Omega.{arith}
use native.Mathlib.Decide.{dec_lt}
use lib.ListN.{length, get_or, replicate, length-append, get_or-append}
use lib.Seq.{ext_get_or}
use Rattle.model.specs.Base.{each, numbers_from}
use Rattle.model.specs.GrammarFile.{fields, weighted, byte_of, check_of, blocks_for, records_in}
use Rattle.model.specs.Writer.{Heading, little2, little4, padded, checked, heading_block, rule_block, file_of}
use Rattle.model.proofs.ByteLists.{fields_length, fields_at, after_front, padded_length, padded_at, joined_length, joined_at}

-- a block: 508 bytes, and the check of these bytes
module _ (bytes : List ℕ) (long : length bytes ≡ 508) where
  checked_length : length (checked bytes) ≡ 512
  checked_length = omega (arith, length-append bytes (little4 (weighted 1 bytes)))

  checked_front : (i : ℕ) → i < 508 → get_or (checked bytes) i 0 ≡ get_or bytes i 0
  checked_front i h = get_or-append bytes (little4 (weighted 1 bytes)) 0 i (omega arith)

  checked_end : (j : ℕ) → get_or (checked bytes) (508 + j) 0 ≡ get_or (little4 (weighted 1 bytes)) j 0
  checked_end j = after_front bytes (little4 (weighted 1 bytes)) 508 (508 + j) j long refl

-- what the writer puts into block k, before the zeros and the check
abbrev pub content_of : Heading → List ℕ → ℕ → List ℕ
content_of h records zero = 0 ∷ 0 ∷ 1 ∷ h.categories ∷ h.start ∷ little2 h.words ++ little2 h.rules ++ replicate 7 0 ++ padded 64 h.dimensions
content_of h records (suc k) = little2 (suc k) ++ (2 ∷ records_in h.rules (suc k) ∷ []) ++ fields records (504 * (suc k - 1)) 504

abbrev block_of : Heading → List ℕ → ℕ → List ℕ
block_of h records k = checked (padded 508 (content_of h records k))

-- the file has the writer's blocks: their number, what stands in each, and each one's check
pub record Written (h : Heading) (records file : List ℕ) : Type 0 where
  pub long : length file ≡ 512 * blocks_for h.rules
  pub front : (k i : ℕ) → k < blocks_for h.rules → i < 508 → byte_of file k i ≡ get_or (content_of h records k) i 0
  pub check : (k j : ℕ) → k < blocks_for h.rules → j < 4 → byte_of file k (508 + j) ≡ get_or (little4 (check_of file k)) j 0

-- the bytes that a check is of
front_is : (file : List ℕ) (k : ℕ) (content : List ℕ) → 512 * k + 508 ≤ length file → ((i : ℕ) → i < 508 → byte_of file k i ≡ get_or content i 0)
    → fields file (512 * k) 508 ≡ padded 508 content
front_is file k content room same =
    ext_get_or 0 (fields file (512 * k) 508) (padded 508 content) (fields_length file (512 * k) 508 room ∙ sym (padded_length 508 content))
    (λ i hi.
    let hi' : i < 508 = omega (arith, fields_length file (512 * k) 508 room) in
    fields_at file (512 * k) 508 i hi' ∙ same i hi' ∙ sym (padded_at 508 content i hi'))

-- the heading's block by itself
pub heading_length : (h : Heading) → length (heading_block h) ≡ 512
heading_length h = checked_length (padded 508 (content_of h [] 0)) (padded_length 508 (content_of h [] 0))

pub heading_front : (h : Heading) (i : ℕ) → i < 508 → get_or (heading_block h) i 0 ≡ get_or (content_of h [] 0) i 0
heading_front h i hi = checked_front (padded 508 (content_of h [] 0)) (padded_length 508 (content_of h [] 0)) i hi ∙ padded_at 508 (content_of h [] 0) i hi

module _ (h : Heading) (records : List ℕ) where
  rules_same : (from count : ℕ) → each (rule_block h records) (numbers_from (suc from) count) ≡ each (block_of h records) (numbers_from (suc from) count)
  rules_same from zero = refl
  rules_same from (suc count) = ap (λ (l : List ℕ). block_of h records (suc from) ++ l) (rules_same (suc from) count)

  file_blocks : file_of h records ≡ each (block_of h records) (numbers_from 0 (blocks_for h.rules))
  file_blocks =
      let a : blocks_for h.rules - 1 ≡ (h.rules + 20) / 21 = omega arith in
      let b : blocks_for h.rules ≡ suc ((h.rules + 20) / 21) = omega arith in
      ap (λ (n : ℕ). heading_block h ++ each (rule_block h records) (numbers_from 1 n)) a
      ∙ ap (λ (l : List ℕ). heading_block h ++ l) (rules_same 0 ((h.rules + 20) / 21))
      ∙ ap (λ (n : ℕ). each (block_of h records) (numbers_from 0 n)) (sym b)

  block_length : (k : ℕ) → length (block_of h records k) ≡ 512
  block_length k = checked_length (padded 508 (content_of h records k)) (padded_length 508 (content_of h records k))

  -- the file has 512 bytes for each block
  pub file_length : length (file_of h records) ≡ 512 * blocks_for h.rules
  file_length = ap length file_blocks ∙ joined_length (block_of h records) 512 0 (blocks_for h.rules) (λ k lo hi. block_length k)

  file_byte : (k i : ℕ) → k < blocks_for h.rules → i < 512 → byte_of (file_of h records) k i ≡ get_or (block_of h records k) i 0
  file_byte k i hk hi =
      let a : 0 + k ≡ k = omega arith in
      ap (λ (l : List ℕ). get_or l (512 * k + i) 0) file_blocks
      ∙ joined_at (block_of h records) 512 0 (blocks_for h.rules) (λ k lo hi. block_length k) k i hk hi
      ∙ ap (λ (n : ℕ). get_or (block_of h records n) i 0) a

  file_front : (k i : ℕ) → k < blocks_for h.rules → i < 508 → byte_of (file_of h records) k i ≡ get_or (content_of h records k) i 0
  file_front k i hk hi =
      file_byte k i hk (omega arith)
      ∙ checked_front (padded 508 (content_of h records k)) (padded_length 508 (content_of h records k)) i hi
      ∙ padded_at 508 (content_of h records k) i hi

  file_check : (k j : ℕ) → k < blocks_for h.rules → j < 4 → byte_of (file_of h records) k (508 + j) ≡ get_or (little4 (check_of (file_of h records) k)) j 0
  file_check k j hk hj =
      file_byte k (508 + j) hk (omega arith)
      ∙ checked_end (padded 508 (content_of h records k)) (padded_length 508 (content_of h records k)) j
      ∙ ap (λ (l : List ℕ). get_or (little4 (weighted 1 l)) j 0)
      (sym (front_is (file_of h records) k (content_of h records k) (omega (arith, file_length)) (λ i hi. file_front k i hk hi)))

  pub file_written : Written h records (file_of h records)
  file_written = record { long = file_length; front = file_front; check = file_check }

  pub check_of_lem : (file : List ℕ) → Written h records file → (k : ℕ) → k < blocks_for h.rules → check_of file k ≡ weighted 1 (padded 508 (content_of h records k))
  check_of_lem file w k hk = ap (weighted 1) (front_is file k (content_of h records k) (omega (arith, w.long)) (λ i hi. w.front k i hk hi))

  -- two files with the writer's blocks are one
  module _ (a b : List ℕ) (u : Written h records a) (v : Written h records b) where
    same_byte : (k i : ℕ) → k < blocks_for h.rules → i < 512 → byte_of a k i ≡ byte_of b k i
    same_byte k i hk hi = go (dec_lt i 508)
      where
        go : Dec (i < 508) → byte_of a k i ≡ byte_of b k i
        go (yes l) = u.front k i hk l ∙ sym (v.front k i hk l)
        go (no l) =
            let e : 508 + (i - 508) ≡ i = omega arith in
            subst (λ (x : ℕ). byte_of a k x ≡ byte_of b k x) e
            (u.check k (i - 508) hk (omega arith) ∙ ap (λ (n : ℕ). get_or (little4 n) (i - 508) 0) (check_of_lem a u k hk ∙ sym (check_of_lem b v k hk)) ∙ sym (v.check k (i - 508) hk (omega arith)))

    pub same_file : a ≡ b
    same_file =
        ext_get_or 0 a b (u.long ∙ sym v.long)
        (λ p hp.
        let e : 512 * (p / 512) + p % 512 ≡ p = omega arith in
        subst (λ (x : ℕ). get_or a x 0 ≡ get_or b x 0) e (same_byte (p / 512) (p % 512) (omega (arith, u.long)) (omega arith)))
