-- A file that the reader accepts, read and written again, is the same bytes.
-- Assumes nothing.
use mathlib.Core.Path.{◌≡◌, refl, sym, ap, subst, ◌∙◌}
use mathlib.Core.Bool.{◌&&◌}
use mathlib.Core.List.{List, [], ◌∷◌, ◌++◌}
use Prim.Native.Nat.{ℕ, zero, suc, ◌+◌, ◌-◌, ◌*◌, ◌/◌, ◌%◌, ◌<◌}
use native.Mathlib.Omega.{arith}
use native.Mathlib.Decide.{dec_lt}
use lib.Dec.{T, ltb, lt→ltb, eqb-suc-zero}
use lib.ListN.{length, get_or, replicate, get_or-replicate, get_or-append, get_or-eq_default}
use Rattle.model.specs.GrammarFile.{fields, byte_of, check_of, categories_of, start_of, words_of, rules_of, blocks_for, records_in, record_place, record_of}
use Rattle.model.specs.Writer.{all_bytes, fits_fields, little2, little4, padded, file_of, heading_of, records_of}
use Rattle.model.proofs.Tests.{and_both, every_by}
use Rattle.model.proofs.ByteLists.{fields_at, after_front, padded_length, padded_at, joined_length, joined_at, zeros_at, bytes_at, bytes_fields, two_again, four_again}
use Rattle.model.proofs.FileTests.{Passed, record_long}
use Rattle.model.proofs.WriterFile.{content_of, file_written, same_file}

module _ (file : List ℕ) (bytes : T (all_bytes file)) (p : Passed file) where
  byte : (k i : ℕ) → byte_of file k i < 256
  byte k i = bytes_at file bytes (512 * k + i)

  -- the records that are read
  pub records_long : length (records_of file) ≡ 24 * rules_of file
  records_long = joined_length (record_of file) 24 0 (rules_of file) (λ k lo hi. record_long file p.long k (omega arith))

  record_byte_lem : (k j : ℕ) → j < 504 → 504 * k + j < 24 * rules_of file → get_or (records_of file) (504 * k + j) 0 ≡ byte_of file (suc k) (4 + j)
  record_byte_lem k j hj h =
      let i = (504 * k + j) / 24 in
      let from : 0 + i ≡ i = omega arith in
      ap (λ (q : ℕ). get_or (records_of file) q 0) (omega arith)
      ∙ joined_at (record_of file) 24 0 (rules_of file) (λ k lo hi. record_long file p.long k (omega arith)) i ((504 * k + j) % 24) (omega arith) (omega arith)
      ∙ ap (λ (q : ℕ). get_or (record_of file q) ((504 * k + j) % 24) 0) from
      ∙ fields_at file (record_place i) 24 ((504 * k + j) % 24) (omega arith)
      ∙ ap (λ (q : ℕ). get_or file q 0) (omega arith)

  -- they are bytes, and the numbers that are read fit their fields
  pub records_bytes : T (all_bytes (records_of file))
  records_bytes =
      every_by (λ b. ltb b 256) (records_of file)
      (λ q hq.
      let whole : 504 * (q / 504) + q % 504 ≡ q = omega arith in
      lt→ltb (get_or (records_of file) q 0) 256
      (subst (λ (x : ℕ). get_or (records_of file) x 0 < 256) whole
      (omega (arith, record_byte_lem (q / 504) (q % 504) (omega arith) (omega (arith, records_long)), byte (suc (q / 504)) (4 + q % 504)))))

  pub numbers_fit : T (fits_fields (heading_of file))
  numbers_fit =
      let c = ltb (categories_of file) 256 in
      let s = ltb (start_of file) 256 in
      let w = ltb (words_of file) 65536 in
      let r = ltb (rules_of file) 65536 in
      and_both (c && s && w && r) (all_bytes (fields file 16 64))
      (and_both (c && s && w) r
      (and_both (c && s) w (and_both c s (lt→ltb (categories_of file) 256 (byte 0 3)) (lt→ltb (start_of file) 256 (byte 0 4)))
      (lt→ltb (words_of file) 65536 (omega (arith, byte 0 5, byte 0 6))))
      (lt→ltb (rules_of file) 65536 (omega (arith, byte 0 7, byte 0 8))))
      (every_by (λ b. ltb b 256) (fields file 16 64) (λ k hk. lt→ltb (get_or (fields file 16 64) k 0) 256 (bytes_fields file 16 64 (bytes_at file bytes) k)))

  -- what stands in the heading's block
  abbrev numbers : List ℕ
  numbers = 0 ∷ 0 ∷ 1 ∷ categories_of file ∷ start_of file ∷ little2 (words_of file) ++ little2 (rules_of file)

  low : (i : ℕ) → i < 9 → get_or file i 0 ≡ get_or numbers i 0
  low zero h = omega (arith, p.number 0 (omega arith))
  low (suc zero) h = omega (arith, p.number 0 (omega arith))
  low (suc (suc zero)) h = p.kind 0 (omega arith)
  low (suc (suc (suc zero))) h = refl
  low (suc (suc (suc (suc zero)))) h = refl
  low (suc (suc (suc (suc (suc zero))))) h = sym (two_again (byte_of file 0 5) (byte_of file 0 6) (words_of file) (byte 0 5) (byte 0 6) refl).0
  low (suc (suc (suc (suc (suc (suc zero)))))) h = sym (two_again (byte_of file 0 5) (byte_of file 0 6) (words_of file) (byte 0 5) (byte 0 6) refl).1
  low (suc (suc (suc (suc (suc (suc (suc zero))))))) h = sym (two_again (byte_of file 0 7) (byte_of file 0 8) (rules_of file) (byte 0 7) (byte 0 8) refl).0
  low (suc (suc (suc (suc (suc (suc (suc (suc zero)))))))) h = sym (two_again (byte_of file 0 7) (byte_of file 0 8) (rules_of file) (byte 0 7) (byte 0 8) refl).1
  low (suc (suc (suc (suc (suc (suc (suc (suc (suc i))))))))) h = let z : ⊥ = omega arith in absurd z

  unused : (j : ℕ) → j < 7 → get_or file (9 + j) 0 ≡ get_or (replicate 7 0) j 0
  unused j h =
      sym (fields_at file 9 7 j h) ∙ zeros_at (fields file 9 7) p.heading.unused j ∙ sym (get_or-replicate 7 j 0 0 h)

  below_sixteen : (i : ℕ) → i < 16 → get_or file i 0 ≡ get_or (numbers ++ replicate 7 0) i 0
  below_sixteen i h = go (dec_lt i 9)
    where
      go : Dec (i < 9) → get_or file i 0 ≡ get_or (numbers ++ replicate 7 0) i 0
      go (yes l) = low i l ∙ sym (get_or-append numbers (replicate 7 0) 0 i l)
      go (no l) =
          ap (λ (q : ℕ). get_or file q 0) (omega arith) ∙ unused (i - 9) (omega arith)
          ∙ sym (after_front numbers (replicate 7 0) 9 i (i - 9) refl (omega arith))

  from_sixteen : (j : ℕ) → 16 + j < 508 → get_or file (16 + j) 0 ≡ get_or (padded 64 (fields file 16 64)) j 0
  from_sixteen j h = go (dec_lt j 64)
    where
      go : Dec (j < 64) → get_or file (16 + j) 0 ≡ get_or (padded 64 (fields file 16 64)) j 0
      go (yes l) = sym (padded_at 64 (fields file 16 64) j l ∙ fields_at file 16 64 j l)
      go (no l) =
          let c = categories_of file in
          ap (λ (q : ℕ). get_or file q 0) (omega (arith, p.heading.categories))
          ∙ sym (fields_at file (16 + c) (508 - (16 + c)) (j - c) (omega (arith, p.heading.categories)))
          ∙ zeros_at (fields file (16 + c) (508 - (16 + c))) p.heading.rest (j - c)
          ∙ sym (get_or-eq_default (padded 64 (fields file 16 64)) 0 (omega (arith, padded_length 64 (fields file 16 64))))

  heading_byte : (i : ℕ) → i < 508 → get_or file i 0 ≡ get_or (numbers ++ replicate 7 0 ++ padded 64 (fields file 16 64)) i 0
  heading_byte i h = go (dec_lt i 16)
    where
      go : Dec (i < 16) → get_or file i 0 ≡ get_or (numbers ++ replicate 7 0 ++ padded 64 (fields file 16 64)) i 0
      go (yes l) = below_sixteen i l ∙ sym (get_or-append (numbers ++ replicate 7 0) (padded 64 (fields file 16 64)) 0 i l)
      go (no l) =
          ap (λ (q : ℕ). get_or file q 0) (omega arith) ∙ from_sixteen (i - 16) (omega arith)
          ∙ sym (after_front (numbers ++ replicate 7 0) (padded 64 (fields file 16 64)) 16 i (i - 16) refl (omega arith))

  -- what stands in a rule block
  abbrev labels : ℕ → List ℕ
  labels k = little2 (suc k) ++ (2 ∷ records_in (rules_of file) (suc k) ∷ [])

  rule_low : (k i : ℕ) → suc k < blocks_for (rules_of file) → i < 4 → byte_of file (suc k) i ≡ get_or (labels k) i 0
  rule_low k zero hk h = sym (two_again (byte_of file (suc k) 0) (byte_of file (suc k) 1) (suc k) (byte (suc k) 0) (byte (suc k) 1) (p.number (suc k) hk)).0
  rule_low k (suc zero) hk h = sym (two_again (byte_of file (suc k) 0) (byte_of file (suc k) 1) (suc k) (byte (suc k) 0) (byte (suc k) 1) (p.number (suc k) hk)).1
  rule_low k (suc (suc zero)) hk h = rw (eqb-suc-zero k) at (p.kind (suc k) hk)
  rule_low k (suc (suc (suc zero))) hk h = p.count (suc k) (omega arith) hk
  rule_low k (suc (suc (suc (suc i)))) hk h = let z : ⊥ = omega arith in absurd z

  rule_record : (k j : ℕ) → suc k < blocks_for (rules_of file) → j < 504 → byte_of file (suc k) (4 + j) ≡ get_or (fields (records_of file) (504 * (suc k - 1)) 504) j 0
  rule_record k j hk hj =
      let e : 504 * (suc k - 1) + j ≡ 504 * k + j = omega arith in
      go (dec_lt (504 * k + j) (24 * rules_of file)) ∙ sym (fields_at (records_of file) (504 * (suc k - 1)) 504 j hj ∙ ap (λ (q : ℕ). get_or (records_of file) q 0) e)
    where
      go : Dec (504 * k + j < 24 * rules_of file) → byte_of file (suc k) (4 + j) ≡ get_or (records_of file) (504 * k + j) 0
      go (yes l) = sym (record_byte_lem k j hj l)
      go (no l) = p.rest (suc k) j (omega arith) hk hj (omega arith) ∙ sym (get_or-eq_default (records_of file) 0 (omega (arith, records_long)))

  rule_byte : (k i : ℕ) → suc k < blocks_for (rules_of file) → i < 508 → byte_of file (suc k) i ≡ get_or (content_of (heading_of file) (records_of file) (suc k)) i 0
  rule_byte k i hk hi = go (dec_lt i 4)
    where
      go : Dec (i < 4) → byte_of file (suc k) i ≡ get_or (content_of (heading_of file) (records_of file) (suc k)) i 0
      go (yes l) = rule_low k i hk l ∙ sym (get_or-append (labels k) (fields (records_of file) (504 * (suc k - 1)) 504) 0 i l)
      go (no l) =
          ap (λ (q : ℕ). byte_of file (suc k) q) (omega arith) ∙ rule_record k (i - 4) hk (omega arith)
          ∙ sym (after_front (labels k) (fields (records_of file) (504 * (suc k - 1)) 504) 4 i (i - 4) refl (omega arith))

  block_byte : (k i : ℕ) → k < blocks_for (rules_of file) → i < 508 → byte_of file k i ≡ get_or (content_of (heading_of file) (records_of file) k) i 0
  block_byte zero i hk hi = ap (λ (q : ℕ). get_or file q 0) (omega arith) ∙ heading_byte i hi
  block_byte (suc k) i hk hi = rule_byte k i hk hi

  -- the check's bytes
  check_byte : (k j : ℕ) → k < blocks_for (rules_of file) → j < 4 → byte_of file k (508 + j) ≡ get_or (little4 (check_of file k)) j 0
  check_byte k j hk hj =
      picked j hj
      ∙ ap (λ (l : List ℕ). get_or l j 0)
      (sym (four_again (byte_of file k 508) (byte_of file k 509) (byte_of file k 510) (byte_of file k 511) (check_of file k) (byte k 508) (byte k 509) (byte k 510) (byte k 511) (p.check k hk)))
    where
      picked : (j : ℕ) → j < 4 → byte_of file k (508 + j) ≡ get_or (byte_of file k 508 ∷ byte_of file k 509 ∷ byte_of file k 510 ∷ byte_of file k 511 ∷ []) j 0
      picked zero h = refl
      picked (suc zero) h = refl
      picked (suc (suc zero)) h = refl
      picked (suc (suc (suc zero))) h = refl
      picked (suc (suc (suc (suc j)))) h = let z : ⊥ = omega arith in absurd z

  pub file_again : file_of (heading_of file) (records_of file) ≡ file
  file_again =
      same_file (heading_of file) (records_of file) (file_of (heading_of file) (records_of file)) file (file_written (heading_of file) (records_of file))
      (record { long = p.long; front = block_byte; check = check_byte })
