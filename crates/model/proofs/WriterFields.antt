-- The fields of the file that the writer makes are the numbers that it was given, and each block's check is right.
-- Assumes nothing.
use Rattle.std.specs.Prelude.{if◌then◌else◌}
use mathlib.Core.Path.{◌≡◌, refl, ap, subst, ◌∙◌}
use mathlib.Core.Bool.{Bool, true, ◌&&◌}
use mathlib.Core.List.{List, [], ◌∷◌, ◌++◌}
use Prim.Native.Nat.{ℕ, zero, suc, ◌+◌, ◌-◌, ◌*◌, ◌/◌, ◌%◌, ◌<◌, ◌≤◌}
use native.Mathlib.Omega.{arith}
use native.Mathlib.Decide.{dec_lt}
use lib.Dec.{T, ltb, eqb, ltb→lt, lt→ltb, eqb-suc-zero}
use lib.ListN.{length, get_or, replicate, get_or-replicate, get_or-append, get_or-eq_default}
use Rattle.model.specs.GrammarFile.{fields, byte_of, two_bytes, four_bytes, check_of, categories_of, start_of, words_of, rules_of, blocks_for, records_in, record_place, record_of}
use Rattle.model.specs.Writer.{Heading, all_bytes, fits_fields, little2, padded}
use Rattle.model.proofs.Tests.{and_l, and_r, and_both}
use Rattle.model.proofs.FileTests.{records_few}
use Rattle.model.proofs.ByteLists.{fields_at, fields_same, after_front, padded_length, padded_whole, bytes_at, Bytes, bytes_append, bytes_fields, bytes_little2, bytes_padded, sum_fits, two_back, four_back}
use Rattle.model.proofs.WriterFile.{content_of, Written, check_of_lem}

-- the heading's numbers are as wide as their fields
module _ (h : Heading) (fits : T (fits_fields h)) where
  abbrev f₁ : Bool
  f₁ = ltb h.categories 256

  abbrev f₂ : Bool
  f₂ = ltb h.start 256

  abbrev f₃ : Bool
  f₃ = ltb h.words 65536

  abbrev f₄ : Bool
  f₄ = ltb h.rules 65536

  abbrev f₅ : Bool
  f₅ = all_bytes h.dimensions

  to₄ : T (f₁ && f₂ && f₃ && f₄)
  to₄ = and_l (f₁ && f₂ && f₃ && f₄) f₅ fits

  to₃ : T (f₁ && f₂ && f₃)
  to₃ = and_l (f₁ && f₂ && f₃) f₄ to₄

  pub fit_categories : h.categories < 256
  fit_categories = ltb→lt h.categories 256 (and_l f₁ f₂ (and_l (f₁ && f₂) f₃ to₃))

  pub fit_start : h.start < 256
  fit_start = ltb→lt h.start 256 (and_r f₁ f₂ (and_l (f₁ && f₂) f₃ to₃))

  pub fit_words : h.words < 65536
  fit_words = ltb→lt h.words 65536 (and_r (f₁ && f₂) f₃ to₃)

  pub fit_rules : h.rules < 65536
  fit_rules = ltb→lt h.rules 65536 (and_r (f₁ && f₂ && f₃) f₄ to₄)

  pub fit_dimensions : Bytes h.dimensions
  fit_dimensions = bytes_at h.dimensions (and_r (f₁ && f₂ && f₃ && f₄) f₅ fits)

module _ (h : Heading) (records file : List ℕ) (w : Written h records file) where
  abbrev numbers : List ℕ
  numbers = 0 ∷ 0 ∷ 1 ∷ h.categories ∷ h.start ∷ little2 h.words ++ little2 h.rules

  at : (i : ℕ) → i < 508 → byte_of file 0 i ≡ get_or (content_of h records 0) i 0
  at i hi = w.front 0 i (omega arith) hi

  pub written_categories : categories_of file ≡ h.categories
  written_categories = at 3 (omega arith)

  pub written_start : start_of file ≡ h.start
  written_start = at 4 (omega arith)

  pub written_words : h.words < 65536 → words_of file ≡ h.words
  written_words fit = omega (arith, at 5 (omega arith), at 6 (omega arith), two_back h.words fit)

  pub written_rules : h.rules < 65536 → rules_of file ≡ h.rules
  written_rules fit = omega (arith, at 7 (omega arith), at 8 (omega arith), two_back h.rules fit)

  pub written_gap : (j : ℕ) → j < 7 → get_or file (9 + j) 0 ≡ 0
  written_gap j hj =
      ap (λ (p : ℕ). get_or file p 0) (omega arith) ∙ at (9 + j) (omega arith)
      ∙ get_or-append (numbers ++ replicate 7 0) (padded 64 h.dimensions) 0 (9 + j) (omega arith)
      ∙ after_front numbers (replicate 7 0) 9 (9 + j) j refl refl ∙ get_or-replicate 7 j 0 0 hj

  module _ (named : length h.dimensions ≡ 64) where
    -- from byte 16 on there are the dimensions, and then zeros
    pub written_dimension : (j : ℕ) → j < 492 → get_or file (16 + j) 0 ≡ get_or h.dimensions j 0
    written_dimension j hj =
        ap (λ (p : ℕ). get_or file p 0) (omega arith) ∙ at (16 + j) (omega arith)
        ∙ after_front (numbers ++ replicate 7 0) (padded 64 h.dimensions) 16 (16 + j) j refl refl
        ∙ ap (λ (l : List ℕ). get_or l j 0) (padded_whole 64 h.dimensions named)

    pub written_dimensions : (n : ℕ) → n ≤ 64 → fields file 16 n ≡ fields h.dimensions 0 n
    written_dimensions n hn =
        fields_same file h.dimensions 16 0 n (omega (arith, w.long)) (omega arith)
        (λ k hk. written_dimension k (omega arith) ∙ ap (λ (p : ℕ). get_or h.dimensions p 0) (omega arith))

  -- block numbers, kinds and counts
  pub written_number : (k : ℕ) → k < blocks_for h.rules → k < 65536 → two_bytes file k 0 ≡ k
  written_number zero hk fit = omega (arith, at 0 (omega arith), at 1 (omega arith))
  written_number (suc k) hk fit = omega (arith, w.front (suc k) 0 hk (omega arith), w.front (suc k) 1 hk (omega arith), two_back (suc k) fit)

  pub written_kind : (k : ℕ) → k < blocks_for h.rules → byte_of file k 2 ≡ (if eqb k 0 then 1 else 2)
  written_kind zero hk = at 2 (omega arith)
  written_kind (suc k) hk = rw (eqb-suc-zero k) (w.front (suc k) 2 hk (omega arith))

  pub written_count : (k : ℕ) → k < blocks_for h.rules → 1 ≤ k → byte_of file k 3 ≡ records_in h.rules k
  written_count zero hk one = let z : ⊥ = omega arith in absurd z
  written_count (suc k) hk one = w.front (suc k) 3 hk (omega arith)

  -- the bytes of the records
  pub written_record : (k j : ℕ) → k < blocks_for h.rules → 1 ≤ k → j < 504 → byte_of file k (4 + j) ≡ get_or records (504 * (k - 1) + j) 0
  written_record zero j hk one hj = let z : ⊥ = omega arith in absurd z
  written_record (suc k) j hk one hj =
      w.front (suc k) (4 + j) hk (omega arith)
      ∙ after_front (little2 (suc k) ++ (2 ∷ records_in h.rules (suc k) ∷ [])) (fields records (504 * (suc k - 1)) 504) 4 (4 + j) j refl refl
      ∙ fields_at records (504 * (suc k - 1)) 504 j hj

  pub written_record_of : length records ≡ 24 * h.rules → (i : ℕ) → i < h.rules → record_of file i ≡ fields records (24 * i) 24
  written_record_of e i hi =
      fields_same file records (record_place i) (24 * i) 24 (omega (arith, w.long)) (omega arith)
      (λ j hj.
      ap (λ (p : ℕ). get_or file p 0) (omega arith) ∙ written_record (1 + i / 21) (24 * (i % 21) + j) (omega arith) (omega arith) (omega arith)
      ∙ ap (λ (p : ℕ). get_or records p 0) (omega arith))

  -- past the last record there are zeros
  pub written_rest : length records ≡ 24 * h.rules → (k j : ℕ) → k < blocks_for h.rules → 1 ≤ k → j < 504 → 24 * h.rules ≤ 504 * (k - 1) + j → byte_of file k (4 + j) ≡ 0
  written_rest e k j hk one hj past = written_record k j hk one hj ∙ get_or-eq_default records 0 (omega arith)

  -- the checks
  module _ (fits : T (fits_fields h)) (bytes : Bytes records) where
    content_bytes : (k : ℕ) → Bytes (content_of h records k)
    content_bytes zero =
        let numbers : List ℕ = 0 ∷ 0 ∷ 1 ∷ h.categories ∷ h.start ∷ [] in
        bytes_append (numbers ++ little2 h.words ++ little2 h.rules ++ replicate 7 0) (padded 64 h.dimensions)
        (bytes_append (numbers ++ little2 h.words ++ little2 h.rules) (replicate 7 0)
        (bytes_append (numbers ++ little2 h.words) (little2 h.rules)
        (bytes_append numbers (little2 h.words) (bytes_at numbers (and_both (ltb h.categories 256) (ltb h.start 256 && true) (lt→ltb h.categories 256 (fit_categories h fits)) (and_both (ltb h.start 256) true (lt→ltb h.start 256 (fit_start h fits)) tt))) (bytes_little2 h.words))
        (bytes_little2 h.rules))
        (bytes_at (replicate 7 0) tt))
        (bytes_padded 64 h.dimensions (fit_dimensions h fits))
    content_bytes (suc k) =
        let count = records_in h.rules (suc k) in
        bytes_append (little2 (suc k) ++ (2 ∷ count ∷ [])) (fields records (504 * (suc k - 1)) 504)
        (bytes_append (little2 (suc k)) (2 ∷ count ∷ []) (bytes_little2 (suc k))
        (bytes_at (2 ∷ count ∷ []) (and_both (ltb count 256) true (lt→ltb count 256 (omega (arith, records_few h.rules k))) tt)))
        (bytes_fields records (504 * (suc k - 1)) 504 bytes)

    check_fits : (k : ℕ) → k < blocks_for h.rules → check_of file k < 4294967296
    check_fits k hk =
        omega (
          arith,
          check_of_lem h records file w k hk,
          sum_fits (padded 508 (content_of h records k)) (padded_length 508 (content_of h records k))
              (bytes_padded 508 (content_of h records k) (content_bytes k)),
        )

    pub written_check : (k : ℕ) → k < blocks_for h.rules → check_of file k ≡ four_bytes file k 508
    written_check k hk =
        omega (arith, four_back (check_of file k) (check_fits k hk), w.check k 0 hk (omega arith), w.check k 1 hk (omega arith), w.check k 2 hk (omega arith), w.check k 3 hk (omega arith))

    -- the file is a list of bytes
    pub written_bytes : Bytes file
    written_bytes p = go (dec_lt p (length file)) (dec_lt (p % 512) 508)
      where
        go : Dec (p < length file) → Dec (p % 512 < 508) → get_or file p 0 < 256
        go (yes h) (yes i) =
            let at : 512 * (p / 512) + p % 512 ≡ p = omega arith in
            subst (λ (q : ℕ). get_or file q 0 < 256) at (omega (arith, w.front (p / 512) (p % 512) (omega (arith, w.long)) i, content_bytes (p / 512) (p % 512)))
        go (yes h) (no i) =
            let at : 512 * (p / 512) + (508 + (p % 512 - 508)) ≡ p = omega arith in
            let check = little2 (check_of file (p / 512)) in
            let bytes₄ = bytes_append check (little2 (check_of file (p / 512) / 65536)) (bytes_little2 (check_of file (p / 512))) (bytes_little2 (check_of file (p / 512) / 65536)) in
            subst (λ (q : ℕ). get_or file q 0 < 256) at
            (omega (arith, w.check (p / 512) (p % 512 - 508) (omega (arith, w.long)) (omega arith), bytes₄ (p % 512 - 508)))
        go (no h) i = omega (arith, get_or-eq_default file 0 {n = p} (omega arith))
