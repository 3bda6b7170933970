-- The heading that the writer makes is refused by tests of the given numbers alone, and the writer refuses by these and by the given records.
-- Assumes nothing.
use mathlib.Core.Path.{◌≡◌, refl, sym, ap, ap₂, ◌∙◌}
use mathlib.Core.Bool.{Bool, true, false, ◌&&◌, not}
use mathlib.Core.List.{List, []}
use Prim.Native.Nat.{ℕ, ◌+◌, ◌-◌, ◌*◌, ◌<◌, ◌≤◌}
use native.Mathlib.Omega.{arith}
use native.Mathlib.Decide.{dec_lt}
use borrow.Author.Tests.{le-leb, lt-leb}
use lib.Dec.{T, ltb, eqb, eqb→eq}
use lib.ListN.{length, get_or, get_or-eq_default}
use Rattle.model.specs.declared.Refusal.{Refusal}
use Rattle.model.specs.Base.{◌or_else◌, first_from, every}
use Rattle.model.specs.Verdict.{refuse_if}
use Rattle.model.specs.GrammarFile.{within, all_zero, fields, categories_of, start_of, words_of, rules_of, dimensions_of, dimension_in, record_refusal, wrong_heading}
use Rattle.model.specs.Writer.{Heading, all_bytes, fits_fields, heading_block, file_of, writer_refusal}
use Rattle.model.proofs.Tests.{not_off, after, same_test}
use Rattle.model.proofs.ByteLists.{fields_length, fields_at, zeros_by, zeros_at}
use Rattle.model.proofs.WriterFile.{Written, file_written}
use Rattle.model.proofs.WriterFields.{fit_words, fit_rules, written_categories, written_start, written_words, written_rules, written_gap, written_dimension, written_dimensions}
use Rattle.model.proofs.WriterTests.{written_heading, written_refusal}

-- refusal 4 of a heading's numbers with 64 dimension bytes
abbrev pub wrong_numbers : Heading → Bool
wrong_numbers h =
    not
    (within 1 64 h.categories && within 1 4096 h.words && within 1 256 h.rules
    && every (within 1 4) (fields h.dimensions 0 h.categories) && ltb h.start h.categories
    && eqb (dimension_in (fields h.dimensions 0 h.categories) h.start) 1
    && all_zero (fields h.dimensions h.categories (64 - h.categories)))

and_true : (b : Bool) → b && true ≡ b
and_true true = refl
and_true false = refl

-- eight tests of which the first fails
first_off : (a b c d e f g u : Bool) → a ≡ false → not (a && b && c && d && e && f && g && u) ≡ true
first_off a b c d e f g u off = ap (λ (x : Bool). not (x && b && c && d && e && f && g && u)) off

module _ (h : Heading) (file : List ℕ) (w : Written h [] file) (fits : T (fits_fields h)) (named : length h.dimensions ≡ 64) where
  c : categories_of file ≡ h.categories
  c = written_categories h [] file w

  gap : all_zero (fields file 9 7) ≡ true
  gap =
      same_test (all_zero (fields file 9 7)) true (λ t. tt)
      (λ t.
      zeros_by (fields file 9 7) (λ j hj.
      let hj' : j < 7 = omega (arith, fields_length file 9 7 (omega (arith, w.long))) in
      fields_at file 9 7 j hj' ∙ written_gap h [] file w j hj'))

  -- the bytes after the dimensions of the k categories
  tail_byte : (k j : ℕ) → 16 + k + j < 508 → get_or file (16 + k + j) 0 ≡ get_or h.dimensions (k + j) 0
  tail_byte k j hj = ap (λ (p : ℕ). get_or file p 0) (omega arith) ∙ written_dimension h [] file w named (k + j) (omega arith)

  no_more : (k j : ℕ) → T (all_zero (fields h.dimensions k (64 - k))) → get_or h.dimensions (k + j) 0 ≡ 0
  no_more k j t = go (dec_lt j (64 - k))
    where
      go : Dec (j < 64 - k) → get_or h.dimensions (k + j) 0 ≡ 0
      go (yes l) = sym (fields_at h.dimensions k (64 - k) j l) ∙ zeros_at (fields h.dimensions k (64 - k)) t j
      go (no l) = get_or-eq_default h.dimensions 0 (omega arith)

  rest_same : (k : ℕ) → k ≤ 64 → all_zero (fields file (16 + k) (508 - (16 + k))) ≡ all_zero (fields h.dimensions k (64 - k))
  rest_same k few =
      let in-file = fields file (16 + k) (508 - (16 + k)) in
      let in-heading = fields h.dimensions k (64 - k) in
      let long = fields_length file (16 + k) (508 - (16 + k)) (omega (arith, w.long)) in
      same_test (all_zero in-file) (all_zero in-heading)
      (λ t.
      zeros_by in-heading (λ j hj.
      let hj' : j < 64 - k = omega (arith, fields_length h.dimensions k (64 - k) (omega arith)) in
      fields_at h.dimensions k (64 - k) j hj' ∙ sym (tail_byte k j (omega arith)) ∙ sym (fields_at file (16 + k) (508 - (16 + k)) j (omega arith)) ∙ zeros_at in-file t j))
      (λ t.
      zeros_by in-file (λ j hj.
      fields_at file (16 + k) (508 - (16 + k)) j (omega (arith, long)) ∙ tail_byte k j (omega (arith, long)) ∙ no_more k j t))

  -- with at most 64 categories the tests agree one by one; with more the first test fails
  few_same : h.categories ≤ 64 → wrong_heading file ≡ wrong_numbers h
  few_same few =
      let s : start_of file ≡ h.start = written_start h [] file w in
      let n : words_of file ≡ h.words = written_words h [] file w (fit_words h fits) in
      let r : rules_of file ≡ h.rules = written_rules h [] file w (fit_rules h fits) in
      let d : dimensions_of file ≡ fields h.dimensions 0 h.categories = ap (λ (k : ℕ). fields file 16 k) c ∙ written_dimensions h [] file w named h.categories few in
      let u = ap (λ (k : ℕ). all_zero (fields file (16 + k) (508 - (16 + k)))) c ∙ rest_same h.categories few in
      let numbers = within 1 64 h.categories && within 1 4096 h.words && within 1 256 h.rules
      && every (within 1 4) (fields h.dimensions 0 h.categories) && ltb h.start h.categories && eqb (dimension_in (fields h.dimensions 0 h.categories) h.start) 1 in
      let same : wrong_heading file ≡ not (numbers && true && all_zero (fields h.dimensions h.categories (64 - h.categories))) =
      λ i. not (within 1 64 (c i) && within 1 4096 (n i) && within 1 256 (r i) && every (within 1 4) (d i) && ltb (s i) (c i) && eqb (dimension_in (d i) (s i)) 1 && gap i && u i) in
      same ∙ ap (λ (b : Bool). not (b && all_zero (fields h.dimensions h.categories (64 - h.categories)))) (and_true numbers)

  many_same : 64 < h.categories → wrong_heading file ≡ wrong_numbers h
  many_same many =
      let off : within 1 64 h.categories ≡ false = ap₂ ◌&&◌ (le-leb 1 h.categories (omega arith)) (lt-leb h.categories 64 many) in
      first_off (within 1 64 (categories_of file)) (within 1 4096 (words_of file)) (within 1 256 (rules_of file)) (every (within 1 4) (dimensions_of file)) (ltb (start_of file) (categories_of file))
      (eqb (dimension_in (dimensions_of file) (start_of file)) 1) (all_zero (fields file 9 7)) (all_zero (fields file (16 + categories_of file) (508 - (16 + categories_of file)))) (ap (within 1 64) c ∙ off)
      ∙ sym (ap not (ap (λ (b : Bool). b && within 1 4096 h.words && within 1 256 h.rules
      && every (within 1 4) (fields h.dimensions 0 h.categories) && ltb h.start h.categories
      && eqb (dimension_in (fields h.dimensions 0 h.categories) h.start) 1
      && all_zero (fields h.dimensions h.categories (64 - h.categories))) off))

-- the heading that the writer makes is refused by its numbers
pub heading_by_numbers : (h : Heading) → T (fits_fields h) → length h.dimensions ≡ 64 → wrong_heading (heading_block h) ≡ wrong_numbers h
heading_by_numbers h fits named = sym (written_heading h [] (file_of h []) (file_written h []) fits) ∙ go (dec_lt 64 h.categories)
  where
    go : Dec (64 < h.categories) → wrong_heading (file_of h []) ≡ wrong_numbers h
    go (yes many) = many_same h (file_of h []) (file_written h []) fits named many
    go (no few) = few_same h (file_of h []) (file_written h []) fits named (omega arith)

-- the writer refuses by the numbers, and then by the records
pub writer_refusal_lem : (h : Heading) (records : List ℕ) → T (fits_fields h) → T (all_bytes records)
    → writer_refusal h records
    ≡ (refuse_if (not (eqb (length h.dimensions) 64)) (Refusal.Grammar 4 0)
    or_else refuse_if (ltb 256 h.rules) (Refusal.Grammar 4 0)
    or_else refuse_if (wrong_numbers h) (Refusal.Grammar 4 0)
    or_else refuse_if (not (eqb (length records) (24 * h.rules))) (Refusal.Grammar 5 0)
    or_else first_from (record_refusal (fields h.dimensions 0 h.categories) h.words (λ j. fields records (24 * j) 24)) 0 h.rules)
writer_refusal_lem h records fits bytes =
    after (not (eqb (length h.dimensions) 64)) (Refusal.Grammar 4 0) (λ e₁.
    let named = eqb→eq (length h.dimensions) 64 (not_off (eqb (length h.dimensions) 64) e₁) in
    after (ltb 256 h.rules) (Refusal.Grammar 4 0) (λ e₂.
    after (wrong_heading (heading_block h)) (Refusal.Grammar 4 0) (λ e₃.
    after (not (eqb (length records) (24 * h.rules))) (Refusal.Grammar 5 0) (λ e₄.
    written_refusal h records fits named e₃ (eqb→eq (length records) (24 * h.rules) (not_off (eqb (length records) (24 * h.rules)) e₄)) bytes))
    ∙ ap (λ (b : Bool). refuse_if b (Refusal.Grammar 4 0)
    or_else refuse_if (not (eqb (length records) (24 * h.rules))) (Refusal.Grammar 5 0)
    or_else first_from (record_refusal (fields h.dimensions 0 h.categories) h.words (λ j. fields records (24 * j) 24)) 0 h.rules)
    (heading_by_numbers h fits named)))
