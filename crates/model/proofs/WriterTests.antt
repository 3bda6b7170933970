-- The reader's tests of the file that the writer makes: length, checks, block numbers, record counts and the rest of the last block pass, the
-- heading is tested as its block alone, and the rules are refused as the given records are.
-- Assumes nothing.
use Rattle.std.specs.Prelude.{if◌then◌else◌}
use mathlib.Core.Path.{◌≡◌, refl, sym, ap, ap₂, ◌∙◌}
use mathlib.Core.Bool.{Bool, false, ◌&&◌, not}
use mathlib.Core.Option.{Option}
use mathlib.Core.List.{List}
use Prim.Native.Nat.{ℕ, ◌+◌, ◌-◌, ◌*◌, ◌/◌, ◌%◌, ◌<◌, ◌≤◌}
use native.Mathlib.Omega.{arith}
use borrow.Author.Tests.{eq-eqb, le-leb}
use lib.Dec.{T, ltb, eqb}
use lib.ListN.{length, get_or}
use Rattle.model.specs.declared.Refusal.{Refusal}
use Rattle.model.specs.Base.{◌or_else◌, first_from, every}
use Rattle.model.specs.Verdict.{refuse_if, counts}
use Rattle.model.specs.GrammarFile.{within, all_zero, fields, blocks, byte_of, two_bytes, four_bytes, check_of, categories_of, start_of, words_of, rules_of, dimensions_of, dimension_in, blocks_for, records_in, record_of, wrong_category, wrong_word, wrong_variables, unused_set, same_rule, record_refusal, rule_refusal, wrong_length, wrong_check, wrong_block, wrong_heading, wrong_blocks, wrong_count, wrong_rest, grammar_refusal}
use Rattle.model.specs.Writer.{Heading, all_bytes, fits_fields, heading_block, file_of}
use Rattle.model.proofs.Tests.{any_same, first_same, no_first, skip, on_not, or_none}
use Rattle.model.proofs.FileTests.{records_last, RightHeading, right_heading}
use Rattle.model.proofs.ByteLists.{fields_length, fields_at, fields_same, bytes_at, zeros_by}
use Rattle.model.proofs.WriterFile.{Written, file_written, heading_front, heading_length}
use Rattle.model.proofs.WriterFields.{fit_categories, fit_words, fit_rules, written_categories, written_words, written_rules, written_dimensions, written_number, written_kind, written_count, written_record_of, written_rest, written_check}

-- the reader's refusals from the heading's on
abbrev pub from_heading : List ℕ → Option Refusal
from_heading file =
    refuse_if (wrong_heading file) (Refusal.Grammar 4 0)
    or_else refuse_if (wrong_blocks file) (Refusal.Grammar 5 0)
    or_else first_from (λ k. refuse_if (wrong_count file k) (Refusal.Grammar 5 k)) 1 (blocks file - 1)
    or_else first_from (rule_refusal file) 0 (rules_of file)
    or_else refuse_if (wrong_rest file) (Refusal.Grammar 9 (rules_of file))

-- a record's refusals go by the records up to it
pub record_same : (dimensions : List ℕ) (words : ℕ) (f g : ℕ → List ℕ) (i : ℕ) → ((k : ℕ) → k ≤ i → f k ≡ g k)
    → record_refusal dimensions words f i ≡ record_refusal dimensions words g i
record_same dimensions words f g i same =
    let again = any_same (λ j. same_rule (f j) (f i)) (λ j. same_rule (g j) (g i)) i (λ k h. ap₂ same_rule (same k (omega arith)) (same i (omega arith))) in
    ap₂ (λ (e : List ℕ) (b : Bool).
    refuse_if (wrong_category dimensions e) (Refusal.Grammar 6 i)
    or_else refuse_if (wrong_word dimensions e words) (Refusal.Grammar 7 i)
    or_else refuse_if (wrong_variables dimensions e) (Refusal.Grammar 8 i)
    or_else refuse_if (unused_set dimensions e) (Refusal.Grammar 9 i)
    or_else refuse_if b (Refusal.Grammar 10 i))
    (same i (omega arith)) again

-- the heading's tests go by the first 508 bytes
pub heading_same : (a b : List ℕ) → 508 ≤ length a → 508 ≤ length b → categories_of a < 256 → ((i : ℕ) → i < 508 → get_or a i 0 ≡ get_or b i 0) → wrong_heading a ≡ wrong_heading b
heading_same a b la lb few same =
    let c : categories_of a ≡ categories_of b = same 3 (omega arith) in
    let s : start_of a ≡ start_of b = same 4 (omega arith) in
    let w : words_of a ≡ words_of b = ap₂ (λ (x y : ℕ). x + 256 * y) (same 5 (omega arith)) (same 6 (omega arith)) in
    let r : rules_of a ≡ rules_of b = ap₂ (λ (x y : ℕ). x + 256 * y) (same 7 (omega arith)) (same 8 (omega arith)) in
    let d : dimensions_of a ≡ dimensions_of b = part 16 (categories_of a) (omega arith) ∙ ap (λ (n : ℕ). fields b 16 n) c in
    let z : fields a 9 7 ≡ fields b 9 7 = part 9 7 (omega arith) in
    let u : fields a (16 + categories_of a) (508 - (16 + categories_of a)) ≡ fields b (16 + categories_of b) (508 - (16 + categories_of b)) =
    part (16 + categories_of a) (508 - (16 + categories_of a)) (omega arith) ∙ ap (λ (n : ℕ). fields b (16 + n) (508 - (16 + n))) c in
    λ i. not (within 1 64 (c i) && within 1 4096 (w i) && within 1 256 (r i) && every (within 1 4) (d i) && ltb (s i) (c i) && eqb (dimension_in (d i) (s i)) 1 && all_zero (z i) && all_zero (u i))
  where
    part : (i n : ℕ) → i + n ≤ 508 → fields a i n ≡ fields b i n
    part i n h = fields_same a b i i n (omega arith) (omega arith) (λ k hk. same (i + k) (omega arith))

-- what a file with the writer's blocks is refused for
module _ (h : Heading) (records file : List ℕ) (w : Written h records file) (fits : T (fits_fields h)) where
  abbrev given : Option Refusal
  given = first_from (record_refusal (fields h.dimensions 0 h.categories) h.words (λ j. fields records (24 * j) 24)) 0 h.rules

  pub written_heading : wrong_heading file ≡ wrong_heading (heading_block h)
  written_heading =
      heading_same file (heading_block h) (omega (arith, w.long)) (omega (arith, heading_length h))
      (omega (arith, written_categories h records file w, fit_categories h fits))
      (λ i hi. ap (λ (p : ℕ). get_or file p 0) (omega arith) ∙ w.front 0 i (omega arith) hi ∙ sym (heading_front h i hi))

  pub written_blocks : blocks file ≡ blocks_for h.rules
  written_blocks = omega (arith, w.long)

  -- the tests before the heading's
  module _ (bytes : T (all_bytes records)) (few : h.rules ≤ 256) where
    right_length : wrong_length file ≡ false
    right_length =
        ap₂ (λ (a b : Bool). not (a && b)) (eq-eqb (length file % 512) 0 (omega (arith, w.long)))
        (ap₂ ◌&&◌ (le-leb 1 (blocks file) (omega (arith, written_blocks))) (le-leb (blocks file) 14 (omega (arith, written_blocks))))

    right_check : (k : ℕ) → k < blocks file → wrong_check file k ≡ false
    right_check k hk = ap not (eq-eqb (check_of file k) (four_bytes file k 508) (written_check h records file w fits (bytes_at records bytes) k (omega (arith, written_blocks))))

    right_number : (k : ℕ) → k < blocks file → wrong_block file k ≡ false
    right_number k hk =
        let hk' : k < blocks_for h.rules = omega (arith, written_blocks) in
        ap₂ (λ (a b : Bool). not (a && b)) (eq-eqb (two_bytes file k 0) k (written_number h records file w k hk' (omega arith)))
        (eq-eqb (byte_of file k 2) (if eqb k 0 then 1 else 2) (written_kind h records file w k hk'))

    pub past_front : grammar_refusal file ≡ from_heading file
    past_front =
        skip (first_from (λ k. refuse_if (wrong_check file k) (Refusal.Grammar 2 k)) 0 (blocks file) or_else first_from (λ k. refuse_if (wrong_block file k) (Refusal.Grammar 3 k)) 0 (blocks file) or_else from_heading file)
        (ap (λ (b : Bool). refuse_if b (Refusal.Grammar 1 0)) right_length)
        ∙ skip (first_from (λ k. refuse_if (wrong_block file k) (Refusal.Grammar 3 k)) 0 (blocks file) or_else from_heading file) (no_first (wrong_check file) (λ k. Refusal.Grammar 2 k) 0 (blocks file) (λ k lo hi. right_check k (omega arith)))
        ∙ skip (from_heading file) (no_first (wrong_block file) (λ k. Refusal.Grammar 3 k) 0 (blocks file) (λ k lo hi. right_number k (omega arith)))

  -- the tests after the heading's
  module _ (room : length records ≡ 24 * h.rules) (right : wrong_heading (heading_block h) ≡ false) where
    heading : RightHeading file
    heading = right_heading file (written_heading ∙ right)

    rules_are : rules_of file ≡ h.rules
    rules_are = written_rules h records file w (fit_rules h fits)

    right_count : (k : ℕ) → 1 ≤ k → k < blocks file → wrong_count file k ≡ false
    right_count k one hk =
        ap not
        (eq-eqb (byte_of file k 3) (records_in (rules_of file) k)
        (written_count h records file w k (omega (arith, written_blocks)) one ∙ ap (λ (n : ℕ). records_in n k) (sym rules_are)))

    right_rest : wrong_rest file ≡ false
    right_rest = go (blocks file - 1) (byte_of file (blocks file - 1) 3) (omega (arith, written_blocks)) (omega (arith, written_blocks, heading.rules, rules_are)) refl
      where
        go : (k n : ℕ) → k ≡ (h.rules + 20) / 21 → 1 ≤ k → n ≡ byte_of file k 3 → not (all_zero (fields file (512 * k + (4 + 24 * n)) (508 - (4 + 24 * n)))) ≡ false
        go k n last one e =
            let held : n ≡ h.rules - 21 * (k - 1) = e ∙ written_count h records file w k (omega arith) one ∙ records_last h.rules k (omega arith) in
            let long = fields_length file (512 * k + (4 + 24 * n)) (508 - (4 + 24 * n)) (omega (arith, w.long)) in
            on_not (all_zero (fields file (512 * k + (4 + 24 * n)) (508 - (4 + 24 * n))))
            (zeros_by (fields file (512 * k + (4 + 24 * n)) (508 - (4 + 24 * n))) (λ j hj.
            fields_at file (512 * k + (4 + 24 * n)) (508 - (4 + 24 * n)) j (omega (arith, long))
            ∙ ap (λ (p : ℕ). get_or file p 0) (omega arith)
            ∙ written_rest h records file w room k (24 * n + j) (omega arith) one (omega (arith, long)) (omega arith)))

    -- the rules
    module _ (named : length h.dimensions ≡ 64) where
      dimensions_are : dimensions_of file ≡ fields h.dimensions 0 h.categories
      dimensions_are =
          let c = written_categories h records file w in
          ap (λ (n : ℕ). fields file 16 n) c ∙ written_dimensions h records file w named h.categories (omega (arith, heading.categories, c))

      rules_refused : first_from (rule_refusal file) 0 (rules_of file) ≡ given
      rules_refused =
          ap (λ (n : ℕ). first_from (rule_refusal file) 0 n) rules_are
          ∙ first_same (rule_refusal file) (record_refusal (fields h.dimensions 0 h.categories) h.words (λ j. fields records (24 * j) 24)) 0 h.rules
          (λ k lo hi.
          ap₂ (λ (d : List ℕ) (n : ℕ). record_refusal d n (record_of file) k) dimensions_are (written_words h records file w (fit_words h fits))
          ∙ record_same (fields h.dimensions 0 h.categories) h.words (record_of file) (λ j. fields records (24 * j) 24) k
          (λ j hj. written_record_of h records file w room j (omega arith)))

      past_heading : from_heading file ≡ given
      past_heading =
          let counts = first_from (λ k. refuse_if (wrong_count file k) (Refusal.Grammar 5 k)) 1 (blocks file - 1) in
          let rules = first_from (rule_refusal file) 0 (rules_of file) in
          let rest = refuse_if (wrong_rest file) (Refusal.Grammar 9 (rules_of file)) in
          skip (refuse_if (wrong_blocks file) (Refusal.Grammar 5 0) or_else counts or_else rules or_else rest) (ap (λ (b : Bool). refuse_if b (Refusal.Grammar 4 0)) (written_heading ∙ right))
          ∙ skip (counts or_else rules or_else rest) (ap (λ (b : Bool). refuse_if (not b) (Refusal.Grammar 5 0)) (eq-eqb (blocks file) (blocks_for (rules_of file)) (written_blocks ∙ ap blocks_for (sym rules_are))))
          ∙ skip (rules or_else rest) (no_first (wrong_count file) (λ k. Refusal.Grammar 5 k) 1 (blocks file - 1) (λ k lo hi. right_count k lo (omega arith)))
          ∙ ap (λ (b : Bool). rules or_else refuse_if b (Refusal.Grammar 9 (rules_of file))) right_rest
          ∙ or_none rules ∙ rules_refused

-- the file that the writer makes is refused as its records are
pub written_refusal : (h : Heading) (records : List ℕ) → T (fits_fields h) → length h.dimensions ≡ 64 → wrong_heading (heading_block h) ≡ false
    → length records ≡ 24 * h.rules → T (all_bytes records)
    → grammar_refusal (file_of h records) ≡ first_from (record_refusal (fields h.dimensions 0 h.categories) h.words (λ j. fields records (24 * j) 24)) 0 h.rules
written_refusal h records fits named right room bytes =
    let w = file_written h records in
    let few : h.rules ≤ 256 = omega (arith, (heading h records (file_of h records) w fits room right).rules, rules_are h records (file_of h records) w fits room right) in
    past_front h records (file_of h records) w fits bytes few ∙ past_heading h records (file_of h records) w fits room right named
