-- The writer refuses as the reader refuses the file that it makes; what it accepts is read back from that file; and it accepts what it read from
-- an accepted file, and gives the same bytes.
-- Assumes nothing.
use mathlib.Core.Path.{◌≡◌, refl, sym, ap, ◌∙◌}
use mathlib.Core.Bool.{Bool, true, false, not}
use mathlib.Core.Option.{Option, none}
use mathlib.Core.List.{List}
use Prim.Native.Nat.{ℕ, ◌+◌, ◌*◌, ◌/◌, ◌%◌, ◌<◌, ◌≤◌}
use native.Mathlib.Omega.{arith}
use borrow.Author.Tests.{eq-eqb, le-ltb}
use lib.Dec.{T, ltb, eqb, eqb→eq}
use lib.ListN.{length, get_or}
use lib.Seq.{take_all, ext_get_or}
use Rattle.model.specs.declared.Refusal.{Refusal}
use Rattle.model.specs.Base.{◌or_else◌, each, numbers_from}
use Rattle.model.specs.Verdict.{refuse_if}
use Rattle.model.specs.GrammarFile.{fields, rules_of, record_of, wrong_heading, grammar_refusal}
use Rattle.model.specs.Writer.{Heading, all_bytes, fits_fields, heading_block, file_of, writer_refusal, heading_of, records_of}
use Rattle.model.proofs.Tests.{no_refusal, first_of, rest_of, not_off, skip, stop}
use Rattle.model.proofs.ByteLists.{fields_length, fields_at, joined_length, joined_at}
use Rattle.model.proofs.FileTests.{passed}
use Rattle.model.proofs.WriterFile.{Written, file_written}
use Rattle.model.proofs.WriterFields.{fit_words, fit_rules, written_categories, written_start, written_words, written_rules, written_dimensions, written_record_of}
use Rattle.model.proofs.WriterTests.{written_heading, past_front}
use Rattle.model.proofs.WriterAgain.{records_long, records_bytes, numbers_fit, file_again}

-- the heading and the records of a file with the writer's blocks
module _ (h : Heading) (records file : List ℕ) (w : Written h records file) where
  heading_back : T (fits_fields h) → length h.dimensions ≡ 64 → heading_of file ≡ h
  heading_back fits named =
      let c = written_categories h records file w in
      let s = written_start h records file w in
      let n = written_words h records file w (fit_words h fits) in
      let r = written_rules h records file w (fit_rules h fits) in
      let d : fields file 16 64 ≡ h.dimensions = written_dimensions h records file w named 64 (omega arith) ∙ take_all 64 h.dimensions (omega arith) in
      λ i. record { categories = c i; start = s i; words = n i; rules = r i; dimensions = d i }

  records_back : h.rules < 65536 → length records ≡ 24 * h.rules → records_of file ≡ records
  records_back fit room =
      let e = written_rules h records file w fit in
      ap (λ (n : ℕ). each (record_of file) (numbers_from 0 n)) e
      ∙ ext_get_or 0 (each (record_of file) (numbers_from 0 h.rules)) records (long ∙ sym room)
      (λ q hq.
      let whole : q ≡ 24 * (q / 24) + q % 24 = omega arith in
      let from : 0 + q / 24 ≡ q / 24 = omega arith in
      ap (λ (x : ℕ). get_or (each (record_of file) (numbers_from 0 h.rules)) x 0) whole
      ∙ joined_at (record_of file) 24 0 h.rules (λ k lo hi. each_long k (omega arith)) (q / 24) (q % 24) (omega (arith, long)) (omega arith)
      ∙ ap (λ (l : List ℕ). get_or l (q % 24) 0) (ap (record_of file) from ∙ written_record_of h records file w room (q / 24) (omega (arith, long)))
      ∙ fields_at records (24 * (q / 24)) 24 (q % 24) (omega arith) ∙ ap (λ (x : ℕ). get_or records x 0) (sym whole))
    where
      each_long : (k : ℕ) → k < h.rules → length (record_of file k) ≡ 24
      each_long k hk = ap length (written_record_of h records file w room k hk) ∙ fields_length records (24 * k) 24 (omega arith)

      long : length (each (record_of file) (numbers_from 0 h.rules)) ≡ 24 * h.rules
      long = joined_length (record_of file) 24 0 h.rules (λ k lo hi. each_long k (omega arith))

module _ (h : Heading) (records : List ℕ) where
  -- the writer's own tests
  abbrev w₁ : Option Refusal
  w₁ = refuse_if (not (eqb (length h.dimensions) 64)) (Refusal.Grammar 4 0)

  abbrev w₂ : Option Refusal
  w₂ = refuse_if (ltb 256 h.rules) (Refusal.Grammar 4 0)

  abbrev w₃ : Option Refusal
  w₃ = refuse_if (wrong_heading (heading_block h)) (Refusal.Grammar 4 0)

  abbrev w₄ : Option Refusal
  w₄ = refuse_if (not (eqb (length records) (24 * h.rules))) (Refusal.Grammar 5 0)

  abbrev w₅ : Option Refusal
  w₅ = grammar_refusal (file_of h records)

  from_heading : length h.dimensions ≡ 64 → h.rules ≤ 256 → writer_refusal h records ≡ w₃ or_else w₄ or_else w₅
  from_heading named few =
      skip (w₂ or_else w₃ or_else w₄ or_else w₅) (ap (λ (b : Bool). refuse_if (not b) (Refusal.Grammar 4 0)) (eq-eqb (length h.dimensions) 64 named))
      ∙ skip (w₃ or_else w₄ or_else w₅) (ap (λ (b : Bool). refuse_if b (Refusal.Grammar 4 0)) (le-ltb 256 h.rules few))

  from_reader : length records ≡ 24 * h.rules → wrong_heading (heading_block h) ≡ false → w₃ or_else w₄ or_else w₅ ≡ w₅
  from_reader room right =
      skip (w₄ or_else w₅) (ap (λ (b : Bool). refuse_if b (Refusal.Grammar 4 0)) right)
      ∙ skip w₅ (ap (λ (b : Bool). refuse_if (not b) (Refusal.Grammar 5 0)) (eq-eqb (length records) (24 * h.rules) room))

  -- where its own two rules do not refuse, the writer refuses as the reader does
  pub refuses_as_reader : T (fits_fields h) → length h.dimensions ≡ 64 → T (all_bytes records) → h.rules ≤ 256 → length records ≡ 24 * h.rules
      → writer_refusal h records ≡ grammar_refusal (file_of h records)
  refuses_as_reader fits named bytes few room = from_heading named few ∙ go (wrong_heading (heading_block h)) refl
    where
      go : (b : Bool) → wrong_heading (heading_block h) ≡ b → w₃ or_else w₄ or_else w₅ ≡ w₅
      go false e = from_reader room e
      go true e =
          stop (wrong_heading (heading_block h)) (Refusal.Grammar 4 0) (w₄ or_else w₅) e
          ∙ sym (past_front h records (file_of h records) (file_written h records) fits bytes few
          ∙ stop (wrong_heading (file_of h records)) (Refusal.Grammar 4 0) _ (written_heading h records (file_of h records) (file_written h records) fits ∙ e))

  -- what the writer accepts is read back
  pub read_back : T (fits_fields h) → writer_refusal h records ≡ none
      → (heading_of (file_of h records) ≡ h) × (records_of (file_of h records) ≡ records) × (grammar_refusal (file_of h records) ≡ none)
  read_back fits accepted =
      let r₂ = rest_of w₁ (w₂ or_else w₃ or_else w₄ or_else w₅) accepted in
      let r₄ = rest_of w₃ (w₄ or_else w₅) (rest_of w₂ (w₃ or_else w₄ or_else w₅) r₂) in
      let named = eqb→eq (length h.dimensions) 64 (not_off (eqb (length h.dimensions) 64) (no_refusal (not (eqb (length h.dimensions) 64)) (Refusal.Grammar 4 0) (first_of w₁ (w₂ or_else w₃ or_else w₄ or_else w₅) accepted))) in
      let room = eqb→eq (length records) (24 * h.rules) (not_off (eqb (length records) (24 * h.rules)) (no_refusal (not (eqb (length records) (24 * h.rules))) (Refusal.Grammar 5 0) (first_of w₄ w₅ r₄))) in
      let file = file_of h records in
      let w = file_written h records in
      (heading_back h records file w fits named, records_back h records file w (fit_rules h fits) room, rest_of w₄ w₅ r₄)

-- a file that the reader accepts, read and written again, is the same bytes, and the writer accepts what was read
pub written_again : (file : List ℕ) → T (all_bytes file) → grammar_refusal file ≡ none
    → (file_of (heading_of file) (records_of file) ≡ file) × (writer_refusal (heading_of file) (records_of file) ≡ none)
written_again file bytes accepted =
    let p = passed file accepted in
    let again = file_again file bytes p in
    let few : rules_of file ≤ 256 = p.heading.rules.1 in (
      again,
      refuses_as_reader (heading_of file) (records_of file) (numbers_fit file bytes p) (fields_length file 16 64 (omega (arith, p.long)))
          (records_bytes file bytes p) few (records_long file bytes p)
          ∙ ap grammar_refusal again ∙ accepted,
    )
