-- The writer (document 01, "Survey and writer"): the file of a heading's numbers and the records' bytes, and what the writer refuses.
-- Assumes nothing.
use Rattle.std.specs.Prelude.{ℕ, ◌-◌, ◌*◌, ◌/◌, ◌%◌, Bool, not, ◌&&◌, List, [], ◌∷◌, ◌++◌, ltb, eqb, length, replicate}
use Rattle.std.proofs.Math.Option.{Option}
use Rattle.model.specs.declared.Refusal.{Refusal}
use Rattle.model.specs.Base.{◌or_else◌, each, numbers_from, every}
use Rattle.model.specs.Verdict.{refuse_if}
use Rattle.model.specs.GrammarFile.{fields, weighted, blocks_for, records_in, record_of, categories_of, start_of, words_of, rules_of, wrong_heading, grammar_refusal}

-- "a heading's numbers, each as wide as its field, with the 64 dimension bytes"
pub record Heading : Type 0 where
  pub categories : ℕ
  pub start : ℕ
  pub words : ℕ
  pub rules : ℕ
  pub dimensions : List ℕ

-- every number of the list is a byte
abbrev pub all_bytes : List ℕ → Bool
all_bytes = every (λ b. ltb b 256)

-- "each as wide as its field"
abbrev pub fits_fields : Heading → Bool
fits_fields h = ltb h.categories 256 && ltb h.start 256 && ltb h.words 65536 && ltb h.rules 65536 && all_bytes h.dimensions

-- "numbers are little-endian": a number as 2 bytes, and as 4
abbrev pub little2 : ℕ → List ℕ
little2 n = n % 256 ∷ n / 256 % 256 ∷ []

abbrev pub little4 : ℕ → List ℕ
little4 n = little2 n ++ little2 (n / 65536)

-- "Unused bytes, and fields that a rule of its kind lacks, are 0": the bytes, with 0 up to n bytes
abbrev pub padded : ℕ → List ℕ → List ℕ
padded n bytes = fields (bytes ++ replicate n 0) 0 n

-- "Bytes 508-511: the check": 508 bytes with their check
abbrev pub checked : List ℕ → List ℕ
checked bytes = bytes ++ little4 (weighted 1 bytes)

-- block 0: number 0, kind 1, and the heading's numbers at their places
abbrev pub heading_block : Heading → List ℕ
heading_block h =
    checked
    (padded 508
    (0 ∷ 0 ∷ 1 ∷ h.categories ∷ h.start ∷ little2 h.words ++ little2 h.rules ++ replicate 7 0 ++ padded 64 h.dimensions))

-- rule block k: number k, kind 2, how many records it holds, and those records
abbrev pub rule_block : Heading → List ℕ → ℕ → List ℕ
rule_block h records k =
    checked (padded 508 (little2 k ++ (2 ∷ records_in h.rules k ∷ []) ++ fields records (504 * (k - 1)) 504))

-- "and gives the file"
abbrev pub file_of : Heading → List ℕ → List ℕ
file_of h records = heading_block h ++ each (rule_block h records) (numbers_from 1 (blocks_for h.rules - 1))

-- "It refuses as the reader would refuse that file, with two rules of its own: R above 256 is 4, and record bytes other than 24 times R are 5 at
-- place 0, tested after 4." Dimension bytes other than 64 are no heading: 4.
abbrev pub writer_refusal : Heading → List ℕ → Option Refusal
writer_refusal h records =
    refuse_if (not (eqb (length h.dimensions) 64)) (Refusal.Grammar 4 0)
    or_else refuse_if (ltb 256 h.rules) (Refusal.Grammar 4 0)
    or_else refuse_if (wrong_heading (heading_block h)) (Refusal.Grammar 4 0)
    or_else refuse_if (not (eqb (length records) (24 * h.rules))) (Refusal.Grammar 5 0)
    or_else grammar_refusal (file_of h records)

-- a file, read again: its heading's numbers with the 64 dimension bytes, and its records
abbrev pub heading_of : List ℕ → Heading
heading_of file =
    record {
      categories = categories_of file;
      start = start_of file;
      words = words_of file;
      rules = rules_of file;
      dimensions = fields file 16 64;
    }

abbrev pub records_of : List ℕ → List ℕ
records_of file = each (record_of file) (numbers_from 0 (rules_of file))
