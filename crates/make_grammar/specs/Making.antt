-- What the parts of the call that makes a grammar do, whatever forms the table holds.
-- Assumes nothing.
use Rattle.std.specs.Prelude.{◌≡◌, true, false, List, ◌∷◌, ◌++◌, map, ℕ, suc, ◌*◌, ◌≤◌, ltb, eqb, length, take, drop, if◌then◌else◌, Option, Some, None, Ok, Err}
use Rattle.model.specs.declared.Refusal.{Refusal}
use Rattle.model.specs.Base.{each}
use Rattle.model.specs.GrammarFile.{blocks_for}
use Rattle.model.specs.Writer.{Heading, padded, file_of}
use Rattle.grammar_to_file.specs.FileFor.{record_for}
use Rattle.minimalist.specs.Once.{Once}
use Rattle.minimalist.specs.Lexicon.{Entry, lexicon_of}
use Rattle.minimalist.specs.Schemes.{Form, form_dimension}
use Rattle.minimalist.specs.Closure.{start_rules, made_rules}
use Rattle.minimalist.specs.Numbering.{numbered_rule}
use Rattle.derivable.specs.Tables.{Holds}
use Rattle.made_records.specs.declared.Records.{Records}
use Rattle.made_records.specs.Records.{told}
use Rattle.model.specs.Verdict.{Verdict}

-- how many rules are told: none where the new start has none, or where there are more than 256
abbrev pub told_rules : ℕ → ℕ → Option ℕ
told_rules starts rules = if eqb starts 0 then None else told rules

abbrev pub told_of : Option Records → Option ℕ
told_of None = None
told_of (Some records) = records.count

-- the records, where their number is told
abbrev pub told_with : Option ℕ → Records → Option Records
told_with None records = None
told_with (Some n) records = Some (record { bytes = records.bytes; count = Some n })

-- the records of the rules made from a lexicon and its forms
pub record RulesPut (lexicon : List Entry) (start : ℕ) (forms : List Form) (r : Option Records) : Type 0 where
  pub counted : told_of r ≡ told_rules (length (start_rules start forms)) (length (made_rules lexicon start forms))
  pub are : (records : Records) → r ≡ Some records → length (made_rules lexicon start forms) ≤ 256
      → take (24 * length (made_rules lexicon start forms)) records.bytes ≡ each record_for (map (numbered_rule forms) (made_rules lexicon start forms))

pub record PutsRules (rows : List (List ℕ)) (bytes : List ℕ) (start : ℕ) (r : Option Records) : Type 0 where
  pub puts : (forms : List Form) → Holds rows (length rows) forms → Once forms → RulesPut (lexicon_of bytes) start forms r

-- the heading of a made grammar
abbrev pub made_heading : ℕ → ℕ → List Form → Heading
made_heading words rules forms =
    record { categories = suc (length forms); start = 0; words = words; rules = rules; dimensions = padded 64 (1 ∷ map form_dimension forms) }

-- a file of n bytes was written, if there was room
pub record Written (n : ℕ) (file out : List ℕ) (answer : Verdict) (after : List ℕ) : Type 0 where
  pub no_room : ltb (length out) n ≡ true → (answer ≡ Err (Refusal.Desk 23 0)) × (after ≡ out)
  pub room : ltb (length out) n ≡ false → (answer ≡ Ok n) × (after ≡ file ++ drop n out)

pub record WritesMade (rows : List (List ℕ)) (words rules : ℕ) (records out : List ℕ) (answer : Verdict) (after : List ℕ) : Type 0 where
  pub writes : (forms : List Form) → Holds rows (length rows) forms → Written (512 * blocks_for rules) (file_of (made_heading words rules forms) records) out answer after
