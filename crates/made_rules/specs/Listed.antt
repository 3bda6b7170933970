-- What the functions that add rules do to the records, and the dimensions.
-- Assumes nothing.
use Rattle.std.specs.Prelude.{◌≡◌, Bool, List, [], ◌∷◌, ◌++◌, map, ℕ, ◌+◌, ◌-◌, ◌%◌, ltb, eqb, length, get_or, take, if◌then◌else◌}
use Rattle.model.specs.Base.{each}
use Rattle.model.specs.Writer.{padded}
use Rattle.minimalist.specs.Once.{Once}
use Rattle.minimalist.specs.Lexicon.{entry_of, lexicon_of}
use Rattle.minimalist.specs.Schemes.{Form, form_dimension, merge_scheme, move_scheme}
use Rattle.minimalist.specs.Made.{NamedRule, start_form, start_rule, entry_rule, merge_rule, move_rule}
use Rattle.minimalist.specs.Closure.{is_among, rule_if}
use Rattle.minimalist.specs.Numbering.{numbered_rule}
use Rattle.derivable.specs.Tables.{row_at, form_at, Holds}
use Rattle.made_records.specs.declared.Records.{Records}
use Rattle.made_records.specs.Records.{Held, Adds}

-- Rules were added to those of the records: whatever forms the rows are, none of them twice, and whatever rules there were, these come after them, by the
-- forms' numbers.
pub record Lists (new : List Form → List NamedRule) (rows : List (List ℕ)) (before after : Records) : Type 0 where
  pub adds : (forms : List Form) → Holds rows (length rows) forms → Once forms → Adds (map (numbered_rule forms) (new forms)) before after

-- the records are those of these rules
pub record Listed (new : List Form → List NamedRule) (rows : List (List ℕ)) (after : Records) : Type 0 where
  pub held : (forms : List Form) → Holds rows (length rows) forms → Once forms → Held after (map (numbered_rule forms) (new forms))

-- the new start's rule from one form of the wanted category
abbrev pub with_start : ℕ → Bool → List Form → List NamedRule
with_start start x forms = if is_among forms (start_form start x) then start_rule start x ∷ [] else []

-- an entry's rule, and those of all
abbrev pub with_entry : List ℕ → List Form → List NamedRule
with_entry e forms = entry_rule (entry_of e) ∷ []

abbrev pub with_entries : List ℕ → List Form → List NamedRule
with_entries bytes forms = map entry_rule (lexicon_of bytes)

-- the rule of the merge of forms i and j; of the merges of form i with the first m; of the move of form i; of all of the first i forms
abbrev pub with_merge : ℕ → ℕ → List Form → List NamedRule
with_merge i j forms = rule_if (merge_rule (form_at forms i) (form_at forms j)) (merge_scheme (form_at forms i) (form_at forms j))

abbrev pub with_merges : ℕ → ℕ → List Form → List NamedRule
with_merges i m forms = each (λ b. rule_if (merge_rule (form_at forms i) b) (merge_scheme (form_at forms i) b)) (take m forms)

abbrev pub with_move : ℕ → List Form → List NamedRule
with_move i forms = rule_if (move_rule (form_at forms i)) (move_scheme (form_at forms i))

abbrev pub with_schemes_of : ℕ → List Form → List NamedRule
with_schemes_of i forms = each (λ a. each (λ b. rule_if (merge_rule a b) (merge_scheme a b)) forms ++ rule_if (move_rule a) (move_scheme a)) (take i forms)

-- the dimension of category q, and the 64 bytes of the dimensions
abbrev pub dimension_byte : List (List ℕ) → ℕ → ℕ
dimension_byte rows q = if eqb q 0 then 1 else (if ltb (length rows) q then 0 else (get_or (row_at rows (q - 1)) 7 0 + 1) % 256)

abbrev pub Dimensions : List (List ℕ) → List ℕ → Type 0
Dimensions rows after = (forms : List Form) → Holds rows (length rows) forms → after ≡ padded 64 (1 ∷ map form_dimension forms)
