-- What the rounds do to a table of forms.
-- Assumes nothing.
use Rattle.std.specs.Prelude.{◌≡◌, List, [], ◌∷◌, ◌++◌, ℕ, ◌≤◌, take, if◌then◌else◌}
use Rattle.model.specs.Base.{each}
use Rattle.minimalist.specs.Lexicon.{Entry, entry_of, lexicon_of}
use Rattle.minimalist.specs.Schemes.{Form, merge_scheme, move_scheme, left_out, lexical_form}
use Rattle.minimalist.specs.Closure.{add_form, add_forms, result_of, results_of, forms_after, forms_of}
use Rattle.forms.specs.Rows.{row_of, Small}
use Rattle.derivable.specs.declared.tables.FormTable.{FormTable}
use Rattle.derivable.specs.Tables.{form_at, Holds}

-- A table grew: whatever forms it held, it holds these after it.
pub record Grows (more : List Form → List Form) (before after : FormTable) : Type 0 where
  pub least : before.count ≤ after.count
  pub most : after.count ≤ 64
  pub holds : (forms : List Form) → Holds before.rows before.count forms → Holds after.rows after.count (more forms)

-- the form, if it is not left out
abbrev pub unless_left_out : Form → List Form
unless_left_out a = if left_out a then [] else a ∷ []

-- the form of a row was added, unless it is left out
pub record AddedKept (before : FormTable) (row : List ℕ) (after : FormTable) : Type 0 where
  pub least : before.count ≤ after.count
  pub most : after.count ≤ 64
  pub holds : (a : Form) → Small a → row ≡ row_of a → (forms : List Form) → Holds before.rows before.count forms
      → Holds after.rows after.count (add_forms forms (unless_left_out a))

-- with the merge of forms i and j; with the move of form i; with the merges of form i with each of the first m
abbrev pub with_merge : ℕ → ℕ → List Form → List Form
with_merge i j forms = add_forms forms (result_of (merge_scheme (form_at forms i) (form_at forms j)))

abbrev pub with_move : ℕ → List Form → List Form
with_move i forms = add_forms forms (result_of (move_scheme (form_at forms i)))

abbrev pub with_merges : ℕ → ℕ → List Form → List Form
with_merges i m forms = add_forms forms (each (λ b. result_of (merge_scheme (form_at forms i) b)) (take m forms))

-- after a round; after the part of a round in which the first i forms are the first side of a merge, or move
abbrev pub with_round : List Form → List Form
with_round forms = add_forms forms (results_of forms)

abbrev pub with_round_of : ℕ → List Form → List Form
with_round_of i forms = add_forms forms (each (λ a. each (λ b. result_of (merge_scheme a b)) forms ++ result_of (move_scheme a)) (take i forms))

-- with the form of an entry
abbrev pub with_entry : List ℕ → List Form → List Form
with_entry e forms = add_form forms (lexical_form (entry_of e))

-- k rounds were made: where the table held the forms of a lexicon's entries, it holds those of k rounds
pub record Rounds (k : ℕ) (before after : FormTable) : Type 0 where
  pub most : after.count ≤ 64
  pub holds : (lexicon : List Entry) → Holds before.rows before.count (forms_after lexicon 0) → Holds after.rows after.count (forms_after lexicon k)

-- The table holds the forms of the lexicon of these bytes. It stays shut, so that its 63 rounds are not written out where it stands.
unfoldable pub Derived : List ℕ → FormTable → Type 0
Derived bytes table = Holds table.rows table.count (forms_of (lexicon_of bytes))
