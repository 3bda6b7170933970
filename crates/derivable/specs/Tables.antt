-- A table of forms: their rows one after another.
-- Assumes nothing.
use Rattle.std.specs.Prelude.{◌≡◌, false, List, [], ℕ, zero, suc, ◌<◌, ◌≤◌, length, get_or, if◌then◌else◌}
use Rattle.model.specs.Base.{same_list}
use Rattle.minimalist.specs.Schemes.{Form, wrong_moving}
use Rattle.minimalist.specs.Closure.{add_form}
use Rattle.forms.specs.Rows.{row_of, Small}
use Rattle.derivable.specs.declared.tables.FormTable.{FormTable}

-- row i
abbrev pub row_at : List (List ℕ) → ℕ → List ℕ
row_at table i = get_or table i []

-- the number of the first row, of `count` from `from` on, that is the given one; the number past them if there is none
abbrev pub first_same : (ℕ → List ℕ) → List ℕ → ℕ → ℕ → ℕ
first_same rows row from zero = from
first_same rows row from (suc count) = if same_list (rows from) row then from else first_same rows row (suc from) count

-- form i of the list
abbrev pub form_at : List Form → ℕ → Form
form_at forms i = get_or forms i (record { lexical = false; head = []; moving = [] })

-- the table holds the forms
pub record Table (table : List (List ℕ)) (forms : List Form) : Type 0 where
  pub few : length forms ≤ 64
  pub rows : (i : ℕ) → i < length forms → row_at table i ≡ row_of (form_at forms i)
  pub small : (i : ℕ) → i < length forms → Small (form_at forms i)
  -- moving chains begin with different licensees
  pub kept : (i : ℕ) → i < length forms → wrong_moving (form_at forms i).moving ≡ false

-- the table holds the n forms
abbrev pub Holds : List (List ℕ) → ℕ → List Form → Type 0
Holds table n forms = Table table forms × (n ≡ length forms)

-- A form's row was added to a table: whatever forms it held, it holds the form too after it, if there was room.
pub record Added (before : FormTable) (row : List ℕ) (after : FormTable) : Type 0 where
  pub least : before.count ≤ after.count
  pub most : after.count ≤ 64
  pub holds : (forms : List Form) (a : Form) → Holds before.rows before.count forms → Small a → wrong_moving a.moving ≡ false → row ≡ row_of a
      → Holds after.rows after.count (add_form forms a)
