-- `calendar::months::month_length` meets its contract: each row is compared once with the list that the rule makes, and so every length is the rule's.
-- Assumes nothing.
use mathlib.Core.Path.{◌≡◌, ap, ◌∙◌}
use mathlib.Core.Bool.{Bool, true, false}
use mathlib.Core.List.{List, [], ◌∷◌}
use Prim.Native.Nat.{ℕ, suc, ◌-◌, ◌≤◌}
use native.Mathlib.Omega.{arith}
use lib.ListN.{get_or}
use mir.Val.{bool_byte}
use borrow.Author.Rules.{rules}
use Rattle.calendar.specs.Calendar.{length_in}
use Rattle.calendar.proofs.Table.{table_from, entry}
use Rattle.calendar.proofs.months.month_length.Goals as goal

-- the row that the rule makes of a common year, or of a leap year
abbrev row : Bool → List ℕ
row leap = table_from (λ k. length_in leap (suc k)) 0 12

row_at : (leap : Bool) (month : ℕ) → 1 ≤ month → month ≤ 12 → get_or (row leap) (month - 1) 0 ≡ length_in leap month
row_at leap month from to =
    let one_more : suc (month - 1) ≡ month = omega arith in
    entry (λ k. length_in leap (suc k)) 12 (month - 1) (omega arith) ∙ ap (length_in leap) one_more

in_table : (leap : Bool) (month : ℕ) → 1 ≤ month → month ≤ 12
    → get_or (get_or {A = List ℕ} (row false ∷ row true ∷ []) (bool_byte leap) []) (month - 1) 0 ≡ length_in leap month
in_table true = row_at true
in_table false = row_at false

pub returns : goal.returns
returns c = rw (c.from.ensures, c.from-2.ensures) (in_table c.args.leap c.args.month (search rules) (search rules))
