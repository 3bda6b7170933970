-- `derivable::entry_forms` meets its contract. The loop keeps: the table holds the forms of the first i entries.
-- Assumes nothing.
use Prim.Native.Nat.{◌≤◌}
use Rattle.minimalist.specs.Closure.{forms_after}
use Rattle.derivable.specs.Tables.{Holds}
use Rattle.derivable.proofs.Growing.{first_entries}
use Rattle.derivable.proofs.rounds.entry_forms.Given as goal

abbrev pub invariant-loop-i : goal.invariant-loop-i
invariant-loop-i l = (l.table.count ≤ 64) × Holds l.table.rows l.table.count (forms_after (first_entries l.bytes l.i) 0)
