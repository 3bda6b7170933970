-- `rule_table::table::compile` meets its contract.
-- Assumes nothing.
use mathlib.Core.Path.{◌≡◌}
use Prim.Native.Nat.{ℕ, ◌+◌, ◌*◌, ◌<◌}
use lib.ListN.{length, get_or}
use Rattle.model.specs.GrammarFile.{dimensions_of, record_of}
use Rattle.rule_table.specs.Cells.{cells_of}
use Rattle.rule_table.proofs.table.compile.Given as goal

abbrev pub invariant-loop-r : goal.invariant-loop-r
invariant-loop-r l = (length l.t ≡ 2048) × ((q : ℕ) → q < l.r → (i : ℕ) → i < 8 → get_or l.t (8 * q + i) 0 ≡ get_or (cells_of (dimensions_of l.file) (record_of l.file q)) i 0)
