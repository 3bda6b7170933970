-- `grammar::part_check` meets its contract. The loop keeps: the weighted sum so far and that from place i on are the whole.
-- Assumes nothing.
use mathlib.Core.Path.{◌≡◌}
use Prim.Native.Nat.{◌≤◌, ◌+◌, ◌*◌}
use lib.ListN.{length, drop}
use Rattle.model.specs.GrammarFile.{weighted}
use Rattle.grammar.proofs.lists.part_check.Given as goal

abbrev pub invariant-loop-i : goal.invariant-loop-i
invariant-loop-i l = (l.i ≤ length l.bytes) × (weighted 1 l.bytes ≡ l.sum + weighted (l.i + 1) (drop l.i l.bytes)) × (l.sum ≤ 129540 * l.i)
