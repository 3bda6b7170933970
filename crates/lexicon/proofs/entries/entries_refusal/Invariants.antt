-- `lexicon::entries_refusal` meets its contract.
-- Assumes nothing.
use mathlib.Core.Path.{◌≡◌}
use mathlib.Core.Option.{Option}
use mathlib.Core.List.{List}
use Prim.Native.Nat.{ℕ, ◌/◌}
use lib.ListN.{length}
use Rattle.model.specs.declared.Refusal.{Refusal}
use Rattle.model.specs.Verdict.{refuse_if, tested}
use Rattle.model.proofs.TestLoops.{left}
use Rattle.minimalist.specs.Lexicon.{repeated_entry, entries_refusal}
use Rattle.lexicon.proofs.entries.entries_refusal.Given as goal

abbrev pub test : List ℕ → ℕ → Option Refusal
test bytes i = refuse_if (repeated_entry bytes i) (Refusal.Grammar 10 i)

abbrev pub invariant-loop-i : goal.invariant-loop-i
invariant-loop-i l = (l.n ≡ length l.bytes / 8) × (tested (entries_refusal l.bytes l.words l.start) ≡ left (test l.bytes) l.i l.n)
