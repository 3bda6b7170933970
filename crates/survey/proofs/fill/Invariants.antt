-- `survey::fill` meets its contract.
-- Assumes nothing.
use mathlib.Core.Path.{◌≡◌}
use Prim.Native.Nat.{◌-◌}
use lib.ListN.{length}
use Rattle.model.specs.GrammarFile.{grammar_of}
use Rattle.model.specs.Survey.{rounds}
use Rattle.survey.proofs.fill.Given as goal

abbrev pub invariant-loop-round : goal.invariant-loop-round
invariant-loop-round l = (length l.figures ≡ length l.initial.figures) × (l.figures ≡ rounds (grammar_of l.file) (l.round - 1))
