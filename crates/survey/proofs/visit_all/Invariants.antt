-- `survey::visit_all` meets its contract.
-- Assumes nothing.
use mathlib.Core.Path.{◌≡◌}
use mathlib.Core.Bool.{false}
use lib.ListN.{length}
use Rattle.model.specs.GrammarFile.{grammar_of}
use Rattle.model.specs.Survey.{visits}
use Rattle.survey.proofs.visit_all.Given as goal

abbrev pub invariant-loop-r : goal.invariant-loop-r
invariant-loop-r l = (length l.figures ≡ length l.initial.figures)
    × (l.figures ≡ visits (grammar_of l.file) l.round l.initial.figures l.r) × (l.changed ≡ false → l.figures ≡ l.initial.figures)
