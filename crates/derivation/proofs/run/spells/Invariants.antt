-- `derivation::run::spells` meets its contract.
-- Assumes nothing.
use mathlib.Core.Path.{◌≡◌}
use Rattle.model.specs.GrammarFile.{grammar_of}
use Rattle.derivation.proofs.RunCode.{Looping}
use Rattle.derivation.proofs.run.spells.Given as goal

abbrev pub invariant-loop-k : goal.invariant-loop-k
invariant-loop-k l = (l.at.steps ≡ l.k) × Looping (grammar_of l.file) l.t l.sentence l.list l.ends l.w l.names l.trace l.at
