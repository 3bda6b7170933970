-- `derivation::run::name_daughters` meets its contract.
-- Assumes nothing.
use Rattle.std.proofs.Common.{◌≡◌, ℕ, ◌<◌, get_or}
use Rattle.trees.specs.Places.{sister}
use Rattle.derivation.proofs.run.name_daughters.Given as goal

abbrev pub invariant-loop-name : goal.invariant-loop-name
invariant-loop-name l =
    (l.at ≡ sister l.ends l.i l.name-index) × ((j : ℕ) → j < l.name-index → get_or l.name-items j 0 ≡ sister l.ends l.i j)
