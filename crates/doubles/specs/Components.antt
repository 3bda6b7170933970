-- What the variables of two records have in common where one is the other in some order of its daughters.
-- Assumes nothing.
use Rattle.std.specs.Prelude.{Bool, List, ℕ, ◌+◌, ◌%◌, eqb}
use Rattle.model.specs.Base.{all_below, total}
use Rattle.model.specs.GrammarFile.{fields, field}

-- variable by variable, the components that they name are the same: no order of the daughters changes them
abbrev pub same_components : List ℕ → List ℕ → Bool
same_components earlier e = all_below (λ k. eqb (field e (11 + k) % 4) (field earlier (11 + k) % 4)) (total (fields e 7 4))
