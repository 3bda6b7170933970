-- The numbers of the chain and of the turns, as code has them: a rule, or none.
-- Assumes nothing.
use Rattle.std.specs.Prelude.{◌≡◌, ℕ, ◌<◌, ◌≤◌, Option, Some, None}
use Rattle.model.specs.declared.RuleNumber.{RuleNumber}
use Rattle.walk.specs.Chain.{no_rule}

-- which rule a number names, or none
abbrev pub Names : Option RuleNumber → ℕ → Type 0
Names None x = no_rule ≤ x
Names (Some r) x = (r.0 ≡ x) × (x < no_rule)

-- the number of a rule; no_rule where there is none
abbrev pub number_of : Option RuleNumber → ℕ
number_of None = no_rule
number_of (Some r) = r.0
