-- What stands at a place of a tree's list: a rule number, with the place where the reading goes on; or the list has ended.
-- Assumes nothing.
use Rattle.std.specs.Prelude.{ℕ, List, Option, Some, None, ltb, length, get_or, if◌then◌else◌}
use Rattle.model.specs.declared.RuleNumber.{RuleNumber}

abbrev pub found_at : List ℕ → ℕ → ℕ → Option (RuleNumber × ℕ)
found_at list place next = if ltb place (length list) then Some (record { 0 = get_or list place 0 }, next) else None
