-- Where the variables of a rule stand: in which of its components, and at which position there. A rule is a record e of the grammar file.
-- Assumes nothing.
use Rattle.std.specs.Prelude.{ℕ, zero, suc, ◌+◌, ◌-◌, ◌*◌, ◌<◌, ◌≤◌, List, ltb, eqb, if◌then◌else◌}
use Rattle.model.specs.GrammarFile.{field}
use Rattle.rule_table.specs.declared.places.Stand.{Stand}

-- the number of the first variable that is x, of n from variable v on; v + n where none of them is
abbrev pub first_of : List ℕ → ℕ → ℕ → ℕ → ℕ
first_of e x v zero = v
first_of e x v (suc n) = if eqb (field e (11 + v)) x then v else first_of e x (suc v) n

-- the component and the position of variable number v: the lengths of the components before it are taken off
abbrev pub stand_at : List ℕ → ℕ → Stand
stand_at e v =
    if ltb v (field e 7) then record { component = 0; position = v }
    else if ltb v (field e 7 + field e 8) then record { component = 1; position = v - field e 7 }
    else if ltb v (field e 7 + field e 8 + field e 9) then record { component = 2; position = v - (field e 7 + field e 8) }
    else record { component = 3; position = v - (field e 7 + field e 8 + field e 9) }

-- where the variable of component c of daughter j stands, which is 4 j + c in the record
abbrev pub stand_of : List ℕ → ℕ → ℕ → Stand
stand_of e j c = stand_at e (first_of e (4 * j + c) 0 12)

-- the same for a daughter of n components; a component that it does not have repeats component 0
abbrev pub stand_in : List ℕ → ℕ → ℕ → ℕ → Stand
stand_in e n j c = if ltb c n then stand_of e j c else stand_of e j 0

-- one of the 4 components, and a position below 13: what fits into a cell
pub record Small (s : Stand) : Type 0 where
  pub component_small : s.component < 4
  pub position_small : s.position ≤ 12
