-- A grammar (document 01, "A grammar"): a multiple context-free grammar in the normal form of W11-0605, with a weight on each rule (document 02, paper 1).
-- Assumes nothing.
use Rattle.std.specs.Prelude.{ℕ, List, [], ◌∷◌, Bool, true, false, get_or}
use Rattle.std.proofs.Math.Option.{Option, none, some}
use Rattle.std.proofs.Math.ListN.{get_elem?}

-- "A variable names a daughter position and one of that daughter's components."
pub record Variable : Type 0 where
  pub daughter : ℕ
  pub component : ℕ

-- "A rule names a category A." With no daughters it is lexical and gives `word`; else `components` has, for each component of A, a sequence of
-- variables, possibly of length 0. "A weight on each rule": `weight`, "from 0 to 255" (document 02, paper 1).
pub record Rule : Type 0 where
  pub category : ℕ
  pub daughters : List ℕ
  pub word : ℕ
  pub components : List (List Variable)
  pub weight : ℕ

-- "Category, word and rule are three numberings, each from 0": `dimensions` has the dimension of each category, `words` is how many words there
-- are, `rules` has the rule of each number.
pub record Grammar : Type 0 where
  pub start : ℕ
  pub words : ℕ
  pub dimensions : List ℕ
  pub rules : List Rule

-- "one word or the empty word": the number that stands for the empty word
abbrev pub empty_word : ℕ
empty_word = 65535

-- "A category has a dimension": the number of word strings it stands for
abbrev pub dimension : Grammar → ℕ → ℕ
dimension g category = get_or g.dimensions category 0

-- the rule of a number, if there is one
abbrev pub rule_at : Grammar → ℕ → Option Rule
rule_at g r = get_elem? g.rules r

-- the categories that a rule gives its daughters; none where there is no rule
abbrev pub daughters_by : Option Rule → List ℕ
daughters_by none = []
daughters_by (some rule) = rule.daughters

-- component c of the daughter at position j
abbrev pub variable : ℕ → ℕ → Variable
variable j c = record { daughter = j; component = c }

-- "A lexical rule has no daughters, A has dimension 1, and it gives one word or the empty word." A rule made by this has weight 0.
abbrev pub lexical : ℕ → ℕ → Rule
lexical category word = record { category = category; daughters = []; word = word; components = []; weight = 0 }

-- "A nonlexical rule has 1 to 3 daughters and, for each component of A, a sequence of variables, possibly of length 0." A rule made by this has
-- weight 0.
abbrev pub nonlexical : ℕ → List ℕ → List (List Variable) → Rule
nonlexical category daughters components = record { category = category; daughters = daughters; word = 0; components = components; weight = 0 }

abbrev pub is_lexical : Rule → Bool
is_lexical r = elim r.daughters [ [] ↦ true | d ∷ ds ↦ false ]
