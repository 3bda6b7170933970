-- One numbering of the grammar made from a lexicon: the new start is category 0, the forms follow as they are found, the rules as they are listed.
-- Assumes nothing.
use Rattle.std.specs.Prelude.{List, [], ◌∷◌, map, ℕ, suc, if◌then◌else◌}
use Rattle.model.specs.Grammar.{Rule, Grammar}
use Rattle.minimalist.specs.Lexicon.{Entry}
use Rattle.minimalist.specs.Schemes.{Form, form_dimension}
use Rattle.minimalist.specs.Made.{Name, new_start, form, NamedRule}
use Rattle.minimalist.specs.Closure.{same_form, forms_of, made_rules}

abbrev pub place_of : List Form → Form → ℕ
place_of [] a = 0
place_of (b ∷ bs) a = if same_form b a then 0 else suc (place_of bs a)

abbrev pub number_of : List Form → Name → ℕ
number_of forms new_start = 0
number_of forms (form a) = suc (place_of forms a)

abbrev pub numbered_rule : List Form → NamedRule → Rule
numbered_rule forms n =
    record { category = number_of forms n.category; daughters = map (number_of forms) n.daughters; word = n.word; components = n.components; weight = 0 }

abbrev pub made_by : List Entry → ℕ → ℕ → List Form → Grammar
made_by lexicon words start forms =
    record { start = 0; words = words; dimensions = 1 ∷ map form_dimension forms; rules = map (numbered_rule forms) (made_rules lexicon start forms) }

abbrev pub made_grammar : List Entry → ℕ → ℕ → Grammar
made_grammar lexicon words start = made_by lexicon words start (forms_of lexicon)
