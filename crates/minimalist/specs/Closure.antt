-- The categories derivable from the entries, found round by round; the rules in one order; refusal 31, computed. At most 64 forms are kept, one more than there is
-- room for beside the new start.
-- Assumes nothing.
use Rattle.std.specs.Prelude.{Bool, true, false, ◌||◌, ◌&&◌, not, List, [], ◌∷◌, ◌++◌, map, ℕ, zero, suc, ltb, eqb, length, if◌then◌else◌}
use Rattle.std.proofs.Math.Option.{Option, none, some}
use Rattle.model.specs.Base.{each, same_list}
use Rattle.minimalist.specs.Lexicon.{Entry}
use Rattle.minimalist.specs.Schemes.{Form, Instance, merge_scheme, move_scheme, left_out, lexical_form}
use Rattle.minimalist.specs.Made.{NamedRule, start_form, start_rule, entry_rule, merge_rule, move_rule}

abbrev pub same_lists : List (List ℕ) → List (List ℕ) → Bool
same_lists [] [] = true
same_lists [] (y ∷ ys) = false
same_lists (x ∷ xs) [] = false
same_lists (x ∷ xs) (y ∷ ys) = same_list x y && same_lists xs ys

abbrev pub same_bool : Bool → Bool → Bool
same_bool true b = b
same_bool false b = not b

abbrev pub same_form : Form → Form → Bool
same_form a b = same_bool a.lexical b.lexical && same_list a.head b.head && same_lists a.moving b.moving

abbrev pub is_among : List Form → Form → Bool
is_among [] a = false
is_among (b ∷ bs) a = same_form b a || is_among bs a

abbrev pub add_form : List Form → Form → List Form
add_form forms a = if is_among forms a || ltb 63 (length forms) then forms else forms ++ (a ∷ [])

abbrev pub add_forms : List Form → List Form → List Form
add_forms forms [] = forms
add_forms forms (a ∷ more) = add_forms (add_form forms a) more

-- the category of an instance, if it is not left out
abbrev pub result_of : Option Instance → List Form
result_of none = []
result_of (some s) = if left_out s.result then [] else s.result ∷ []

abbrev pub results_of : List Form → List Form
results_of forms = each (λ a. each (λ b. result_of (merge_scheme a b)) forms ++ result_of (move_scheme a)) forms

abbrev pub forms_after : List Entry → ℕ → List Form
forms_after lexicon zero = add_forms [] (map lexical_form lexicon)
forms_after lexicon (suc n) = let forms = forms_after lexicon n in add_forms forms (results_of forms)

-- every round that is not the last adds a form, so 63 are enough
abbrev pub forms_of : List Entry → List Form
forms_of lexicon = forms_after lexicon 63

-- the rules, in one order
abbrev pub rule_if : (Instance → NamedRule) → Option Instance → List NamedRule
rule_if f none = []
rule_if f (some s) = if left_out s.result then [] else f s ∷ []

abbrev pub start_rules : ℕ → List Form → List NamedRule
start_rules start forms = each (λ x. if is_among forms (start_form start x) then start_rule start x ∷ [] else []) (true ∷ false ∷ [])

abbrev pub scheme_rules : List Form → List NamedRule
scheme_rules forms = each (λ a. each (λ b. rule_if (merge_rule a b) (merge_scheme a b)) forms ++ rule_if (move_rule a) (move_scheme a)) forms

module _ (lexicon : List Entry) (start : ℕ) (forms : List Form) where
  abbrev pub made_rules : List NamedRule
  made_rules = start_rules start forms ++ (map entry_rule lexicon ++ scheme_rules forms)

  -- refusal 31: "over 64 categories or 256 rules, the new start's included, or neither start form derivable"
  abbrev pub too_large : Bool
  too_large = ltb 63 (length forms) || ltb 256 (length made_rules) || eqb (length (start_rules start forms)) 0
