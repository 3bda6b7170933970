-- The categories of W11-0605, section 3, and its five rule schemes, as paper 6 of document 02 takes them.
-- Assumes nothing.
use Rattle.std.specs.Prelude.{◌≡◌, Bool, true, false, ◌&&◌, ◌||◌, not, ℕ, suc, ◌+◌, eqb, length, if◌then◌else◌}
use Rattle.std.proofs.Math.Option.{Option, none, some}
use mathlib.Core.List.{List, [], ◌∷◌, ◌++◌, map, Memᴰ}
use Rattle.model.specs.Base.{numbers_from}
use Rattle.model.specs.Grammar.{Variable, variable}
use Rattle.minimalist.specs.Lexicon.{Entry, selects, is_licensor, is_licensee}
use Rattle.minimalist.specs.Derivations.{Chain, Expression, Derivation, merge, move, begins, derived}

-- a category ⟨x, δ0, δ1, .., δj⟩: x = 1 if lexical, the head's features δ0, those of the moving chains δ1 to δj
pub record Form : Type 0 where
  pub lexical : Bool
  pub head : List ℕ
  pub moving : List (List ℕ)

-- the category of an expression
abbrev pub features_of : List Chain → List (List ℕ)
features_of cs = map (λ c. c.features) cs

abbrev pub form_of : Expression → Form
form_of e = record { lexical = e.lexical; head = e.head.features; moving = features_of e.moving }

-- "(iv) the category has dimension j + 1"
abbrev pub form_dimension : Form → ℕ
form_dimension a = suc (length a.moving)

-- an instance of a scheme: the category of its left side, and what its components are
pub record Instance : Type 0 where
  pub result : Form
  pub components : List (List Variable)

-- components of one variable each: n of daughter j, from component c on
abbrev pub singles : ℕ → ℕ → ℕ → List (List Variable)
singles j c n = map (λ k. variable j k ∷ []) (numbers_from c n)

-- the first component of the first two schemes: s0 t0 after an entry, t0 s0 else
abbrev pub joined_variables : Bool → List Variable
joined_variables true = variable 0 0 ∷ variable 1 0 ∷ []
joined_variables false = variable 1 0 ∷ variable 0 0 ∷ []

-- merge of ⟨x, =f α, δ1, .., δi⟩ and ⟨y, f β, γ1, .., γj⟩: the first two schemes where β is empty, the third else
abbrev pub merge_by : Form → Form → List ℕ → List ℕ → Instance
merge_by a b α [] =
    record {
      result = record { lexical = false; head = α; moving = a.moving ++ b.moving };
      components = joined_variables a.lexical ∷ singles 0 1 (length a.moving) ++ singles 1 1 (length b.moving);
    }
merge_by a b α (f ∷ β) =
    record {
      result = record { lexical = false; head = α; moving = a.moving ++ ((f ∷ β) ∷ b.moving) };
      components = (variable 0 0 ∷ []) ∷ singles 0 1 (length a.moving) ++ singles 1 0 (suc (length b.moving));
    }

abbrev pub merge_if : Form → Form → List ℕ → List ℕ → Option Instance
merge_if a b [] fs = none
merge_if a b (s ∷ α) [] = none
merge_if a b (s ∷ α) (f ∷ β) = if selects s f then some (merge_by a b α β) else none

abbrev pub merge_scheme : Form → Form → Option Instance
merge_scheme a b = merge_if a b a.head b.head

-- move of ⟨0, +f α, δ1, .., δj⟩, where just one moving chain begins with -f: the fourth scheme where that is its only feature, the fifth else
abbrev pub how_many_begin : ℕ → List (List ℕ) → ℕ
how_many_begin m [] = 0
how_many_begin m (c ∷ cs) = (if begins m c then 1 else 0) + how_many_begin m cs

-- the features left to the chain
abbrev pub left_over : List ℕ → List (List ℕ)
left_over [] = []
left_over (m ∷ []) = []
left_over (m ∷ f ∷ β) = (f ∷ β) ∷ []

abbrev pub moving_after : ℕ → List (List ℕ) → List (List ℕ)
moving_after m [] = []
moving_after m (c ∷ cs) = if begins m c then left_over c ++ cs else c ∷ moving_after m cs

-- the variable of the chain where it lands, and where it stays; k is its component
abbrev pub landing_variable : ℕ → List ℕ → List Variable
landing_variable k [] = []
landing_variable k (m ∷ []) = variable 0 k ∷ []
landing_variable k (m ∷ f ∷ β) = []

abbrev pub staying_variable : ℕ → List ℕ → List (List Variable)
staying_variable k [] = []
staying_variable k (m ∷ []) = []
staying_variable k (m ∷ f ∷ β) = (variable 0 k ∷ []) ∷ []

abbrev pub landing_at : ℕ → ℕ → List (List ℕ) → List Variable
landing_at m k [] = []
landing_at m k (c ∷ cs) = if begins m c then landing_variable k c else landing_at m (suc k) cs

abbrev pub staying : ℕ → ℕ → List (List ℕ) → List (List Variable)
staying m k [] = []
staying m k (c ∷ cs) = if begins m c then staying_variable k c ++ singles 0 (suc k) (length cs) else (variable 0 k ∷ []) ∷ staying m (suc k) cs

abbrev pub move_by : Form → ℕ → List ℕ → Instance
move_by a m α =
    record {
      result = record { lexical = false; head = α; moving = moving_after m a.moving };
      components = (landing_at m 1 a.moving ++ (variable 0 0 ∷ [])) ∷ staying m 1 a.moving;
    }

abbrev pub move_if : Form → List ℕ → Option Instance
move_if a [] = none
move_if a (p ∷ α) = if is_licensor p && eqb (how_many_begin (p + 16) a.moving) 1 then some (move_by a (p + 16) α) else none

abbrev pub move_scheme : Form → Option Instance
move_scheme a = move_if a a.head

-- "A category is left out if a chain of it has no features, if a moving chain begins with anything but a licensee, or if two moving chains begin with
-- the same licensee": a chain without features begins with no licensee
abbrev pub no_features : List ℕ → Bool
no_features [] = true
no_features (f ∷ fs) = false

abbrev pub begins_licensee : List ℕ → Bool
begins_licensee [] = false
begins_licensee (m ∷ ms) = is_licensee m

abbrev pub same_first : List ℕ → List ℕ → Bool
same_first [] c = false
same_first (m ∷ ms) c = begins m c

abbrev pub any_same_first : List ℕ → List (List ℕ) → Bool
any_same_first c [] = false
any_same_first c (d ∷ ds) = same_first c d || any_same_first c ds

abbrev pub wrong_moving : List (List ℕ) → Bool
wrong_moving [] = false
wrong_moving (c ∷ cs) = not (begins_licensee c) || (any_same_first c cs || wrong_moving cs)

abbrev pub left_out : Form → Bool
left_out a = no_features a.head || wrong_moving a.moving

-- a part of a derivation: the whole, or a part of one of those that it merges or moves
pub data PartOf (part : Derivation) : Derivation → Type 0 where
  the_whole : PartOf part part
  of_selecting : (a b : Derivation) → PartOf part a → PartOf part (merge a b)
  of_selected : (a b : Derivation) → PartOf part b → PartOf part (merge a b)
  of_moved : (a : Derivation) → PartOf part a → PartOf part (move a)

-- "none of these can end in a sentence": in a derivation of the wanted category no part has a category that is left out
abbrev pub NoneEnds : Type 0
NoneEnds =
    (lexicon : List Entry) (start : ℕ) (d part : Derivation) (e x : Expression) → derived lexicon d ≡ some e → e.head.features ≡ start ∷ [] → e.moving ≡ []
    → PartOf part d → derived lexicon part ≡ some x → left_out (form_of x) ≡ false

-- the lexical category of an entry
abbrev pub lexical_form : Entry → Form
lexical_form e = record { lexical = true; head = e.features; moving = [] }

-- "the categories derivable from the entries": what a scheme makes is not left out, and an entry's category is not, since refusal 30 meets an entry without features
pub data Derivable (lexicon : List Entry) : Form → Type 0 where
  by_entry : (e : Entry) → Memᴰ e lexicon → Derivable lexicon (lexical_form e)
  by_merge : (a b : Form) (s : Instance) → Derivable lexicon a → Derivable lexicon b → merge_scheme a b ≡ some s → left_out s.result ≡ false
      → Derivable lexicon s.result
  by_move : (a : Form) (s : Instance) → Derivable lexicon a → move_scheme a ≡ some s → left_out s.result ≡ false → Derivable lexicon s.result
