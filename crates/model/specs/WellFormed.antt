-- What document 01 says of a grammar ("A grammar", and the ranges of "The grammar file").
-- Assumes nothing.
use Rattle.std.specs.Prelude.{◌≡◌, ◌⊎◌, true, false, ℕ, suc, ◌<◌, ◌≤◌, length}
use Rattle.std.proofs.Math.Option.{some}
use mathlib.Core.List.{List, [], ◌∷◌, ◌++◌, map, Memᴰ}
use Rattle.model.specs.Base.{each, numbers_from}
use Rattle.model.specs.Grammar.{Variable, Rule, Grammar, variable, rule_at, is_lexical, dimension, empty_word}

-- two lists with the same elements, each as often, in some order
pub data Perm {A : Type 0} : List A → List A → Type 0 where
  same : {l m : List A} → l ≡ m → Perm l m
  more : {l m : List A} (x : A) → Perm l m → Perm (x ∷ l) (x ∷ m)
  swap : {l : List A} (x y : A) → Perm (x ∷ y ∷ l) (y ∷ x ∷ l)
  chain : {l m n : List A} → Perm l m → Perm m n → Perm l n

-- every variable of every daughter, each once, from daughter position j on
abbrev pub daughter_variables : Grammar → ℕ → List ℕ → List Variable
daughter_variables g j [] = []
daughter_variables g j (d ∷ ds) = map (variable j) (numbers_from 0 (dimension g d)) ++ daughter_variables g (suc j) ds

-- the variables of a rule's components, component after component
abbrev pub named : List (List Variable) → List Variable
named components = each (λ c. c) components

-- "A lexical rule has no daughters, A has dimension 1"; "for each component of A, a sequence of variables, possibly of length 0"; "Every
-- variable of every daughter occurs exactly once"; every daughter has a dimension from 1 on
pub record RightRule (g : Grammar) (rule : Rule) : Type 0 where
  pub word_alone : is_lexical rule ≡ true → dimension g rule.category ≡ 1
  pub components : is_lexical rule ≡ false → length rule.components ≡ dimension g rule.category
  pub complete : is_lexical rule ≡ false → Perm (named rule.components) (daughter_variables g 0 rule.daughters)
  pub inhabited : (d : ℕ) → Memᴰ d rule.daughters → 1 ≤ dimension g d

-- "The start category has dimension 1", and every rule is right: what the recognizer rests on
pub record Right (g : Grammar) : Type 0 where
  pub start_alone : dimension g g.start ≡ 1
  pub rules : (r : ℕ) (rule : Rule) → rule_at g r ≡ some rule → RightRule g rule

-- a rule's numbers are in range: its category and its daughters are categories, a nonlexical rule has 1 to 3 daughters, and a lexical rule gives one
-- word or the empty word
pub record InRange (g : Grammar) (rule : Rule) : Type 0 where
  pub category_is : rule.category < length g.dimensions
  pub daughters_few : length rule.daughters ≤ 3
  pub daughters_are : (d : ℕ) → Memᴰ d rule.daughters → d < length g.dimensions
  pub word_is : is_lexical rule ≡ true → (rule.word < g.words) ⊎ (rule.word ≡ empty_word)

-- all that document 01 says of a grammar
pub record WellFormed (g : Grammar) : Type 0 where
  pub categories : (1 ≤ length g.dimensions) × (length g.dimensions ≤ 64)
  pub dimensions_are : (c : ℕ) → c < length g.dimensions → (1 ≤ dimension g c) × (dimension g c ≤ 4)
  pub start_is : g.start < length g.dimensions
  pub words_are : (1 ≤ g.words) × (g.words ≤ 4096)
  pub rules_are : (1 ≤ length g.rules) × (length g.rules ≤ 256)
  pub ranges : (r : ℕ) (rule : Rule) → rule_at g r ≡ some rule → InRange g rule
  pub right : Right g
