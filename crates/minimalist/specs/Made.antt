-- The grammar made from a lexicon (document 02, paper 6), whatever the numbering of its rules and categories; and refusal 31.
-- Assumes nothing.
use Rattle.std.specs.Prelude.{◌≡◌, ◌⊎◌, Bool, false, ℕ, ◌<◌, length, get_or}
use Rattle.std.proofs.Math.Option.{none, some}
use mathlib.Core.List.{List, [], ◌∷◌, map, Memᴰ}
use Rattle.model.specs.Grammar.{Variable, Rule, Grammar, variable, rule_at, dimension}
use Rattle.model.specs.GrammarFile.{grammar_refusal, grammar_of}
use Rattle.model.specs.Demands.{◌⇔◌}
use Rattle.minimalist.specs.Once.{Once}
use Rattle.minimalist.specs.Lexicon.{Entry}
use Rattle.minimalist.specs.Schemes.{Form, Instance, form_dimension, merge_scheme, move_scheme, left_out, lexical_form, Derivable}

-- what a category stands for: "A new start category", or a category of the source
pub data Name : Type 0 where
  new_start : Name
  form : Form → Name

abbrev pub dimension_of : Name → ℕ
dimension_of new_start = 1
dimension_of (form a) = form_dimension a

-- a rule between what the categories stand for
pub record NamedRule : Type 0 where
  pub category : Name
  pub daughters : List Name
  pub word : ℕ
  pub components : List (List Variable)

-- "the lexical and the derived form of the wanted one"
abbrev pub start_form : ℕ → Bool → Form
start_form start x = record { lexical = x; head = start ∷ []; moving = [] }

-- "A new start category has a one-daughter rule from each"
abbrev pub start_rule : ℕ → Bool → NamedRule
start_rule start x = record { category = new_start; daughters = form (start_form start x) ∷ []; word = 0; components = (variable 0 0 ∷ []) ∷ [] }

-- "each entry's lexical rule"
abbrev pub entry_rule : Entry → NamedRule
entry_rule e = record { category = form (lexical_form e); daughters = []; word = e.word; components = [] }

-- "all scheme instances among them"
abbrev pub merge_rule : Form → Form → Instance → NamedRule
merge_rule a b s = record { category = form s.result; daughters = form a ∷ form b ∷ []; word = 0; components = s.components }

abbrev pub move_rule : Form → Instance → NamedRule
move_rule a s = record { category = form s.result; daughters = form a ∷ []; word = 0; components = s.components }

module _ (lexicon : List Entry) (start : ℕ) where
  -- "The set of rules is fixed"
  pub data Made : NamedRule → Type 0 where
    of_start : (x : Bool) → Derivable lexicon (start_form start x) → Made (start_rule start x)
    of_entry : (e : Entry) → Memᴰ e lexicon → Made (entry_rule e)
    of_merge : (a b : Form) (s : Instance) → Derivable lexicon a → Derivable lexicon b → merge_scheme a b ≡ some s → left_out s.result ≡ false
        → Made (merge_rule a b s)
    of_move : (a : Form) (s : Instance) → Derivable lexicon a → move_scheme a ≡ some s → left_out s.result ≡ false → Made (move_rule a s)

-- and so is that of categories
abbrev pub IsCategory : List Entry → Name → Type 0
IsCategory lexicon new_start = Unit {0}
IsCategory lexicon (form a) = Derivable lexicon a

-- "the numbering of rules and categories is free": what each category stands for
abbrev pub name_of : List Name → ℕ → Name
name_of names c = get_or names c new_start

abbrev pub named_rule : List Name → Rule → NamedRule
named_rule names rule =
    record {
      category = name_of names rule.category;
      daughters = map (name_of names) rule.daughters;
      word = rule.word;
      components = rule.components;
    }

-- a rule of the grammar that stands for the named rule
pub record Numbered (g : Grammar) (names : List Name) (n : NamedRule) : Type 0 where
  pub number : ℕ
  pub rule : Rule
  pub is_rule : rule_at g number ≡ some rule
  pub named : named_rule names rule ≡ n

-- the grammar made from a lexicon: each category stands for one of those and each of those has just one category; each rule stands for one of those and
-- each of those has just one rule
pub record MadeFrom (lexicon : List Entry) (words start : ℕ) (g : Grammar) : Type 0 where
  pub names : List Name
  pub one_each : length names ≡ length g.dimensions
  pub names_differ : (c d : ℕ) → c < length names → d < length names → name_of names c ≡ name_of names d → c ≡ d
  pub names_are : (x : Name) → Memᴰ x names ⇔ IsCategory lexicon x
  pub start_is : name_of names g.start ≡ new_start
  pub words_is : g.words ≡ words
  pub dimensions_are : (c : ℕ) → c < length names → dimension g c ≡ dimension_of (name_of names c)
  pub rules_sound : (r : ℕ) (rule : Rule) → rule_at g r ≡ some rule → Made lexicon start (named_rule names rule)
  pub rules_whole : (n : NamedRule) → Made lexicon start n → Numbered g names n
  pub rules_differ : (r s : ℕ) (rule : Rule) → rule_at g r ≡ some rule → rule_at g s ≡ some rule → r ≡ s
  -- "with weight 0"
  pub weights_are_0 : (r : ℕ) (rule : Rule) → rule_at g r ≡ some rule → rule.weight ≡ 0

-- a file that the reader accepts and that holds it
pub record MadeFile (lexicon : List Entry) (words start : ℕ) (file : List ℕ) : Type 0 where
  pub accepted : grammar_refusal file ≡ none
  pub made : MadeFrom lexicon words start (grammar_of file)

-- more than n different things of a kind
pub record MoreThan {A : Type 0} (n : ℕ) (kind : A → Type 0) : Type 0 where
  pub things : List A
  pub different : Once things
  pub are : (x : A) → Memᴰ x things → kind x
  pub many : n < length things

-- refusal 31: "over 64 categories or 256 rules, the new start's included, or neither start form derivable"
abbrev pub TooLarge : List Entry → ℕ → Type 0
TooLarge lexicon start =
    MoreThan 64 (IsCategory lexicon)
    ⊎ (MoreThan 256 (Made lexicon start) ⊎ ((x : Bool) → Derivable lexicon (start_form start x) → ⊥))
