-- Minimalist derivations (W11-0605, section 3): expressions with their strings, merge and move, and the derivations that paper 6 of document 02 counts.
-- No grammar is named here, and no category is left out.
-- Assumes nothing.
use Rattle.std.specs.Prelude.{◌≡◌, Bool, true, false, ◌&&◌, ◌||◌, List, [], ◌∷◌, ◌++◌, ℕ, ◌+◌, ◌<◌, T, eqb, if◌then◌else◌}
use Rattle.std.proofs.Math.Option.{Option, none, some}
use Rattle.model.specs.Base.{same_list}
use Rattle.model.specs.Tree.{word_string, string_fits}
use Rattle.minimalist.specs.Lexicon.{Entry, selects, is_licensor}

-- a chain: features not yet checked, and a string
pub record Chain : Type 0 where
  pub features : List ℕ
  pub string : List ℕ

-- an expression: whether it is an entry as it stands in the lexicon, the chain of its head, and the chains that are moving
pub record Expression : Type 0 where
  pub lexical : Bool
  pub head : Chain
  pub moving : List Chain

-- an entry at a leaf; merge of two; move of one
pub data Derivation : Type 0 where
  leaf : Entry → Derivation
  merge : Derivation → Derivation → Derivation
  move : Derivation → Derivation

-- "each entry, merge or move being a node"
abbrev pub nodes : Derivation → ℕ
nodes (leaf e) = 1
nodes (merge a b) = 1 + nodes a + nodes b
nodes (move a) = 1 + nodes a

-- the expression of an entry
abbrev pub lexical_expression : Entry → Expression
lexical_expression e = record { lexical = true; head = record { features = e.features; string = word_string e.word }; moving = [] }

-- Merge. a's head begins with =f, then α; b's with f, then β.
-- β empty: b's string stands after that of an entry (first scheme), and before that of anything else (second scheme).
abbrev pub joined : Bool → List ℕ → List ℕ → List ℕ
joined true s t = s ++ t
joined false s t = t ++ s

-- β not empty: b's head goes on moving, after the chains of a and before those of b (third scheme).
abbrev pub merged_by : Expression → Expression → List ℕ → List ℕ → Expression
merged_by a b α [] =
    record {
      lexical = false;
      head = record { features = α; string = joined a.lexical a.head.string b.head.string };
      moving = a.moving ++ b.moving;
    }
merged_by a b α (f ∷ β) =
    record {
      lexical = false;
      head = record { features = α; string = a.head.string };
      moving = a.moving ++ (record { features = f ∷ β; string = b.head.string } ∷ b.moving);
    }

abbrev pub merged_if : Expression → Expression → List ℕ → List ℕ → Option Expression
merged_if a b [] fs = none
merged_if a b (s ∷ α) [] = none
merged_if a b (s ∷ α) (f ∷ β) = if selects s f then some (merged_by a b α β) else none

abbrev pub merged : Expression → Expression → Option Expression
merged a b = merged_if a b a.head.features b.head.features

-- Move. The head begins with +f, then α; just one moving chain begins with -f.
abbrev pub begins : ℕ → List ℕ → Bool
begins m [] = false
begins m (x ∷ xs) = eqb m x

abbrev pub how_many : ℕ → List Chain → ℕ
how_many m [] = 0
how_many m (c ∷ cs) = (if begins m c.features then 1 else 0) + how_many m cs

-- -f is checked: with no feature left the chain lands and is gone (fourth scheme), else it stays in its place (fifth scheme)
abbrev pub after : Chain → List ℕ → List Chain
after c [] = []
after c (m ∷ []) = []
after c (m ∷ f ∷ β) = record { features = f ∷ β; string = c.string } ∷ []

abbrev pub after_move : ℕ → List Chain → List Chain
after_move m [] = []
after_move m (c ∷ cs) = if begins m c.features then after c c.features ++ cs else c ∷ after_move m cs

-- the string that lands before the head's: none in the fifth scheme, where "every string keeps its place"
abbrev pub landing : Chain → List ℕ → List ℕ
landing c [] = []
landing c (m ∷ []) = c.string
landing c (m ∷ f ∷ β) = []

abbrev pub landed : ℕ → List Chain → List ℕ
landed m [] = []
landed m (c ∷ cs) = if begins m c.features then landing c c.features else landed m cs

abbrev pub moved_by : Expression → ℕ → List ℕ → Expression
moved_by a m α =
    record { lexical = false; head = record { features = α; string = landed m a.moving ++ a.head.string }; moving = after_move m a.moving }

abbrev pub moved_if : Expression → List ℕ → Option Expression
moved_if a [] = none
moved_if a (p ∷ α) = if is_licensor p && eqb (how_many (p + 16) a.moving) 1 then some (moved_by a (p + 16) α) else none

abbrev pub moved : Expression → Option Expression
moved a = moved_if a a.head.features

-- the entry is in the lexicon
abbrev pub same_entry : Entry → Entry → Bool
same_entry d e = eqb d.word e.word && same_list d.features e.features

abbrev pub is_entry : List Entry → Entry → Bool
is_entry [] e = false
is_entry (d ∷ ds) e = same_entry d e || is_entry ds e

-- what a derivation derives, if each of its merges and moves can be made
abbrev pub both : (Expression → Expression → Option Expression) → Option Expression → Option Expression → Option Expression
both f none b = none
both f (some a) none = none
both f (some a) (some b) = f a b

abbrev pub one : (Expression → Option Expression) → Option Expression → Option Expression
one f none = none
one f (some a) = f a

abbrev pub derived : List Entry → Derivation → Option Expression
derived lexicon (leaf e) = if is_entry lexicon e then some (lexical_expression e) else none
derived lexicon (merge a b) = both merged (derived lexicon a) (derived lexicon b)
derived lexicon (move a) = one moved (derived lexicon a)

-- the derivations that are counted: "minimalist derivations of the wanted category that fit it and have fewer nodes than N"
pub record Counted (lexicon : List Entry) (start : ℕ) (sentence : List ℕ) (n : ℕ) (d : Derivation) : Type 0 where
  pub expression : Expression
  pub derives : derived lexicon d ≡ some expression
  pub wanted : expression.head.features ≡ start ∷ []
  pub none_moving : expression.moving ≡ []
  pub fits : T (string_fits expression.head.string sentence)
  pub small : nodes d < n
