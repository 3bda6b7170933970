-- What code says of the run along a tree: each step applies the rule of the node that the front prediction stands for.
-- Assumes nothing.
use Rattle.std.specs.Prelude.{◌≡◌, Bool, true, List, ℕ, ◌+◌, ◌<◌, length, get_or, take}
use Rattle.std.proofs.Math.Option.{Option, none}
use Rattle.model.specs.Base.{◌or_else◌}
use Rattle.model.specs.declared.Refusal.{Refusal}
use Rattle.model.specs.Verdict.{verdict, Verdict}
use Rattle.model.specs.Grammar.{Grammar}
use Rattle.model.specs.GrammarFile.{grammar_refusal, grammar_of}
use Rattle.model.specs.Trace.{sentence_refusal}
use Rattle.model.specs.Calls.{room_refusal}
use Rattle.model.specs.Tree.{tree_of_list, spells, tree_refusal}
use Rattle.model.specs.Conversions.{trace_of}
use Rattle.trees.specs.Places.{sister}

-- d predictions from number `made` on are named by the places of the daughters of the node at place i
pub record NamesGiven (table : List ℕ) (i made d : ℕ) (before after : List ℕ) : Type 0 where
  pub long : length after ≡ 388
  pub old : (p : ℕ) → p < made → get_or after p 0 ≡ get_or before p 0
  pub new : (j : ℕ) → j < d → get_or after (made + j) 0 ≡ sister table i j

-- the run from the start, of a list that passes the tests of its nodes: whether the root's yield fits the sentence, and then the tree's trace is stored
pub record Spelled (g : Grammar) (sentence list after : List ℕ) (answer : Bool) : Type 0 where
  pub spelled : answer ≡ spells g sentence (tree_of_list g list)
  pub stored : answer ≡ true → (length after ≡ 96) × (take (length list) after ≡ trace_of g sentence list)

-- the whole tree: v is its verdict, and for an accepted tree its trace is stored
pub record TreeSays (g : Grammar) (sentence list after : List ℕ) (v : Verdict) : Type 0 where
  pub answer : v ≡ verdict (tree_refusal g sentence list) (length list)
  pub stored : tree_refusal g sentence list ≡ none → (length after ≡ 96) × (take (length list) after ≡ trace_of g sentence list)

-- the tests of a conversion before those of its input: the grammar, 23, 11 and 29
abbrev pub before_input : List ℕ → List ℕ → List ℕ → Option Refusal
before_input file sentence out = grammar_refusal file or_else room_refusal out or_else sentence_refusal (grammar_of file) sentence
