-- Derivation trees: their lists, their yields, and the tree checker (document 01, "Trace and tree", and refusals 19 to 22; document 02, paper 5).
-- Assumes nothing.
use Rattle.std.specs.Prelude.{◌≡◌, ℕ, zero, suc, ◌<◌, ◌≤◌, Bool, true, false, not, ◌&&◌, List, [], ◌∷◌, ◌++◌, map, eqb, length, get_or, if◌then◌else◌}
use Rattle.std.proofs.Math.Option.{Option, none, some}
use Rattle.model.specs.declared.Refusal.{Refusal}
use Rattle.model.specs.Base.{◌or_else◌, each}
use Rattle.model.specs.Verdict.{refuse_if}
use Rattle.model.specs.Grammar.{Variable, Rule, Grammar, empty_word, rule_at, is_lexical}
use Rattle.model.specs.Step.{lowest, highest, word_fits}
use Rattle.model.specs.Trace.{length_refusal}

-- a node has a rule number and its daughters, in rule order
mutual
  pub data Tree : Type 0 where
    node : ℕ → Forest → Tree

  pub data Forest : Type 0 where
    nil : Forest
    cons : Tree → Forest → Forest

-- "A tree is a list of at most 96 rule numbers, parent before daughters, daughters in rule order."
abbrev mutual
  pub preorder : Tree → List ℕ
  preorder (node r ts) = r ∷ preorders ts

  pub preorders : Forest → List ℕ
  preorders nil = []
  preorders (cons t ts) = preorder t ++ preorders ts

-- "A lexical node's is its word, or the empty string for the empty word."
abbrev pub word_string : ℕ → List ℕ
word_string w = if eqb w empty_word then [] else w ∷ []

-- "Any other node's is, component by component, the daughters' strings that the variables name, joined in their order."
abbrev pub string_of : List (List (List ℕ)) → Variable → List ℕ
string_of yields v = get_or (get_or yields v.daughter []) v.component []

abbrev pub yield_by : Option Rule → List (List (List ℕ)) → List (List ℕ)
yield_by none yields = []
yield_by (some r) yields = if is_lexical r then word_string r.word ∷ [] else map (λ c. each (string_of yields) c) r.components

-- "A node's yield is one word string for each component of its category."
abbrev mutual
  pub yield : Grammar → Tree → List (List ℕ)
  yield g (node r ts) = yield_by (rule_at g r) (yields g ts)

  pub yields : Grammar → Forest → List (List (List ℕ))
  yields g nil = []
  yields g (cons t ts) = yield g t ∷ yields g ts

-- "each daughter's rule is of the category that its parent's rule gives it, no number is missing or left over", and the root's rule is of the category
-- that is asked for: t is a tree with that category as root
abbrev pub root_by : Option Rule → ℕ → (List ℕ → Bool) → Bool
root_by none category roots = false
root_by (some rule) category roots = eqb rule.category category && roots rule.daughters

abbrev mutual
  pub has_root : Grammar → Tree → ℕ → Bool
  has_root g (node r ts) category = root_by (rule_at g r) category (λ categories. has_roots g ts categories)

  pub has_roots : Grammar → Forest → List ℕ → Bool
  has_roots g nil [] = true
  has_roots g nil (c ∷ cs) = false
  has_roots g (cons t ts) [] = false
  has_roots g (cons t ts) (c ∷ cs) = has_root g t c && has_roots g ts cs

-- "A tree then fits when its yield has the sentence's length and lies within the ranges place by place."
abbrev pub string_fits : List ℕ → List ℕ → Bool
string_fits [] [] = true
string_fits [] (y ∷ ys) = false
string_fits (x ∷ xs) [] = false
string_fits (x ∷ xs) (y ∷ ys) = word_fits x y && string_fits xs ys

abbrev pub spells : Grammar → List ℕ → Tree → Bool
spells g sentence t = string_fits (get_or (yield g t) 0 []) sentence

-- what `string_fits` says of two lists, stated without going through them
pub record Within (words sentence : List ℕ) : Type 0 where
  pub as_long : length words ≡ length sentence
  pub between : (k : ℕ) → k < length sentence → (lowest (get_or sentence k 0) ≤ get_or words k 0) × (get_or words k 0 ≤ highest (get_or sentence k 0))

-- "A tree derives the sentence when" it has the start category as root and, by paper 5, its yield fits the sentence
abbrev pub derives : Grammar → List ℕ → Tree → Bool
derives g sentence t = has_root g t g.start && spells g sentence t

-- A list read as trees, one after the other: a node takes as many daughters as its rule has from the trees that follow it.
abbrev pub arity_by : Option Rule → ℕ
arity_by none = 0
arity_by (some rule) = length rule.daughters

abbrev pub arity : Grammar → ℕ → ℕ
arity g r = arity_by (rule_at g r)

abbrev pub firsts : ℕ → Forest → Forest
firsts zero f = nil
firsts (suc n) nil = nil
firsts (suc n) (cons t ts) = cons t (firsts n ts)

abbrev pub others : ℕ → Forest → Forest
others zero f = f
others (suc n) nil = nil
others (suc n) (cons t ts) = others n ts

abbrev pub forest : Grammar → List ℕ → Forest
forest g [] = nil
forest g (r ∷ rs) =
    let f = forest g rs in
    cons (node r (firsts (arity g r) f)) (others (arity g r) f)

-- the first tree of the list
abbrev pub tree_of_list : Grammar → List ℕ → Tree
tree_of_list g list = elim (forest g list) [ nil ↦ node 0 nil | cons t ts ↦ t ]

module _ (g : Grammar) where
  -- "Tree, per node: 19 list ended (its length); 13; 20 category other than wanted. Then 21 nodes left over (first)". `wanted` are the categories of
  -- the nodes still to come, in order; k is the number of the next node.
  abbrev pub nodes_refusal : ℕ → List ℕ → List ℕ → Option Refusal
  nodes_refusal k [] [] = none
  nodes_refusal k (c ∷ wanted) [] = some (Refusal.Analysis 19 k)
  nodes_refusal k [] (r ∷ rs) = some (Refusal.Analysis 21 k)
  nodes_refusal k (c ∷ wanted) (r ∷ rs) =
      elim (rule_at g r) [
        | none ↦ some (Refusal.Analysis 13 k)
        | some rule ↦
            if eqb rule.category c then nodes_refusal (suc k) (rule.daughters ++ wanted) rs else some (Refusal.Analysis 20 k)
      ]

  -- 12, then node by node, then "22 yield is not the sentence", where by paper 5 a fitting yield stands for an equal one
  abbrev pub tree_refusal : List ℕ → List ℕ → Option Refusal
  tree_refusal sentence list =
      length_refusal list
      or_else nodes_refusal 0 (g.start ∷ []) list
      or_else refuse_if (not (spells g sentence (tree_of_list g list))) (Refusal.Analysis 22 0)
