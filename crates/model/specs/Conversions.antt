-- The trace that belongs to a tree, and the tree that belongs to a trace (document 01, "Trace and tree").
-- Assumes nothing.
use Rattle.std.specs.Prelude.{◌≡◌, ℕ, zero, suc, List, [], ◌∷◌, ◌++◌, map, length, if◌then◌else◌}
use Rattle.model.specs.Grammar.{Grammar}
use Rattle.model.specs.Step.{Prediction, State, fails, leads, step, begin, before}
use Rattle.model.specs.Tree.{Tree, Forest, node, nil, cons, tree_of_list}

-- a node's rule number, and its daughter at position j
abbrev pub label : Tree → ℕ
label (node r ts) = r

abbrev pub child_at : Forest → ℕ → Tree
child_at nil j = node 0 nil
child_at (cons t ts) zero = t
child_at (cons t ts) (suc j) = child_at ts j

abbrev pub subtree : Tree → ℕ → Tree
subtree (node r ts) j = child_at ts j

module _ (g : Grammar) where
  -- "Each step applies the rule of the node that the front prediction stands for, and the new predictions stand for that node's daughters, position by
  -- position."
  pub record Step (s : State Tree) (r : ℕ) (s' : State Tree) : Type 0 where
    pub front : Prediction Tree
    pub rest : List (Prediction Tree)
    pub queue_is : s.queue ≡ front ∷ rest
    pub labelled : label front.node ≡ r
    pub leads_to : step subtree g s r ≡ leads s'

  -- "The trace ends when no prediction is left"; then all words are read
  abbrev pub Traces : State Tree → List ℕ → Type 0
  Traces s [] = (s.queue ≡ []) × (s.words ≡ [])
  Traces s (r ∷ rs) = (s' : State Tree) × Step s r s' × Traces s' rs

  -- "the start prediction stands for the root": the trace that belongs to tree t
  abbrev pub BelongsTo : List ℕ → List ℕ → Tree → Type 0
  BelongsTo sentence trace t = Traces (begin subtree g t sentence) trace

  -- that trace, computed: at most n steps from state s
  abbrev pub trace_from : ℕ → State Tree → List ℕ
  trace_from zero s = []
  trace_from (suc n) s =
      elim s.queue [
        | [] ↦ []
        | p ∷ q ↦ label p.node ∷ elim (step subtree g s (label p.node)) [ fails k ↦ [] | leads s' ↦ trace_from n s' ]
      ]

  -- from the tree's list
  abbrev pub trace_of : List ℕ → List ℕ → List ℕ
  trace_of sentence list = trace_from (length list) (begin subtree g (tree_of_list g list) sentence)

-- The address of a node: the daughter positions on the way to it from the root. In the order of their addresses, nodes stand parent before daughters,
-- daughters in rule order.
abbrev pub Address : Type 0
Address = List ℕ

-- daughter j of the node at an address
abbrev pub below : Address → ℕ → Address
below a j = a ++ (j ∷ [])

abbrev pub insert_node : (Address × ℕ) → List (Address × ℕ) → List (Address × ℕ)
insert_node x [] = x ∷ []
insert_node x (y ∷ ys) = if before y.0 x.0 then y ∷ insert_node x ys else x ∷ y ∷ ys

abbrev pub sort_nodes : List (Address × ℕ) → List (Address × ℕ)
sort_nodes [] = []
sort_nodes (x ∷ xs) = insert_node x (sort_nodes xs)

module _ (g : Grammar) where
  -- the rule of each step, at the address of the node that the front prediction stands for
  abbrev pub placed : State Address → List ℕ → List (Address × ℕ)
  placed s [] = []
  placed s (r ∷ rs) =
      elim s.queue [
        | [] ↦ []
        | p ∷ q ↦ (p.node, r) ∷ elim (step below g s r) [ fails k ↦ [] | leads s' ↦ placed s' rs ]
      ]

  -- the list of the tree that belongs to a trace
  abbrev pub tree_of : List ℕ → List ℕ → List ℕ
  tree_of sentence trace = map (λ x. x.1) (sort_nodes (placed (begin below g [] sentence) trace))
