-- Where the trees of a list stand: the place after the tree of a node, and the places of its daughters.
-- Assumes nothing.
use Rattle.std.specs.Prelude.{◌≡◌, List, ℕ, zero, suc, ◌<◌, ◌≤◌, ◌-◌, length, get_or, drop}
use Rattle.model.specs.Grammar.{Grammar}
use Rattle.model.specs.Tree.{preorders, others, forest}

-- the place after the tree that begins at place i: as many numbers are left as the other trees have nodes
abbrev pub end_of : Grammar → List ℕ → ℕ → ℕ
end_of g list i = length list - length (preorders (others 1 (forest g (drop i list))))

-- "parent before daughters, daughters in rule order": the first daughter stands after its parent, each other one after the tree of the one before it
abbrev pub daughter_place : Grammar → List ℕ → ℕ → ℕ → ℕ
daughter_place g list i zero = suc i
daughter_place g list i (suc j) = end_of g list (daughter_place g list i j)

-- the table has the place after the tree of each node from place k up to e
abbrev pub Ended : Grammar → List ℕ → List ℕ → ℕ → ℕ → Type 0
Ended g list table k e = (i : ℕ) → k ≤ i → i < e → get_or table i 0 ≡ end_of g list i

-- the places of the daughters of the node at place i, by such a table
abbrev pub sister : List ℕ → ℕ → ℕ → ℕ
sister table i zero = suc i
sister table i (suc j) = get_or table (sister table i j) 0
