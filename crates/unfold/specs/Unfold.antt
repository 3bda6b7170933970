-- The tree below the run of a trace: what the predictions that its steps take stand for (document 01, "Trace and tree"), and the table from which
-- code writes it.
-- Assumes nothing.
use Rattle.std.specs.Prelude.{◌≡◌, List, [], ◌∷◌, ◌++◌, ℕ, zero, suc, ◌+◌, ◌-◌, ◌<◌, ◌≤◌, length, get_or, drop}
use Rattle.model.specs.Base.{numbers_from}
use Rattle.model.specs.GrammarFile.{record_of, field}
use Rattle.model.specs.Tree.{Tree, Forest, node, nil, cons, preorder}
use Rattle.ranking.specs.Numbered.{made_at}

-- how many daughters rule r of the file has
abbrev pub daughter_count : List ℕ → ℕ → ℕ
daughter_count file r = field (record_of file r) 1

-- some step takes prediction p
abbrev pub Taken : List ℕ → ℕ → Type 0
Taken taken p = (k : ℕ) × (k < length taken) × (get_or taken k 0 ≡ p)

-- the trees of d predictions from number p on
abbrev pub trees_from : (ℕ → Tree) → ℕ → ℕ → Forest
trees_from names p zero = nil
trees_from names p (suc d) = cons (names p) (trees_from names (suc p) d)

-- "Each step applies the rule of the node that the front prediction stands for, and the new predictions stand for that node's daughters, position by
-- position": `names` is the tree that each prediction stands for, and what a step makes another step takes. The first step of the trace is step k.
pub record Unfolds (count : ℕ → ℕ) (k : ℕ) (taken trace : List ℕ) (names : ℕ → Tree) : Type 0 where
  pub sized : length taken ≡ length trace
  pub nodes : (i : ℕ) → i < length trace → names (get_or taken i 0) ≡ node (get_or trace i 0) (trees_from names (made_at (k + i)) (count (get_or trace i 0)))
  pub daughters : (i j : ℕ) → i < length trace → j < count (get_or trace i 0) → Taken taken (made_at (k + i) + j)

-- The table `steps` has the step that takes each prediction, filled by the first n steps; for a prediction that more than one step took, any of these.
pub record Linked (taken steps : List ℕ) (n : ℕ) : Type 0 where
  pub within : (k : ℕ) → k < n → get_or steps (get_or taken k 0) 0 < n
  pub takes : (k : ℕ) → k < n → get_or taken (get_or steps (get_or taken k 0) 0) 0 ≡ get_or taken k 0

-- a tree stands where prediction p is, by the table, and the trees of a forest where the predictions of a list are
module _ (count : ℕ → ℕ) (trace steps : List ℕ) where
  abbrev mutual
    pub Grows : Tree → ℕ → Type 0
    Grows (node r ts) p =
        (p < 388) × (get_or steps p 0 < 96) × (get_or trace (get_or steps p 0) 0 ≡ r) × GrowsAll ts (numbers_from (made_at (get_or steps p 0)) (count r))

    pub GrowsAll : Forest → List ℕ → Type 0
    GrowsAll nil [] = Unit {0}
    GrowsAll nil (p ∷ ps) = ⊥
    GrowsAll (cons t ts) [] = ⊥
    GrowsAll (cons t ts) (p ∷ ps) = Grows t p × GrowsAll ts ps

  -- prediction 0 stands for a tree that is short enough
  pub record Grown : Type 0 where
    pub tree : Tree
    pub grows : Grows tree 0
    pub few : length (preorder tree) ≤ 96

-- d predictions from number `first` on are put before those that wait from `top` on
pub record Pushed (before after : List ℕ) (top first d r : ℕ) : Type 0 where
  pub kept : length after ≡ length before
  pub place : r ≡ top - d
  pub stack : drop r after ≡ numbers_from first d ++ drop top before
