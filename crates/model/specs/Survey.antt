-- The survey of categories (document 01, "Survey and writer"): what its output has to be, and the figures by rounds over the rules, which are one
-- such output.
-- Assumes nothing.
use Rattle.std.specs.Prelude.{◌≡◌, ◌⊎◌, Bool, true, ◌&&◌, List, [], ◌∷◌, ℕ, zero, suc, ◌<◌, ◌≤◌, max, T, ltb, eqb, length, get_or, set, replicate, if◌then◌else◌}
use Rattle.std.proofs.Math.Option.{Option, none, some}
use Rattle.model.specs.Grammar.{Rule, Grammar, rule_at}
use Rattle.model.specs.Tree.{Tree, Forest, node, nil, cons, has_root}

-- "one node: height 1"; `heights` is the height of the highest of several trees
abbrev mutual
  pub height : Tree → ℕ
  height (node r ts) = suc (heights ts)

  pub heights : Forest → ℕ
  heights nil = 0
  heights (cons t ts) = max (height t) (heights ts)

-- "no tree has it as root"; "here a tree may have any number of nodes"
abbrev pub Barren : Grammar → ℕ → Type 0
Barren g category = (t : Tree) → T (has_root g t category) → ⊥

-- "a figure from 1 to C such that a tree of at most that height exists"
pub record Fertile (g : Grammar) (category figure : ℕ) : Type 0 where
  pub tree : Tree
  pub rooted : T (has_root g tree category)
  pub low : height tree ≤ figure
  pub from_one : 1 ≤ figure
  pub to_all : figure ≤ length g.dimensions

-- "Per category: 0 if no tree has it as root, otherwise a figure from 1 to C such that a tree of at most that height exists (one node: height 1). Which
-- figure is free."
abbrev pub Figure : Grammar → ℕ → ℕ → Type 0
Figure g category figure = ((figure ≡ 0) × Barren g category) ⊎ Fertile g category figure

-- "The survey writes C figures": one for each category, each right
pub record Surveyed (g : Grammar) (figures : List ℕ) : Type 0 where
  pub long : length figures ≡ length g.dimensions
  pub each : (category : ℕ) → category < length g.dimensions → Figure g category (get_or figures category 0)

-- "Which figure is free": what follows gives each category with a tree the least figure there can be. Round i gives figure i to each category
-- that has none and has a rule all of whose daughters have a figure below i; 0 stands for no figure.

-- every daughter has a figure, below that of the round
abbrev pub ready : ℕ → List ℕ → List ℕ → Bool
ready round figures [] = true
ready round figures (d ∷ ds) = ltb 0 (get_or figures d 0) && ltb (get_or figures d 0) round && ready round figures ds

-- the rule's category has no figure yet, and the daughters are ready
abbrev pub due : ℕ → List ℕ → Rule → Bool
due round figures rule = eqb (get_or figures rule.category 0) 0 && ready round figures rule.daughters

-- the figures after a visit to rule r, if there is one
abbrev pub visit_by : ℕ → List ℕ → Option Rule → List ℕ
visit_by round figures none = figures
visit_by round figures (some rule) = if due round figures rule then set figures rule.category round else figures

abbrev pub visit : Grammar → ℕ → List ℕ → ℕ → List ℕ
visit g round figures r = visit_by round figures (rule_at g r)

-- the figures after visits to rules 0 to n - 1, in order
abbrev pub visits : Grammar → ℕ → List ℕ → ℕ → List ℕ
visits g round figures zero = figures
visits g round figures (suc n) = visit g round (visits g round figures n) n

-- one round visits every rule
abbrev pub survey_round : Grammar → ℕ → List ℕ → List ℕ
survey_round g round figures = visits g round figures (length g.rules)

-- the figures after n rounds, the first of which is round 1; at first no category has a figure
abbrev pub rounds : Grammar → ℕ → List ℕ
rounds g zero = replicate (length g.dimensions) 0
rounds g (suc n) = survey_round g (suc n) (rounds g n)

-- "C figures": as many rounds as there are categories
abbrev pub survey : Grammar → List ℕ
survey g = rounds g (length g.dimensions)

-- n is the least figure that there can be: a tree of the category has height n, and none is lower
pub record LeastHeight (g : Grammar) (category n : ℕ) : Type 0 where
  pub tree : Tree
  pub rooted : T (has_root g tree category)
  pub high : height tree ≡ n
  pub least : (t : Tree) → T (has_root g t category) → n ≤ height t
