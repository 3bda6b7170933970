-- The figures by rounds are the least heights of trees, and a category with no figure after as many rounds as there are categories has no tree: so
-- every well-formed grammar has a right survey, and the rounds give it.
-- Assumes nothing.
use mathlib.Core.Path.{◌≡◌, sym, subst}
use mathlib.Core.Logic.{◌⊎◌, inl, inr}
use mathlib.Core.Option.{none}
use mathlib.Core.List.{List, [], ◌∷◌}
use Prim.Native.Nat.{ℕ, zero, suc, ◌<◌, ◌≤◌, max}
use native.Mathlib.Omega.{arith}
use native.Mathlib.Decide.{ℕ_discrete, dec_le}
use lib.Dec.{T, eqb}
use lib.ListN.{length, get_or}
use borrow.Author.Tests.{eq-eqb}
use Rattle.model.specs.Grammar.{Grammar}
use Rattle.model.specs.GrammarFile.{grammar_refusal, grammar_of}
use Rattle.model.specs.WellFormed.{WellFormed}
use Rattle.model.specs.Tree.{Tree, Forest, node, nil, cons, has_root, has_roots}
use Rattle.model.specs.Survey.{height, heights, ready, rounds, survey, LeastHeight, Figure, Surveyed}
use Rattle.model.proofs.Tests.{and_l, and_r, and_both}
use Rattle.model.proofs.Traces.{root}
use Rattle.model.proofs.WellFormed.{accepted_well}
use Rattle.model.proofs.SurveyVisits.{Found, Given, ready_first, ready_rest}
use Rattle.model.proofs.SurveyRounds.{rounds_long, next_round, rounds_bounded, round_gives, kept, survey_last}

module _ (g : Grammar) where
  -- a tree of the category of at most that height
  record Low (category n : ℕ) : Type 0 where
    pub tree : Tree
    pub rooted : T (has_root g tree category)
    pub low : height tree ≤ n

  -- trees of the categories, each below that height
  record Lower (categories : List ℕ) (n : ℕ) : Type 0 where
    pub trees : Forest
    pub rooted : T (has_roots g trees categories)
    pub low : heights trees < n

  -- a node over such trees
  joined : (k category : ℕ) (F : List ℕ) (d : Given g k F category) → Lower d.rule.daughters k → Low category k
  joined k c F d l =
      record {
        tree = node d.number l.trees;
        rooted =
            rw d.is_rule
            (and_both (eqb d.rule.category c) (has_roots g l.trees d.rule.daughters) (rw (eq-eqb d.rule.category c d.of_category) tt) l.rooted);
        low = omega (arith, l.low);
      }

  -- daughters that are ready have such trees
  lower : (k : ℕ) (F ds : List ℕ) → 1 ≤ k → ((c : ℕ) → 0 < get_or F c 0 → Low c (get_or F c 0)) → T (ready k F ds) → Lower ds k
  lower k F [] i h t = record { trees = nil; rooted = tt; low = omega arith }
  lower k F (d ∷ ds) i h t =
      let (a, b) = ready_first k F d ds t in
      let x = h d a in
      let y = lower k F ds i h (ready_rest k F d ds t) in
      record {
        trees = cons x.tree y.trees;
        rooted = and_both (has_root g x.tree d) (has_roots g y.trees ds) x.rooted y.rooted;
        low = omega (arith, x.low, y.low);
      }

module _ (g : Grammar) (well : WellFormed g) where
  -- a figure is the height of a tree at most
  figure_tree : (n c : ℕ) → 0 < get_or (rounds g n) c 0 → Low g c (get_or (rounds g n) c 0)
  figure_tree zero c h = absurd (omega (arith, rounds_bounded g well 0 c))
  figure_tree (suc n) c h = go ((next_round g well n).each c) (λ d. figure_tree n d)
    where
      go : (get_or (rounds g (suc n)) c 0 ≡ get_or (rounds g n) c 0) ⊎ ((get_or (rounds g n) c 0 ≡ 0) × (get_or (rounds g (suc n)) c 0 ≡ suc n) × Given g (suc n) (rounds g n) c)
          → ((d : ℕ) → 0 < get_or (rounds g n) d 0 → Low g d (get_or (rounds g n) d 0)) → Low g c (get_or (rounds g (suc n)) c 0)
      go (inl e) ih = subst (Low g c) (sym e) (ih c (omega arith))
      go (inr x) ih = subst (Low g c) (sym x.1) (joined g (suc n) c (rounds g n) x.2 (lower g (suc n) (rounds g n) x.2.rule.daughters (omega arith) ih x.2.ready_daughters))

  -- a tree of height n gives its category a figure in n rounds
  node_found : (r : ℕ) (ts : Forest) (c n : ℕ) → T (has_root g (node r ts) c) → suc (heights ts) ≤ n
      → ((cs : List ℕ) (m : ℕ) → T (has_roots g ts cs) → heights ts ≤ m → Found (rounds g m) cs) → 0 < get_or (rounds g n) c 0
  node_found r ts c zero t h below = let z : ⊥ = omega arith in absurd z
  node_found r ts c (suc m) t h below =
      let x = root g (node r ts) c t in
      let e : x.trees ≡ ts = cc x.is_node in
      subst (λ (k : ℕ). 0 < get_or (rounds g (suc m)) k 0) x.of_cat
      (round_gives g well m r x.rule x.is_rule (below x.rule.daughters m (rw e at x.below) (omega arith)))

  mutual
    tree_found : (t : Tree) (c n : ℕ) → T (has_root g t c) → height t ≤ n → 0 < get_or (rounds g n) c 0
    tree_found (node r ts) c n t h = node_found r ts c n t h (λ cs m u k. trees_found ts cs m u k)

    trees_found : (ts : Forest) (cs : List ℕ) (n : ℕ) → T (has_roots g ts cs) → heights ts ≤ n → Found (rounds g n) cs
    trees_found nil [] n t h = tt
    trees_found nil (c ∷ cs) n t h = absurd t
    trees_found (cons u us) [] n t h = absurd t
    trees_found (cons u us) (c ∷ cs) n t h =
        (tree_found u c n (and_l (has_root g u c) (has_roots g us cs) t) (omega arith), trees_found us cs n (and_r (has_root g u c) (has_roots g us cs) t) (omega arith))

  -- no tree is lower than the figure of its category
  none_lower : (n c : ℕ) (t : Tree) → T (has_root g t c) → get_or (rounds g n) c 0 ≤ height t
  none_lower n c t u = go (dec_le (get_or (rounds g n) c 0) (height t))
    where
      go : Dec (get_or (rounds g n) c 0 ≤ height t) → get_or (rounds g n) c 0 ≤ height t
      go (yes h) = h
      go (no h) =
          let b = rounds_bounded g well n c in
          omega (arith, kept g well (height t) n c (omega arith) (tree_found t c (height t) u (omega arith)), rounds_bounded g well (height t) c)

  -- the figures are the least heights
  pub least_heights : (c : ℕ) → 0 < get_or (survey g) c 0 → LeastHeight g c (get_or (survey g) c 0)
  least_heights c h =
      let n = length g.dimensions in
      let x = figure_tree n c h in
      record { tree = x.tree; rooted = x.rooted; high = omega (arith, x.low, none_lower n c x.tree x.rooted); least = none_lower n c }

  -- a category with a tree has a figure
  survey_found : (t : Tree) (c : ℕ) → T (has_root g t c) → 0 < get_or (survey g) c 0
  survey_found t c u =
      let m = max (height t) (length g.dimensions) in
      subst (λ (F : List ℕ). 0 < get_or F c 0) (survey_last g well m (omega arith)) (tree_found t c m u (omega arith))

  -- the rounds give a right survey
  pub surveyed : Surveyed g (survey g)
  surveyed = record { long = rounds_long g well (length g.dimensions); each = λ c h. go c (ℕ_discrete (get_or (survey g) c 0) 0) }
    where
      go : (c : ℕ) → Dec (get_or (survey g) c 0 ≡ 0) → Figure g c (get_or (survey g) c 0)
      go c (yes e) = inl (e, λ t u. omega (arith, survey_found t c u))
      go c (no e) =
          let x = figure_tree (length g.dimensions) c (omega arith) in
          inr record { tree = x.tree; rooted = x.rooted; low = x.low; from_one = omega arith; to_all = rounds_bounded g well (length g.dimensions) c }

-- for every file that the reader accepts
pub file_surveyed : (file : List ℕ) → grammar_refusal file ≡ none → Surveyed (grammar_of file) (survey (grammar_of file))
file_surveyed file accepted = surveyed (grammar_of file) (accepted_well file accepted)
