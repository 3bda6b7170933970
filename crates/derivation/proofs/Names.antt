-- What predictions stand for, after a step.
-- Assumes nothing.
use mathlib.Core.Path.{◌≡◌, refl, sym, ap, subst, ◌∙◌}
use mathlib.Core.Option.{none}
use mathlib.Core.List.{List, [], ◌∷◌}
use Prim.Native.Nat.{ℕ, zero, suc, ◌+◌, ◌<◌}
use native.Mathlib.Omega.{arith}
use lib.ListN.{length, get_or, drop}
use Rattle.model.specs.Base.{numbers_from}
use Rattle.model.specs.Grammar.{Grammar, rule_at}
use Rattle.model.specs.Tree.{Tree, tree_of_list, nodes_refusal, arity_by, arity}
use Rattle.model.specs.Conversions.{subtree}
use Rattle.model.proofs.Apart.{Every, every_append, every_to, every_both, mem_every, every_perm}
use Rattle.ranking.specs.Recognizer.{goes}
use Rattle.ranking.specs.Ranks.{Ranked, RankedState, step_ranked}
use Rattle.ranking.specs.Numbered.{made_at, number_at, extended}
use Rattle.ranking.proofs.Bounds.{every_map}
use Rattle.ranking.proofs.Numbered.{Below, extended_old, extended_new}
use Rattle.trees.specs.Places.{Ended, daughter_place, sister}
use Rattle.trees.proofs.Places.{daughter_tree, daughter_within}
use Rattle.derivation.specs.TreeRun.{NamesGiven}
use Rattle.derivation.proofs.Queued.{numbers_of, every_numbers, Queued, step_queued}

-- the list passes the tests of its nodes, the table has their ends, and each prediction of the queue stands for a node, at a place of the list
pub record Stood (g : Grammar) (list ends places : List ℕ) (q : List (Ranked ℕ)) : Type 0 where
  pub tested : nodes_refusal g 0 (g.start ∷ []) list ≡ none
  pub ends_long : length ends ≡ 96
  pub ended : Ended g list ends 0 (length list)
  pub long : length places ≡ 388
  pub inside : Every (λ n. get_or places n 0 < length list) (numbers_of q)

-- "the new predictions stand for that node's daughters": each prediction of the queue stands for the tree at its place of the list
abbrev pub Named : Grammar → List ℕ → List ℕ → List (Ranked ℕ) → (ℕ → Tree) → Type 0
Named g list places q names = Every (λ n. names n ≡ tree_of_list g (drop (get_or places n 0) list)) (numbers_of q)

below_numbers : (n : ℕ) (q : List (Ranked ℕ)) → Below n q → Every (λ m. m < n) (numbers_of q)
below_numbers n q h = every_map (λ m. m < n) (λ (p : Ranked ℕ). p.node) q (mem_every (λ p. p.node < n) q h)

module _ (g : Grammar) (list ends places : List ℕ) (S : RankedState ℕ) (stood : Stood g list ends places S.queue) (i : ℕ) (here : i < length list) where
  -- the table gives the places of the daughters of the node at place i
  sister_is : (j : ℕ) → ((m : ℕ) → m < j → m < arity g (get_or list i 0)) → sister ends i j ≡ daughter_place g list i j
  sister_is zero h = refl
  sister_is (suc j) h =
      ap (λ (x : ℕ). get_or ends x 0) (sister_is j (λ m l. h m (omega arith)))
      ∙ stood.ended (daughter_place g list i j) (omega arith) (daughter_within g list (g.start ∷ []) stood.tested i here j (h j (omega arith)))

  pub sister_inside : (j : ℕ) → j < arity g (get_or list i 0) → sister ends i j < length list
  sister_inside j h =
      subst (λ (x : ℕ). x < length list) (sym (sister_is j (λ m l. omega arith)))
      (daughter_within g list (g.start ∷ []) stood.tested i here j h)

  -- step k applies the node's rule, and its daughters get names
  module _ (k : ℕ) (below : Below (made_at k) S.queue) (next : RankedState ℕ) (leads : step_ranked (number_at k) g S (get_or list i 0) ≡ goes next) (d : ℕ) (all : d ≡ arity g (get_or list i 0))
      (after : List ℕ) (given : NamesGiven ends i (made_at k) d places after) where
    taken : Queued g k S.queue (rule_at g (get_or list i 0)) next
    taken = step_queued g k S next (get_or list i 0) leads

    -- what holds of the numbers that wait and of the new ones
    every_next : (P Q : ℕ → Type 0) → Every Q (numbers_of S.queue) → ((n : ℕ) → n < made_at k → Q n → P n) → ((j : ℕ) → j < d → P (made_at k + j)) → Every P (numbers_of next.queue)
    every_next P Q h old new =
        let few = length taken.rule.daughters in
        let e : d ≡ few = all ∙ ap arity_by taken.known in
        let waits = every_both (λ n. n < made_at k) Q (numbers_of S.queue) (below_numbers (made_at k) S.queue below) h in
        every_perm P taken.numbers
        (every_append P (numbers_from (made_at k) few) (numbers_of taken.rest) (every_numbers P (made_at k) few (λ j l. new j (omega arith)))
        (every_to (λ n. (n < made_at k) × Q n) P (λ n u. old n u.0 u.1) (numbers_of taken.rest) (subst (λ (q : List (Ranked ℕ)). Every (λ n. (n < made_at k) × Q n) (numbers_of q)) taken.queue_is waits).1))

    pub stood_next : Stood g list ends after next.queue
    stood_next =
        record {
          tested = stood.tested;
          ends_long = stood.ends_long;
          ended = stood.ended;
          long = given.long;
          inside = every_next (λ n. get_or after n 0 < length list) (λ n. get_or places n 0 < length list) stood.inside
              (λ n b h. omega (arith, given.old n b))
              (λ j l. omega (arith, given.new j l, sister_inside j (omega arith)));
        }

    pub named_next : (front : Tree) → front ≡ tree_of_list g (drop i list) → (names : ℕ → Tree) → Named g list places S.queue names
        → Named g list after next.queue (extended (made_at k) (subtree front) names)
    named_next front e names h =
        every_next (λ n. extended (made_at k) (subtree front) names n ≡ tree_of_list g (drop (get_or after n 0) list)) (λ n. names n ≡ tree_of_list g (drop (get_or places n 0) list)) h
        (λ n b f. extended_old (made_at k) (subtree front) names n b ∙ f ∙ ap (λ (x : ℕ). tree_of_list g (drop x list)) (sym (given.old n b)))
        (λ j l.
        let m : j < arity g (get_or list i 0) = omega arith in
        extended_new (made_at k) (subtree front) names j ∙ ap (λ (t : Tree). subtree t j) e ∙ daughter_tree g list i here j m
        ∙ ap (λ (x : ℕ). tree_of_list g (drop x list)) (sym (given.new j l ∙ sister_is j (λ n b. omega arith))))
