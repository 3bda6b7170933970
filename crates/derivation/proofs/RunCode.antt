-- The run along a tree as code makes it: the queue in its array, and the places of the nodes that predictions stand for.
-- Assumes nothing.
use mathlib.Core.Path.{◌≡◌, refl, sym, ap, subst, ◌∙◌}
use mathlib.Core.Bool.{Bool, true, false}
use mathlib.Core.List.{List, ◌∷◌}
use Prim.Native.Nat.{ℕ, suc, ◌+◌, ◌*◌, ◌<◌, ◌≤◌, ◌-◌}
use native.Mathlib.Omega.{arith}
use native.Mathlib.Numerals.{add-one}
use borrow.Author.Tests.{leb-true, leb-false}
use lib.Dec.{leb}
use lib.ListN.{length, get_or, drop, set, length-set}
use Rattle.model.specs.Grammar.{Grammar, rule_at}
use Rattle.model.specs.Tree.{Tree, tree_of_list, arity_by, arity}
use Rattle.model.specs.Conversions.{label, subtree}
use Rattle.model.proofs.Apart.{Every}
use Rattle.ranking.specs.Recognizer.{stops, goes}
use Rattle.ranking.specs.Ranks.{Ranked, RankedState, step_ranked}
use Rattle.ranking.specs.Numbered.{made_at, number_at, names_after}
use Rattle.ranking.proofs.Numbered.{Below}
use Rattle.ranks.specs.Prediction.{unpacked}
use Rattle.ranks.specs.Held.{prediction_of, queue_in}
use Rattle.ranks.specs.Table.{RuleCells, daughters_in}
use Rattle.steps.specs.declared.Standing.{Standing}
use Rattle.steps.specs.Steps.{state_in, LeadsTo}
use Rattle.steps.proofs.Front.{queue_front, queue_none}
use Rattle.recognizer.specs.Traces.{Runs}
use Rattle.recognizer.proofs.Running.{next_steps, next_short, runs_further}
use Rattle.trees.specs.Places.{sister}
use Rattle.trees.proofs.Places.{node_label}
use Rattle.derivation.specs.TreeRun.{NamesGiven, Spelled}
use Rattle.derivation.proofs.Queued.{numbers_of, Queued, step_queued}
use Rattle.derivation.proofs.Names.{Stood, Named, sister_inside, stood_next, named_next}
use Rattle.derivation.proofs.TreeRun.{RunSays, TreeRun, run_ended, run_words_left, run_empty, run_halted, run_long, run_further}

-- The run of the tree stands at one of its steps, or at its end; the steps before are stored. What is so of the run from here on tells whether the tree's
-- yield fits.
pub record Looping (g : Grammar) (t sentence list ends w places before : List ℕ) (at : Standing) : Type 0 where
  pub runs : Runs g t sentence w at (length list)
  pub stood : Stood g list ends places (queue_in g w at.from at.to)
  pub room : length before ≡ 96
  pub back : (after : List ℕ) (b : Bool) → TreeRun g sentence list at.steps (state_in g sentence w at) places before after b → Spelled g sentence list after b

module _ {g : Grammar} {t sentence list ends w places before : List ℕ} {at : Standing} (loop : Looping g t sentence list ends w places before at) where
  abbrev k : ℕ
  k = at.steps

  abbrev S : RankedState ℕ
  S = state_in g sentence w at

  -- no step is left
  pub loop_ended : length list ≤ at.steps → Spelled g sentence list before (leb (length sentence) at.read)
  loop_ended h = loop.back before (leb (length sentence) at.read) (λ names named. go names (leb (length sentence) at.read) refl)
    where
      go : (names : ℕ → Tree) (b : Bool) → leb (length sentence) at.read ≡ b → RunSays g sentence k (length list - k) names S before before b
      go names true e = run_ended g sentence k (length list - k) names S before (omega arith) at.read refl (leb-true (length sentence) at.read e)
      go names false e = run_words_left g sentence k (length list - k) names S before (omega arith) at.read refl (leb-false (length sentence) at.read e) before

  module _ (here : at.steps < length list) where
    abbrev left : ℕ
    left = length list - suc k

    -- no prediction is left
    pub loop_empty : at.to ≤ at.from → Spelled g sentence list before false
    loop_empty h =
        loop.back before false
        (λ names named. run_empty g sentence k (length list - k) names S before left (omega arith) (queue_none g w at.from at.to loop.runs.ready.held h) before)

    module _ (fronted : at.from < at.to) where
      abbrev p : ℕ
      p = (unpacked (get_or w at.from 0)).number

      head : queue_in g w at.from at.to ≡ prediction_of g (get_or w at.from 0) ∷ queue_in g w (suc at.from) at.to
      head = queue_front g w at.from at.to loop.runs.ready.held fronted

      -- what holds of every number of the queue holds of the front's
      at_front : (P : ℕ → Type 0) → Every P (numbers_of (queue_in g w at.from at.to)) → P p
      at_front P h = (subst (λ (q : List (Ranked ℕ)). Every P (numbers_of q)) head h).0

      pub number_small : (unpacked (get_or w at.from 0)).number < 388
      number_small = let z = (subst (Below (made_at k)) head loop.runs.ready.numbered).0 in omega (arith, loop.runs.ready.few)

      -- the front stands for the node at place i
      module _ (i : ℕ) (Node-at : i ≡ get_or places (unpacked (get_or w at.from 0)).number 0) where
        abbrev r : ℕ
        r = get_or list i 0

        pub node_inside : i < length list
        node_inside = omega (arith, Node-at, at_front (λ n. get_or places n 0 < length list) loop.stood.inside)

        front_tree : (names : ℕ → Tree) → Named g list places S.queue names → names p ≡ tree_of_list g (drop i list)
        front_tree names named =
            at_front (λ n. names n ≡ tree_of_list g (drop (get_or places n 0) list)) named ∙ ap (λ (n : ℕ). tree_of_list g (drop n list)) (sym Node-at)

        labelled : (names : ℕ → Tree) → Named g list places S.queue names → label (names p) ≡ r
        labelled names named = ap label (front_tree names named) ∙ node_label g list i node_inside

        pub loop_halted : (n : ℕ) → step_ranked (number_at at.steps) g (state_in g sentence w at) (get_or list i 0) ≡ stops n → Spelled g sentence list before false
        loop_halted n e =
            loop.back before false
            (λ names named. run_halted g sentence k (length list - k) names S before left (omega arith) (prediction_of g (get_or w at.from 0)) (queue_in g w (suc at.from) at.to) head r (labelled names named) n e before)

        pub loop_long : (s : RankedState ℕ) × (step_ranked (number_at at.steps) g (state_in g sentence w at) (get_or list i 0) ≡ goes s) × (at.left ≤ length s.queue) → Spelled g sentence list before false
        loop_long l =
            loop.back before false
            (λ names named. run_long g sentence k (length list - k) names S before left (omega arith) (prediction_of g (get_or w at.from 0)) (queue_in g w (suc at.from) at.to) head r (labelled names named) l.0 l.1
            (omega (arith, l.2, loop.runs.whole)) before)

        -- the step leads on
        module _ {w' : List ℕ} {next : Standing} (leads : LeadsTo g t sentence w w' at (get_or list i 0) next) where
          abbrev s : RankedState ℕ
          s = state_in g sentence w' next

          taken : Queued g k S.queue (rule_at g r) s
          taken = step_queued g k S s r leads.leads_to

          cells : RuleCells g taken.rule t (8 * r)
          cells = loop.runs.ready.compiled r taken.rule taken.known

          pub cells_room : 8 * get_or list i 0 + 8 ≤ 2048
          cells_room = cells.room

          all : daughters_in t (8 * r) ≡ arity g r
          all = cells.daughters ∙ sym (ap arity_by taken.known)

          pub sisters_inside : (j : ℕ) → j < daughters_in t (8 * get_or list i 0) → sister ends i j < 96
          sisters_inside j h =
              let z = sister_inside g list ends places S loop.stood i node_inside j (omega (arith, all)) in
              omega (arith, loop.runs.whole, loop.runs.ready.few)

          further : (places' after : List ℕ) (b : Bool)
              → ((names : ℕ → Tree) → Named g list places S.queue names → Named g list places' s.queue (names_after subtree k names p))
              → TreeRun g sentence list next.steps s places' (set before k r) after b → TreeRun g sentence list k S places before after b
          further places' after b given h names named =
              let e : next.steps ≡ suc k = next_steps (length list) loop.runs here r leads ∙ add-one k in
              run_further g sentence k (length list - k) names S before left (omega arith) (prediction_of g (get_or w at.from 0)) (queue_in g w (suc at.from) at.to) head r (labelled names named) s leads.leads_to
              (omega (arith, next_short (length list) loop.runs here r leads, loop.runs.whole)) after b
              (subst (λ (m : ℕ). RunSays g sentence m (length list - m) (names_after subtree k names p) s (set before k r) after b) e (h (names_after subtree k names p) (given names named)))

          -- the daughters get names
          module _ (d : ℕ) (d-is : d ≡ daughters_in t (8 * get_or list i 0)) (places' : List ℕ) (given : NamesGiven ends i (made_at at.steps) d places places') where
            pub loop_next : Looping g t sentence list ends w' places' (set before at.steps (get_or list i 0)) next
            loop_next =
                record {
                  runs = runs_further (length list) loop.runs here r leads;
                  stood = stood_next g list ends places S loop.stood i node_inside k loop.runs.ready.numbered s leads.leads_to d (d-is ∙ all) places' given;
                  room = length-set before k r ∙ loop.room;
                  back = λ after b h. loop.back after b
                      (further places' after b
                      (λ names named. named_next g list ends places S loop.stood i node_inside k loop.runs.ready.numbered s leads.leads_to d (d-is ∙ all) places' given (names p) (front_tree names named) names named)
                      h);
                }
