-- Refusal 22 by the run along the tree: the trace of a tree is accepted exactly when the tree's yield fits the sentence.
-- Assumes nothing.
use mathlib.Core.Path.{◌≡◌, refl, sym, ap, subst, ◌∙◌}
use mathlib.Core.Bool.{Bool, true, false}
use mathlib.Core.Option.{Option, none, some}
use mathlib.Core.List.{List, [], ◌∷◌, map, append-nil, head-eq_of_cons-eq, tail-eq_of_cons-eq}
use Prim.Native.Nat.{ℕ, zero, suc, ◌+◌, ◌<◌, ◌≤◌, ◌-◌}
use native.Mathlib.Omega.{arith}
use lib.Dec.{T}
use lib.ListN.{length, get_or, take, drop}
use lib.Seq.{sets-eq, length-sets, take_at}
use Rattle.model.specs.Grammar.{Grammar}
use Rattle.model.specs.GrammarFile.{start_of, grammar_refusal, grammar_of}
use Rattle.model.specs.WellFormed.{Right}
use Rattle.model.specs.Step.{Prediction, State, Outcome, fails, leads, step}
use Rattle.model.specs.Trace.{no_node, run, trace_refusal}
use Rattle.model.specs.Tree.{Tree, Forest, node, nil, cons, preorder, preorders, has_root, has_roots, spells, forest, tree_of_list, nodes_refusal}
use Rattle.model.specs.Conversions.{label, subtree, Traces, trace_from, trace_of}
use Rattle.model.specs.Demands.{Ends}
use Rattle.model.proofs.Tests.{and_l, and_r, and_both, none_some}
use Rattle.model.proofs.FromFile.{accepted_right}
use Rattle.model.proofs.Apart.{Every}
use Rattle.model.proofs.Marks.{bare, bare_state, bare_outcome, step_bare}
use Rattle.model.proofs.Reading.{read}
use Rattle.model.proofs.Analyses.{at, trace_derives}
use Rattle.model.proofs.Checker.{tree_accepted}
use Rattle.model.proofs.Demands.{belongs, trace_only}
use Rattle.ranking.specs.Ranks.{Ranked, RankedState}
use Rattle.ranking.specs.Numbered.{begin_numbered, trace_of_numbered}
use Rattle.ranking.proofs.Numbered.{trace_agrees}
use Rattle.ranks.specs.Held.{queue_in, FirstQueue}
use Rattle.ranks.specs.Table.{Compiled}
use Rattle.steps.specs.declared.Standing.{Standing}
use Rattle.steps.specs.Steps.{state_in, begin}
use Rattle.recognizer.specs.Traces.{refusal_numbered}
use Rattle.recognizer.proofs.Checked.{trace_by_ranks, begin_runs, begin_state}
use Rattle.trees.specs.Places.{Ended}
use Rattle.derivation.specs.TreeRun.{Spelled}
use Rattle.derivation.proofs.Queued.{numbers_of}
use Rattle.derivation.proofs.Names.{Named}
use Rattle.derivation.proofs.TreeRun.{Traced, RunSays, TreeRun}
use Rattle.derivation.proofs.RunCode.{Looping}

-- steps by the rules of the nodes that lead to the end are the trace that belongs to the trees
module _ (g : Grammar) where
  no_queue : (q : List (Prediction Tree)) → map bare q ≡ [] → q ≡ []
  no_queue [] e = refl
  no_queue (p ∷ q) e = let z : ◌≡◌ {A = ℕ} 0 1 = cc in absurd (omega arith)

  -- what follows the first step, of the trees and of the checker
  abbrev rest : ℕ → Outcome Tree → List ℕ
  rest n o = elim o [ fails i ↦ [] | leads s ↦ trace_from g n s ]

  abbrev after : List ℕ → Outcome (Unit {0}) → Option (State (Unit {0}))
  after rs o = elim o [ fails i ↦ none | leads s ↦ run no_node g s rs ]

  abbrev from_queue : ℕ → State Tree → List (Prediction Tree) → List ℕ
  from_queue n s q = elim q [ [] ↦ [] | p ∷ q ↦ label p.node ∷ rest n (step subtree g s (label p.node)) ]

  pub traces_from : (p : List ℕ) (n : ℕ) (s : State Tree) → trace_from g n s ≡ p → Ends g (bare_state s) p → Traces g s p
  traces_from [] n s e h =
      let k : bare_state s ≡ h.last = cc h.runs in
      (no_queue s.queue (ap (λ (x : State (Unit {0})). x.queue) k ∙ h.no_queue), ap (λ (x : State (Unit {0})). x.words) k ∙ h.no_words)
  traces_from (r ∷ rs) zero s e h = let z : ◌≡◌ {A = ℕ} 0 1 = cc in absurd (omega arith)
  traces_from (r ∷ rs) (suc n) s e h = go s.queue refl (λ s' a b. traces_from rs n s' a b)
    where
      by : (x : Prediction Tree) (q : List (Prediction Tree)) → s.queue ≡ x ∷ q → label x.node ≡ r → (o : Outcome Tree) → step subtree g s r ≡ o → rest n o ≡ rs → after rs (bare_outcome o) ≡ some h.last
          → ((s' : State Tree) → trace_from g n s' ≡ rs → Ends g (bare_state s') rs → Traces g s' rs) → Traces g s (r ∷ rs)
      by x q f l (fails i) d a b ih = none_some (sym b)
      by x q f l (leads s') d a b ih = (
        s',
        record { front = x; rest = q; queue_is = f; labelled = l; leads_to = d },
        ih s' a (record { last = h.last; runs = b; no_queue = h.no_queue; no_words = h.no_words }),
      )

      go : (q : List (Prediction Tree)) → s.queue ≡ q → ((s' : State Tree) → trace_from g n s' ≡ rs → Ends g (bare_state s') rs → Traces g s' rs) → Traces g s (r ∷ rs)
      go [] f ih = let k : [] ≡ r ∷ rs = sym (ap (from_queue n s) f) ∙ e in let z : ◌≡◌ {A = ℕ} 0 1 = cc in absurd (omega arith)
      go (x ∷ q) f ih =
          let k : label x.node ∷ rest n (step subtree g s (label x.node)) ≡ r ∷ rs = sym (ap (from_queue n s) f) ∙ e in
          let l : label x.node ≡ r = head-eq_of_cons-eq k in
          by x q f l (step subtree g s r) refl (ap (λ (m : ℕ). rest n (step subtree g s m)) (sym l) ∙ tail-eq_of_cons-eq k) (ap (after rs) (step_bare subtree g s r) ∙ h.runs) ih

-- a list that passes the tests of its nodes is that of a tree with the start category as root
module _ (g : Grammar) (list : List ℕ) (tested : nodes_refusal g 0 (g.start ∷ []) list ≡ none) where
  one_tree : (f : Forest) → T (has_roots g f (g.start ∷ [])) → preorders f ≡ list → T (has_root g (elim f [ nil ↦ node 0 nil | cons t ts ↦ t ]) g.start) × (preorder (elim f [ nil ↦ node 0 nil | cons t ts ↦ t ]) ≡ list)
  one_tree nil h e = absurd h
  one_tree (cons t nil) h e = (and_l (has_root g t g.start) true h, sym (append-nil (preorder t)) ∙ e)
  one_tree (cons t (cons u us)) h e = absurd (and_r (has_root g t g.start) false h)

  pub list_tree : T (has_root g (tree_of_list g list) g.start) × (preorder (tree_of_list g list) ≡ list)
  list_tree = let r = read g 0 (g.start ∷ []) list tested in one_tree (forest g list) r.roots r.same

some_node : (g : Grammar) (list : List ℕ) → nodes_refusal g 0 (g.start ∷ []) list ≡ none → 0 < length list
some_node g [] e = none_some e
some_node g (r ∷ rs) e = omega arith

module _ (file sentence list : List ℕ) (accepted : grammar_refusal file ≡ none) (few : length list ≤ 96) (tested : nodes_refusal (grammar_of file) 0 ((grammar_of file).start ∷ []) list ≡ none) where
  abbrev g : Grammar
  g = grammar_of file

  abbrev tree : Tree
  tree = tree_of_list g list

  abbrev trace : List ℕ
  trace = trace_of g sentence list

  abbrev names : ℕ → Tree
  names n = tree

  right : Right g
  right = accepted_right file accepted

  rooted : T (has_root g tree g.start)
  rooted = (list_tree g list tested).0

  listed : preorder tree ≡ list
  listed = (list_tree g list tested).1

  pub has_node : 0 < length list
  has_node = some_node g list tested

  by_numbers : trace_of_numbered g sentence list ≡ trace
  by_numbers = trace_agrees file accepted sentence list

  -- the trace, as the checker takes it
  numbered_refusal : length trace ≡ length list → refusal_numbered g sentence 0 (begin_numbered g sentence) (trace_of_numbered g sentence list) ≡ trace_refusal g sentence trace
  numbered_refusal e = ap (refusal_numbered g sentence 0 (begin_numbered g sentence)) by_numbers ∙ sym (trace_by_ranks file sentence trace accepted (omega arith) (λ z. omega (arith, has_node)))

  pub traced_spells : Traced g sentence 0 (length list) names (begin_numbered g sentence) → T (spells g sentence tree)
  traced_spells t =
      let n : length trace ≡ length list = ap length (sym by_numbers) ∙ t.size in
      let e : trace_refusal g sentence trace ≡ none = sym (numbered_refusal n) ∙ t.accepted in
      let h = traces_from g trace (length list) (at g right sentence tree) refl (trace_only g right sentence trace e) in
      and_r (has_root g tree g.start) (spells g sentence tree) (trace_derives g right sentence tree trace rooted h)

  pub spells_traced : T (spells g sentence tree) → Traced g sentence 0 (length list) names (begin_numbered g sentence)
  spells_traced h =
      let d = and_both (has_root g tree g.start) (spells g sentence tree) rooted h in
      let n : length trace ≡ length list = ap (λ (l : List ℕ). length (trace_of g sentence l)) (sym listed) ∙ (belongs g right sentence tree d).size ∙ ap length listed in
      let e : trace_refusal g sentence trace ≡ none
      = ap (λ (l : List ℕ). trace_refusal g sentence (trace_of g sentence l)) (sym listed) ∙ tree_accepted g right sentence tree d (omega (arith, ap length listed)) in
      record { size = ap length by_numbers ∙ n; accepted = numbered_refusal n ∙ e }

  spelled_by : (before after : List ℕ) → length before ≡ 96 → (b : Bool) → RunSays g sentence 0 (length list) names (begin_numbered g sentence) before after b → (c : Bool) → spells g sentence tree ≡ c → Spelled g sentence list after b
  spelled_by before after l true h c e = record { spelled = sym (yes c e); stored = λ z. (ap length h.1 ∙ length-sets before 0 (trace_of_numbered g sentence list) ∙ l, stored) }
    where
      yes : (c : Bool) → spells g sentence tree ≡ c → spells g sentence tree ≡ true
      yes true e = e
      yes false e = absurd (subst T e (traced_spells h.0))

      stored : take (length list) after ≡ trace
      stored =
          let n : length (trace_of_numbered g sentence list) ≡ length list = h.0.size in
          ap (take (length list)) (h.1 ∙ sets-eq (trace_of_numbered g sentence list) before 0 (omega arith)) ∙ take_at (trace_of_numbered g sentence list) (drop (0 + length (trace_of_numbered g sentence list)) before) (length list) n ∙ by_numbers
  spelled_by before after l false h true e = absurd (h (spells_traced (subst T (sym e) tt)))
  spelled_by before after l false h false e = record { spelled = sym e; stored = λ z. let y : ◌≡◌ {A = ℕ} 0 1 = cc in absurd (omega arith) }

  -- from the first queue, with prediction 0 at place 0
  module _ {c : ℕ} {w : List ℕ} (start : c ≡ start_of file) (first : FirstQueue c w) {at : Standing} (standing : at ≡ begin (length list)) where
    some_steps : length list ≡ 0 → ⊥
    some_steps z = omega (arith, has_node)

    begins : state_in g sentence w at ≡ begin_numbered g sentence
    begins = begin_state file sentence list accepted few some_steps start first standing

    first_queue : queue_in g w at.from at.to ≡ (begin_numbered g sentence).queue
    first_queue = ap (λ (s : RankedState ℕ). s.queue) begins

    -- the run of the tree begins there
    pub first_looping : (t : List ℕ) → Compiled (grammar_of file) t → (ends places before : List ℕ) → length ends ≡ 96 → Ended (grammar_of file) list ends 0 (length list) → length places ≡ 388 → get_or places 0 0 ≡ 0
        → length before ≡ 96 → Looping (grammar_of file) t sentence list ends w places before at
    first_looping t compiled ends places before l ended k z room =
        record {
          runs = begin_runs file sentence list accepted few some_steps start first standing t compiled;
          stood =
              record {
                tested = tested;
                ends_long = l;
                ended = ended;
                long = k;
                inside = subst (λ (q : List (Ranked ℕ)). Every (λ n. get_or places n 0 < length list) (numbers_of q)) (sym first_queue) (omega (arith, has_node), tt);
              };
          room = room;
          back = λ after b h. spelled_by before after room b (from_begin after b h) (spells g sentence tree) refl;
        }
      where
        named : Named g list places (queue_in g w at.from at.to) names
        named =
            subst (λ (q : List (Ranked ℕ)). Every (λ n. names n ≡ tree_of_list g (drop (get_or places n 0) list)) (numbers_of q)) (sym first_queue)
            (sym (ap (λ (x : ℕ). tree_of_list g (drop x list)) z), tt)

        from_begin : (after : List ℕ) (b : Bool) → TreeRun g sentence list at.steps (state_in g sentence w at) places before after b → RunSays g sentence 0 (length list) names (begin_numbered g sentence) before after b
        from_begin after b h =
            let e : at.steps ≡ 0 = ap (λ (x : Standing). x.steps) standing in
            let n : length list - 0 ≡ length list = omega arith in
            subst (λ (m : ℕ). RunSays g sentence 0 m names (begin_numbered g sentence) before after b) n
            (subst (λ (s : RankedState ℕ). RunSays g sentence 0 (length list - 0) names s before after b) begins
            (subst (λ (m : ℕ). RunSays g sentence m (length list - m) names (state_in g sentence w at) before after b) e (h names named)))
