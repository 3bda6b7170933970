-- The trace checker accepts the traces of the trees that derive the sentence, and those only.
-- Assumes nothing.
use Rattle.std.specs.Prelude.{if◌then◌else◌}
use mathlib.Core.Path.{◌≡◌, refl, ap, ◌∙◌}
use mathlib.Core.Bool.{Bool, true, false}
use mathlib.Core.Option.{none, some}
use mathlib.Core.List.{List, [], ◌∷◌}
use Prim.Native.Nat.{ℕ, suc, ◌-◌, ◌≤◌}
use native.Mathlib.Omega.{arith}
use borrow.Author.Tests.{le-ltb, ltb-false, ne_eqb, eqb-false}
use lib.Dec.{T, ltb, eqb}
use lib.ListN.{length}
use Rattle.model.specs.declared.Refusal.{Refusal}
use Rattle.model.specs.Base.{◌or_else◌}
use Rattle.model.specs.Verdict.{refuse_if}
use Rattle.model.specs.Grammar.{Grammar}
use Rattle.model.specs.Step.{State, Outcome, fails, leads, step}
use Rattle.model.specs.Trace.{no_node, run, steps_refusal, trace_refusal, length_refusal}
use Rattle.model.specs.Tree.{Tree, derives, preorder}
use Rattle.model.specs.Counting.{start}
use Rattle.model.specs.LivePrefixes.{LiveFrom}
use Rattle.model.specs.WellFormed.{Right}
use Rattle.model.specs.Conversions.{trace_of}
use Rattle.model.specs.Demands.{Ends}
use Rattle.model.proofs.Live.{cons_unlive, queue_fits}
use Rattle.model.proofs.Analyses.{at, at_good, derived_trace, trace_derives, trace_size, trace_of_lem, traces_live, traces_end, of_tree, rooted_of, tree_counts}
use Rattle.model.proofs.Tests.{none_some, no_refusal, both_none}

nothing_left : (ws : List ℕ) → ltb 0 (length ws) ≡ false → ws ≡ []
nothing_left [] e = refl
nothing_left (w ∷ ws) e = let z : ⊥ = omega (arith, ltb-false 0 (suc (length ws)) e) in absurd z

module _ (g : Grammar) (sentence : List ℕ) where
  -- what the checker takes leads to the end
  steps_end : (p : List ℕ) (k : ℕ) (s : State (Unit {0})) → length s.queue ≤ length p → steps_refusal g sentence k s p ≡ none → Ends g s p
  steps_end [] k s h e =
      record {
        last = s;
        runs = refl;
        no_queue = no_queue s.queue h;
        no_words = nothing_left s.words (no_refusal (ltb 0 (length s.words)) (Refusal.Analysis 18 (length sentence - length s.words)) e);
      }
    where
      no_queue : {A : Type 0} (q : List A) → length q ≤ 0 → q ≡ []
      no_queue [] l = refl
      no_queue (x ∷ q) l = let z : ⊥ = omega arith in absurd z
  steps_end (r ∷ p) k s h e = go (step no_node g s r) refl (λ s' l e'. steps_end p (suc k) s' l e')
    where
      go : (o : Outcome (Unit {0})) → step no_node g s r ≡ o
          → ((s' : State (Unit {0})) → length s'.queue ≤ length p → steps_refusal g sentence (suc k) s' p ≡ none → Ends g s' p) → Ends g s (r ∷ p)
      go (fails n) f ih = none_some (rw (f, steps_refusal) at e)
      go (leads s') f ih = test (ltb (length p) (length s'.queue)) refl (rw (f, steps_refusal) at e)
        where
          test : (b : Bool) → ltb (length p) (length s'.queue) ≡ b
              → (if b then some (Refusal.Analysis 17 (suc k)) else steps_refusal g sentence (suc k) s' p) ≡ none → Ends g s (r ∷ p)
          test true t u = none_some u
          test false t u =
              let x = ih s' (ltb-false (length p) (length s'.queue) t) u in
              record { last = x.last; runs = rw (f, run) x.runs; no_queue = x.no_queue; no_words = x.no_words }

  -- and what leads to the end, and is live for its own length, the checker takes
  end_steps : (p : List ℕ) (k : ℕ) (s : State (Unit {0})) → LiveFrom g (length p) s p → Ends g s p → steps_refusal g sentence k s p ≡ none
  end_steps [] k s l e =
      let f : s ≡ e.last = cc e.runs in
      let w : s.words ≡ [] = ap (λ (x : State (Unit {0})). x.words) f ∙ e.no_words in
      rw w
  end_steps (r ∷ p) k s l e =
      let b = cons_unlive g (length p) r s p l in
      let q = queue_fits g (length p) b.next p b.rest in
      let f = b.leads_to in
      let ih = end_steps p (suc k) b.next b.rest (record { last = e.last; runs = rw (f, run) at e.runs; no_queue = e.no_queue; no_words = e.no_words }) in
      rw (f, steps_refusal) (rw (le-ltb (length p) (length b.next.queue) q) ih)

module _ (g : Grammar) (right : Right g) (sentence : List ℕ) where
  -- what the trace checker accepts is the trace of a tree that derives the sentence
  pub record Accepted (p : List ℕ) : Type 0 where
    pub tree : Tree
    pub derived : T (derives g sentence tree)
    pub trace : trace_of g sentence (preorder tree) ≡ p

  pub accepted_trace : (p : List ℕ) → trace_refusal g sentence p ≡ none → Accepted p
  accepted_trace p e =
      let a = both_none (length_refusal p) (refuse_if (eqb (length p) 0) (Refusal.Analysis 17 0) or_else steps_refusal g sentence 0 (start g sentence) p) e in
      let b = both_none (refuse_if (eqb (length p) 0) (Refusal.Analysis 17 0)) (steps_refusal g sentence 0 (start g sentence) p) a.1 in
      let n = eqb-false (length p) 0 (no_refusal (eqb (length p) 0) (Refusal.Analysis 17 0) b.0) in
      let o = of_tree g right sentence p (steps_end g sentence p 0 (start g sentence) (omega arith) b.1) in
      record {
        tree = o.tree;
        derived = trace_derives g right sentence o.tree p o.rooted o.traces;
        trace = trace_of_lem g right sentence o.tree p o.rooted o.traces;
      }

  -- and the trace of every such tree of at most 96 nodes is accepted
  pub tree_accepted : (t : Tree) → T (derives g sentence t) → length (preorder t) ≤ 96 → trace_refusal g sentence (trace_of g sentence (preorder t)) ≡ none
  tree_accepted t h l =
      let r = rooted_of g right sentence t h in
      let d = derived_trace g right sentence t h in
      let p = d.0 in
      let k = trace_size g right sentence t p r d.1 in
      let s = end_steps g sentence p 0 (start g sentence) (traces_live g right sentence (length p) p (at g right sentence t) (at_good g right sentence t r) d.1 (omega arith)) (traces_end g right sentence p (at g right sentence t) d.1) in
      let z : length p ≡ 0 → ⊥ = λ e. omega (arith, tree_counts t) in
      rw (trace_of_lem g right sentence t p r d.1, le-ltb 96 (length p) (omega arith), ne_eqb (length p) 0 z) s
