-- Demands 2 and 3 of document 01 (`demand_2`, `demand_3`).
-- Assumes nothing.
use mathlib.Core.Path.{◌≡◌, refl, sym, ap, subst, ◌∙◌}
use mathlib.Core.Bool.{Bool, true, false, not}
use mathlib.Core.Option.{Option, none, some}
use mathlib.Core.List.{List, [], ◌∷◌}
use Prim.Native.Nat.{ℕ, ◌<◌, ◌≤◌}
use native.Mathlib.Omega.{arith}
use borrow.Author.Tests.{lt-ltb, le-ltb, lt-leb, le-leb, ltb-false, ltb-true}
use lib.Dec.{T, ltb, leb, eqb}
use lib.ListN.{length}
use Rattle.model.specs.declared.Refusal.{Refusal}
use Rattle.model.specs.Base.{◌or_else◌}
use Rattle.model.specs.Verdict.{refuse_if, verdict, count_verdict, Verdict, CountVerdict, counts}
use Rattle.model.specs.Grammar.{Grammar}
use Rattle.model.specs.WellFormed.{Right}
use Rattle.model.specs.GrammarFile.{grammar_refusal, grammar_of}
use Rattle.model.specs.Trace.{length_refusal, steps_refusal, sentence_refusal, trace_refusal}
use Rattle.model.specs.Tree.{Tree, preorder, derives, nodes_refusal, tree_of_list, spells, tree_refusal}
use Rattle.model.specs.Conversions.{BelongsTo, trace_of, tree_of}
use Rattle.model.specs.Counting.{start, live, effort, listing, count, entry, limits_refusal}
use Rattle.model.specs.Calls.{written, check_trace_verdict, check_tree_verdict, count_call, entry_verdict, entry_output}
use Rattle.model.specs.Demands.{◌⇔◌, Recognized, Derivation, ToTree, ToTrace, Demand2For, Demand2, trace_of_tree, Belongs, Demand3For, Demand3}
use Rattle.model.proofs.Tests.{none_some}
use Rattle.model.proofs.Verdicts.{none_accepted}
use Rattle.model.proofs.Live.{live_lists}
use Rattle.model.proofs.Listing.{listing_lists, order_different}
use Rattle.model.proofs.Reading.{accepted_derives, derives_accepted}
use Rattle.model.proofs.Checker.{accepted_trace, tree_accepted}
use Rattle.model.proofs.Analyses.{at, at_good, analyses, derived_trace, trace_derives, trace_of_lem, trace_size, rooted_of, traces_end, of_tree}
use Rattle.model.proofs.Addresses.{tree_of_lem}
use Rattle.model.proofs.FromFile.{accepted_right}
use Rattle.std.specs.Prelude.{Ok, Err}

-- what passes refusal 12 has at most 96 numbers
short_of : (l : List ℕ) (b : Option Refusal) → length_refusal l or_else b ≡ none → length l ≤ 96
short_of l b e = go (ltb 96 (length l)) refl e
  where
    go : (t : Bool) → ltb 96 (length l) ≡ t → refuse_if t (Refusal.Analysis 12 0) or_else b ≡ none → length l ≤ 96
    go true f k = none_some k
    go false f k = ltb-false 96 (length l) f

module _ (g : Grammar) (right : Right g) (sentence : List ℕ) where
  -- the trace of a tree that derives the sentence belongs to it, and has a step for each node
  pub belongs : (t : Tree) → T (derives g sentence t) → Belongs g sentence t
  belongs t h =
      let r = rooted_of g right sentence t h in
      let d = derived_trace g right sentence t h in
      let e = trace_of_lem g right sentence t d.0 r d.1 in
      record {
        traces = subst (λ (x : List ℕ). BelongsTo g sentence x t) (sym e) d.1;
        size = ap length e ∙ trace_size g right sentence t d.0 r d.1;
      }

  -- the trace checker accepts just the traces of at most 96 steps by which the recognizer accepts
  pub trace_short : (trace : List ℕ) → trace_refusal g sentence trace ≡ none → length trace ≤ 96
  trace_short p e = short_of p (refuse_if (eqb (length p) 0) (Refusal.Analysis 17 0) or_else steps_refusal g sentence 0 (start g sentence) p) e

  pub trace_only : (trace : List ℕ) → trace_refusal g sentence trace ≡ none → Recognized g sentence trace
  trace_only p e =
      let a = accepted_trace g right sentence p e in
      let b = belongs a.tree a.derived in
      subst (Recognized g sentence) a.trace
      (traces_end g right sentence (trace_of_tree g sentence a.tree) (at g right sentence a.tree) b.traces)

  pub trace_all : (trace : List ℕ) → length trace ≤ 96 → Recognized g sentence trace → trace_refusal g sentence trace ≡ none
  trace_all p l h =
      let o = of_tree g right sentence p h in
      let d = trace_derives g right sentence o.tree p o.rooted o.traces in
      let e = trace_of_lem g right sentence o.tree p o.rooted o.traces in
      let s = trace_size g right sentence o.tree p o.rooted o.traces in
      subst (λ (x : List ℕ). trace_refusal g sentence x ≡ none) e (tree_accepted g right sentence o.tree d (omega arith))

  -- the tree checker accepts just the lists of at most 96 numbers of trees that derive the sentence
  pub tree_short : (list : List ℕ) → tree_refusal g sentence list ≡ none → length list ≤ 96
  tree_short l e =
      short_of l (nodes_refusal g 0 (g.start ∷ []) l or_else refuse_if (not (spells g sentence (tree_of_list g l))) (Refusal.Analysis 22 0)) e

  pub tree_all : (list : List ℕ) → length list ≤ 96 → Derivation g sentence list → tree_refusal g sentence list ≡ none
  tree_all l h d =
      let n : length (preorder d.tree) ≤ 96 = omega (arith, ap length d.listed) in
      subst (λ (x : List ℕ). tree_refusal g sentence x ≡ none) d.listed (derives_accepted g sentence d.tree d.derived n)

  -- the tree of the trace of a tree is that tree
  pub tree_back : (t : Tree) → T (derives g sentence t) → tree_of g sentence (trace_of_tree g sentence t) ≡ preorder t
  tree_back t h =
      let r = rooted_of g right sentence t h in
      let d = derived_trace g right sentence t h in
      ap (tree_of g sentence) (trace_of_lem g right sentence t d.0 r d.1)
      ∙ tree_of_lem g right t sentence d.0 (at_good g right sentence t r) d.1

-- with a file that the reader accepts and a sentence that neither 11 nor 29 meets
module _ (file : List ℕ) (accepted : grammar_refusal file ≡ none) (sentence : List ℕ) (spoken : sentence_refusal (grammar_of file) sentence ≡ none) where
  abbrev g : Grammar
  g = grammar_of file

  right : Right g
  right = accepted_right file accepted

  -- the checkers' verdicts are by the analysis alone
  past : (o : Option Refusal) (n : ℕ) → verdict (grammar_refusal file or_else sentence_refusal g sentence or_else o) n ≡ verdict o n
  past o n = rw (accepted, spoken)

  accepted_none : (o : Option Refusal) (n : ℕ) → verdict o n ≡ Ok n → o ≡ none
  accepted_none none n e = refl
  accepted_none (some r) n e = let z : ◌≡◌ {A = ℕ} 0 1 = cc in absurd (omega arith)

  trace_passed : (p : List ℕ) → check_trace_verdict file sentence p ≡ Ok (length p) → trace_refusal g sentence p ≡ none
  trace_passed p e = accepted_none (trace_refusal g sentence p) (length p) (sym (past (trace_refusal g sentence p) (length p)) ∙ e)

  trace_passes : (p : List ℕ) → trace_refusal g sentence p ≡ none → check_trace_verdict file sentence p ≡ Ok (length p)
  trace_passes p e = past (trace_refusal g sentence p) (length p) ∙ none_accepted (length p) e

  tree_passed : (l : List ℕ) → check_tree_verdict file sentence l ≡ Ok (length l) → tree_refusal g sentence l ≡ none
  tree_passed l e = accepted_none (tree_refusal g sentence l) (length l) (sym (past (tree_refusal g sentence l) (length l)) ∙ e)

  tree_passes : (l : List ℕ) → tree_refusal g sentence l ≡ none → check_tree_verdict file sentence l ≡ Ok (length l)
  tree_passes l e = past (tree_refusal g sentence l) (length l) ∙ none_accepted (length l) e

  to_tree : (p : List ℕ) → check_trace_verdict file sentence p ≡ Ok (length p) → ToTree file sentence p
  to_tree p e =
      let f = trace_passed p e in
      let a = accepted_trace g right sentence p f in
      let b = belongs g right sentence a.tree a.derived in
      let l : tree_of g sentence p ≡ preorder a.tree = ap (tree_of g sentence) (sym a.trace) ∙ tree_back g right sentence a.tree a.derived in
      let s : length (preorder a.tree) ≡ length p = sym b.size ∙ ap length a.trace in
      let c = derives_accepted g sentence a.tree a.derived (omega (arith, trace_short g right sentence p f)) in
      record {
        tree = a.tree;
        converted = l;
        belongs = subst (λ (x : List ℕ). BelongsTo g sentence x a.tree) a.trace b.traces;
        accepted = ap (check_tree_verdict file sentence) l ∙ tree_passes (preorder a.tree) c ∙ ap Ok s;
        back = ap (trace_of g sentence) l ∙ a.trace;
      }

  to_trace : (l : List ℕ) → check_tree_verdict file sentence l ≡ Ok (length l) → ToTrace file sentence l
  to_trace l e =
      let f = tree_passed l e in
      let d = accepted_derives g sentence l f in
      let b = belongs g right sentence d.tree d.derived in
      let k : length (preorder d.tree) ≤ 96 = omega (arith, ap length d.listed, tree_short g right sentence l f) in
      let c = tree_accepted g right sentence d.tree d.derived k in
      let h : trace_of_tree g sentence d.tree ≡ trace_of g sentence l = ap (trace_of g sentence) d.listed in
      record {
        tree = d.tree;
        listed = d.listed;
        belongs = subst (λ (x : List ℕ). BelongsTo g sentence x d.tree) h b.traces;
        accepted = ap (check_trace_verdict file sentence) (sym h) ∙ trace_passes (trace_of_tree g sentence d.tree) c ∙ ap Ok (b.size ∙ ap length d.listed);
        back = ap (tree_of g sentence) (sym h) ∙ tree_back g right sentence d.tree d.derived ∙ d.listed;
      }

  holds_2 : Demand2For file sentence
  holds_2 =
      record {
        traces = λ p l. (λ e. trace_only g right sentence p (trace_passed p e), λ h. trace_passes p (trace_all g right sentence p l h));
        trees = λ p l. (λ e. accepted_derives g sentence p (tree_passed p e), λ h. tree_passes p (tree_all g right sentence p l h));
        to_tree = to_tree;
        to_trace = to_trace;
      }

  -- with node limit and effort limit in range
  module _ (n limit : ℕ) (ranges : limits_refusal n limit ≡ none) where
    -- the count call goes by the effort alone
    count_by : (b : Bool) → ltb limit (effort g sentence n) ≡ b
        → count_call file sentence n limit ≡ count_verdict (refuse_if b (Refusal.Desk 25 0)) (count g sentence n) (effort g sentence n)
    count_by b e = rw (accepted, ranges, spoken, e)

    too_much : (count_call file sentence n limit ≡ Err (Refusal.Desk 25 0)) ⇔ limit < effort g sentence n
    too_much = (λ e. over (ltb limit (effort g sentence n)) refl e, λ h. count_by true (lt-ltb limit (effort g sentence n) h))
      where
        over : (b : Bool) → ltb limit (effort g sentence n) ≡ b → count_call file sentence n limit ≡ Err (Refusal.Desk 25 0)
            → limit < effort g sentence n
        over true e f = ltb-true limit (effort g sentence n) e
        over false e f = let k = count_by false e in let z : ◌≡◌ {A = ℕ} 0 1 = cc in absurd (omega arith)

    -- so does the call for entry m, with room in the output, and then by the count
    entry_by : effort g sentence n ≤ limit → (out : List ℕ) → 96 ≤ length out → (m : ℕ) (b : Bool) → leb (count g sentence n) m ≡ b
        → (entry_verdict file sentence n limit m out ≡ verdict (refuse_if b (Refusal.Desk 26 0)) (length (entry g sentence n m)))
        × (entry_output file sentence n limit m out ≡ written (refuse_if b (Refusal.Desk 26 0)) (entry g sentence n m) out)
    entry_by h out room m b e =
        let r : ltb (length out) 96 ≡ false = le-ltb (length out) 96 room in
        let k : ltb limit (effort g sentence n) ≡ false = le-ltb limit (effort g sentence n) h in
        (rw (accepted, r, ranges, spoken, k, e), rw (accepted, r, ranges, spoken, k, e))

    -- the call for an entry that there is room for, by the two tests that are left
    entry_tests : (out : List ℕ) → 96 ≤ length out → (m : ℕ) (b d : Bool) → ltb limit (effort g sentence n) ≡ b → leb (count g sentence n) m ≡ d
        → entry_verdict file sentence n limit m out
        ≡ verdict (refuse_if b (Refusal.Desk 25 0) or_else refuse_if d (Refusal.Desk 26 0)) (length (entry g sentence n m))
    entry_tests out room m b d e f =
        let r : ltb (length out) 96 ≡ false = le-ltb (length out) 96 room in
        rw (accepted, r, ranges, spoken, e, f)

    no_effort : (d : Bool) (k : ℕ) → verdict (refuse_if d (Refusal.Desk 26 0)) k ≡ Err (Refusal.Desk 25 0) → ⊥
    no_effort true k h = let z : ◌≡◌ {A = ℕ} 26 25 = cc in absurd (omega arith)
    no_effort false k h = let z : ◌≡◌ {A = ℕ} 0 1 = cc in absurd (omega arith)

    entry_too_much : (out : List ℕ) → 96 ≤ length out → (m : ℕ)
        → (entry_verdict file sentence n limit m out ≡ Err (Refusal.Desk 25 0)) ⇔ limit < effort g sentence n
    entry_too_much out room m = (
      λ e. over (ltb limit (effort g sentence n)) refl e,
      λ h. entry_tests out room m true (leb (count g sentence n) m) (lt-ltb limit (effort g sentence n) h) refl,
    )
      where
        over : (b : Bool) → ltb limit (effort g sentence n) ≡ b → entry_verdict file sentence n limit m out ≡ Err (Refusal.Desk 25 0)
            → limit < effort g sentence n
        over true e f = ltb-true limit (effort g sentence n) e
        over false e f =
            absurd (no_effort (leb (count g sentence n) m) (length (entry g sentence n m))
            (sym (entry_tests out room m false (leb (count g sentence n) m) e refl) ∙ f))

    entry_unwritten : limit < effort g sentence n → (out : List ℕ) → 96 ≤ length out → (m : ℕ) → entry_output file sentence n limit m out ≡ out
    entry_unwritten h out room m =
        let r : ltb (length out) 96 ≡ false = le-ltb (length out) 96 room in
        let e : ltb limit (effort g sentence n) ≡ true = lt-ltb limit (effort g sentence n) h in
        rw (accepted, r, ranges, spoken, e)

    holds_3 : Demand3For file sentence n limit
    holds_3 =
        let a = analyses g right sentence n in
        let l = live_lists g sentence n in
        let o = (listing_lists g sentence n).ordered in
        record {
          prefixes = live g sentence n;
          prefixes_are = λ p. (l.sound p, l.whole p);
          prefixes_differ = order_different (live g sentence n) l.ordered;
          trees = a.trees;
          trees_are = λ t. (a.sound t, a.whole t);
          trees_differ = a.different;
          listing_is = a.traces;
          belong = λ t m. belongs g right sentence t (a.sound t m).derived;
          ordered = o;
          listing_differs = order_different (listing g sentence n) o;
          listing_counts = a.counted;
          too_much = too_much;
          counted = λ h. count_by false (le-ltb limit (effort g sentence n) h) ∙ ap (λ (c : ℕ). Ok (counts c (effort g sentence n))) a.counted;
          entry_too_much = entry_too_much;
          entry_unwritten = entry_unwritten;
          entry_is = λ h out room m k. entry_by h out room m false (lt-leb (count g sentence n) m (omega (arith, a.counted)));
          no_entry = λ h out room m k. entry_by h out room m true (le-leb (count g sentence n) m (omega (arith, a.counted)));
        }

pub demand_2 : Demand2
demand_2 = holds_2

pub demand_3 : Demand3
demand_3 = holds_3
