-- What an accepted call writes fits the output that it is lent.
-- Assumes nothing.
use mathlib.Core.Path.{◌≡◌, ap, subst}
use mathlib.Core.Bool.{◌&&◌}
use mathlib.Core.Option.{Option, none, some}
use mathlib.Core.List.{List, [], Memᴰ}
use Prim.Native.Nat.{ℕ, ◌≤◌}
use native.Mathlib.Omega.{arith}
use borrow.Author.Tests.{ltb-false, leb-false}
use lib.Dec.{ltb, leb, leb→le}
use lib.ListN.{length}
use Rattle.model.specs.declared.Refusal.{Refusal}
use Rattle.model.specs.Base.{◌or_else◌}
use Rattle.model.specs.Verdict.{refuse_if, verdict, Verdict}
use Rattle.model.specs.Grammar.{Grammar}
use Rattle.model.specs.GrammarFile.{grammar_refusal, grammar_of}
use Rattle.model.specs.Writer.{Heading, file_of, writer_refusal}
use Rattle.model.specs.Trace.{sentence_refusal, trace_refusal}
use Rattle.model.specs.Tree.{tree_refusal}
use Rattle.model.specs.Conversions.{tree_of, trace_of}
use Rattle.model.specs.Counting.{listing, count, entry, limits_refusal, effort_refusal, entry_refusal}
use Rattle.model.specs.Survey.{Surveyed}
use Rattle.model.specs.Calls.{room_refusal, write_refusal, check_trace_refusal, check_tree_refusal, trace_to_tree_refusal, tree_to_trace_refusal, entry_call_refusal, survey_refusal}
use Rattle.model.specs.Demands.{trace_of_tree}
use Rattle.model.proofs.Tests.{no_refusal, first_of, rest_of, not_off, and_l, and_r}
use Rattle.model.proofs.Lists.{mem_get_d, map_out}
use Rattle.model.proofs.Verdicts.{none_accepted, room_long}
use Rattle.model.proofs.FromFile.{accepted_right, categories_few}
use Rattle.model.proofs.Demands.{trace_short, tree_short, demand_2, demand_3}
use Rattle.std.specs.Prelude.{Ok}

pub file_fits : (h : Heading) (records out : List ℕ) → write_refusal h records out ≡ none → length (file_of h records) ≤ length out
file_fits h records out e =
    ltb-false (length out) (length (file_of h records))
    (no_refusal (ltb (length out) (length (file_of h records))) (Refusal.Desk 23 0)
    (rest_of (writer_refusal h records) (refuse_if (ltb (length out) (length (file_of h records))) (Refusal.Desk 23 0)) e))

-- the number of an accepted verdict
value_is : (o : Option Refusal) {n m : ℕ} → verdict o n ≡ Ok m → n ≡ m
value_is none e = cc
value_is (some r) e = let z : ◌≡◌ {A = ℕ} 0 1 = cc in absurd (omega arith)

module _ (file sentence : List ℕ) where
  abbrev g : Grammar
  g = grammar_of file

  -- a conversion writes as many numbers as it is given
  pub tree_fits : (trace out : List ℕ) → trace_to_tree_refusal file sentence trace out ≡ none → length (tree_of g sentence trace) ≤ length out
  tree_fits trace out e =
      let T = trace_refusal g sentence trace in
      let W = sentence_refusal g sentence in
      let grammar = first_of (grammar_refusal file) (room_refusal out or_else W or_else T) e in
      let after = rest_of (grammar_refusal file) (room_refusal out or_else W or_else T) e in
      let room = first_of (room_refusal out) (W or_else T) after in
      let words = first_of W T (rest_of (room_refusal out) (W or_else T) after) in
      let steps = rest_of W T (rest_of (room_refusal out) (W or_else T) after) in
      let passed : check_trace_refusal file sentence trace ≡ none = rw (grammar, words) steps in
      let same = value_is (check_tree_refusal file sentence (tree_of g sentence trace)) ((demand_2 file grammar sentence words).to_tree trace (none_accepted (length trace) passed)).accepted in
      omega (arith, same, room_long out room, trace_short g (accepted_right file grammar) sentence trace steps)

  pub trace_fits : (tree out : List ℕ) → tree_to_trace_refusal file sentence tree out ≡ none → length (trace_of g sentence tree) ≤ length out
  trace_fits tree out e =
      let T = tree_refusal g sentence tree in
      let W = sentence_refusal g sentence in
      let grammar = first_of (grammar_refusal file) (room_refusal out or_else W or_else T) e in
      let after = rest_of (grammar_refusal file) (room_refusal out or_else W or_else T) e in
      let room = first_of (room_refusal out) (W or_else T) after in
      let words = first_of W T (rest_of (room_refusal out) (W or_else T) after) in
      let nodes = rest_of W T (rest_of (room_refusal out) (W or_else T) after) in
      let passed : check_tree_refusal file sentence tree ≡ none = rw (grammar, words) nodes in
      let same = value_is (check_trace_refusal file sentence (trace_of g sentence tree)) ((demand_2 file grammar sentence words).to_trace tree (none_accepted (length tree) passed)).accepted in
      omega (arith, same, room_long out room, tree_short g (accepted_right file grammar) sentence tree nodes)

  -- an entry has at most as many steps as the node limit allows
  pub entry_fits : (n limit m : ℕ) (out : List ℕ) → entry_call_refusal file sentence n limit m out ≡ none → length (entry g sentence n m) ≤ length out
  entry_fits n limit m out e =
      let L = limits_refusal n limit in
      let W = sentence_refusal g sentence in
      let E = effort_refusal g sentence n limit in
      let M = entry_refusal g sentence n m in
      let grammar = first_of (grammar_refusal file) (room_refusal out or_else L or_else W or_else E or_else M) e in
      let after₁ = rest_of (grammar_refusal file) (room_refusal out or_else L or_else W or_else E or_else M) e in
      let room = first_of (room_refusal out) (L or_else W or_else E or_else M) after₁ in
      let after₂ = rest_of (room_refusal out) (L or_else W or_else E or_else M) after₁ in
      let limits = first_of L (W or_else E or_else M) after₂ in
      let after₃ = rest_of L (W or_else E or_else M) after₂ in
      let words = first_of W (E or_else M) after₃ in
      let there = leb-false (count g sentence n) m (no_refusal (leb (count g sentence n) m) (Refusal.Desk 26 0) (rest_of E M (rest_of W (E or_else M) after₃))) in
      let d = demand_3 file grammar sentence words n limit limits in
      let listed = subst (λ (l : List (List ℕ)). Memᴰ (entry g sentence n m) l) d.listing_is (mem_get_d (listing g sentence n) [] m there) in
      let (tree, among, is) = map_out (trace_of_tree g sentence) d.trees listed in
      let few = leb→le n 96 (and_r (leb 1 n) (leb n 96) (and_l (leb 1 n && leb n 96) (leb 1 limit) (and_l (leb 1 n && leb n 96 && leb 1 limit) (leb limit 1000000000) (not_off (leb 1 n && leb n 96 && leb 1 limit && leb limit 1000000000) (no_refusal _ (Refusal.Desk 24 0) limits))))) in
      omega (arith, ap length is, (d.belong tree among).size, ((d.trees_are tree).0 among).small, few, room_long out room)

-- there are at most 64 figures
pub figures_fit : (file out figures : List ℕ) → survey_refusal file out ≡ none → Surveyed (grammar_of file) figures → length figures ≤ length out
figures_fit file out figures e s =
    omega (arith, s.long, categories_few file (first_of (grammar_refusal file) (room_refusal out) e), room_long out (rest_of (grammar_refusal file) (room_refusal out) e))
