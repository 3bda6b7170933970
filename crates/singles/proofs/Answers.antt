-- A sentence of single words has the answers it had before, call by call, and the program prints what it printed.
-- Assumes nothing.
use mathlib.Core.Path.{◌≡◌, refl, ap, ap₂, ◌∙◌}
use mathlib.Core.Bool.{Bool, not}
use mathlib.Core.List.{List, [], ◌∷◌, map}
use mathlib.Core.Option.{Option}
use Prim.Native.Nat.{ℕ, zero, suc, ◌+◌, ◌*◌, ◌%◌}
use native.Mathlib.Omega.{arith}
use lib.Dec.{ltb, leb, eqb}
use lib.ListN.{length, get_or, drop}
use lib.Seq.{get_or-drop}
use Rattle.model.specs.declared.Refusal.{Refusal}
use Rattle.model.specs.Base.{◌or_else◌, keep}
use Rattle.model.specs.Verdict.{refuse_if, verdict, count_verdict}
use Rattle.model.specs.Grammar.{Grammar}
use Rattle.model.specs.GrammarFile.{grammar_refusal, grammar_of}
use Rattle.model.specs.Step.{single, singles, begin}
use Rattle.model.specs.Trace.{no_node, length_refusal, sentence_refusal, trace_refusal}
use Rattle.model.specs.Tree.{yield, tree_of_list, nodes_refusal, tree_refusal}
use Rattle.model.specs.Conversions.{Address, subtree, below, sort_nodes, tree_of, trace_of}
use Rattle.model.specs.Counting.{limits_refusal, live, complete, listing}
use Rattle.model.specs.Calls.{written, room_refusal}
use Rattle.weights.specs.Weights.{weight_sum}
use Rattle.model.specs.Program.{limit_in, program_limit, printed, pairs, program}
use Rattle.singles.specs.OldSentences.{sentence_refusal as old_sentence, trace_refusal as old_trace_refusal, tree_refusal as old_tree_refusal, tree_of as old_tree_of, trace_of as old_trace_of, live as old_live, complete as old_complete, listing as old_listing, pairs as old_pairs, program as old_program}
use Rattle.model.proofs.Search.{keep_same}
use Rattle.singles.specs.AsBefore.{Below, Words, PartsAsBefore, AsBefore, SumsAsBefore, SingleWords}
use Rattle.singles.proofs.Sentences.{sentence_same, string_same}
use Rattle.singles.proofs.Steps.{steps_same, trace_same, placed_same, live_same, ended_same}

-- the ways in which a call looks at a sentence, beside 11
module _ (g : Grammar) (ws : List ℕ) (h : Words ws) where
  trace_refused : (trace : List ℕ) → trace_refusal g (singles ws) trace ≡ old_trace_refusal g ws trace
  trace_refused trace =
      ap (λ (o : Option Refusal). length_refusal trace or_else refuse_if (eqb (length trace) 0) (Refusal.Analysis 17 0) or_else o)
      (steps_same g ws 0 (begin no_node g tt ws) trace h)

  tree_refused : (list : List ℕ) → tree_refusal g (singles ws) list ≡ old_tree_refusal g ws list
  tree_refused list =
      ap (λ (b : Bool). length_refusal list or_else nodes_refusal g 0 (g.start ∷ []) list or_else refuse_if (not b) (Refusal.Analysis 22 0))
      (string_same (get_or (yield g (tree_of_list g list)) 0 []) ws h)

  tree_made : (trace : List ℕ) → tree_of g (singles ws) trace ≡ old_tree_of g ws trace
  tree_made trace = ap (λ (l : List (Address × ℕ)). map (λ x. x.1) (sort_nodes l)) (placed_same g (begin below g [] ws) trace h)

  trace_made : (list : List ℕ) → trace_of g (singles ws) list ≡ old_trace_of g ws list
  trace_made list = trace_same g (length list) (begin subtree g (tree_of_list g list) ws) h

  live_as_before : (n : ℕ) → live g (singles ws) n ≡ old_live g ws n
  live_as_before zero = refl
  live_as_before (suc n) = live_same g (suc n) (begin no_node g tt ws) h

  listing_as_before : (n : ℕ) → listing g (singles ws) n ≡ old_listing g ws n
  listing_as_before n =
      keep_same (complete g (singles ws)) (old_complete g ws) (live g (singles ws) n) (λ p. ended_same g (begin no_node g tt ws) p h)
      ∙ ap (keep (old_complete g ws)) (live_as_before n)

  parts_as_before : PartsAsBefore g ws
  parts_as_before =
      record {
        refused = sentence_same g ws h;
        trace_refused = trace_refused;
        tree_refused = tree_refused;
        tree_made = tree_made;
        trace_made = trace_made;
        live_prefixes = live_as_before;
        listed = listing_as_before;
      }

module _ (file ws : List ℕ) (h : Words ws) where
  abbrev g : Grammar
  g = grammar_of file

  checks_trace : (trace : List ℕ) → (grammar_refusal file or_else sentence_refusal g (singles ws) or_else trace_refusal g (singles ws) trace) ≡ (grammar_refusal file or_else old_sentence g ws or_else old_trace_refusal g ws trace)
  checks_trace trace = ap₂ (λ (a b : Option Refusal). grammar_refusal file or_else a or_else b) (sentence_same g ws h) (trace_refused g ws h trace)

  checks_tree : (tree : List ℕ) → (grammar_refusal file or_else sentence_refusal g (singles ws) or_else tree_refusal g (singles ws) tree) ≡ (grammar_refusal file or_else old_sentence g ws or_else old_tree_refusal g ws tree)
  checks_tree tree = ap₂ (λ (a b : Option Refusal). grammar_refusal file or_else a or_else b) (sentence_same g ws h) (tree_refused g ws h tree)

  converts : {a b : Option Refusal} {l m : List ℕ} (out : List ℕ) (n : ℕ) → a ≡ b → l ≡ m
      → let R : Option Refusal → Option Refusal = λ c. grammar_refusal file or_else room_refusal out or_else sentence_refusal g (singles ws) or_else c in
      let Q : Option Refusal → Option Refusal = λ c. grammar_refusal file or_else room_refusal out or_else old_sentence g ws or_else c in
      (verdict (R a) n ≡ verdict (Q b) n) × (written (R a) l out ≡ written (Q b) m out)
  converts out n e f =
      let r = ap₂ (λ (a b : Option Refusal). grammar_refusal file or_else room_refusal out or_else a or_else b) (sentence_same g ws h) e in
      (ap (λ (o : Option Refusal). verdict o n) r, ap₂ (λ (o : Option Refusal) (l : List ℕ). written o l out) r f)

  effort_refused : (n limit : ℕ) → refuse_if (ltb limit (length (live g (singles ws) n))) (Refusal.Desk 25 0) ≡ refuse_if (ltb limit (length (old_live g ws n))) (Refusal.Desk 25 0)
  effort_refused n limit = ap (λ (l : List (List ℕ)). refuse_if (ltb limit (length l)) (Refusal.Desk 25 0)) (live_as_before g ws h n)

  count_refused : (n limit : ℕ) → (sentence_refusal g (singles ws) or_else refuse_if (ltb limit (length (live g (singles ws) n))) (Refusal.Desk 25 0)) ≡ (old_sentence g ws or_else refuse_if (ltb limit (length (old_live g ws n))) (Refusal.Desk 25 0))
  count_refused n limit = ap₂ ◌or_else◌ (sentence_same g ws h) (effort_refused n limit)

  entry_refused : (n limit m : ℕ)
      → (sentence_refusal g (singles ws) or_else refuse_if (ltb limit (length (live g (singles ws) n))) (Refusal.Desk 25 0) or_else refuse_if (leb (length (listing g (singles ws) n)) m) (Refusal.Desk 26 0))
      ≡ (old_sentence g ws or_else refuse_if (ltb limit (length (old_live g ws n))) (Refusal.Desk 25 0) or_else refuse_if (leb (length (old_listing g ws n)) m) (Refusal.Desk 26 0))
  entry_refused n limit m =
      ap₂ ◌or_else◌ (sentence_same g ws h)
      (ap₂ ◌or_else◌ (effort_refused n limit) (ap (λ (l : List (List ℕ)). refuse_if (leb (length l) m) (Refusal.Desk 26 0)) (listing_as_before g ws h n)))

  as_before : AsBefore file (grammar_refusal file) g ws
  as_before =
      record {
        checks_trace = λ trace. ap (λ (o : Option Refusal). verdict o (length trace)) (checks_trace trace);
        checks_tree = λ tree. ap (λ (o : Option Refusal). verdict o (length tree)) (checks_tree tree);
        to_tree = λ trace out. converts out (length trace) (trace_refused g ws h trace) (tree_made g ws h trace);
        to_trace = λ tree out. converts out (length tree) (tree_refused g ws h tree) (trace_made g ws h tree);
        counts = λ n limit.
            ap₂ (λ (o : Option Refusal) (l : List (List ℕ)). count_verdict (grammar_refusal file or_else limits_refusal n limit or_else o) (length l) (length (live g (singles ws) n))) (count_refused n limit) (listing_as_before g ws h n)
            ∙ ap (λ (l : List (List ℕ)). count_verdict (grammar_refusal file or_else limits_refusal n limit or_else old_sentence g ws or_else refuse_if (ltb limit (length (old_live g ws n))) (Refusal.Desk 25 0)) (length (old_listing g ws n)) (length l)) (live_as_before g ws h n);
        enters = λ n limit m out. (
          ap₂ (λ (o : Option Refusal) (l : List (List ℕ)). verdict (grammar_refusal file or_else room_refusal out or_else limits_refusal n limit or_else o) (length (get_or l m []))) (entry_refused n limit m) (listing_as_before g ws h n),
          ap₂ (λ (o : Option Refusal) (l : List (List ℕ)). written (grammar_refusal file or_else room_refusal out or_else limits_refusal n limit or_else o) (get_or l m []) out) (entry_refused n limit m) (listing_as_before g ws h n),
        );
      }

  sums_as_before : SumsAsBefore file (grammar_refusal file) g ws
  sums_as_before =
      record {
        weighs_trace = λ trace. ap (λ (o : Option Refusal). verdict o (weight_sum g trace)) (checks_trace trace);
        weighs_tree = λ tree. ap (λ (o : Option Refusal). verdict o (weight_sum g tree)) (checks_tree tree);
      }

-- the program's file
pairs_single : (bytes : List ℕ) → pairs bytes ≡ singles (old_pairs bytes)
pairs_single [] = refl
pairs_single (a ∷ []) = refl
pairs_single (a ∷ b ∷ bs) = ap (λ (l : List ℕ). single (a + 256 * b) ∷ l) (pairs_single bs)

pairs_words : (bytes : List ℕ) → Below 256 bytes → Words (old_pairs bytes)
pairs_words [] h k = omega arith
pairs_words (a ∷ []) h k = omega arith
pairs_words (a ∷ b ∷ bs) h zero = omega (arith, h 0, h 1)
pairs_words (a ∷ b ∷ bs) h (suc k) = pairs_words bs (λ j. h (suc (suc j))) k

prints_as_before : (file sentence_file : List ℕ) → Below 256 sentence_file → program file sentence_file ≡ old_program (grammar_refusal file) (grammar_of file) sentence_file
prints_as_before file sentence_file h =
    let g = grammar_of file in
    let n = limit_in sentence_file in
    let ws = old_pairs (drop 1 sentence_file) in
    let words = pairs_words (drop 1 sentence_file) (λ k. rw get_or-drop (h (1 + k))) in
    ap (λ (s : List ℕ).
    printed (grammar_refusal file or_else refuse_if (eqb (length sentence_file % 2) 0) (Refusal.Analysis 11 0)
    or_else grammar_refusal file or_else limits_refusal n program_limit or_else sentence_refusal g s or_else refuse_if (ltb program_limit (length (live g s n))) (Refusal.Desk 25 0))
    ((length (listing g s n) ∷ length (live g s n) ∷ []) ∷ listing g s n)) (pairs_single (drop 1 sentence_file))
    ∙ ap₂ (λ (o : Option Refusal) (l : List (List ℕ)). printed (grammar_refusal file or_else refuse_if (eqb (length sentence_file % 2) 0) (Refusal.Analysis 11 0) or_else grammar_refusal file or_else limits_refusal n program_limit or_else o)
    ((length (listing g (singles ws) n) ∷ length l ∷ []) ∷ listing g (singles ws) n)) (count_refused file ws words n program_limit) (live_as_before g ws words n)
    ∙ ap (λ (l : List (List ℕ)). printed (grammar_refusal file or_else refuse_if (eqb (length sentence_file % 2) 0) (Refusal.Analysis 11 0) or_else grammar_refusal file or_else limits_refusal n program_limit or_else old_sentence g ws or_else refuse_if (ltb program_limit (length (old_live g ws n))) (Refusal.Desk 25 0))
    ((length l ∷ length (old_live g ws n) ∷ []) ∷ l)) (listing_as_before g ws words n)

pub single_words : SingleWords
single_words = record { parts = parts_as_before; calls = as_before; sums = sums_as_before; prints = prints_as_before }
