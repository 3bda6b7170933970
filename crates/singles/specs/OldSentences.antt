-- What the calls answered before document 02's paper 5: a sentence was a list of words, and a word was read just if it was the next one. Only what looks at a
-- sentence, or calls what does, is here, under the name of the definition that took its place; short ones are written out where they are used. Everything
-- else is that of `model` and `weights`. What a call answered is said for what is refused of a grammar file and the grammar that it holds, whatever these
-- are: of today's grammar files they are `grammar_refusal file` and `grammar_of file` of `model`; of older ones they are in the crate `old_files`.
-- Assumes nothing.
use Rattle.std.specs.Prelude.{ℕ, zero, suc, ◌+◌, ◌-◌, ◌*◌, ◌%◌, Bool, false, not, List, [], ◌∷◌, map, ltb, leb, eqb, length, get_or, drop, if◌then◌else◌}
use Rattle.std.proofs.Math.Option.{Option, none, some}
use Rattle.model.specs.declared.Refusal.{Refusal}
use Rattle.model.specs.Base.{◌or_else◌, each, keep, numbers_from, same_list}
use Rattle.model.specs.Verdict.{refuse_if, verdict, count_verdict, Verdict, CountVerdict}
use Rattle.model.specs.Grammar.{Rule, Grammar, empty_word, rule_at, is_lexical}
use Rattle.model.specs.Step.{Prediction, State, Outcome, fails, leads, predict, begin}
use Rattle.model.specs.Trace.{no_node, length_refusal}
use Rattle.model.specs.Tree.{Tree, yield, tree_of_list, nodes_refusal}
use Rattle.model.specs.Conversions.{Address, label, subtree, below, sort_nodes}
use Rattle.model.specs.Counting.{finished, extend_by, limits_refusal}
use Rattle.model.specs.Calls.{written, room_refusal}
use Rattle.weights.specs.Weights.{weight_sum}
use Rattle.model.specs.Program.{limit_in, program_limit, printed}

-- "11 sentence over 96 words (place 96, tested first), or no such word (place of the first)"
abbrev pub first_unknown : ℕ → ℕ → List ℕ → Option Refusal
first_unknown words k [] = none
first_unknown words k (w ∷ ws) = if ltb w words then first_unknown words (suc k) ws else some (Refusal.Analysis 11 k)

abbrev pub sentence_refusal : Grammar → List ℕ → Option Refusal
sentence_refusal g sentence = refuse_if (ltb 96 (length sentence)) (Refusal.Analysis 11 96) or_else first_unknown g.words 0 sentence

-- "the word must be the next one"
module _ {A : Type 0} where
  abbrev pub read_word : ℕ → List (Prediction A) → List ℕ → Outcome A
  read_word w q [] = fails 16
  read_word w q (x ∷ xs) = if eqb w x then leads (record { queue = q; words = xs }) else fails 16

  abbrev pub scan : ℕ → List (Prediction A) → List ℕ → Outcome A
  scan w q ws = if eqb w empty_word then leads (record { queue = q; words = ws }) else read_word w q ws

module _ {A : Type 0} (child : A → ℕ → A) (g : Grammar) where
  abbrev pub apply : Option Rule → List (Prediction A) → List ℕ → Outcome A
  apply none q ws = fails 13
  apply (some r) [] ws = fails 14
  apply (some r) (p ∷ q) ws =
      if eqb r.category p.category then (if is_lexical r then scan r.word q ws else predict child g r p q ws) else fails 15

  abbrev pub step : State A → ℕ → Outcome A
  step s r = apply (rule_at g r) s.queue s.words

  abbrev pub run : State A → List ℕ → Option (State A)
  run s [] = some s
  run s (r ∷ rs) = elim (step s r) [ fails n ↦ none | leads s' ↦ run s' rs ]

module _ (g : Grammar) where
  -- the trace checker
  abbrev pub steps_refusal : List ℕ → ℕ → State (Unit {0}) → List ℕ → Option Refusal
  steps_refusal sentence k s [] = refuse_if (ltb 0 (length s.words)) (Refusal.Analysis 18 (length sentence - length s.words))
  steps_refusal sentence k s (r ∷ rs) =
      elim (step no_node g s r) [
        | fails n ↦ some (Refusal.Analysis n k)
        | leads s' ↦
            if ltb (length rs) (length s'.queue) then some (Refusal.Analysis 17 (suc k)) else steps_refusal sentence (suc k) s' rs
      ]

  abbrev pub trace_refusal : List ℕ → List ℕ → Option Refusal
  trace_refusal sentence trace =
      length_refusal trace
      or_else refuse_if (eqb (length trace) 0) (Refusal.Analysis 17 0)
      or_else steps_refusal sentence 0 (begin no_node g tt sentence) trace

  -- the tree checker: "22 yield is not the sentence"
  abbrev pub tree_refusal : List ℕ → List ℕ → Option Refusal
  tree_refusal sentence list =
      length_refusal list
      or_else nodes_refusal g 0 (g.start ∷ []) list
      or_else refuse_if (not (same_list (get_or (yield g (tree_of_list g list)) 0 []) sentence)) (Refusal.Analysis 22 0)

  -- the conversions
  abbrev pub trace_from : ℕ → State Tree → List ℕ
  trace_from zero s = []
  trace_from (suc n) s =
      elim s.queue [
        | [] ↦ []
        | p ∷ q ↦ label p.node ∷ elim (step subtree g s (label p.node)) [ fails k ↦ [] | leads s' ↦ trace_from n s' ]
      ]

  abbrev pub trace_of : List ℕ → List ℕ → List ℕ
  trace_of sentence list = trace_from (length list) (begin subtree g (tree_of_list g list) sentence)

  abbrev pub placed : State Address → List ℕ → List (Address × ℕ)
  placed s [] = []
  placed s (r ∷ rs) =
      elim s.queue [
        | [] ↦ []
        | p ∷ q ↦ (p.node, r) ∷ elim (step below g s r) [ fails k ↦ [] | leads s' ↦ placed s' rs ]
      ]

  abbrev pub tree_of : List ℕ → List ℕ → List ℕ
  tree_of sentence trace = map (λ x. x.1) (sort_nodes (placed (begin below g [] sentence) trace))

  -- live prefixes and the listing
  abbrev pub live_from : ℕ → State (Unit {0}) → List (List ℕ)
  live_from zero s = [] ∷ []
  live_from (suc left) s = [] ∷ each (λ r. extend_by (λ s'. live_from left s') left r (step no_node g s r)) (numbers_from 0 (length g.rules))

  abbrev pub live : List ℕ → ℕ → List (List ℕ)
  live sentence zero = []
  live sentence (suc n) = live_from (suc n) (begin no_node g tt sentence)

  abbrev pub complete : List ℕ → List ℕ → Bool
  complete sentence trace = elim (run no_node g (begin no_node g tt sentence) trace) [ none ↦ false | some s ↦ finished s ]

  abbrev pub listing : List ℕ → ℕ → List (List ℕ)
  listing sentence n = keep (complete sentence) (live sentence n)

  -- "25 effort above the limit"
  abbrev pub effort_refusal : List ℕ → ℕ → ℕ → Option Refusal
  effort_refusal sentence n limit = refuse_if (ltb limit (length (live sentence n))) (Refusal.Desk 25 0)

-- the outcomes of the calls, by what is refused of the grammar file and by the grammar that it holds
module _ (refused : Option Refusal) (g : Grammar) (sentence : List ℕ) where
  abbrev pub check_trace_refusal : List ℕ → Option Refusal
  check_trace_refusal trace = refused or_else sentence_refusal g sentence or_else trace_refusal g sentence trace

  abbrev pub check_trace_verdict : List ℕ → Verdict
  check_trace_verdict trace = verdict (check_trace_refusal trace) (length trace)

  abbrev pub weigh_trace_verdict : List ℕ → Verdict
  weigh_trace_verdict trace = verdict (check_trace_refusal trace) (weight_sum g trace)

  abbrev pub check_tree_refusal : List ℕ → Option Refusal
  check_tree_refusal tree = refused or_else sentence_refusal g sentence or_else tree_refusal g sentence tree

  abbrev pub check_tree_verdict : List ℕ → Verdict
  check_tree_verdict tree = verdict (check_tree_refusal tree) (length tree)

  abbrev pub weigh_tree_verdict : List ℕ → Verdict
  weigh_tree_verdict tree = verdict (check_tree_refusal tree) (weight_sum g tree)

  abbrev pub trace_to_tree_refusal : List ℕ → List ℕ → Option Refusal
  trace_to_tree_refusal trace out =
      refused or_else room_refusal out or_else sentence_refusal g sentence or_else trace_refusal g sentence trace

  abbrev pub trace_to_tree_verdict : List ℕ → List ℕ → Verdict
  trace_to_tree_verdict trace out = verdict (trace_to_tree_refusal trace out) (length trace)

  abbrev pub trace_to_tree_output : List ℕ → List ℕ → List ℕ
  trace_to_tree_output trace out = written (trace_to_tree_refusal trace out) (tree_of g sentence trace) out

  abbrev pub tree_to_trace_refusal : List ℕ → List ℕ → Option Refusal
  tree_to_trace_refusal tree out =
      refused or_else room_refusal out or_else sentence_refusal g sentence or_else tree_refusal g sentence tree

  abbrev pub tree_to_trace_verdict : List ℕ → List ℕ → Verdict
  tree_to_trace_verdict tree out = verdict (tree_to_trace_refusal tree out) (length tree)

  abbrev pub tree_to_trace_output : List ℕ → List ℕ → List ℕ
  tree_to_trace_output tree out = written (tree_to_trace_refusal tree out) (trace_of g sentence tree) out

  abbrev pub count_refusal : ℕ → ℕ → Option Refusal
  count_refusal n limit = refused or_else limits_refusal n limit or_else sentence_refusal g sentence or_else effort_refusal g sentence n limit

  abbrev pub count_call : ℕ → ℕ → CountVerdict
  count_call n limit = count_verdict (count_refusal n limit) (length (listing g sentence n)) (length (live g sentence n))

  abbrev pub entry_call_refusal : ℕ → ℕ → ℕ → List ℕ → Option Refusal
  entry_call_refusal n limit m out =
      refused or_else room_refusal out or_else limits_refusal n limit or_else sentence_refusal g sentence
      or_else effort_refusal g sentence n limit or_else refuse_if (leb (length (listing g sentence n)) m) (Refusal.Desk 26 0)

  abbrev pub entry_verdict : ℕ → ℕ → ℕ → List ℕ → Verdict
  entry_verdict n limit m out = verdict (entry_call_refusal n limit m out) (length (get_or (listing g sentence n) m []))

  abbrev pub entry_output : ℕ → ℕ → ℕ → List ℕ → List ℕ
  entry_output n limit m out = written (entry_call_refusal n limit m out) (get_or (listing g sentence n) m []) out

-- the program: "byte N, then two little-endian bytes a word"
abbrev pub pairs : List ℕ → List ℕ
pairs [] = []
pairs (a ∷ []) = []
pairs (a ∷ b ∷ bs) = (a + 256 * b) ∷ pairs bs

abbrev pub program : Option Refusal → Grammar → List ℕ → List ℕ
program refused g sentence_file =
    let sentence = pairs (drop 1 sentence_file) in
    let n = limit_in sentence_file in
    printed
    (refused
    or_else refuse_if (eqb (length sentence_file % 2) 0) (Refusal.Analysis 11 0)
    or_else count_refusal refused g sentence n program_limit)
    ((length (listing g sentence n) ∷ length (live g sentence n) ∷ []) ∷ listing g sentence n)
