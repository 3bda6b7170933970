-- The tests of every call of document 01, one for each number and place at which it can refuse, in document 01's order ("Who can cause a refusal"), with 29 of document 02, paper 5. Demand 1
-- (specs/Demands.antt) says that the first of them that meets a call is its answer. The calls for the sum of weights have the tests of the checkers,
-- those on dates have theirs in the crate `dates`, and the one that makes a grammar in the crate `minimalist`.
-- Assumes nothing.
use Rattle.std.specs.Prelude.{ℕ, suc, ◌-◌, ◌*◌, Bool, true, false, not, ◌&&◌, List, [], ◌∷◌, ◌++◌, map, ltb, leb, eqb, length}
use Rattle.std.proofs.Math.Option.{Option, none, some}
use Rattle.model.specs.Base.{each, numbers_from}
use Rattle.model.specs.Verdict.{Author, grammar_author, analysis_author, desk}
use Rattle.model.specs.Grammar.{Rule, Grammar, empty_word, rule_at, daughters_by, is_lexical}
use Rattle.model.specs.GrammarFile.{grammar_of, blocks, rules_of, dimensions_of, words_of, record_of, wrong_length, wrong_check, wrong_block, wrong_heading, wrong_blocks, wrong_count, wrong_rest, wrong_category, wrong_word, wrong_variables, unused_set, repeated}
use Rattle.model.specs.Writer.{Heading, heading_block, file_of}
use Rattle.model.specs.Step.{Prediction, State, fails, leads, word_fits, step, begin}
use Rattle.model.specs.Trace.{no_node, end_no_word, lowest_above}
use Rattle.model.specs.Tree.{spells, tree_of_list}
use Rattle.model.specs.Counting.{count, effort}

-- a test: whether it meets the call, and whose refusal it is then, with its number and place
pub record Test : Type 0 where
  pub meets : Bool
  pub author : Author
  pub number : ℕ
  pub place : ℕ

abbrev pub of_grammar : ℕ → ℕ → Bool → Test
of_grammar n p b = record { meets = b; author = grammar_author; number = n; place = p }

abbrev pub of_analysis : ℕ → ℕ → Bool → Test
of_analysis n p b = record { meets = b; author = analysis_author; number = n; place = p }

abbrev pub of_desk : ℕ → ℕ → Bool → Test
of_desk n p b = record { meets = b; author = desk; number = n; place = p }

-- the tests of one list and then those of another
infixr 20 ◌and_then◌
abbrev pub ◌and_then◌ : List Test → List Test → List Test
xs and_then ys = xs ++ ys

-- "Per rule, place its number": 6 to 10
abbrev pub rule_tests : List ℕ → ℕ → List Test
rule_tests file i =
    of_grammar 6 i (wrong_category (dimensions_of file) (record_of file i))
    ∷ of_grammar 7 i (wrong_word (dimensions_of file) (record_of file i) (words_of file))
    ∷ of_grammar 8 i (wrong_variables (dimensions_of file) (record_of file i))
    ∷ of_grammar 9 i (unused_set (dimensions_of file) (record_of file i))
    ∷ of_grammar 10 i (repeated (record_of file) i)
    ∷ []

-- "The grammar's author, in this order"
abbrev pub file_tests : List ℕ → List Test
file_tests file =
    (of_grammar 1 0 (wrong_length file) ∷ [])
    and_then map (λ k. of_grammar 2 k (wrong_check file k)) (numbers_from 0 (blocks file))
    and_then map (λ k. of_grammar 3 k (wrong_block file k)) (numbers_from 0 (blocks file))
    and_then (of_grammar 4 0 (wrong_heading file) ∷ [])
    and_then (of_grammar 5 0 (wrong_blocks file) ∷ [])
    and_then map (λ k. of_grammar 5 k (wrong_count file k)) (numbers_from 1 (blocks file - 1))
    and_then each (rule_tests file) (numbers_from 0 (rules_of file))
    and_then (of_grammar 9 (rules_of file) (wrong_rest file) ∷ [])

-- "11 sentence over 96 words (place 96, tested first), or no such word (place of the first)"; at each place "Refusal 11 meets either end that is no word", and
-- then "29 lowest above highest (its place), tested after 11 at the same place" (document 02, paper 5)
abbrev pub places_tests : ℕ → ℕ → List ℕ → List Test
places_tests words k [] = []
places_tests words k (p ∷ ps) = of_analysis 11 k (end_no_word words p) ∷ of_analysis 29 k (lowest_above p) ∷ places_tests words (suc k) ps

abbrev pub sentence_tests : Grammar → List ℕ → List Test
sentence_tests g sentence = (of_analysis 11 96 (ltb 96 (length sentence)) ∷ []) and_then places_tests g.words 0 sentence

-- "13 no such rule; 14 queue empty; 15 other category than the front; 16 word is not next"
abbrev pub no_such_rule : Option Rule → Bool
no_such_rule none = true
no_such_rule (some r) = false

abbrev pub no_front : List (Prediction (Unit {0})) → Bool
no_front [] = true
no_front (p ∷ q) = false

abbrev pub other_category : Option Rule → ℕ → Bool
other_category none category = false
other_category (some r) category = not (eqb r.category category)

abbrev pub other_front : Option Rule → List (Prediction (Unit {0})) → Bool
other_front rule [] = false
other_front rule (p ∷ q) = other_category rule p.category

abbrev pub other_word : ℕ → List ℕ → Bool
other_word w [] = true
other_word w (x ∷ xs) = not (word_fits w x)

abbrev pub not_next : Option Rule → List ℕ → Bool
not_next none words = false
not_next (some r) words = is_lexical r && not (eqb r.word empty_word) && other_word r.word words

abbrev pub step_tests : Option Rule → State (Unit {0}) → ℕ → List Test
step_tests rule s k =
    of_analysis 13 k (no_such_rule rule)
    ∷ of_analysis 14 k (no_front s.queue)
    ∷ of_analysis 15 k (other_front rule s.queue)
    ∷ of_analysis 16 k (not_next rule s.words)
    ∷ []

module _ (g : Grammar) (sentence : List ℕ) where
  -- "Step k from 0: 13 no such rule; 14 queue empty; 15 other category than the front; 16 word is not next; 17 queue longer than n-k-1 (place k+1). At
  -- the end 18 words left (words read)", from state s on. After a step that does not apply there is no state to go on from.
  abbrev pub steps_tests : ℕ → State (Unit {0}) → List ℕ → List Test
  steps_tests k s [] = of_analysis 18 (length sentence - length s.words) (ltb 0 (length s.words)) ∷ []
  steps_tests k s (r ∷ rs) =
      step_tests (rule_at g r) s k
      and_then elim (step no_node g s r) [
        | fails n ↦ []
        | leads s' ↦ of_analysis 17 (suc k) (ltb (length rs) (length s'.queue)) ∷ steps_tests (suc k) s' rs
      ]

  -- "12 trace or tree over 96"; "17 at place 0 if n is 0"
  abbrev pub trace_tests : List ℕ → List Test
  trace_tests trace =
      (of_analysis 12 0 (ltb 96 (length trace)) ∷ [])
      and_then (of_analysis 17 0 (eqb (length trace) 0) ∷ [])
      and_then steps_tests 0 (begin no_node g tt sentence) trace

module _ (g : Grammar) where
  -- "Tree, per node: 19 list ended (its length); 13; 20 category other than wanted. Then 21 nodes left over (first)": `wanted` are the categories of the
  -- nodes still to come
  abbrev pub nodes_tests : ℕ → List ℕ → List ℕ → List Test
  nodes_tests k [] [] = of_analysis 21 k false ∷ []
  nodes_tests k [] (r ∷ rs) = of_analysis 21 k true ∷ []
  nodes_tests k (c ∷ wanted) [] = of_analysis 19 k true ∷ []
  nodes_tests k (c ∷ wanted) (r ∷ rs) =
      of_analysis 19 k false
      ∷ of_analysis 13 k (no_such_rule (rule_at g r))
      ∷ of_analysis 20 k (other_category (rule_at g r) c)
      ∷ nodes_tests (suc k) (daughters_by (rule_at g r) ++ wanted) rs

  -- 12, node by node, then "22 yield is not the sentence", where by paper 5 a fitting yield stands for an equal one
  abbrev pub tree_tests : List ℕ → List ℕ → List Test
  tree_tests sentence list =
      (of_analysis 12 0 (ltb 96 (length list)) ∷ [])
      and_then nodes_tests 0 (g.start ∷ []) list
      and_then (of_analysis 22 0 (not (spells g sentence (tree_of_list g list))) ∷ [])

-- "The desk, after the grammar and before 11": "23 output of fewer than 96 numbers"; "24 N not 1 to 96, or effort limit not 1 to 1,000,000,000". "After
-- 11: 25 effort above the limit. 26 entry m not below the count."
abbrev pub room_tests : List ℕ → List Test
room_tests out = of_desk 23 0 (ltb (length out) 96) ∷ []

abbrev pub limit_tests : ℕ → ℕ → List Test
limit_tests n limit = of_desk 24 0 (not (leb 1 n && leb n 96 && leb 1 limit && leb limit 1000000000)) ∷ []

abbrev pub effort_tests : Grammar → List ℕ → ℕ → ℕ → List Test
effort_tests g sentence n limit = of_desk 25 0 (ltb limit (effort g sentence n)) ∷ []

-- The calls
abbrev pub write_tests : Heading → List ℕ → List ℕ → List Test
write_tests h records out =
    (of_grammar 4 0 (not (eqb (length h.dimensions) 64)) ∷ [])
    and_then (of_grammar 4 0 (ltb 256 h.rules) ∷ [])
    and_then (of_grammar 4 0 (wrong_heading (heading_block h)) ∷ [])
    and_then (of_grammar 5 0 (not (eqb (length records) (24 * h.rules))) ∷ [])
    and_then file_tests (file_of h records)
    and_then (of_desk 23 0 (ltb (length out) (length (file_of h records))) ∷ [])

module _ (file sentence : List ℕ) where
  abbrev pub check_trace_tests : List ℕ → List Test
  check_trace_tests trace = file_tests file and_then sentence_tests (grammar_of file) sentence and_then trace_tests (grammar_of file) sentence trace

  abbrev pub check_tree_tests : List ℕ → List Test
  check_tree_tests tree = file_tests file and_then sentence_tests (grammar_of file) sentence and_then tree_tests (grammar_of file) sentence tree

  abbrev pub trace_to_tree_tests : List ℕ → List ℕ → List Test
  trace_to_tree_tests trace out =
      file_tests file and_then room_tests out and_then sentence_tests (grammar_of file) sentence and_then trace_tests (grammar_of file) sentence trace

  abbrev pub tree_to_trace_tests : List ℕ → List ℕ → List Test
  tree_to_trace_tests tree out =
      file_tests file and_then room_tests out and_then sentence_tests (grammar_of file) sentence and_then tree_tests (grammar_of file) sentence tree

  abbrev pub count_tests : ℕ → ℕ → List Test
  count_tests n limit =
      file_tests file and_then limit_tests n limit and_then sentence_tests (grammar_of file) sentence and_then effort_tests (grammar_of file) sentence n limit

  abbrev pub entry_tests : ℕ → ℕ → ℕ → List ℕ → List Test
  entry_tests n limit m out =
      file_tests file and_then room_tests out and_then limit_tests n limit and_then sentence_tests (grammar_of file) sentence
      and_then effort_tests (grammar_of file) sentence n limit and_then (of_desk 26 0 (leb (count (grammar_of file) sentence n) m) ∷ [])

abbrev pub survey_tests : List ℕ → List ℕ → List Test
survey_tests file out = file_tests file and_then room_tests out
