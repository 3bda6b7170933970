-- The three demands, as statements about the calls: `Demand1` (proved in proofs/Refusals.antt), `Demand2` and `Demand3` (in proofs/Demands.antt). Each is
-- quoted before its record.
-- Assumes nothing.
use Rattle.std.specs.Prelude.{◌≡◌, ℕ, ◌<◌, ◌≤◌, true, false, T, length, get_or, drop, Ok, Err}
use Rattle.std.proofs.Math.Option.{none, some}
use mathlib.Core.List.{List, [], ◌∷◌, ◌++◌, map, Memᴰ}
use Rattle.model.specs.declared.Refusal.{Refusal}
use Rattle.model.specs.Grammar.{Grammar}
use Rattle.model.specs.GrammarFile.{grammar_refusal, grammar_of, rules_of, categories_of}
use Rattle.model.specs.Step.{State}
use Rattle.model.specs.Trace.{no_node, run, sentence_refusal}
use Rattle.model.specs.Tree.{Tree, preorder, derives}
use Rattle.model.specs.Conversions.{BelongsTo, tree_of, trace_of}
use Rattle.model.specs.Counting.{start, listing, count, effort, entry, limits_refusal}
use Rattle.model.specs.LivePrefixes.{Live, InOrder, Different}
use Rattle.model.specs.Verdict.{Author, Answer, values, refusal, verdict_answer, count_answer, Verdict, CountVerdict, counts}
use Rattle.model.specs.Writer.{Heading, file_of}
use Rattle.model.specs.Survey.{Surveyed}
use Rattle.model.specs.Calls.{read_verdict, write_verdict, write_output, check_trace_verdict, check_tree_verdict, trace_to_tree_verdict, trace_to_tree_output, tree_to_trace_verdict, tree_to_trace_output, count_call, entry_verdict, entry_output, SurveyOutcome}
use Rattle.model.specs.Refusals.{Test, file_tests, write_tests, check_trace_tests, check_tree_tests, trace_to_tree_tests, tree_to_trace_tests, count_tests, entry_tests, survey_tests}

-- each follows from the other
infix 5 ◌⇔◌
abbrev pub ◌⇔◌ : Type 0 → Type 0 → Type 0
A ⇔ B = (A → B) × (B → A)

-- no test of the list meets the call
abbrev pub NoneMeets : List Test → Type 0
NoneMeets tests = (t : Test) → Memᴰ t tests → t.meets ≡ false

-- the first test of the list that meets the call, and whose refusal it is, with which number and place
pub record First (tests : List Test) (author : Author) (number place : ℕ) : Type 0 where
  pub earlier : List Test
  pub test : Test
  pub later : List Test
  pub in_order : tests ≡ earlier ++ test ∷ later
  pub passed : NoneMeets earlier
  pub met : test.meets ≡ true
  pub author_is : test.author ≡ author
  pub number_is : test.number ≡ number
  pub place_is : test.place ≡ place

-- an answer goes by the tests alone: it is a refusal exactly when a test meets the call, and then that of the first; it has values exactly when none does,
-- and then these
pub record Decided (tests : List Test) (result : List ℕ) (answer : Answer) : Type 0 where
  pub refused : (author : Author) (number place : ℕ) → (answer ≡ refusal author number place) ⇔ First tests author number place
  pub accepted : (given : List ℕ) → (answer ≡ values given) ⇔ (NoneMeets tests × (given ≡ result))

-- an output goes by them too: after a refusal it is as it was, else `list`, which fits it, stands at its front and the rest is as it was
pub record Wrote (tests : List Test) (list out after : List ℕ) : Type 0 where
  pub as_it_was : (author : Author) (number place : ℕ) → First tests author number place → after ≡ out
  pub written : NoneMeets tests → after ≡ list ++ drop (length list) out
  pub fits : NoneMeets tests → length list ≤ length out

-- Demand 1: "A malformed grammar, an overlong sentence or an unknown word in it, a broken trace or tree, a limit out of range, an effort limit that doesn't
-- suffice, an entry past the count, a short buffer or what a later paper turns away is refused with the number and place in document 01 or that paper, and
-- the refusal changes no buffer. Everything else is accepted, and every call comes to an end on every input."
-- The tests of each call are in specs/Refusals.antt; the calls for the sum of weights, those on dates and the one that makes a grammar have statements of their
-- own, `Demand1Weighed` in the crate `weights`, `Demand1Dated` in the crate `dates`, `Demand1Made` in the crate `minimalist`.
-- That every call comes to an end on every input is part of what the toolchain proves of a function.
pub record Demand1 : Type 0 where
  pub reader : (file : List ℕ) → Decided (file_tests file) (rules_of file ∷ []) (verdict_answer (read_verdict file))
  pub writer : (h : Heading) (records out : List ℕ)
      → Decided (write_tests h records out) (length (file_of h records) ∷ []) (verdict_answer (write_verdict h records out))
      × Wrote (write_tests h records out) (file_of h records) out (write_output h records out)
  pub trace_checker : (file sentence trace : List ℕ)
      → Decided (check_trace_tests file sentence trace) (length trace ∷ []) (verdict_answer (check_trace_verdict file sentence trace))
  pub tree_checker : (file sentence tree : List ℕ)
      → Decided (check_tree_tests file sentence tree) (length tree ∷ []) (verdict_answer (check_tree_verdict file sentence tree))
  pub trace_to_tree : (file sentence trace out : List ℕ)
      → Decided (trace_to_tree_tests file sentence trace out) (length trace ∷ []) (verdict_answer (trace_to_tree_verdict file sentence trace out))
      × Wrote (trace_to_tree_tests file sentence trace out) (tree_of (grammar_of file) sentence trace) out (trace_to_tree_output file sentence trace out)
  pub tree_to_trace : (file sentence tree out : List ℕ)
      → Decided (tree_to_trace_tests file sentence tree out) (length tree ∷ []) (verdict_answer (tree_to_trace_verdict file sentence tree out))
      × Wrote (tree_to_trace_tests file sentence tree out) (trace_of (grammar_of file) sentence tree) out (tree_to_trace_output file sentence tree out)
  pub counted : (file sentence : List ℕ) (n limit : ℕ)
      → Decided (count_tests file sentence n limit) (count (grammar_of file) sentence n ∷ effort (grammar_of file) sentence n ∷ [])
      (count_answer (count_call file sentence n limit))
  pub entered : (file sentence : List ℕ) (n limit m : ℕ) (out : List ℕ)
      → Decided (entry_tests file sentence n limit m out) (length (entry (grammar_of file) sentence n m) ∷ []) (verdict_answer (entry_verdict file sentence n limit m out))
      × Wrote (entry_tests file sentence n limit m out) (entry (grammar_of file) sentence n m) out (entry_output file sentence n limit m out)
  -- the survey's figures are free within their line, so the claim is of every right outcome
  pub surveyed : (file out : List ℕ) (answer : Verdict) (after : List ℕ) (o : SurveyOutcome file out answer after)
      → Decided (survey_tests file out) (categories_of file ∷ []) (verdict_answer answer)
      × Wrote (survey_tests file out) o.figures out after
      × (NoneMeets (survey_tests file out) → Surveyed (grammar_of file) o.figures)

-- the steps apply, one after the other, and leave no words and no predictions
pub record Ends (g : Grammar) (s : State (Unit {0})) (trace : List ℕ) : Type 0 where
  pub last : State (Unit {0})
  pub runs : run no_node g s trace ≡ some last
  pub no_queue : last.queue ≡ []
  pub no_words : last.words ≡ []

-- from the start prediction and the whole sentence: the recognizer of W11-0605 accepts by these steps
abbrev pub Recognized : Grammar → List ℕ → List ℕ → Type 0
Recognized g sentence trace = Ends g (start g sentence) trace

-- the list is that of a tree that derives the sentence
pub record Derivation (g : Grammar) (sentence list : List ℕ) : Type 0 where
  pub tree : Tree
  pub listed : preorder tree ≡ list
  pub derived : T (derives g sentence tree)

module _ (file sentence : List ℕ) where
  -- an accepted trace: the tree that belongs to it is accepted with as many nodes as the trace has steps, and its trace is that trace again
  pub record ToTree (trace : List ℕ) : Type 0 where
    pub tree : Tree
    pub converted : tree_of (grammar_of file) sentence trace ≡ preorder tree
    pub belongs : BelongsTo (grammar_of file) sentence trace tree
    pub accepted : check_tree_verdict file sentence (tree_of (grammar_of file) sentence trace) ≡ Ok (length trace)
    pub back : trace_of (grammar_of file) sentence (tree_of (grammar_of file) sentence trace) ≡ trace

  -- an accepted tree: the trace that belongs to it is accepted with as many steps as the tree has nodes, and its tree is that tree again
  pub record ToTrace (list : List ℕ) : Type 0 where
    pub tree : Tree
    pub listed : preorder tree ≡ list
    pub belongs : BelongsTo (grammar_of file) sentence (trace_of (grammar_of file) sentence list) tree
    pub accepted : check_trace_verdict file sentence (trace_of (grammar_of file) sentence list) ≡ Ok (length list)
    pub back : tree_of (grammar_of file) sentence (trace_of (grammar_of file) sentence list) ≡ list

  -- Demand 2: "Verdicts agree with the normal form for multiple context-free grammars and the top-down recognizer in Stabler's W11-0605. A trace of at most
  -- 96 steps is accepted exactly when its steps lead from the start prediction to no words and no predictions left. A tree of at most 96 nodes is accepted
  -- exactly when the grammar derives the sentence by it. For accepted ones, trace to tree to trace gives back the trace; tree to trace to tree gives back
  -- the tree."
  -- For one grammar file and one sentence; for which ones is said in `Demand2`.
  pub record Demand2For : Type 0 where
    pub traces : (trace : List ℕ) → length trace ≤ 96
        → (check_trace_verdict file sentence trace ≡ Ok (length trace)) ⇔ Recognized (grammar_of file) sentence trace
    pub trees : (list : List ℕ) → length list ≤ 96
        → (check_tree_verdict file sentence list ≡ Ok (length list)) ⇔ Derivation (grammar_of file) sentence list
    pub to_tree : (trace : List ℕ) → check_trace_verdict file sentence trace ≡ Ok (length trace) → ToTree trace
    pub to_trace : (list : List ℕ) → check_tree_verdict file sentence list ≡ Ok (length list) → ToTrace list

-- Demand 2 whole: for every grammar file that the reader accepts and, "a fitting yield standing for an equal one, for every sentence that meets neither 11 nor
-- 29" (document 02, paper 5)
abbrev pub Demand2 : Type 0
Demand2 = (file : List ℕ) → grammar_refusal file ≡ none → (sentence : List ℕ) → sentence_refusal (grammar_of file) sentence ≡ none → Demand2For file sentence

-- a tree that is counted: it derives the sentence and has at most n nodes
pub record Analysis (g : Grammar) (sentence : List ℕ) (n : ℕ) (tree : Tree) : Type 0 where
  pub derived : T (derives g sentence tree)
  pub small : length (preorder tree) ≤ n

-- the trace that the listing has for a tree: it belongs to the tree, and has as many steps as the tree has nodes
abbrev pub trace_of_tree : Grammar → List ℕ → Tree → List ℕ
trace_of_tree g sentence tree = trace_of g sentence (preorder tree)

pub record Belongs (g : Grammar) (sentence : List ℕ) (tree : Tree) : Type 0 where
  pub traces : BelongsTo g sentence (trace_of_tree g sentence tree) tree
  pub size : length (trace_of_tree g sentence tree) ≡ length (preorder tree)

-- Demand 3, "one claim about the count and the whole listing" (document 01): "The number of analyses equals the number of derivation trees. All of this
-- demand holds for every accepted grammar, every sentence of at most 96 of its words, every node limit N from 1 to 96 and every effort limit from 1 to
-- 1,000,000,000. A call for the count or for an entry that meets no earlier refusal is refused for effort exactly when more live prefixes exist than the
-- effort limit allows. Where that limit suffices, the count returned is the number of different trees with at most N nodes that derive the sentence from the
-- start category, and the effort returned is the number of live prefixes. The listing then has exactly as many entries as the count says. They are the
-- traces of those trees, each tree's exactly once, in dictionary order of rule numbers, and each has as many steps as its tree has nodes."
-- For one grammar file, sentence, node limit and effort limit; for which ones is said in `Demand3`.
pub record Demand3For (file sentence : List ℕ) (n limit : ℕ) : Type 0 where
  -- the live prefixes: those and no others, none twice
  pub prefixes : List (List ℕ)
  pub prefixes_are : (p : List ℕ) → Memᴰ p prefixes ⇔ Live (grammar_of file) sentence n p
  pub prefixes_differ : Different prefixes
  -- the trees with at most n nodes that derive the sentence: those and no others, none twice
  pub trees : List Tree
  pub trees_are : (t : Tree) → Memᴰ t trees ⇔ Analysis (grammar_of file) sentence n t
  pub trees_differ : Different (map preorder trees)
  -- the listing: the trace of each of those trees, exactly once, in dictionary order
  pub listing_is : listing (grammar_of file) sentence n ≡ map (trace_of_tree (grammar_of file) sentence) trees
  pub belong : (t : Tree) → Memᴰ t trees → Belongs (grammar_of file) sentence t
  pub ordered : InOrder (listing (grammar_of file) sentence n)
  pub listing_differs : Different (listing (grammar_of file) sentence n)
  pub listing_counts : length (listing (grammar_of file) sentence n) ≡ length trees
  -- the count call: refused for effort exactly when there are more live prefixes than the limit, else count and effort
  pub too_much : (count_call file sentence n limit ≡ Err (Refusal.Desk 25 0)) ⇔ limit < length prefixes
  pub counted : length prefixes ≤ limit → count_call file sentence n limit ≡ Ok (counts (length trees) (length prefixes))
  -- the call for an entry, with room in the output: refused for effort exactly when the count is, and the output is then as it was
  pub entry_too_much : (out : List ℕ) → 96 ≤ length out → (m : ℕ)
      → (entry_verdict file sentence n limit m out ≡ Err (Refusal.Desk 25 0)) ⇔ limit < length prefixes
  pub entry_unwritten : limit < length prefixes → (out : List ℕ) → 96 ≤ length out → (m : ℕ) → entry_output file sentence n limit m out ≡ out
  -- the call for entry m: the m-th of the listing, or 26 and the output is as it was
  pub entry_is : length prefixes ≤ limit → (out : List ℕ) → 96 ≤ length out → (m : ℕ) → m < length trees
      → (entry_verdict file sentence n limit m out ≡ Ok (length (get_or (listing (grammar_of file) sentence n) m [])))
      × (entry_output file sentence n limit m out
      ≡ get_or (listing (grammar_of file) sentence n) m [] ++ drop (length (get_or (listing (grammar_of file) sentence n) m [])) out)
  pub no_entry : length prefixes ≤ limit → (out : List ℕ) → 96 ≤ length out → (m : ℕ) → length trees ≤ m
      → (entry_verdict file sentence n limit m out ≡ Err (Refusal.Desk 26 0)) × (entry_output file sentence n limit m out ≡ out)

-- Demand 3 whole: "All of this demand holds for every accepted grammar, every sentence of at most 96 of its words, every node limit N from 1 to 96 and every
-- effort limit from 1 to 1,000,000,000"; since paper 5 of document 02 "for every sentence that meets neither 11 nor 29". What is asked is that no test of the
-- count before 25 meets it: the grammar's, 24, 11 and 29. An entry has 23 besides, for which `Demand3For` asks room in the output.
abbrev pub Demand3 : Type 0
Demand3 =
    (file : List ℕ) → grammar_refusal file ≡ none → (sentence : List ℕ) → sentence_refusal (grammar_of file) sentence ≡ none
    → (n limit : ℕ) → limits_refusal n limit ≡ none → Demand3For file sentence n limit
