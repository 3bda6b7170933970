-- K1 to K10 (document 01), and words heard unclearly (document 02, paper 5), as a list of claims; one theorem for the list is in proofs/Examples. K3 to K10 go
-- through the calls, on grammar files.
-- Assumes nothing.
use Rattle.std.specs.Prelude.{◌≡◌, ℕ, true, List, [], ◌∷◌, ◌++◌, map}
use Rattle.std.proofs.Math.Option.{Option, none, some}
use Rattle.model.specs.Verdict.{verdict_answer, count_answer, values, refusal, analysis_author, desk}
use Rattle.model.specs.Grammar.{Grammar, variable, lexical, nonlexical}
use Rattle.model.specs.GrammarFile.{grammar_of}
use Rattle.model.specs.Writer.{file_of, heading_of, records_of}
use Rattle.model.specs.Step.{State, before, least, range, single, singles}
use Rattle.model.specs.Trace.{no_node, run}
use Rattle.model.specs.Counting.{start}
use Rattle.model.specs.Calls.{read_verdict, check_trace_verdict, check_tree_verdict, trace_to_tree_verdict, trace_to_tree_output, tree_to_trace_output, count_call}
use Rattle.model.specs.Program.{program}
use Rattle.model.specs.ExampleFiles.{zeros, copy_file, pair_file, wide_file}

-- "Copy grammar": S 0, P 1, A 2, B 3
abbrev pub copy : Grammar
copy =
    record {
      start = 0;
      words = 2;
      dimensions = 1 ∷ 2 ∷ 1 ∷ 1 ∷ [];
      rules =
          nonlexical 0 (1 ∷ []) ((variable 0 0 ∷ variable 0 1 ∷ []) ∷ [])
          ∷ nonlexical 1 (2 ∷ 1 ∷ 2 ∷ []) ((variable 0 0 ∷ variable 1 0 ∷ []) ∷ (variable 2 0 ∷ variable 1 1 ∷ []) ∷ [])
          ∷ nonlexical 1 (3 ∷ 1 ∷ 3 ∷ []) ((variable 0 0 ∷ variable 1 0 ∷ []) ∷ (variable 2 0 ∷ variable 1 1 ∷ []) ∷ [])
          ∷ nonlexical 1 (2 ∷ 2 ∷ []) ((variable 0 0 ∷ []) ∷ (variable 1 0 ∷ []) ∷ [])
          ∷ nonlexical 1 (3 ∷ 3 ∷ []) ((variable 0 0 ∷ []) ∷ (variable 1 0 ∷ []) ∷ [])
          ∷ lexical 2 0
          ∷ lexical 3 1
          ∷ [];
    }

-- "Pair grammar: S(xy) from S(x), S(y); S gives 0."
abbrev pub pair : Grammar
pair =
    record {
      start = 0;
      words = 1;
      dimensions = 1 ∷ [];
      rules = nonlexical 0 (0 ∷ 0 ∷ []) ((variable 0 0 ∷ variable 1 0 ∷ []) ∷ []) ∷ lexical 0 0 ∷ [];
    }

-- a claim says that what is computed is what the paper says
infix 68 ◌is◌
pub data Claim : Type 1 where
  ◌is◌ : {A : Type 0} → A → A → Claim

abbrev pub Holds : Claim → Type 0
Holds (a is b) = a ≡ b

abbrev pub AllHold : List Claim → Type 0
AllHold [] = Unit {0}
AllHold (c ∷ cs) = Holds c × AllHold cs

abbrev pub AllHoldIn : List (List Claim) → Type 0
AllHoldIn [] = Unit {0}
AllHoldIn (cs ∷ css) = AllHold cs × AllHoldIn css

-- the queue after the steps of a trace, as categories with their indices
abbrev pub shown : Option (State (Unit {0})) → List (ℕ × List (List ℕ))
shown none = []
shown (some s) = map (λ p. (p.category, p.indices)) s.queue

abbrev pub queue_after : List ℕ → List ℕ → List ℕ → List (ℕ × List (List ℕ))
queue_after file sentence trace = shown (run no_node (grammar_of file) (start (grammar_of file) sentence) trace)

-- the files are accepted and hold the grammars; the copy grammar's, read and written again, is the same bytes
abbrev pub the_files : List Claim
the_files =
    verdict_answer (read_verdict copy_file) is values (7 ∷ [])
    ∷ grammar_of copy_file is copy
    ∷ verdict_answer (read_verdict pair_file) is values (2 ∷ [])
    ∷ grammar_of pair_file is pair
    ∷ verdict_answer (read_verdict wide_file) is values (7 ∷ [])
    ∷ file_of (heading_of copy_file) (records_of copy_file) is copy_file
    ∷ []

-- "index 10 (digits 1, 0) is before 2; the empty one before 0"
abbrev pub K1 : List Claim
K1 =
    before (1 ∷ 0 ∷ []) (2 ∷ []) is true
    ∷ before [] (0 ∷ []) is true
    ∷ []

-- "least of 31 and 240 is 240"
abbrev pub K2 : List Claim
K2 =
    least ((3 ∷ 1 ∷ []) ∷ (2 ∷ 4 ∷ 0 ∷ []) ∷ []) is (2 ∷ 4 ∷ 0 ∷ [])
    ∷ []

-- "copy, 0 1 0 1: trace 0 1 5 4 6 5 6, 7 nodes. After step 3: B(01), A(10), B(11)."
abbrev pub K3 : List Claim
K3 =
    verdict_answer (check_trace_verdict copy_file (singles (0 ∷ 1 ∷ 0 ∷ 1 ∷ [])) (0 ∷ 1 ∷ 5 ∷ 4 ∷ 6 ∷ 5 ∷ 6 ∷ [])) is values (7 ∷ [])
    ∷ queue_after copy_file (singles (0 ∷ 1 ∷ 0 ∷ 1 ∷ [])) (0 ∷ 1 ∷ 5 ∷ 4 ∷ []) is ((3, ((0 ∷ 1 ∷ []) ∷ [])) ∷ (2, ((1 ∷ 0 ∷ []) ∷ [])) ∷ (3, ((1 ∷ 1 ∷ []) ∷ [])) ∷ [])
    ∷ []

-- "its tree is 0 1 5 4 6 6 5; that list as a trace: 15 at 5"
abbrev pub K4 : List Claim
K4 =
    trace_to_tree_output copy_file (singles (0 ∷ 1 ∷ 0 ∷ 1 ∷ [])) (0 ∷ 1 ∷ 5 ∷ 4 ∷ 6 ∷ 5 ∷ 6 ∷ []) (zeros 96) is (0 ∷ 1 ∷ 5 ∷ 4 ∷ 6 ∷ 6 ∷ 5 ∷ zeros 89)
    ∷ verdict_answer (trace_to_tree_verdict copy_file (singles (0 ∷ 1 ∷ 0 ∷ 1 ∷ [])) (0 ∷ 1 ∷ 5 ∷ 4 ∷ 6 ∷ 5 ∷ 6 ∷ []) (zeros 96)) is values (7 ∷ [])
    ∷ tree_to_trace_output copy_file (singles (0 ∷ 1 ∷ 0 ∷ 1 ∷ [])) (0 ∷ 1 ∷ 5 ∷ 4 ∷ 6 ∷ 6 ∷ 5 ∷ []) (zeros 96) is (0 ∷ 1 ∷ 5 ∷ 4 ∷ 6 ∷ 5 ∷ 6 ∷ zeros 89)
    ∷ verdict_answer (check_tree_verdict copy_file (singles (0 ∷ 1 ∷ 0 ∷ 1 ∷ [])) (0 ∷ 1 ∷ 5 ∷ 4 ∷ 6 ∷ 6 ∷ 5 ∷ [])) is values (7 ∷ [])
    ∷ verdict_answer (check_trace_verdict copy_file (singles (0 ∷ 1 ∷ 0 ∷ 1 ∷ [])) (0 ∷ 1 ∷ 5 ∷ 4 ∷ 6 ∷ 6 ∷ 5 ∷ [])) is refusal analysis_author 15 5
    ∷ []

-- "copy, 0 1 0 1, N = 7: count 1, effort 13; limit 12 gives 25"
abbrev pub K5 : List Claim
K5 =
    count_answer (count_call copy_file (singles (0 ∷ 1 ∷ 0 ∷ 1 ∷ [])) 7 13) is values (1 ∷ 13 ∷ [])
    ∷ count_answer (count_call copy_file (singles (0 ∷ 1 ∷ 0 ∷ 1 ∷ [])) 7 12) is refusal desk 25 0
    ∷ []

-- "the same with N = 6: count 0, effort 8"
abbrev pub K6 : List Claim
K6 =
    count_answer (count_call copy_file (singles (0 ∷ 1 ∷ 0 ∷ 1 ∷ [])) 6 13) is values (0 ∷ 8 ∷ [])
    ∷ []

-- "trace 0 3 5 5 on 0 0: 4 nodes; on 0 1: 16 at 3; on 0 0 0: 18 at 2"
abbrev pub K7 : List Claim
K7 =
    verdict_answer (check_trace_verdict copy_file (singles (0 ∷ 0 ∷ [])) (0 ∷ 3 ∷ 5 ∷ 5 ∷ [])) is values (4 ∷ [])
    ∷ verdict_answer (check_trace_verdict copy_file (singles (0 ∷ 1 ∷ [])) (0 ∷ 3 ∷ 5 ∷ 5 ∷ [])) is refusal analysis_author 16 3
    ∷ verdict_answer (check_trace_verdict copy_file (singles (0 ∷ 0 ∷ 0 ∷ [])) (0 ∷ 3 ∷ 5 ∷ 5 ∷ [])) is refusal analysis_author 18 2
    ∷ []

-- "0 1 5 on 0 0: 17 at 2; 0 3 5 5 5 on 0 0: 14 at 4"
abbrev pub K8 : List Claim
K8 =
    verdict_answer (check_trace_verdict copy_file (singles (0 ∷ 0 ∷ [])) (0 ∷ 1 ∷ 5 ∷ [])) is refusal analysis_author 17 2
    ∷ verdict_answer (check_trace_verdict copy_file (singles (0 ∷ 0 ∷ [])) (0 ∷ 3 ∷ 5 ∷ 5 ∷ 5 ∷ [])) is refusal analysis_author 14 4
    ∷ []

-- "copy, sentence 0 0: tree 0 3 5: 19 at 3; 0 3 5 6: 20 at 3; 0 3 5 5 5: 21 at 4"
abbrev pub K9 : List Claim
K9 =
    verdict_answer (check_tree_verdict copy_file (singles (0 ∷ 0 ∷ [])) (0 ∷ 3 ∷ 5 ∷ [])) is refusal analysis_author 19 3
    ∷ verdict_answer (check_tree_verdict copy_file (singles (0 ∷ 0 ∷ [])) (0 ∷ 3 ∷ 5 ∷ 6 ∷ [])) is refusal analysis_author 20 3
    ∷ verdict_answer (check_tree_verdict copy_file (singles (0 ∷ 0 ∷ [])) (0 ∷ 3 ∷ 5 ∷ 5 ∷ 5 ∷ [])) is refusal analysis_author 21 4
    ∷ []

-- "pair, 0 0 0, N = 5: the program prints `2 12`, `0 0 1 1 1`, `0 1 0 1 1`." Its bytes, a line each.
abbrev pub K10 : List Claim
K10 =
    program pair_file (5 ∷ 0 ∷ 0 ∷ 0 ∷ 0 ∷ 0 ∷ 0 ∷ []) is ((50 ∷ 32 ∷ 49 ∷ 50 ∷ 10 ∷ []) ++ (48 ∷ 32 ∷ 48 ∷ 32 ∷ 49 ∷ 32 ∷ 49 ∷ 32 ∷ 49 ∷ 10 ∷ []) ++ (48 ∷ 32 ∷ 49 ∷ 32 ∷ 48 ∷ 32 ∷ 49 ∷ 32 ∷ 49 ∷ 10 ∷ []))
    ∷ []

-- "adding a digit to a lone variable" is a trap: the two A of rule 3 have the indices of P's components
abbrev pub lone_variable : List Claim
lone_variable =
    queue_after copy_file (singles (0 ∷ 0 ∷ [])) (0 ∷ 3 ∷ []) is ((2, ((0 ∷ []) ∷ [])) ∷ (2, ((1 ∷ []) ∷ [])) ∷ [])
    ∷ []

-- "ordering digits 10 and 11 as text" is a trap: Y, with indices 4 to 7, comes before Z, with indices 8 to 11
abbrev pub wide_component : List Claim
wide_component =
    verdict_answer (check_trace_verdict wide_file (singles (0 ∷ 1 ∷ 2 ∷ [])) (0 ∷ 1 ∷ 4 ∷ 2 ∷ 5 ∷ 3 ∷ 6 ∷ [])) is values (7 ∷ [])
    ∷ []

-- words heard unclearly (document 02, paper 5), with the copy grammar, whose words are 0 and 1: K3 and the tree of K4 where the second word is 0 or 1; that tree where
-- it is 0; four words of which nothing is clear; either end that is no word, lowest above highest, over 96 places, and
-- their order
abbrev pub unclear_words : List Claim
unclear_words =
    verdict_answer (check_trace_verdict copy_file (single 0 ∷ range 0 1 ∷ single 0 ∷ single 1 ∷ []) (0 ∷ 1 ∷ 5 ∷ 4 ∷ 6 ∷ 5 ∷ 6 ∷ [])) is values (7 ∷ [])
    ∷ verdict_answer (check_tree_verdict copy_file (single 0 ∷ range 0 1 ∷ single 0 ∷ single 1 ∷ []) (0 ∷ 1 ∷ 5 ∷ 4 ∷ 6 ∷ 6 ∷ 5 ∷ [])) is values (7 ∷ [])
    ∷ verdict_answer (check_tree_verdict copy_file (range 0 1 ∷ single 0 ∷ range 0 1 ∷ range 0 1 ∷ []) (0 ∷ 1 ∷ 5 ∷ 4 ∷ 6 ∷ 6 ∷ 5 ∷ [])) is refusal analysis_author 22 0
    ∷ count_answer (count_call copy_file (range 0 1 ∷ range 0 1 ∷ range 0 1 ∷ range 0 1 ∷ []) 7 28) is values (4 ∷ 28 ∷ [])
    ∷ verdict_answer (check_trace_verdict copy_file (single 0 ∷ range 1 2 ∷ []) (0 ∷ 3 ∷ 5 ∷ 5 ∷ [])) is refusal analysis_author 11 1
    ∷ verdict_answer (check_trace_verdict copy_file (single 0 ∷ range 2 1 ∷ []) (0 ∷ 3 ∷ 5 ∷ 5 ∷ [])) is refusal analysis_author 11 1
    ∷ verdict_answer (check_trace_verdict copy_file (range 1 0 ∷ single 2 ∷ []) (0 ∷ 3 ∷ 5 ∷ 5 ∷ [])) is refusal analysis_author 29 0
    ∷ verdict_answer (check_trace_verdict copy_file (range 1 0 ∷ zeros 96) (0 ∷ 3 ∷ 5 ∷ 5 ∷ [])) is refusal analysis_author 11 96
    ∷ []

abbrev pub examples : List (List Claim)
examples = the_files ∷ K1 ∷ K2 ∷ K3 ∷ K4 ∷ K5 ∷ K6 ∷ K7 ∷ K8 ∷ K9 ∷ K10 ∷ lone_variable ∷ wide_component ∷ unclear_words ∷ []
