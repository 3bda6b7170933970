-- Older grammar files: those of document 01, "All files accepted before have weight 0 and keep their verdicts." (document 02, paper 1), and those that were
-- accepted between papers 1 and 4, with weights or without. "An older file with such a double loses the verdicts that paper 1 left it." (paper 4). Paper 1
-- changes refusals 9 and 10 and gives rules a weight, paper 4 changes refusal 10; they change no other definition. So what a call answered then is its
-- definition over what was refused of the file then and over the grammar that the file held then: by document 01 `grammar_refusal_before` and `grammar_before`,
-- between papers 1 and 4 `grammar_refusal_between` and the grammar of today, `grammar_of`. Sentences are those of paper 5 here; specs/OwnAnswers.antt is about
-- sentences of words, as they were then.
-- Assumes nothing.
use Rattle.std.specs.Prelude.{◌≡◌, ◌⊎◌, ℕ, ◌+◌, ◌-◌, ◌*◌, ◌%◌, ◌<◌, Bool, not, List, [], ◌∷◌, ◌++◌, map, T, ltb, eqb, length, if◌then◌else◌, Err}
use Rattle.std.proofs.Math.Option.{Option, none, some}
use Rattle.model.specs.declared.Refusal.{Refusal}
use Rattle.model.specs.Base.{◌or_else◌, first_from, numbers_from, same_list, any_below}
use Rattle.model.specs.Verdict.{refuse_if, verdict, count_verdict, Verdict}
use Rattle.model.specs.Grammar.{Rule, Grammar, rule_at}
use Rattle.model.specs.GrammarFile.{all_zero, fields, field, daughters_of, has_daughters, word_of, lengths_of, sequences, dimension_in, variables, blocks, categories_of, start_of, rules_of, words_of, dimensions_of, record_of, same_record, wrong_category, wrong_word, wrong_variables, unused_set, wrong_length, wrong_check, wrong_block, wrong_heading, wrong_blocks, wrong_count, wrong_rest, grammar_refusal, grammar_of}
use Rattle.model.specs.Writer.{Heading, all_bytes, padded, heading_block, file_of}
use Rattle.model.specs.Trace.{sentence_refusal, trace_refusal}
use Rattle.model.specs.Tree.{tree_refusal}
use Rattle.model.specs.Conversions.{tree_of, trace_of}
use Rattle.model.specs.Counting.{limits_refusal, effort_refusal, entry_refusal, count, effort, listing, entry}
use Rattle.model.specs.Survey.{Surveyed}
use Rattle.model.specs.Program.{sentence_in, limit_in, program_limit, printed, program}
use Rattle.model.specs.Demands.{◌⇔◌}
use Rattle.doubles.specs.Doubles.{DoubleAt}
use Rattle.weights.specs.Weights.{weight_sum, weigh_trace_verdict, weigh_tree_verdict}
use Rattle.model.specs.Calls.{written, room_refusal, read_verdict, write_verdict, write_output, check_trace_verdict, check_tree_verdict, trace_to_tree_verdict, trace_to_tree_output, tree_to_trace_verdict, tree_to_trace_output, count_call, entry_verdict, entry_output, SurveyOutcome}

-- refusal 9 as document 01 has it: byte 23 is one of the unused bytes
abbrev pub unused_bytes_before : List ℕ → List ℕ → List ℕ
unused_bytes_before dimensions e =
    if has_daughters e
    then fields e (2 + field e 1) (3 - field e 1) ++ fields e 5 2
    ++ fields e (7 + dimension_in dimensions (field e 0)) (4 - dimension_in dimensions (field e 0))
    ++ fields e (11 + variables dimensions e) (13 - variables dimensions e)
    else fields e 2 3 ++ fields e 7 17

abbrev pub unused_set_before : List ℕ → List ℕ → Bool
unused_set_before dimensions e = not (all_zero (unused_bytes_before dimensions e))

-- refusal 10 as document 01 has it: all 24 bytes of two records are the same
abbrev pub repeated_before : (ℕ → List ℕ) → ℕ → Bool
repeated_before record_at i = any_below (λ j. same_list (record_at j) (record_at i)) i

-- refusal 10 between papers 1 and 4: "Two records that differ only in weight still meet refusal 10." (paper 1); refusal 9 was that of today
abbrev pub repeated_between : (ℕ → List ℕ) → ℕ → Bool
repeated_between record_at i = any_below (λ j. same_record (record_at j) (record_at i)) i

-- 6 to 10 of rule i, where `unused` meets 9 and `again` meets 10
abbrev pub rule_tests : List ℕ → ℕ → Bool → Bool → Option Refusal
rule_tests file i unused again =
    refuse_if (wrong_category (dimensions_of file) (record_of file i)) (Refusal.Grammar 6 i)
    or_else refuse_if (wrong_word (dimensions_of file) (record_of file i) (words_of file)) (Refusal.Grammar 7 i)
    or_else refuse_if (wrong_variables (dimensions_of file) (record_of file i)) (Refusal.Grammar 8 i)
    or_else refuse_if unused (Refusal.Grammar 9 i)
    or_else refuse_if again (Refusal.Grammar 10 i)

-- what the reader refused of a rule: by document 01, and between papers 1 and 4
abbrev pub rule_refusal_before : List ℕ → ℕ → Option Refusal
rule_refusal_before file i = rule_tests file i (unused_set_before (dimensions_of file) (record_of file i)) (repeated_before (record_of file) i)

abbrev pub rule_refusal_between : List ℕ → ℕ → Option Refusal
rule_refusal_between file i = rule_tests file i (unused_set (dimensions_of file) (record_of file i)) (repeated_between (record_of file) i)

-- the tests of a file, where those of its rules give `rules`
abbrev pub file_tests : List ℕ → Option Refusal → Option Refusal
file_tests file rules =
    refuse_if (wrong_length file) (Refusal.Grammar 1 0)
    or_else first_from (λ k. refuse_if (wrong_check file k) (Refusal.Grammar 2 k)) 0 (blocks file)
    or_else first_from (λ k. refuse_if (wrong_block file k) (Refusal.Grammar 3 k)) 0 (blocks file)
    or_else refuse_if (wrong_heading file) (Refusal.Grammar 4 0)
    or_else refuse_if (wrong_blocks file) (Refusal.Grammar 5 0)
    or_else first_from (λ k. refuse_if (wrong_count file k) (Refusal.Grammar 5 k)) 1 (blocks file - 1)
    or_else rules
    or_else refuse_if (wrong_rest file) (Refusal.Grammar 9 (rules_of file))

-- what the reader refused of a file: by document 01, and between papers 1 and 4
abbrev pub grammar_refusal_before : List ℕ → Option Refusal
grammar_refusal_before file = file_tests file (first_from (rule_refusal_before file) 0 (rules_of file))

abbrev pub grammar_refusal_between : List ℕ → Option Refusal
grammar_refusal_between file = file_tests file (first_from (rule_refusal_between file) 0 (rules_of file))

-- the rule that a record held by document 01, which had no weight
abbrev pub rule_before : List ℕ → List ℕ → Rule
rule_before dimensions e =
    record {
      category = field e 0;
      daughters = daughters_of e;
      word = word_of e;
      components = if has_daughters e then sequences (lengths_of dimensions e) (fields e 11 12) else [];
      weight = 0;
    }

-- the grammar that a file held by document 01
abbrev pub grammar_before : List ℕ → Grammar
grammar_before file =
    record {
      start = start_of file;
      words = words_of file;
      dimensions = dimensions_of file;
      rules = map (λ i. rule_before (dimensions_of file) (record_of file i)) (numbers_from 0 (rules_of file));
    }

-- the writer's tests, where those of its file give `refused`
abbrev pub writer_tests : Heading → List ℕ → Option Refusal → Option Refusal
writer_tests h records refused =
    refuse_if (not (eqb (length h.dimensions) 64)) (Refusal.Grammar 4 0)
    or_else refuse_if (ltb 256 h.rules) (Refusal.Grammar 4 0)
    or_else refuse_if (wrong_heading (heading_block h)) (Refusal.Grammar 4 0)
    or_else refuse_if (not (eqb (length records) (24 * h.rules))) (Refusal.Grammar 5 0)
    or_else refused

-- of a file, by what was refused of it then and by the grammar that it held then
module _ (file : List ℕ) (refused : Option Refusal) (g : Grammar) where
  -- the survey's figures are free within their line
  pub record SurveyedThen (out : List ℕ) (answer : Verdict) (after : List ℕ) : Type 0 where
    pub figures : List ℕ
    pub figures_right : (refused or_else room_refusal out) ≡ none → Surveyed g figures
    pub verdict_is : answer ≡ verdict (refused or_else room_refusal out) (categories_of file)
    pub output_is : after ≡ written (refused or_else room_refusal out) figures out

  -- "keep their verdicts": the calls that are given no sentence answer and write what they did
  pub record WithoutSentence : Type 0 where
    pub reader : read_verdict file ≡ verdict refused (rules_of file)
    pub writer : (h : Heading) (records out : List ℕ) → file_of h records ≡ file
        → let o = writer_tests h records refused or_else refuse_if (ltb (length out) (length file)) (Refusal.Desk 23 0) in
        (write_verdict h records out ≡ verdict o (length file)) × (write_output h records out ≡ written o file out)
    pub surveyed : (out : List ℕ) (answer : Verdict) (after : List ℕ) → SurveyOutcome file out answer after ⇔ SurveyedThen out answer after

  -- "keep their verdicts": the file is accepted, and every call answers and writes what it did
  pub record Kept : Type 0 where
    pub accepted : grammar_refusal file ≡ none
    pub without_sentence : WithoutSentence
    pub trace_checker : (sentence trace : List ℕ)
        → check_trace_verdict file sentence trace ≡ verdict (refused or_else sentence_refusal g sentence or_else trace_refusal g sentence trace) (length trace)
    pub tree_checker : (sentence tree : List ℕ)
        → check_tree_verdict file sentence tree ≡ verdict (refused or_else sentence_refusal g sentence or_else tree_refusal g sentence tree) (length tree)
    pub trace_to_tree : (sentence trace out : List ℕ)
        → let o = refused or_else room_refusal out or_else sentence_refusal g sentence or_else trace_refusal g sentence trace in
        (trace_to_tree_verdict file sentence trace out ≡ verdict o (length trace)) × (trace_to_tree_output file sentence trace out ≡ written o (tree_of g sentence trace) out)
    pub tree_to_trace : (sentence tree out : List ℕ)
        → let o = refused or_else room_refusal out or_else sentence_refusal g sentence or_else tree_refusal g sentence tree in
        (tree_to_trace_verdict file sentence tree out ≡ verdict o (length tree)) × (tree_to_trace_output file sentence tree out ≡ written o (trace_of g sentence tree) out)
    pub counted : (sentence : List ℕ) (n limit : ℕ)
        → count_call file sentence n limit
        ≡ count_verdict (refused or_else limits_refusal n limit or_else sentence_refusal g sentence or_else effort_refusal g sentence n limit) (count g sentence n)
        (effort g sentence n)
    pub entered : (sentence : List ℕ) (n limit m : ℕ) (out : List ℕ)
        → let o = refused or_else room_refusal out or_else limits_refusal n limit or_else sentence_refusal g sentence or_else effort_refusal g sentence n limit
        or_else entry_refusal g sentence n m in
        (entry_verdict file sentence n limit m out ≡ verdict o (length (entry g sentence n m)))
        × (entry_output file sentence n limit m out ≡ written o (entry g sentence n m) out)
    -- as `program_refusal` has it: the grammar, the sentence file's length, and then the tests of the count, of which the grammar's is the first
    pub program_prints : (sentence_file : List ℕ)
        → let sentence = sentence_in sentence_file in
        let n = limit_in sentence_file in
        let o = refused or_else refuse_if (eqb (length sentence_file % 2) 0) (Refusal.Analysis 11 0) or_else refused or_else limits_refusal n program_limit
        or_else sentence_refusal g sentence or_else effort_refusal g sentence n program_limit in
        program file sentence_file ≡ printed o ((count g sentence n ∷ effort g sentence n ∷ []) ∷ listing g sentence n)

  -- so do the two calls of paper 1
  pub record SumsKept : Type 0 where
    pub trace_weighed : (sentence trace : List ℕ)
        → weigh_trace_verdict file sentence trace ≡ verdict (refused or_else sentence_refusal g sentence or_else trace_refusal g sentence trace) (weight_sum g trace)
    pub tree_weighed : (sentence tree : List ℕ)
        → weigh_tree_verdict file sentence tree ≡ verdict (refused or_else sentence_refusal g sentence or_else tree_refusal g sentence tree) (weight_sum g tree)

module _ (file : List ℕ) where
  -- "have weight 0"
  pub record Weightless : Type 0 where
    pub weights_zero : (r : ℕ) (rule : Rule) → rule_at (grammar_of file) r ≡ some rule → rule.weight ≡ 0
    pub sums_zero : (list : List ℕ) → weight_sum (grammar_of file) list ≡ 0

  -- every call that is given the file is refused by 10 at rule i, and writes nothing; the writer, given what makes the file, is refused by a test of its own or by
  -- 10 at rule i
  pub record Lost (i : ℕ) : Type 0 where
    pub refused_now : grammar_refusal file ≡ some (Refusal.Grammar 10 i)
    pub reader : read_verdict file ≡ Err (Refusal.Grammar 10 i)
    pub writer : (h : Heading) (records out : List ℕ) → file_of h records ≡ file
        → (write_verdict h records out ≡ verdict (writer_tests h records (some (Refusal.Grammar 10 i))) 0) × (write_output h records out ≡ out)
    pub trace_checker : (sentence trace : List ℕ) → check_trace_verdict file sentence trace ≡ Err (Refusal.Grammar 10 i)
    pub tree_checker : (sentence tree : List ℕ) → check_tree_verdict file sentence tree ≡ Err (Refusal.Grammar 10 i)
    pub trace_to_tree : (sentence trace out : List ℕ)
        → (trace_to_tree_verdict file sentence trace out ≡ Err (Refusal.Grammar 10 i)) × (trace_to_tree_output file sentence trace out ≡ out)
    pub tree_to_trace : (sentence tree out : List ℕ)
        → (tree_to_trace_verdict file sentence tree out ≡ Err (Refusal.Grammar 10 i)) × (tree_to_trace_output file sentence tree out ≡ out)
    pub counted : (sentence : List ℕ) (n limit : ℕ) → count_call file sentence n limit ≡ Err (Refusal.Grammar 10 i)
    pub entered : (sentence : List ℕ) (n limit m : ℕ) (out : List ℕ)
        → (entry_verdict file sentence n limit m out ≡ Err (Refusal.Grammar 10 i)) × (entry_output file sentence n limit m out ≡ out)
    pub surveyed : (out : List ℕ) (answer : Verdict) (after : List ℕ)
        → SurveyOutcome file out answer after → (answer ≡ Err (Refusal.Grammar 10 i)) × (after ≡ out)
    pub trace_weighed : (sentence trace : List ℕ) → weigh_trace_verdict file sentence trace ≡ Err (Refusal.Grammar 10 i)
    pub tree_weighed : (sentence tree : List ℕ) → weigh_tree_verdict file sentence tree ≡ Err (Refusal.Grammar 10 i)
    pub program_prints : (sentence_file : List ℕ) → program file sentence_file ≡ printed (some (Refusal.Grammar 10 i)) []

module _ (g : Grammar) where
  -- no rule is an earlier one with its daughters in some order
  abbrev pub WithoutDoubles : Type 0
  WithoutDoubles = (k : ℕ) → DoubleAt g k → ⊥

  -- rule i is the first that is
  pub record FirstDouble (i : ℕ) : Type 0 where
    pub double : DoubleAt g i
    pub first : (k : ℕ) → k < i → DoubleAt g k → ⊥

-- Claimed of every file that document 01 accepted. `lost` and `either` also ask that its numbers are bytes: only then must a double of its rules show in its
-- records (`RefusalTen`).
pub record OldFiles : Type 0 where
  pub weightless : (file : List ℕ) → grammar_refusal_before file ≡ none → Weightless file
  -- paper 1 refused none of them
  pub accepted_between : (file : List ℕ) → grammar_refusal_before file ≡ none → grammar_refusal_between file ≡ none
  pub kept : (file : List ℕ) → grammar_refusal_before file ≡ none → WithoutDoubles (grammar_before file)
      → Kept file (grammar_refusal_before file) (grammar_before file)
  pub lost : (file : List ℕ) → grammar_refusal_before file ≡ none → T (all_bytes file) → (i : ℕ) → FirstDouble (grammar_before file) i → Lost file i
  -- there is no third kind
  pub either : (file : List ℕ) → grammar_refusal_before file ≡ none → T (all_bytes file)
      → WithoutDoubles (grammar_before file) ⊎ ((i : ℕ) × FirstDouble (grammar_before file) i)

-- The same of every file that was accepted between papers 1 and 4, whatever its weights; the two calls of paper 1 answer what they did too
pub record FilesBetween : Type 0 where
  pub kept : (file : List ℕ) → grammar_refusal_between file ≡ none → WithoutDoubles (grammar_of file)
      → Kept file (grammar_refusal_between file) (grammar_of file)
  pub sums_kept : (file : List ℕ) → grammar_refusal_between file ≡ none → WithoutDoubles (grammar_of file)
      → SumsKept file (grammar_refusal_between file) (grammar_of file)
  pub lost : (file : List ℕ) → grammar_refusal_between file ≡ none → T (all_bytes file) → (i : ℕ) → FirstDouble (grammar_of file) i → Lost file i
  pub either : (file : List ℕ) → grammar_refusal_between file ≡ none → T (all_bytes file)
      → WithoutDoubles (grammar_of file) ⊎ ((i : ℕ) × FirstDouble (grammar_of file) i)

-- S(xy) from S, S with this weight, and the same with the variables exchanged, S(yx)
abbrev pub pair_record : ℕ → List ℕ
pair_record weight = padded 23 (0 ∷ 2 ∷ 0 ∷ 0 ∷ 0 ∷ 0 ∷ 0 ∷ 2 ∷ 0 ∷ 0 ∷ 0 ∷ 0 ∷ 4 ∷ []) ++ (weight ∷ [])

abbrev pub exchanged_record : ℕ → List ℕ
exchanged_record weight = padded 23 (0 ∷ 2 ∷ 0 ∷ 0 ∷ 0 ∷ 0 ∷ 0 ∷ 2 ∷ 0 ∷ 0 ∷ 0 ∷ 4 ∷ 0 ∷ []) ++ (weight ∷ [])

-- the file of S, one word and these rules, and last the word 0
abbrev pub pairs_file : ℕ → List ℕ → List ℕ
pairs_file rules records =
    file_of (record { categories = 1; start = 0; words = 1; rules = rules; dimensions = padded 64 (1 ∷ []) }) (records ++ padded 24 [])

-- an older file with such a double: S(xy) from S, S and S(yx) from S, S
abbrev pub shuffled_file : List ℕ
shuffled_file = pairs_file 3 (pair_record 0 ++ exchanged_record 0)

-- files with weights: one without a double; one with the same double; and one whose two rules differ only in weight
abbrev pub weighed_file : List ℕ
weighed_file = pairs_file 2 (pair_record 7)

abbrev pub shuffled_weighed_file : List ℕ
shuffled_weighed_file = pairs_file 3 (pair_record 7 ++ exchanged_record 5)

abbrev pub two_weights_file : List ℕ
two_weights_file = pairs_file 3 (pair_record 7 ++ pair_record 5)
