-- The outcome of every call of document 01, refused input included: its refusals in order, its verdict, and every number of the output that it is lent
-- (document 01, "Who can cause a refusal" and "What the promises say"). Every call but the writer tests the grammar file first.
-- Assumes nothing.
use Rattle.std.specs.Prelude.{◌≡◌, ℕ, List, ◌++◌, ltb, length, drop}
use Rattle.std.proofs.Math.Option.{Option, none, some}
use Rattle.model.specs.declared.Refusal.{Refusal}
use Rattle.model.specs.Base.{◌or_else◌}
use Rattle.model.specs.Verdict.{refuse_if, verdict, count_verdict, Verdict, CountVerdict}
use Rattle.model.specs.GrammarFile.{grammar_refusal, grammar_of, rules_of, categories_of}
use Rattle.model.specs.Writer.{Heading, file_of, writer_refusal}
use Rattle.model.specs.Trace.{sentence_refusal, trace_refusal}
use Rattle.model.specs.Tree.{tree_refusal}
use Rattle.model.specs.Conversions.{tree_of, trace_of}
use Rattle.model.specs.Counting.{limits_refusal, effort_refusal, entry_refusal, count, effort, entry}
use Rattle.model.specs.Survey.{Surveyed}

-- "A refusal gives number and place (0 unless named) and changes nothing lent"; "output past the last entry keeps its old numbers": the output after a call that writes `list` at its front
abbrev pub written : Option Refusal → List ℕ → List ℕ → List ℕ
written none list out = list ++ drop (length list) out
written (some r) list out = out

-- refusal 23: "output of fewer than 96 numbers"
abbrev pub room_refusal : List ℕ → Option Refusal
room_refusal out = refuse_if (ltb (length out) 96) (Refusal.Desk 23 0)

-- The reader: "of the reader R"
abbrev pub read_verdict : List ℕ → Verdict
read_verdict file = verdict (grammar_refusal file) (rules_of file)

-- The writer: 23 "of fewer bytes than its file"; "of the writer the file's length"
module _ (h : Heading) (records out : List ℕ) where
  abbrev pub write_refusal : Option Refusal
  write_refusal = writer_refusal h records or_else refuse_if (ltb (length out) (length (file_of h records))) (Refusal.Desk 23 0)

  abbrev pub write_verdict : Verdict
  write_verdict = verdict write_refusal (length (file_of h records))

  abbrev pub write_output : List ℕ
  write_output = written write_refusal (file_of h records) out

module _ (file sentence : List ℕ) where
  -- The trace checker
  abbrev pub check_trace_refusal : List ℕ → Option Refusal
  check_trace_refusal trace =
      grammar_refusal file or_else sentence_refusal (grammar_of file) sentence or_else trace_refusal (grammar_of file) sentence trace

  abbrev pub check_trace_verdict : List ℕ → Verdict
  check_trace_verdict trace = verdict (check_trace_refusal trace) (length trace)

  -- The tree checker
  abbrev pub check_tree_refusal : List ℕ → Option Refusal
  check_tree_refusal tree =
      grammar_refusal file or_else sentence_refusal (grammar_of file) sentence or_else tree_refusal (grammar_of file) sentence tree

  abbrev pub check_tree_verdict : List ℕ → Verdict
  check_tree_verdict tree = verdict (check_tree_refusal tree) (length tree)

  -- Trace to tree: "A conversion is also given the sentence and refuses what the checker of its input refuses"; 23 comes "after the grammar and before 11"
  abbrev pub trace_to_tree_refusal : List ℕ → List ℕ → Option Refusal
  trace_to_tree_refusal trace out =
      grammar_refusal file or_else room_refusal out or_else sentence_refusal (grammar_of file) sentence
      or_else trace_refusal (grammar_of file) sentence trace

  abbrev pub trace_to_tree_verdict : List ℕ → List ℕ → Verdict
  trace_to_tree_verdict trace out = verdict (trace_to_tree_refusal trace out) (length trace)

  abbrev pub trace_to_tree_output : List ℕ → List ℕ → List ℕ
  trace_to_tree_output trace out = written (trace_to_tree_refusal trace out) (tree_of (grammar_of file) sentence trace) out

  -- Tree to trace
  abbrev pub tree_to_trace_refusal : List ℕ → List ℕ → Option Refusal
  tree_to_trace_refusal tree out =
      grammar_refusal file or_else room_refusal out or_else sentence_refusal (grammar_of file) sentence
      or_else tree_refusal (grammar_of file) sentence tree

  abbrev pub tree_to_trace_verdict : List ℕ → List ℕ → Verdict
  tree_to_trace_verdict tree out = verdict (tree_to_trace_refusal tree out) (length tree)

  abbrev pub tree_to_trace_output : List ℕ → List ℕ → List ℕ
  tree_to_trace_output tree out = written (tree_to_trace_refusal tree out) (trace_of (grammar_of file) sentence tree) out

  -- The count under node limit n: grammar, 24, 11 and 29, 25
  abbrev pub count_refusal : ℕ → ℕ → Option Refusal
  count_refusal n limit =
      grammar_refusal file or_else limits_refusal n limit or_else sentence_refusal (grammar_of file) sentence
      or_else effort_refusal (grammar_of file) sentence n limit

  abbrev pub count_call : ℕ → ℕ → CountVerdict
  count_call n limit = count_verdict (count_refusal n limit) (count (grammar_of file) sentence n) (effort (grammar_of file) sentence n)

  -- Entry m of the listing: "a call for entry m writes it if not refused"; grammar, 23, 24, 11 and 29, 25, 26
  abbrev pub entry_call_refusal : ℕ → ℕ → ℕ → List ℕ → Option Refusal
  entry_call_refusal n limit m out =
      grammar_refusal file or_else room_refusal out or_else limits_refusal n limit or_else sentence_refusal (grammar_of file) sentence
      or_else effort_refusal (grammar_of file) sentence n limit or_else entry_refusal (grammar_of file) sentence n m

  abbrev pub entry_verdict : ℕ → ℕ → ℕ → List ℕ → Verdict
  entry_verdict n limit m out = verdict (entry_call_refusal n limit m out) (length (entry (grammar_of file) sentence n m))

  abbrev pub entry_output : ℕ → ℕ → ℕ → List ℕ → List ℕ
  entry_output n limit m out = written (entry_call_refusal n limit m out) (entry (grammar_of file) sentence n m) out

-- The survey: "The survey writes C figures to an output buffer"; "Which figure is free", all else is not
abbrev pub survey_refusal : List ℕ → List ℕ → Option Refusal
survey_refusal file out = grammar_refusal file or_else room_refusal out

pub record SurveyOutcome (file out : List ℕ) (answer : Verdict) (after : List ℕ) : Type 0 where
  pub figures : List ℕ
  pub figures_right : survey_refusal file out ≡ none → Surveyed (grammar_of file) figures
  pub verdict_is : answer ≡ verdict (survey_refusal file out) (categories_of file)
  pub output_is : after ≡ written (survey_refusal file out) figures out
