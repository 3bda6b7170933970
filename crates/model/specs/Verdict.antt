-- Verdicts and refusals (document 01, "Who can cause a refusal"): what refusals and answers of src/lib.rt say in the paper's terms, and how tests are joined.
-- Assumes nothing.
use Rattle.std.specs.Prelude.{ℕ, Bool, true, false, List, [], ◌∷◌, Result, Ok, Err}
use Rattle.std.proofs.Math.Option.{Option, none, some}
use Rattle.model.specs.declared.Refusal.{Refusal}
use Rattle.model.specs.declared.Refusal.TheVariants.{Grammar, Analysis, Desk}
use Rattle.model.specs.declared.Counts.{Counts}

-- "a refusal says whose it is: the grammar's, the analysis's or the desk's"
pub data Author : Type 0 where
  grammar_author analysis_author desk : Author

abbrev pub author : Refusal → Author
author (Grammar n p) = grammar_author
author (Analysis n p) = analysis_author
author (Desk n p) = desk

-- "A refusal gives number and place (0 unless named)"
abbrev pub number : Refusal → ℕ
number (Grammar n p) = n
number (Analysis n p) = n
number (Desk n p) = n

abbrev pub place : Refusal → ℕ
place (Grammar n p) = p
place (Analysis n p) = p
place (Desk n p) = p

-- an answer in the paper's terms: its values (one number; of the count two, count and effort; of a date three), or whose refusal it is, its number and its place
pub data Answer : Type 0 where
  values : List ℕ → Answer
  refusal : Author → ℕ → ℕ → Answer

-- the paper's number and values for each case of each enum
abbrev pub refusal_answer : Refusal → Answer
refusal_answer r = refusal (author r) (number r) (place r)

-- what a row of tests answers: all pass, or the refusal of the first that does not
abbrev pub Tested : Type 0
Tested = Result Unit Refusal

-- a number, or a refusal
abbrev pub Verdict : Type 0
Verdict = Result ℕ Refusal

-- count and effort, or a refusal
abbrev pub CountVerdict : Type 0
CountVerdict = Result Counts Refusal

abbrev pub counts : ℕ → ℕ → Counts
counts count effort = record { count = count; effort = effort }

abbrev pub verdict_answer : Verdict → Answer
verdict_answer (Ok n) = values (n ∷ [])
verdict_answer (Err r) = refusal_answer r

abbrev pub count_answer : CountVerdict → Answer
count_answer (Ok c) = values (c.count ∷ c.effort ∷ [])
count_answer (Err r) = refusal_answer r

-- r, if the test passes
abbrev pub refuse_if : Bool → Refusal → Option Refusal
refuse_if true r = some r
refuse_if false r = none

-- the answer of a call: the first refusal of its tests, or else its value
abbrev pub answered : {A : Type 0} → Option Refusal → A → Result A Refusal
answered none a = Ok a
answered (some r) a = Err r

-- the answer of tests joined: they pass, or the first refusal there is
abbrev pub tested : Option Refusal → Tested
tested tests = answered tests tt

-- a verdict is a refusal, the first there is, or else a number: a node count, "of the reader R", "of the survey C", "of the writer the file's length", a sum of
-- weights (document 02, paper 1), or a day's number, or 1 or 0 for open or not (paper 3)
abbrev pub verdict : Option Refusal → ℕ → Verdict
verdict tests n = answered tests n

-- "of the count, count and effort"
abbrev pub count_verdict : Option Refusal → ℕ → ℕ → CountVerdict
count_verdict tests count effort = answered tests (counts count effort)
