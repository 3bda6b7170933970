-- The call that makes a grammar file from a lexicon (document 02, paper 6): its refusals, its outcome, and what is promised of it.
-- Assumes nothing.
use Rattle.std.specs.Prelude.{◌≡◌, Bool, ℕ, ◌*◌, ◌≤◌, T, ltb, length, Ok}
use Rattle.std.proofs.Math.Option.{Option, none}
use mathlib.Core.List.{List, [], ◌∷◌, map, Memᴰ}
use Rattle.model.specs.declared.Refusal.{Refusal}
use Rattle.model.specs.Base.{◌or_else◌, numbers_from}
use Rattle.model.specs.Writer.{all_bytes}
use Rattle.model.specs.Verdict.{refuse_if, verdict, verdict_answer, Verdict, CountVerdict, counts}
use Rattle.model.specs.GrammarFile.{grammar_of, blocks_for}
use Rattle.model.specs.Trace.{sentence_refusal}
use Rattle.model.specs.Counting.{limits_refusal, effort}
use Rattle.model.specs.Calls.{written, count_call}
use Rattle.model.specs.Refusals.{Test, of_grammar, of_desk, ◌and_then◌}
use Rattle.model.specs.Demands.{◌⇔◌, Decided, Wrote}
use Rattle.minimalist.specs.Once.{Once}
use Rattle.minimalist.specs.Lexicon.{Entry, lexicon_of, entries, wrong_lexicon, repeated_entry, entries_refusal}
use Rattle.minimalist.specs.Derivations.{Derivation, Counted}
use Rattle.minimalist.specs.Made.{MadeFile, TooLarge}
use Rattle.minimalist.specs.Closure.{forms_of, made_rules, too_large}

-- 31
abbrev pub made_too_large : List ℕ → ℕ → Bool
made_too_large bytes start = too_large (lexicon_of bytes) start (forms_of (lexicon_of bytes))

-- the length of the file of so many rules: it does not hang on their numbering
abbrev pub made_length : List ℕ → ℕ → ℕ
made_length bytes start = 512 * blocks_for (length (made_rules (lexicon_of bytes) start (forms_of (lexicon_of bytes))))

module _ (bytes : List ℕ) (words start : ℕ) where
  -- 30, 10, 31
  abbrev pub lexicon_refusal : Option Refusal
  lexicon_refusal = entries_refusal bytes words start or_else refuse_if (made_too_large bytes start) (Refusal.Grammar 31 0)

  -- "The output is tested as the writer's, after 31."
  abbrev pub make_refusal : List ℕ → Option Refusal
  make_refusal out = lexicon_refusal or_else refuse_if (ltb (length out) (made_length bytes start)) (Refusal.Desk 23 0)

  abbrev pub make_verdict : List ℕ → Verdict
  make_verdict out = verdict (make_refusal out) (made_length bytes start)

  -- "The set of rules is fixed; the numbering of rules and categories is free": the file is one of those that hold this set; all else is not free. Its
  -- length is that of every other such file (`OneLength`).
  pub record MakeOutcome (out : List ℕ) (answer : Verdict) (after : List ℕ) : Type 0 where
    pub file : List ℕ
    pub file_right : lexicon_refusal ≡ none → MadeFile (lexicon_of bytes) words start file
    pub file_length : lexicon_refusal ≡ none → length file ≡ made_length bytes start
    pub verdict_is : answer ≡ make_verdict out
    pub output_is : after ≡ written (make_refusal out) file out

  -- every test of the call, in its order
  abbrev pub entries_tests : List Test
  entries_tests =
      (of_grammar 30 0 (wrong_lexicon bytes words start) ∷ [])
      and_then map (λ i. of_grammar 10 i (repeated_entry bytes i)) (numbers_from 0 (entries bytes))

  abbrev pub make_tests : List ℕ → List Test
  make_tests out =
      (entries_tests and_then (of_grammar 31 0 (made_too_large bytes start) ∷ [])) and_then (of_desk 23 0 (ltb (length out) (made_length bytes start)) ∷ [])

-- Demand 1 for the call: since the numbering is free, the claim is of every right outcome
abbrev pub Demand1Made : Type 0
Demand1Made =
    (bytes : List ℕ) (words start : ℕ) (out : List ℕ) (answer : Verdict) (after : List ℕ) (o : MakeOutcome bytes words start out answer after)
    → Decided (make_tests bytes words start out) (made_length bytes start ∷ []) (verdict_answer answer)
    × Wrote (make_tests bytes words start out) o.file out after

-- the files that the promise allows have one length, whatever their numbering
abbrev pub OneLength : Type 0
OneLength =
    (lexicon : List Entry) (words start : ℕ) (file other : List ℕ) → MadeFile lexicon words start file → MadeFile lexicon words start other
    → length file ≡ length other

-- 31 is what the paper says of it, where 30 and 10 do not meet the lexicon
abbrev pub SizeTested : Type 0
SizeTested =
    (bytes : List ℕ) (words start : ℕ) → T (all_bytes bytes) → entries_refusal bytes words start ≡ none
    → T (made_too_large bytes start) ⇔ TooLarge (lexicon_of bytes) start

-- "Where the effort limit suffices, the count for a sentence equals the number of minimalist derivations of the wanted category that fit it and have
-- fewer nodes than N"
pub record CountsDerivations (lexicon : List Entry) (start : ℕ) (file sentence : List ℕ) (n limit : ℕ) : Type 0 where
  pub derivations : List Derivation
  pub derivations_are : (d : Derivation) → Memᴰ d derivations ⇔ Counted lexicon start sentence n d
  pub derivations_differ : Once derivations
  pub counted : effort (grammar_of file) sentence n ≤ limit
      → count_call file sentence n limit ≡ Ok (counts (length derivations) (effort (grammar_of file) sentence n))

-- for every made file, and every sentence and limits that the count does not refuse
abbrev pub CountsAgree : Type 0
CountsAgree =
    (lexicon : List Entry) (words start : ℕ) (file : List ℕ) → MadeFile lexicon words start file
    → (sentence : List ℕ) → sentence_refusal (grammar_of file) sentence ≡ none → (n limit : ℕ) → limits_refusal n limit ≡ none
    → CountsDerivations lexicon start file sentence n limit
