-- Of a file that is accepted, every call answers and writes what it did, by what was refused of the file then and by the grammar that it held then, where
-- these are those of now.
-- Assumes nothing.
use mathlib.Core.Path.{◌≡◌, refl, ap, subst}
use mathlib.Core.List.{List}
use mathlib.Core.Option.{Option, none}
use Prim.Native.Nat.{ℕ}
use lib.Dec.{ltb}
use lib.ListN.{length}
use Rattle.model.specs.declared.Refusal.{Refusal}
use Rattle.model.specs.Base.{◌or_else◌}
use Rattle.model.specs.Verdict.{refuse_if, verdict}
use Rattle.model.specs.Grammar.{Grammar}
use Rattle.model.specs.GrammarFile.{grammar_refusal, grammar_of}
use Rattle.model.specs.Calls.{written}
use Rattle.old_files.specs.OldFiles.{writer_tests, WithoutSentence, Kept, SumsKept}

module _ (file : List ℕ) where
  -- by what is refused now and the grammar that the file holds now
  without_sentence : WithoutSentence file (grammar_refusal file) (grammar_of file)
  without_sentence =
      record {
        reader = refl;
        writer = λ h records out q. (
          ap (λ (f : List ℕ). verdict (writer_tests h records (grammar_refusal f) or_else refuse_if (ltb (length out) (length f)) (Refusal.Desk 23 0)) (length f)) q,
          ap (λ (f : List ℕ). written (writer_tests h records (grammar_refusal f) or_else refuse_if (ltb (length out) (length f)) (Refusal.Desk 23 0)) f out) q,
        );
        surveyed = λ out answer after. (
          λ s. record { figures = s.figures; figures_right = s.figures_right; verdict_is = s.verdict_is; output_is = s.output_is },
          λ s. record { figures = s.figures; figures_right = s.figures_right; verdict_is = s.verdict_is; output_is = s.output_is },
        );
      }

  now : grammar_refusal file ≡ none → Kept file (grammar_refusal file) (grammar_of file)
  now accepted =
      record {
        accepted = accepted;
        without_sentence = without_sentence;
        trace_checker = λ sentence trace. refl;
        tree_checker = λ sentence tree. refl;
        trace_to_tree = λ sentence trace out. (refl, refl);
        tree_to_trace = λ sentence tree out. (refl, refl);
        counted = λ sentence n limit. refl;
        entered = λ sentence n limit m out. (refl, refl);
        program_prints = λ sentence_file. refl;
      }

  sums_now : SumsKept file (grammar_refusal file) (grammar_of file)
  sums_now = record { trace_weighed = λ sentence trace. refl; tree_weighed = λ sentence tree. refl }

  module _ {refused : Option Refusal} {g : Grammar} (same_refusal : grammar_refusal file ≡ refused) (same_grammar : grammar_of file ≡ g) where
    -- what holds of the refusal and the grammar of now holds of those of then
    pub then_too : (P : Option Refusal → Grammar → Type 0) → P (grammar_refusal file) (grammar_of file) → P refused g
    then_too P x = subst (λ (o : Option Refusal). P o g) same_refusal (subst (P (grammar_refusal file)) same_grammar x)

    pub keeps : grammar_refusal file ≡ none → Kept file refused g
    keeps accepted = then_too (Kept file) (now accepted)

    pub keeps_sums : SumsKept file refused g
    keeps_sums = then_too (SumsKept file) sums_now
