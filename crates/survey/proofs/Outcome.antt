-- The outcome of the survey: refused for the grammar, refused for room, or with the figures.
-- Assumes nothing.
use mathlib.Core.Path.{◌≡◌, sym, ap, ◌∙◌}
use mathlib.Core.Option.{Option, none, some}
use mathlib.Core.List.{List, [], ◌++◌}
use Prim.Native.Nat.{ℕ}
use lib.ListN.{length, drop}
use Rattle.model.specs.declared.Refusal.{Refusal}
use Rattle.model.specs.Base.{◌or_else◌}
use Rattle.model.specs.Verdict.{verdict, Verdict}
use Rattle.model.specs.GrammarFile.{grammar_refusal, grammar_of, categories_of}
use Rattle.model.specs.Survey.{Surveyed, survey}
use Rattle.model.specs.Calls.{written, room_refusal, survey_refusal, SurveyOutcome}
use Rattle.model.proofs.Tests.{none_some}
use Rattle.model.proofs.FromFile.{dimensions_length}
use Rattle.model.proofs.SurveyTrees.{file_surveyed}
use Rattle.std.specs.Prelude.{Ok, Err}

module _ (file out : List ℕ) where
  -- a refusal that is met leaves the output as it was
  refused : (x : Refusal) → survey_refusal file out ≡ some x → SurveyOutcome file out (Err x) out
  refused x e =
      record {
        figures = [];
        figures_right = λ n. none_some (sym e ∙ n);
        verdict_is = sym (ap (λ (o : Option Refusal). verdict o (categories_of file)) e);
        output_is = sym (ap (λ (o : Option Refusal). written o [] out) e);
      }

  pub refused_grammar : (x : Refusal) → grammar_refusal file ≡ some x → SurveyOutcome file out (Err x) out
  refused_grammar x e = refused x (ap (λ (o : Option Refusal). o or_else room_refusal out) e)

  pub refused_room : grammar_refusal file ≡ none → (x : Refusal) → room_refusal out ≡ some x → SurveyOutcome file out (Err x) out
  refused_room a x e = refused x (ap (λ (o : Option Refusal). o or_else room_refusal out) a ∙ e)

  pub surveyed_out : grammar_refusal file ≡ none → room_refusal out ≡ none → (n : ℕ) (after : List ℕ) → n ≡ categories_of file → after ≡ survey (grammar_of file) ++ drop n out
      → SurveyOutcome file out (Ok n) after
  surveyed_out a r n after e f =
      let s = file_surveyed file a in
      let none_met : survey_refusal file out ≡ none = ap (λ (o : Option Refusal). o or_else room_refusal out) a ∙ r in
      record {
        figures = survey (grammar_of file);
        figures_right = λ m. s;
        verdict_is = ap Ok e ∙ sym (ap (λ (o : Option Refusal). verdict o (categories_of file)) none_met);
        output_is = f ∙ ap (λ (k : ℕ). survey (grammar_of file) ++ drop k out) (e ∙ long s) ∙ sym (ap (λ (o : Option Refusal). written o (survey (grammar_of file)) out) none_met);
      }
    where
      long : Surveyed (grammar_of file) (survey (grammar_of file)) → categories_of file ≡ length (survey (grammar_of file))
      long s = sym (s.long ∙ dimensions_length file a)
