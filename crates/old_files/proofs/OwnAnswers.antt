-- An older file without doubles has on sentences of words the answers of its own time: what is refused of it and the grammar that it holds are those of then,
-- and sentences of words have the answers that they had (`single_words` in the crate `singles`).
-- Assumes nothing.
use mathlib.Core.Path.{◌≡◌, refl, sym, ◌∙◌}
use mathlib.Core.List.{List}
use mathlib.Core.Option.{Option, none}
use Prim.Native.Nat.{ℕ}
use Rattle.model.specs.declared.Refusal.{Refusal}
use Rattle.model.specs.Grammar.{Grammar}
use Rattle.model.specs.GrammarFile.{grammar_refusal, grammar_of}
use Rattle.model.specs.Program.{program}
use Rattle.singles.specs.OldSentences as before
use Rattle.singles.specs.AsBefore.{AsBefore, SumsAsBefore}
use Rattle.singles.proofs.Answers.{single_words}
use Rattle.old_files.specs.OwnAnswers.{OwnAnswers, OwnSums, OwnTime}
use Rattle.old_files.proofs.Before.{same_grammar}
use Rattle.old_files.proofs.Kept.{then_too, keeps}
use Rattle.old_files.proofs.OldFiles.{accepted, same_refusal}

module _ (file : List ℕ) {refused : Option Refusal} {g : Grammar} (refusal_is : grammar_refusal file ≡ refused) (grammar_is : grammar_of file ≡ g) where
  own : grammar_refusal file ≡ none → OwnAnswers file refused g
  own accepted_now =
      record {
        without_sentence = (keeps file refusal_is grammar_is accepted_now).without_sentence;
        of_words = λ ws h. then_too file refusal_is grammar_is (λ o k. AsBefore file o k ws) (single_words.calls file ws h);
        program_prints = λ sentence_file h.
            then_too file refusal_is grammar_is (λ o k. program file sentence_file ≡ before.program o k sentence_file) (single_words.prints file sentence_file h);
      }

  own_sums : OwnSums file refused g
  own_sums ws h = then_too file refusal_is grammar_is (λ o k. SumsAsBefore file o k ws) (single_words.sums file ws h)

pub own_time : OwnTime
own_time =
    record {
      of_document_01 = λ file old none-double. let a = accepted file old none-double in own file (a ∙ sym old) (same_grammar file old) a;
      of_between = λ file old none-double. let s = same_refusal file old none-double in own file s refl (s ∙ old);
      sums_of_between = λ file old none-double. own_sums file (same_refusal file old none-double) refl;
    }
