-- Demand 3 for the answers of the calls, from their promises (`answered`).
-- Assumes nothing.
use mathlib.Core.Path.{◌≡◌, sym, ◌∙◌}
use mathlib.Core.Option.{none}
use mathlib.Core.List.{List}
use Prim.Native.Nat.{ℕ}
use Rattle.model.specs.GrammarFile.{grammar_refusal, grammar_of}
use Rattle.model.specs.Trace.{sentence_refusal}
use Rattle.model.specs.Counting.{limits_refusal, listing}
use Rattle.model.proofs.Demands.{demand_3}
use Rattle.analyses.specs.Answers.{Answers, Demand3AnsweredFor, Demand3Answered}

-- an accepted grammar file, a sentence that neither 11 nor 29 meets, and limits in range
module _ (file : List ℕ) (accepted : grammar_refusal file ≡ none) (sentence : List ℕ) (spoken : sentence_refusal (grammar_of file) sentence ≡ none)
    (n limit : ℕ) (ranges : limits_refusal n limit ≡ none) where
  -- demand 3 for whatever answers as the calls promise
  by_promise : (answers : Answers file sentence n limit) → Demand3AnsweredFor file sentence n limit answers
  by_promise answers =
      let d = demand_3 file accepted sentence spoken n limit ranges in
      record {
        prefixes = d.prefixes;
        prefixes_are = d.prefixes_are;
        prefixes_differ = d.prefixes_differ;
        trees = d.trees;
        trees_are = d.trees_are;
        trees_differ = d.trees_differ;
        traces = listing (grammar_of file) sentence n;
        traces_are = d.listing_is;
        traces_belong = d.belong;
        traces_differ = d.listing_differs;
        ordered = d.ordered;
        too_much = (λ e. d.too_much.0 (sym answers.count_promised ∙ e), λ h. answers.count_promised ∙ d.too_much.1 h);
        counted = λ h. answers.count_promised ∙ d.counted h;
        entry_too_much = λ out room m.
            let e = (answers.entry_promised m out).0 in
            let t = d.entry_too_much out room m in
            (λ f. t.0 (sym e ∙ f), λ h. e ∙ t.1 h);
        entry_unwritten = λ h out room m. (answers.entry_promised m out).1 ∙ d.entry_unwritten h out room m;
        entries = λ h out room m k.
            let e = d.entry_is h out room m k in
            ((answers.entry_promised m out).0 ∙ e.0, (answers.entry_promised m out).1 ∙ e.1);
        no_entry = λ h out room m k.
            let e = d.no_entry h out room m k in
            ((answers.entry_promised m out).0 ∙ e.0, (answers.entry_promised m out).1 ∙ e.1);
      }

pub answered : Demand3Answered
answered = by_promise
