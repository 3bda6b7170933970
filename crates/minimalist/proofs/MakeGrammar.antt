-- The call that makes a grammar file: for every input there is an outcome as promised, demand 1 holds of every such outcome, and 31 is what the paper says of it.
-- Assumes nothing.
use mathlib.Core.Path.{◌≡◌, ap, sym, subst, ◌∙◌}
use mathlib.Core.Bool.{Bool, true, false}
use mathlib.Core.Option.{Option, none, some}
use mathlib.Core.List.{List, [], ◌∷◌, ◌++◌}
use Prim.Native.Nat.{ℕ, ◌*◌, ◌<◌, ◌≤◌}
use lib.Dec.{T, ltb}
use lib.ListN.{length, drop, length-map}
use borrow.Author.Tests.{ltb-false, lt-ltb, le-ltb}
use Rattle.model.specs.declared.Refusal.{Refusal}
use Rattle.model.specs.Base.{◌or_else◌}
use Rattle.model.specs.Verdict.{refuse_if, verdict, verdict_answer, Verdict}
use Rattle.model.specs.Grammar.{Grammar}
use Rattle.model.specs.GrammarFile.{blocks_for}
use Rattle.model.specs.WellFormed.{WellFormed}
use Rattle.model.specs.Writer.{all_bytes}
use Rattle.model.specs.Calls.{written}
use Rattle.model.specs.Demands.{Decided, Wrote}
use Rattle.model.proofs.Tests.{no_refusal, first_of, rest_of}
use Rattle.model.proofs.FileTests.{passed}
use Rattle.model.proofs.WellFormed.{rules_length}
use Rattle.model.proofs.Refusals.{by_tests, wrote, Gives, ◌then◌, grammar_one, grammar_each, desk_one}
use Rattle.grammar_to_file.specs.FileFor.{file_for}
use Rattle.grammar_to_file.proofs.GrammarsAndFiles.{grammars_and_files}
use Rattle.minimalist.specs.Lexicon.{lexicon_of, entries, wrong_lexicon, repeated_entry, entries_refusal}
use Rattle.minimalist.specs.Made.{MadeFrom, MadeFile}
use Rattle.minimalist.specs.Closure.{forms_of, made_rules}
use Rattle.minimalist.specs.Numbering.{numbered_rule, made_grammar}
use Rattle.minimalist.specs.MakeGrammar.{made_too_large, lexicon_refusal, made_length, make_refusal, MakeOutcome, make_tests, Demand1Made, SizeTested}
use Rattle.minimalist.proofs.Entries.{size_met, well_made_from}
use Rattle.minimalist.proofs.MadeFiles.{made_stored, made_file_of}
use Rattle.std.specs.Prelude.{Ok, Err}

-- tests one after another, by which of them is met
module _ (o : Option Refusal) (large room : Bool) where
  abbrev in_turn : Option Refusal
  in_turn = (o or_else refuse_if large (Refusal.Grammar 31 0)) or_else refuse_if room (Refusal.Desk 23 0)

  first_met_lem : (r : Refusal) → o ≡ some r → in_turn ≡ some r
  first_met_lem r e = rw e

  second_met : o ≡ none → large ≡ true → in_turn ≡ some (Refusal.Grammar 31 0)
  second_met e f = rw (e, f)

  third_met : o ≡ none → large ≡ false → room ≡ true → in_turn ≡ some (Refusal.Desk 23 0)
  third_met e f g = rw (e, f, g)

  none_met : o ≡ none → large ≡ false → room ≡ false → in_turn ≡ none
  none_met e f g = rw (e, f, g)

module _ (bytes : List ℕ) (words start : ℕ) where
  abbrev made : Grammar
  made = made_grammar (lexicon_of bytes) words start

  module _ (all : T (all_bytes bytes)) (passes : lexicon_refusal bytes words start ≡ none) where
    well : WellFormed made × MadeFrom (lexicon_of bytes) words start made
    well =
        let large = made_too_large bytes start in
        well_made_from bytes words start all (first_of (entries_refusal bytes words start) (refuse_if large (Refusal.Grammar 31 0)) passes)
        (no_refusal large (Refusal.Grammar 31 0) (rest_of (entries_refusal bytes words start) (refuse_if large (Refusal.Grammar 31 0)) passes))

    pub made_right : MadeFile (lexicon_of bytes) words start (file_for made)
    made_right = made_file_of (lexicon_of bytes) words start made well.0 well.1

    -- its length goes by the number of its rules
    pub made_long : length (file_for made) ≡ made_length bytes start
    made_long =
        let held = grammars_and_files.has_file made (made_stored (lexicon_of bytes) words start made well.0 well.1) in
        (passed (file_for made) held.accepted).long
        ∙ ap (λ (n : ℕ). 512 * blocks_for n) (sym (rules_length (file_for made)) ∙ ap (λ (g : Grammar). length g.rules) held.grammar_is ∙ length-map (made_rules (lexicon_of bytes) start (forms_of (lexicon_of bytes))) (numbered_rule (forms_of (lexicon_of bytes))))

  -- the outcomes of the call, one by one
  module _ (all : T (all_bytes bytes)) (out : List ℕ) where
    abbrev room : Bool
    room = ltb (length out) (made_length bytes start)

    refused : (r : Refusal) → make_refusal bytes words start out ≡ some r → MakeOutcome bytes words start out (Err r) out
    refused r e =
        record {
          file = file_for made;
          file_right = made_right all;
          file_length = made_long all;
          verdict_is = sym (ap (λ (o : Option Refusal). verdict o (made_length bytes start)) e);
          output_is = sym (ap (λ (o : Option Refusal). written o (file_for made) out) e);
        }

    -- 30 or 10
    pub refused_entries : (r : Refusal) → entries_refusal bytes words start ≡ some r → MakeOutcome bytes words start out (Err r) out
    refused_entries r e = refused r (first_met_lem (entries_refusal bytes words start) (made_too_large bytes start) room r e)

    -- 31
    pub refused_large : entries_refusal bytes words start ≡ none → made_too_large bytes start ≡ true
        → MakeOutcome bytes words start out (Err (Refusal.Grammar 31 0)) out
    refused_large e f = refused (Refusal.Grammar 31 0) (second_met (entries_refusal bytes words start) (made_too_large bytes start) room e f)

    -- 23
    pub refused_room : entries_refusal bytes words start ≡ none → made_too_large bytes start ≡ false → length out < made_length bytes start
        → MakeOutcome bytes words start out (Err (Refusal.Desk 23 0)) out
    refused_room e f h =
        refused (Refusal.Desk 23 0) (third_met (entries_refusal bytes words start) (made_too_large bytes start) room e f (lt-ltb (length out) (made_length bytes start) h))

    -- the file
    pub file_put : entries_refusal bytes words start ≡ none → made_too_large bytes start ≡ false → made_length bytes start ≤ length out
        → (n : ℕ) → n ≡ made_length bytes start → (after : List ℕ) → after ≡ file_for made ++ drop n out → MakeOutcome bytes words start out (Ok n) after
    file_put e f h n q after w =
        let k = none_met (entries_refusal bytes words start) (made_too_large bytes start) room e f (le-ltb (length out) (made_length bytes start) h) in
        let l = made_long all (first_of (lexicon_refusal bytes words start) (refuse_if room (Refusal.Desk 23 0)) k) in
        record {
          file = file_for made;
          file_right = made_right all;
          file_length = made_long all;
          verdict_is = ap Ok q ∙ sym (ap (λ (o : Option Refusal). verdict o (made_length bytes start)) k);
          output_is = w ∙ ap (λ (m : ℕ). file_for made ++ drop m out) (q ∙ sym l) ∙ sym (ap (λ (o : Option Refusal). written o (file_for made) out) k);
        }

-- 31
pub size_tested : SizeTested
size_tested bytes words start all accepted = size_met bytes words start all accepted

-- demand 1
pub demand_1_made : Demand1Made
demand_1_made bytes words start out answer after o = (
  subst (λ (v : Verdict). Decided (make_tests bytes words start out) (made_length bytes start ∷ []) (verdict_answer v)) (sym o.verdict_is)
      (by_tests (make_tests bytes words start out) (make_refusal bytes words start out) (made_length bytes start) gives.first),
  subst (Wrote (make_tests bytes words start out) o.file out) (sym o.output_is)
      (wrote (make_tests bytes words start out) (make_refusal bytes words start out) o.file out gives.first fit),
)
  where
    room : Option Refusal
    room = refuse_if (ltb (length out) (made_length bytes start)) (Refusal.Desk 23 0)

    gives : Gives (make_tests bytes words start out) (make_refusal bytes words start out)
    gives =
        ((grammar_one 30 0 (wrong_lexicon bytes words start) then grammar_each 10 (repeated_entry bytes) 0 (entries bytes)) then grammar_one 31 0 (made_too_large bytes start))
        then desk_one 23 0 (ltb (length out) (made_length bytes start))

    fit : make_refusal bytes words start out ≡ none → length o.file ≤ length out
    fit e =
        let h = ltb-false (length out) (made_length bytes start) (no_refusal (ltb (length out) (made_length bytes start)) (Refusal.Desk 23 0) (rest_of (lexicon_refusal bytes words start) room e)) in
        subst (λ (n : ℕ). n ≤ length out) (sym (o.file_length (first_of (lexicon_refusal bytes words start) room e))) h
