-- What a file has passed of which nothing was refused then, by document 01 or between papers 1 and 4: 1 to 5, and for each rule 6 to 8, and 9 and 10 as they
-- were.
-- Assumes nothing.
use mathlib.Core.Path.{◌≡◌}
use mathlib.Core.Bool.{Bool, false}
use mathlib.Core.List.{List}
use mathlib.Core.Option.{Option, none, some}
use Prim.Native.Nat.{ℕ, ◌-◌, ◌*◌, ◌<◌}
use native.Mathlib.Omega.{arith}
use lib.ListN.{length, get_or}
use Rattle.model.specs.declared.Refusal.{Refusal}
use Rattle.model.specs.Base.{◌or_else◌, first_from}
use Rattle.model.specs.Verdict.{refuse_if}
use Rattle.model.specs.GrammarFile.{within, blocks_for, rules_of, words_of, dimensions_of, record_of, wrong_category, wrong_word, wrong_variables, wrong_length, wrong_check, wrong_block, wrong_heading, wrong_blocks, wrong_count, wrong_rest, blocks, grammar_of}
use Rattle.model.proofs.Tests.{no_refusal, none_at, every_get_d, within_low}
use Rattle.model.proofs.FileTests.{eight_none, five_none, whole_blocks, record_long, right_heading}
use Rattle.model.proofs.RuleFromRecord.{Tested, DimensionsIn}
use Rattle.old_files.specs.OldFiles.{rule_tests, file_tests}

-- six tests that are not met, and a seventh that is
before_some : {a b c d e f : Option Refusal} (r : Refusal) (rest : Option Refusal) → a ≡ none → b ≡ none → c ≡ none → d ≡ none → e ≡ none → f ≡ none
    → a or_else b or_else c or_else d or_else e or_else f or_else some r or_else rest ≡ some r
before_some r rest p q s t u v = rw (p, q, s, t, u, v)

pub record FilePassed (file : List ℕ) (rules : Option Refusal) : Type 0 where
  -- where a rule is refused, no other test is met before it
  pub others : (r : Refusal) → file_tests file (some r) ≡ some r
  pub long : length file ≡ 512 * blocks_for (rules_of file)
  pub dimensions : DimensionsIn (grammar_of file)
  pub rules_none : rules ≡ none

pub file_passed : (file : List ℕ) (rules : Option Refusal) → file_tests file rules ≡ none → FilePassed file rules
file_passed file rules old =
    let t = eight_none _ (first_from (λ k. refuse_if (wrong_check file k) (Refusal.Grammar 2 k)) 0 (blocks file))
    (first_from (λ k. refuse_if (wrong_block file k) (Refusal.Grammar 3 k)) 0 (blocks file)) _ _
    (first_from (λ k. refuse_if (wrong_count file k) (Refusal.Grammar 5 k)) 1 (blocks file - 1)) rules
    (refuse_if (wrong_rest file) (Refusal.Grammar 9 (rules_of file))) old in
    let heading = right_heading file (no_refusal (wrong_heading file) (Refusal.Grammar 4 0) t.3) in
    record {
      others = λ r. before_some r (refuse_if (wrong_rest file) (Refusal.Grammar 9 (rules_of file))) t.0 t.1 t.2 t.3 t.4 t.5;
      long = whole_blocks file (no_refusal (wrong_length file) (Refusal.Grammar 1 0) t.0) (no_refusal (wrong_blocks file) (Refusal.Grammar 5 0) t.4);
      dimensions = λ c h. within_low 1 4 (get_or (dimensions_of file) c 0) (every_get_d (within 1 4) (dimensions_of file) heading.dimensions c h);
      rules_none = t.6;
    }

pub record RulePassed (file : List ℕ) (i : ℕ) (unused again : Bool) : Type 0 where
  pub tested : Tested (grammar_of file) (record_of file i)
  pub nine : unused ≡ false
  pub ten : again ≡ false

-- of each rule, where `unused` met 9 then and `again` met 10
module _ (file : List ℕ) (unused again : ℕ → Bool)
    (old : file_tests file (first_from (λ i. rule_tests file i (unused i) (again i)) 0 (rules_of file)) ≡ none) where
  pub rule_passed : (i : ℕ) → i < rules_of file → RulePassed file i (unused i) (again i)
  rule_passed i here =
      let p = file_passed file (first_from (λ i. rule_tests file i (unused i) (again i)) 0 (rules_of file)) old in
      let d = dimensions_of file in
      let e = record_of file i in
      let t = five_none _ _ _ _ _ (none_at (λ i. rule_tests file i (unused i) (again i)) 0 (rules_of file) p.rules_none i (omega arith) (omega arith)) in
      record {
        tested =
            record {
              long = record_long file p.long i here;
              category = no_refusal (wrong_category d e) (Refusal.Grammar 6 i) t.0;
              word = no_refusal (wrong_word d e (words_of file)) (Refusal.Grammar 7 i) t.1;
              variables = no_refusal (wrong_variables d e) (Refusal.Grammar 8 i) t.2;
            };
        nine = no_refusal (unused i) (Refusal.Grammar 9 i) t.3;
        ten = no_refusal (again i) (Refusal.Grammar 10 i) t.4;
      }
