-- A file that the reader accepts holds a grammar that is all that document 01 says of one.
-- Assumes nothing.
use mathlib.Core.Path.{◌≡◌}
use mathlib.Core.Option.{none}
use mathlib.Core.List.{List}
use Prim.Native.Nat.{ℕ}
use native.Mathlib.Omega.{arith}
use lib.ListN.{length, length-map}
use Rattle.model.specs.GrammarFile.{rules_of, record_of, grammar_refusal, grammar_of}
use Rattle.model.specs.WellFormed.{InRange, WellFormed}
use Rattle.model.proofs.Lists.{length_numbers}
use Rattle.model.proofs.RuleFromRecord.{rule_in_range}
use Rattle.model.proofs.FromFile.{each_rule, categories_in, words_in, rules_in, start_in, dimensions_in, dimensions_length, record_tested, accepted_right}

-- as many rules as the heading says
pub rules_length : (file : List ℕ) → length (grammar_of file).rules ≡ rules_of file
rules_length file = simp (length-map, length_numbers)

pub accepted_well : (file : List ℕ) → grammar_refusal file ≡ none → WellFormed (grammar_of file)
accepted_well file accepted =
    let c = categories_in file accepted in
    let d = dimensions_length file accepted in
    let r = rules_in file accepted in
    let l = rules_length file in
    record {
      categories = (omega arith, omega arith);
      dimensions_are = dimensions_in file accepted;
      start_is = omega (arith, start_in file accepted);
      words_are = words_in file accepted;
      rules_are = (omega arith, omega arith);
      ranges = each_rule file (InRange (grammar_of file)) (λ r h. rule_in_range (grammar_of file) (record_of file r) (record_tested file accepted r h));
      right = accepted_right file accepted;
    }
