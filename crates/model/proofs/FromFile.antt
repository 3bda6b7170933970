-- A file that the reader accepts holds a right grammar: what its heading and its records have been tested for.
-- Assumes nothing.
use mathlib.Core.Path.{◌≡◌, ap, subst, ◌∙◌}
use mathlib.Core.Bool.{false}
use mathlib.Core.Option.{none, some}
use mathlib.Core.List.{List, map}
use Prim.Native.Nat.{ℕ, zero, suc, ◌+◌, ◌<◌, ◌≤◌}
use native.Mathlib.Omega.{arith}
use native.Mathlib.Decide.{dec_lt}
use lib.ListN.{length, get_or, get_elem?, length-take, length-drop, get_or-eq_default}
use Rattle.model.specs.declared.Refusal.{Refusal}
use Rattle.model.specs.Base.{numbers_from}
use Rattle.model.specs.Verdict.{refuse_if}
use Rattle.model.specs.Grammar.{Rule, rule_at, dimension}
use Rattle.model.specs.GrammarFile.{within, categories_of, start_of, words_of, rules_of, dimensions_of, record_of, wrong_category, wrong_word, wrong_variables, unused_set, repeated, grammar_refusal, rule_of, grammar_of}
use Rattle.model.specs.WellFormed.{RightRule, Right}
use Rattle.model.proofs.Tests.{no_refusal, every_get_d, within_low}
use Rattle.model.proofs.FileTests.{Passed, passed, record_long, five_none}
use Rattle.model.proofs.RuleFromRecord.{Tested, DimensionsIn, rule_right}

-- rules made from the numbers from `from` on: a rule that is found at r is that of `from` + r, and each is found
rule_at_lem : (f : ℕ → Rule) (from n r : ℕ) (rule : Rule) → get_elem? (map f (numbers_from from n)) r ≡ some rule → (r < n) × (f (from + r) ≡ rule)
rule_at_lem f from zero r rule e = let z : ◌≡◌ {A = ℕ} 0 1 = cc in absurd (omega arith)
rule_at_lem f from (suc n) zero rule e = let a : from + 0 ≡ from = omega arith in let b : f from ≡ rule = cc in (omega arith, rw a b)
rule_at_lem f from (suc n) (suc r) rule e =
    let x = rule_at_lem f (suc from) n r rule e in
    let a : suc from + r ≡ from + suc r = omega arith in
    (omega (arith, x.0), subst (λ (k : ℕ). f k ≡ rule) a x.1)

at_rule : (f : ℕ → Rule) (from n r : ℕ) → r < n → get_elem? (map f (numbers_from from n)) r ≡ some (f (from + r))
at_rule f from zero r h = let z : ⊥ = omega arith in absurd z
at_rule f from (suc n) zero h = let a : from + 0 ≡ from = omega arith in rw a
at_rule f from (suc n) (suc r) h = let a : from + suc r ≡ suc from + r = omega arith in rw a (at_rule f (suc from) n r (omega arith))

module _ (file : List ℕ) where
  -- the rule that record r holds is rule r of the grammar
  abbrev pub rule_read : ℕ → Rule
  rule_read r = rule_of (dimensions_of file) (record_of file r)

  pub rule_read_lem : (r : ℕ) → r < rules_of file → rule_at (grammar_of file) r ≡ some (rule_read r)
  rule_read_lem r h = let k : 0 + r ≡ r = omega arith in at_rule rule_read 0 (rules_of file) r h ∙ ap (λ (i : ℕ). some (rule_read i)) k

  pub rule_is : (r : ℕ) (rule : Rule) → rule_at (grammar_of file) r ≡ some rule → (r < rules_of file) × (rule_read r ≡ rule)
  rule_is r rule e =
      let x = rule_at_lem rule_read 0 (rules_of file) r rule e in
      let k : 0 + r ≡ r = omega arith in
      (x.0, subst (λ (i : ℕ). rule_read i ≡ rule) k x.1)

  -- what holds of the rule of every record holds of every rule of the grammar
  pub each_rule : (P : Rule → Type 0) → ((r : ℕ) → r < rules_of file → P (rule_read r)) → (r : ℕ) (rule : Rule) → rule_at (grammar_of file) r ≡ some rule → P rule
  each_rule P h r rule e =
      let x = rule_is r rule e in
      subst P x.1 (h r x.0)

module _ (file : List ℕ) (accepted : grammar_refusal file ≡ none) where
  -- the tests, all passed
  tests : Passed file
  tests = passed file accepted

  -- the heading's numbers are in range
  pub categories_in : (1 ≤ categories_of file) × (categories_of file ≤ 64)
  categories_in = tests.heading.categories

  pub words_in : (1 ≤ words_of file) × (words_of file ≤ 4096)
  words_in = tests.heading.words

  pub rules_in : (1 ≤ rules_of file) × (rules_of file ≤ 256)
  rules_in = tests.heading.rules

  pub start_in : start_of file < categories_of file
  start_in = tests.heading.start_category

  pub dimensions_in : DimensionsIn (grammar_of file)
  dimensions_in c h = within_low 1 4 (get_or (dimensions_of file) c 0) (every_get_d (within 1 4) (dimensions_of file) tests.heading.dimensions c h)

  -- there are as many dimensions as categories
  pub dimensions_length : length (dimensions_of file) ≡ categories_of file
  dimensions_length = simp (length-take, length-drop) (omega (arith, tests.long, categories_in))

  -- what a number that holds a category and a component needs
  pub dimensions_four : (c : ℕ) → dimension (grammar_of file) c ≤ 4
  dimensions_four c = go (dec_lt c (length (dimensions_of file)))
    where
      go : Dec (c < length (dimensions_of file)) → get_or (dimensions_of file) c 0 ≤ 4
      go (yes h) = (dimensions_in c h).1
      go (no h) = omega (arith, get_or-eq_default (dimensions_of file) 0 {n = c} (omega arith))

  pub categories_few : length (grammar_of file).dimensions ≤ 64
  categories_few = omega (arith, dimensions_length, categories_in)

  -- every record passes its tests
  pub record RulePassed (r : ℕ) : Type 0 where
    pub category : wrong_category (dimensions_of file) (record_of file r) ≡ false
    pub word : wrong_word (dimensions_of file) (record_of file r) (words_of file) ≡ false
    pub variables : wrong_variables (dimensions_of file) (record_of file r) ≡ false
    pub unused : unused_set (dimensions_of file) (record_of file r) ≡ false
    pub single : repeated (record_of file) r ≡ false

  pub rule_passed : (r : ℕ) → r < rules_of file → RulePassed r
  rule_passed r h =
      let e = record_of file r in
      let d = dimensions_of file in
      let t = five_none (refuse_if (wrong_category d e) (Refusal.Grammar 6 r)) (refuse_if (wrong_word d e (words_of file)) (Refusal.Grammar 7 r))
      (refuse_if (wrong_variables d e) (Refusal.Grammar 8 r)) (refuse_if (unused_set d e) (Refusal.Grammar 9 r)) (refuse_if (repeated (record_of file) r) (Refusal.Grammar 10 r))
      (tests.rule r h) in
      record {
        category = no_refusal (wrong_category d e) (Refusal.Grammar 6 r) t.0;
        word = no_refusal (wrong_word d e (words_of file)) (Refusal.Grammar 7 r) t.1;
        variables = no_refusal (wrong_variables d e) (Refusal.Grammar 8 r) t.2;
        unused = no_refusal (unused_set d e) (Refusal.Grammar 9 r) t.3;
        single = no_refusal (repeated (record_of file) r) (Refusal.Grammar 10 r) t.4;
      }

  pub record_tested : (r : ℕ) → r < rules_of file → Tested (grammar_of file) (record_of file r)
  record_tested r h =
      let p = rule_passed r h in
      record { long = record_long file tests.long r h; category = p.category; word = p.word; variables = p.variables }

  -- what the reader accepts is a right grammar
  pub accepted_right : Right (grammar_of file)
  accepted_right =
      record {
        start_alone = tests.heading.start_alone;
        rules = each_rule file (RightRule (grammar_of file)) (λ r h. rule_right (grammar_of file) (record_of file r) (record_tested r h) dimensions_in);
      }
