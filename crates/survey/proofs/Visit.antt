-- A visit to a rule of an accepted file, by the rule's category and the tests of its daughters.
-- Assumes nothing.
use Rattle.std.specs.Prelude.{if◌then◌else◌}
use mathlib.Core.Path.{◌≡◌, ap, ◌∙◌}
use mathlib.Core.Bool.{true, false, ◌&&◌}
use mathlib.Core.Option.{none}
use mathlib.Core.List.{List}
use Prim.Native.Nat.{ℕ, ◌<◌}
use native.Mathlib.Omega.{arith}
use borrow.Author.Tests.{eq-eqb, ne_eqb}
use lib.Dec.{eqb}
use lib.ListN.{get_or, set}
use Rattle.model.specs.GrammarFile.{grammar_refusal, grammar_of, rules_of, categories_of, record_of, field, daughters_of}
use Rattle.model.specs.Survey.{ready, visit_by, visit}
use Rattle.model.proofs.FromFile.{rule_read_lem, record_tested, dimensions_length}
use Rattle.model.proofs.RuleFromRecord.{category_in}

module _ (file : List ℕ) (accepted : grammar_refusal file ≡ none) (r : ℕ) (below : r < rules_of file) where
  abbrev e : List ℕ
  e = record_of file r

  -- the rule's category is one
  pub category_below : field e 0 < categories_of file
  category_below = omega (arith, category_in (grammar_of file) e (record_tested file accepted r below), dimensions_length file accepted)

  module _ (round : ℕ) (figures : List ℕ) where
    by_tests : visit (grammar_of file) round figures r
        ≡ (if eqb (get_or figures (field e 0) 0) 0 && ready round figures (daughters_of e) then set figures (field e 0) round else figures)
    by_tests = ap (visit_by round figures) (rule_read_lem file r below)

    pub visit_figured : (get_or figures (field e 0) 0 ≡ 0 → ⊥) → visit (grammar_of file) round figures r ≡ figures
    visit_figured n = by_tests ∙ rw (ne_eqb (get_or figures (field e 0) 0) 0 n)

    pub visit_unready : get_or figures (field e 0) 0 ≡ 0 → ready round figures (daughters_of e) ≡ false → visit (grammar_of file) round figures r ≡ figures
    visit_unready z f = by_tests ∙ rw (eq-eqb (get_or figures (field e 0) 0) 0 z, f)

    pub visit_due : get_or figures (field e 0) 0 ≡ 0 → ready round figures (daughters_of e) ≡ true
        → visit (grammar_of file) round figures r ≡ set figures (field e 0) round
    visit_due z f = by_tests ∙ rw (eq-eqb (get_or figures (field e 0) 0) 0 z, f)
