-- The tests of one record in pieces: what a rule of its kind does not use, and refusals 6 to 9 joined (document 01; document 02, paper 1).
-- Assumes nothing.
use Rattle.std.specs.Prelude.{ℕ, ◌+◌, ◌-◌, List, ◌++◌}
use Rattle.std.proofs.Math.Option.{Option}
use Rattle.model.specs.declared.Refusal.{Refusal}
use Rattle.model.specs.Base.{◌or_else◌}
use Rattle.model.specs.Verdict.{refuse_if}
use Rattle.model.specs.GrammarFile.{fields, field, dimension_in, variables, wrong_category, wrong_word, wrong_variables, unused_set}

-- refusal 9 of a record by its kind: the bytes that a lexical and a nonlexical rule do not use
abbrev pub unused_lexical : List ℕ → List ℕ
unused_lexical e = fields e 2 3 ++ fields e 7 16

abbrev pub unused_nonlexical : List ℕ → List ℕ → List ℕ
unused_nonlexical dimensions e =
    fields e (2 + field e 1) (3 - field e 1) ++ fields e 5 2
    ++ fields e (7 + dimension_in dimensions (field e 0)) (4 - dimension_in dimensions (field e 0))
    ++ fields e (11 + variables dimensions e) (12 - variables dimensions e)

-- refusals 6 to 9 of record e at place i; with refusal 10 they are `record_refusal`
abbrev pub record_tests : List ℕ → ℕ → List ℕ → ℕ → Option Refusal
record_tests dimensions words e i =
    refuse_if (wrong_category dimensions e) (Refusal.Grammar 6 i)
    or_else refuse_if (wrong_word dimensions e words) (Refusal.Grammar 7 i)
    or_else refuse_if (wrong_variables dimensions e) (Refusal.Grammar 8 i)
    or_else refuse_if (unused_set dimensions e) (Refusal.Grammar 9 i)
