-- `reader::grammar_refusal` meets its contract.
-- Assumes nothing.
use mathlib.Core.Path.{◌≡◌, sym, ◌∙◌}
use mathlib.Core.List.{List}
use Prim.Native.Nat.{ℕ, ◌-◌}
use native.Mathlib.Omega.{arith}
use Rattle.model.specs.declared.Refusal.{Refusal}
use Rattle.model.specs.Base.{◌or_else◌}
use Rattle.model.specs.Verdict.{refuse_if, tested}
use Rattle.model.specs.GrammarFile.{blocks, wrong_length, grammar_refusal}
use Rattle.model.proofs.Verdicts.{met_is, tests_after}
use Rattle.model.proofs.Tests.{stop}
use Rattle.reader.specs.Reading.{from_blocks}
use Rattle.model.proofs.TestLoops.{refuse_off}
use Rattle.reader.proofs.BlockTests.{few_blocks}
use Rattle.reader.proofs.reader.grammar_refusal.Goals as goal

-- refusal 1, and the tests from the checks on: all that the reader refuses
in_two : (file : List ℕ) → tested (refuse_if (wrong_length file) (Refusal.Grammar 1 0) or_else from_blocks file) ≡ tested (grammar_refusal file)
in_two file = let all : blocks file - 0 ≡ blocks file = omega arith in rw all

pub returns-then-wrong_length : goal.returns-then-wrong_length
returns-then-wrong_length c =
    let file = c.args.file.now in
    let length = refuse_if (wrong_length file) (Refusal.Grammar 1 0) in
    met_is (length or_else from_blocks file) (Refusal.Grammar 1 0) (stop (wrong_length file) (Refusal.Grammar 1 0) (from_blocks file) (sym c.wrong_length.ensures ∙ c.if-wrong_length.true)) ∙ in_two file

pub overflow_cast-file : goal.overflow_cast-file
overflow_cast-file c = omega (arith, few_blocks c.args.file.now (sym c.wrong_length.ensures ∙ c.if-wrong_length.false))

pub returns : goal.returns
returns c =
    let file = c.args.file.now in
    let length = refuse_if (wrong_length file) (Refusal.Grammar 1 0) in
    let right = refuse_off (wrong_length file) (Refusal.Grammar 1 0) (sym c.wrong_length.ensures ∙ c.if-wrong_length.false) in
    tests_after length (from_blocks file) _ right c.from_blocks.ensures ∙ in_two file
