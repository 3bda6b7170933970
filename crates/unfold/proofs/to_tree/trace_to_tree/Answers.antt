-- `unfold::to_tree::trace_to_tree` meets its contract.
-- Assumes nothing.
use lib.ListN.{length}
use Rattle.model.specs.Conversions.{tree_of}
use Rattle.model.specs.GrammarFile.{grammar_of}
use Rattle.model.specs.Trace.{trace_refusal}
use Rattle.model.proofs.Verdicts.{handed_on, tests_pass, tests_met}
use Rattle.derivation.specs.TreeRun.{before_input}
use Rattle.derivation.proofs.Conversion.{tests_passed, tested_call, refused_call}
use Rattle.unfold.proofs.to_tree.trace_to_tree.Goals as goal

pub converted-requires : goal.converted-requires
converted-requires c =
    let k = c.conversion_tests in
    let a = c.args in
    let B = before_input a.file.now a.sentence.now a.out.now in
    tests_passed a.file.now a.sentence.now a.out.now (tests_pass B k.result k.ensures c.in_ok-conversion_tests.was)

pub returns : goal.returns
returns c =
    let w = c.converted in
    let k = c.conversion_tests in
    let a = c.args in
    let g = grammar_of a.file.now in
    let B = before_input a.file.now a.sentence.now a.out.now in
    let own = trace_refusal g a.sentence.now a.trace.now in
    tested_call a.file.now a.sentence.now a.out.now own (length a.trace.now) (tree_of g a.sentence.now a.trace.now) (tests_pass B k.result k.ensures c.in_ok-conversion_tests.was) w.result _ w.ensures

pub returns-in_err-conversion_tests : goal.returns-in_err-conversion_tests
returns-in_err-conversion_tests c =
    let k = c.conversion_tests in
    let a = c.args in
    let g = grammar_of a.file.now in
    let B = before_input a.file.now a.sentence.now a.out.now in
    let own = trace_refusal g a.sentence.now a.trace.now in
    rw (handed_on c.from_residual.result c.from_residual.ensures.1) (refused_call a.file.now a.sentence.now a.out.now own (length a.trace.now) (tree_of g a.sentence.now a.trace.now) _ (tests_met B k.result k.ensures c.in_err-conversion_tests.was))
