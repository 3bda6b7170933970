-- `derivation::calls::tree_to_trace` meets its contract.
-- Assumes nothing.
use lib.ListN.{length}
use Rattle.model.specs.Conversions.{trace_of}
use Rattle.model.specs.GrammarFile.{grammar_of}
use Rattle.model.specs.Tree.{tree_refusal}
use Rattle.model.proofs.Verdicts.{handed_on, tests_pass, tests_met}
use Rattle.derivation.specs.TreeRun.{before_input}
use Rattle.derivation.proofs.Conversion.{tests_passed, tested_call, refused_call}
use Rattle.derivation.proofs.calls.tree_to_trace.Goals as goal

pub write_trace-requires : goal.write_trace-requires
write_trace-requires c =
    let k = c.conversion_tests in
    let a = c.args in
    let B = before_input a.file.now a.sentence.now a.out.now in
    let t = tests_passed a.file.now a.sentence.now a.out.now (tests_pass B k.result k.ensures c.in_ok-conversion_tests.was) in
    (t.0, t.2)

pub returns : goal.returns
returns c =
    let w = c.write_trace in
    let k = c.conversion_tests in
    let a = c.args in
    let g = grammar_of a.file.now in
    let B = before_input a.file.now a.sentence.now a.out.now in
    let own = tree_refusal g a.sentence.now a.tree.now in
    tested_call a.file.now a.sentence.now a.out.now own (length a.tree.now) (trace_of g a.sentence.now a.tree.now) (tests_pass B k.result k.ensures c.in_ok-conversion_tests.was) w.result _ w.ensures

pub returns-in_err-conversion_tests : goal.returns-in_err-conversion_tests
returns-in_err-conversion_tests c =
    let k = c.conversion_tests in
    let a = c.args in
    let g = grammar_of a.file.now in
    let B = before_input a.file.now a.sentence.now a.out.now in
    let own = tree_refusal g a.sentence.now a.tree.now in
    rw (handed_on c.from_residual.result c.from_residual.ensures.1) (refused_call a.file.now a.sentence.now a.out.now own (length a.tree.now) (trace_of g a.sentence.now a.tree.now) _ (tests_met B k.result k.ensures c.in_err-conversion_tests.was))
