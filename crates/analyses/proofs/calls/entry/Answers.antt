-- `analyses::calls::entry` meets its contract.
-- Assumes nothing.
use Rattle.model.proofs.Verdicts.{handed_on, tests_pass, tests_met}
use Rattle.analyses.specs.Tests.{before_entry}
use Rattle.analyses.proofs.EntryCall.{tests_passed, searched_call, refused_call}
use Rattle.analyses.proofs.calls.entry.Goals as goal

pub found_entry-requires : goal.found_entry-requires
found_entry-requires c =
    let a = c.args in
    let k = c.entry_tests in
    tests_passed a.file.now a.sentence.now a.n a.limit a.m a.out.now (tests_pass (before_entry a.file.now a.sentence.now a.n a.limit a.out.now) k.result k.ensures c.in_ok-entry_tests.was)

pub returns : goal.returns
returns c =
    let a = c.args in
    let k = c.entry_tests in
    searched_call a.file.now a.sentence.now a.n a.limit a.m a.out.now (tests_pass (before_entry a.file.now a.sentence.now a.n a.limit a.out.now) k.result k.ensures c.in_ok-entry_tests.was) c.found_entry.result _ c.found_entry.ensures

pub returns-in_err-entry_tests : goal.returns-in_err-entry_tests
returns-in_err-entry_tests c =
    let a = c.args in
    let k = c.entry_tests in
    rw (handed_on c.from_residual.result c.from_residual.ensures.1) (refused_call a.file.now a.sentence.now a.n a.limit a.m a.out.now
    (tests_met (before_entry a.file.now a.sentence.now a.n a.limit a.out.now) k.result k.ensures c.in_err-entry_tests.was))
