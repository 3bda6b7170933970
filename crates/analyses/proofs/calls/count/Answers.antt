-- `analyses::calls::count` meets its contract.
-- Assumes nothing.
use Rattle.model.proofs.Verdicts.{handed_on, tests_pass, tests_met}
use Rattle.analyses.specs.Tests.{before_search}
use Rattle.analyses.proofs.Counted.{tests_passed, searched_call, refused_call}
use Rattle.analyses.proofs.calls.count.Goals as goal

pub counted-requires : goal.counted-requires
counted-requires c =
    let a = c.args in
    let k = c.count_tests in
    let o = before_search a.file.now a.sentence.now a.n a.limit in
    let p = tests_passed a.file.now a.sentence.now a.n a.limit (tests_pass o k.result k.ensures c.in_ok-count_tests.was) in
    (p.0, p.1)

pub returns : goal.returns
returns c =
    let a = c.args in
    let k = c.count_tests in
    let o = before_search a.file.now a.sentence.now a.n a.limit in
    searched_call a.file.now a.sentence.now a.n a.limit (tests_pass o k.result k.ensures c.in_ok-count_tests.was) c.counted.result c.counted.ensures

pub returns-in_err-count_tests : goal.returns-in_err-count_tests
returns-in_err-count_tests c =
    let a = c.args in
    let k = c.count_tests in
    let o = before_search a.file.now a.sentence.now a.n a.limit in
    rw (handed_on c.from_residual.result c.from_residual.ensures.1) (refused_call a.file.now a.sentence.now a.n a.limit _ (tests_met o k.result k.ensures c.in_err-count_tests.was))
