-- `report::program_tests` meets its contract.
-- Assumes nothing.
use mathlib.Core.Bool.{Bool}
use Rattle.model.specs.declared.Refusal.{Refusal}
use Rattle.model.specs.Verdict.{refuse_if}
use Rattle.model.specs.GrammarFile.{grammar_refusal, grammar_of}
use Rattle.model.specs.Trace.{sentence_refusal}
use Rattle.model.specs.Counting.{limits_refusal}
use Rattle.model.specs.Program.{program_limit}
use Rattle.model.proofs.Tests.{stop}
use Rattle.model.proofs.Verdicts.{handed_on, tests_pass, tests_stop, tests_after, met_is}
use mathlib.Core.Path.{ap}
use Rattle.report.proofs.verdict.program_tests.Goals as goal

pub returns-in_err-grammar_refusal : goal.returns-in_err-grammar_refusal
returns-in_err-grammar_refusal c =
    let a = c.args in
    let G = grammar_refusal a.file.now in
    let k = c.grammar_refusal in
    rw (handed_on c.from_residual.result c.from_residual.ensures.1) (tests_stop G k.result k.ensures _ c.in_err-grammar_refusal.was)

pub returns-then-even : goal.returns-then-even
returns-then-even c =
    let g = c.grammar_refusal in
    tests_after (grammar_refusal c.args.file.now) _ _ (tests_pass _ g.result g.ensures c.in_ok-grammar_refusal.was)
    (met_is _ _ (stop c.args.even (Refusal.Analysis 11 0) _ c.if-even.true))

pub returns-in_err-limits_refusal : goal.returns-in_err-limits_refusal
returns-in_err-limits_refusal c =
    let a = c.args in
    let g = c.grammar_refusal in
    let l = c.limits_refusal in
    rw (handed_on c.from_residual-in_err-limits_refusal.result c.from_residual-in_err-limits_refusal.ensures.1) (tests_after (grammar_refusal a.file.now) _ _ (tests_pass _ g.result g.ensures c.in_ok-grammar_refusal.was)
    (tests_after (refuse_if a.even (Refusal.Analysis 11 0)) _ _ (ap (λ (b : Bool). refuse_if b (Refusal.Analysis 11 0)) c.if-even.false)
    (tests_stop (limits_refusal a.n program_limit) l.result l.ensures (sentence_refusal (grammar_of a.file.now) a.sentence.now) c.in_err-limits_refusal.was)))

pub returns : goal.returns
returns c =
    let a = c.args in
    let g = c.grammar_refusal in
    let l = c.limits_refusal in
    tests_after (grammar_refusal a.file.now) _ _ (tests_pass _ g.result g.ensures c.in_ok-grammar_refusal.was)
    (tests_after (refuse_if a.even (Refusal.Analysis 11 0)) _ _ (ap (λ (b : Bool). refuse_if b (Refusal.Analysis 11 0)) c.if-even.false)
    (tests_after (limits_refusal a.n program_limit) _ _ (tests_pass _ l.result l.ensures c.in_ok-limits_refusal.was) c.sentence_refusal.ensures))
