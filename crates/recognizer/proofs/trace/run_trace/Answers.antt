-- `recognizer::trace::run_trace` meets its contract.
-- Assumes nothing.
use mathlib.Core.Path.{sym, ◌∙◌}
use native.Mathlib.Omega.{arith}
use lib.ListN.{length}
use Rattle.model.specs.declared.Refusal.{Refusal}
use Rattle.model.proofs.Tests.{none_some}
use Rattle.model.proofs.Verdicts.{refused}
use Rattle.recognizer.proofs.Checked.{start_small, trace_long, trace_empty, begin_runs, begin_says}
use Rattle.recognizer.proofs.trace.run_trace.Goals as goal

pub returns-then-trace-gt-MOST_STEPS : goal.returns-then-trace-gt-MOST_STEPS
returns-then-trace-gt-MOST_STEPS c =
    let a = c.args in
    let p = c.requires in
    let e = trace_long a.file.now a.sentence.now a.trace.now p.0 (omega (arith, c.if-trace-gt-MOST_STEPS.true)) in
    record { answer = refused _ (length a.trace.now) (Refusal.Analysis 12 0) e; taken = λ z. none_some (sym e ∙ z) }

pub returns-then-trace-eq0 : goal.returns-then-trace-eq0
returns-then-trace-eq0 c =
    let a = c.args in
    let p = c.requires in
    let e = trace_empty a.file.now a.sentence.now a.trace.now p.0 c.if-trace-eq0.true in
    record { answer = refused _ (length a.trace.now) (Refusal.Analysis 17 0) e; taken = λ z. none_some (sym e ∙ z) }

pub first_queue-w-requires : goal.first_queue-w-requires
first_queue-w-requires c =
    let a = c.args in
    omega (arith, c.start.ensures, start_small a.file.now a.sentence.now a.trace.now c.requires.0)

pub run-requires : goal.run-requires
run-requires c =
    let a = c.args in
    let p = c.requires in
    let runs = begin_runs a.file.now a.sentence.now a.trace.now p.0 c.if-trace-gt-MOST_STEPS.false c.if-trace-eq0.false c.start.ensures c.first_queue-w.ensures c.first_standing-at.ensures _ (c.compile-t.ensures p.0) in
    (runs, p.1, p.2)

pub returns : goal.returns
returns c =
    let a = c.args in
    let p = c.requires in
    begin_says a.file.now a.sentence.now a.trace.now p.0 c.if-trace-gt-MOST_STEPS.false c.if-trace-eq0.false c.start.ensures c.first_queue-w.ensures c.first_standing-at.ensures a.taken.now c.run.new.taken p.2 c.run.result c.run.ensures
