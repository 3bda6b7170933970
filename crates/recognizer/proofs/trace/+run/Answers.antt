-- `recognizer::trace::run` meets its contract.
-- Assumes nothing.
use mathlib.Core.Path.{◌≡◌, sym, ap, ◌∙◌}
use native.Mathlib.Omega.{arith}
use lib.ListN.{get_or, length, length-set}
use lib.Seq.{sets}
use Prim.Native.Nat.{ℕ, ◌+◌, ◌≤◌}
use Rattle.model.specs.declared.Refusal.{Refusal}
use Rattle.model.specs.GrammarFile.{grammar_of}
use Rattle.model.proofs.Tests.{none_some}
use Rattle.model.proofs.Verdicts.{refused, accepted}
use Rattle.ranking.specs.Recognizer.{goes}
use Rattle.ranking.specs.Ranks.{RankedState, step_ranked}
use Rattle.ranking.specs.Numbered.{number_at}
use Rattle.steps.specs.Steps.{state_in}
use Rattle.recognizer.proofs.Running.{from_small, words_left, all_read, none_taken, halted, longer, runs_further, left_falls, verdict_further, taken_further}
use Rattle.recognizer.proofs.trace.+run.Goals as goal

pub returns-then-read-sentence : goal.returns-then-read-sentence
returns-then-read-sentence t c =
    let a = c.args in
    let p = c.requires in
    let e = words_left a.trace.now p.0 (omega (arith, c.if-trace-k.true)) (omega (arith, c.if-read-sentence.true)) in
    record { answer = refused _ (length a.trace.now) (Refusal.Analysis 18 a.at.read) e; taken = λ z. none_some (sym e ∙ z) }

pub returns-then-trace-k : goal.returns-then-trace-k
returns-then-trace-k t c =
    let a = c.args in
    let p = c.requires in
    let ended : length a.trace.now ≤ a.at.steps = omega (arith, c.if-trace-k.true) in
    let e = all_read a.trace.now p.0 ended (omega (arith, c.if-read-sentence.false)) in
    record {
      answer = accepted _ (length a.trace.now) _ e (omega (arith, p.0.whole, ended));
      taken = λ z. sym (ap (sets a.taken.now a.at.steps) (none_taken a.trace.now p.0 ended));
    }

pub bounds-w-from : goal.bounds-w-from
bounds-w-from t c = from_small c.args.trace.now c.requires.0

pub run-requires : goal.run-requires
run-requires t c =
    let a = c.args in
    let p = c.requires in
    let more = c.if-trace-k.false in
    let leads = c.in-Ok.ensures.says in (
      omega (arith, left_falls (length a.trace.now) p.0 more _ leads),
      (runs_further (length a.trace.now) p.0 more _ leads, p.1, length-set a.taken.now a.at.steps _ ∙ p.2),
    )

pub returns-in-Err-Refused : goal.returns-in-Err-Refused
returns-in-Err-Refused t c =
    let a = c.args in
    let p = c.requires in
    let e = halted a.trace.now p.0 c.if-trace-k.false c.in-Err-Refused.n (rw c.in-Err-Refused.field-0-is at c.in-Err-Refused.ensures.says) in
    record { answer = refused _ (length a.trace.now) (Refusal.Analysis c.in-Err-Refused.n a.at.steps) e; taken = λ z. none_some (sym e ∙ z) }

pub returns-in-Err-Long : goal.returns-in-Err-Long
returns-in-Err-Long t c =
    let a = c.args in
    let p = c.requires in
    let l : (s : RankedState ℕ) × (step_ranked (number_at a.at.steps) (grammar_of a.file.now) (state_in (grammar_of a.file.now) a.sentence.now a.w.now a.at) (get_or a.trace.now a.at.steps 0) ≡ goes s) × (a.at.left ≤ length s.queue) = rw c.in-Err-Long.field-0-is at c.in-Err-Long.ensures.says in
    let e = longer a.trace.now p.0 c.if-trace-k.false l.0 l.1 l.2 in
    record { answer = refused _ (length a.trace.now) (Refusal.Analysis 17 (a.at.steps + 1)) e; taken = λ z. none_some (sym e ∙ z) }

pub returns-in-Ok : goal.returns-in-Ok
returns-in-Ok t c =
    let a = c.args in
    let p = c.requires in
    let more = c.if-trace-k.false in
    let leads = c.in-Ok.ensures.says in
    record {
      answer = verdict_further a.trace.now p.0 more leads c.run.result c.run.ensures.answer;
      taken = taken_further a.trace.now p.0 more leads a.taken.now c.run.new.taken _ c.run.ensures.taken c.number-front.ensures;
    }
