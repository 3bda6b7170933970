-- `recognizer::trace::check_trace` meets its contract.
-- Assumes nothing.
use mathlib.Core.Path.{refl}
use lib.ListN.{length}
use Rattle.model.specs.Base.{◌or_else◌}
use Rattle.model.specs.GrammarFile.{grammar_refusal, grammar_of}
use Rattle.model.specs.Trace.{sentence_refusal, trace_refusal}
use Rattle.model.proofs.Verdicts.{handed_on, tests_pass, tests_met, refused_first, after_pass, sentence_short}
use Rattle.recognizer.proofs.trace.check_trace.Goals as goal

pub returns-in_err-grammar_refusal : goal.returns-in_err-grammar_refusal
returns-in_err-grammar_refusal c =
    let k = c.grammar_refusal in
    let a = c.args in
    let G = grammar_refusal a.file.now in
    let W = sentence_refusal (grammar_of a.file.now) a.sentence.now in
    let R = trace_refusal (grammar_of a.file.now) a.sentence.now a.trace.now in
    rw (handed_on c.from_residual.result c.from_residual.ensures.1) (refused_first G (W or_else R) (length a.trace.now) (tests_met G k.result k.ensures c.in_err-grammar_refusal.was))

pub returns-in_err-sentence_refusal : goal.returns-in_err-sentence_refusal
returns-in_err-sentence_refusal c =
    let k = c.sentence_refusal in
    let g = c.grammar_refusal in
    let a = c.args in
    let G = grammar_refusal a.file.now in
    let W = sentence_refusal (grammar_of a.file.now) a.sentence.now in
    let R = trace_refusal (grammar_of a.file.now) a.sentence.now a.trace.now in
    rw (handed_on c.from_residual-in_err-sentence_refusal.result c.from_residual-in_err-sentence_refusal.ensures.1) (after_pass G (W or_else R) (length a.trace.now) _ (tests_pass G g.result g.ensures c.in_ok-grammar_refusal.was)
    (refused_first W R (length a.trace.now) (tests_met W k.result k.ensures c.in_err-sentence_refusal.was)))

pub run_trace-requires : goal.run_trace-requires
run_trace-requires c =
    let k = c.sentence_refusal in
    let g = c.grammar_refusal in
    let a = c.args in
    let G = grammar_refusal a.file.now in
    let W = sentence_refusal (grammar_of a.file.now) a.sentence.now in
    (tests_pass G g.result g.ensures c.in_ok-grammar_refusal.was, sentence_short (grammar_of a.file.now) a.sentence.now (tests_pass W k.result k.ensures c.in_ok-sentence_refusal.was), refl {a = 96})

pub returns : goal.returns
returns c =
    let k = c.sentence_refusal in
    let g = c.grammar_refusal in
    let a = c.args in
    let G = grammar_refusal a.file.now in
    let W = sentence_refusal (grammar_of a.file.now) a.sentence.now in
    let R = trace_refusal (grammar_of a.file.now) a.sentence.now a.trace.now in
    let n = length a.trace.now in
    after_pass G (W or_else R) n c.run_trace.result (tests_pass G g.result g.ensures c.in_ok-grammar_refusal.was)
    (after_pass W R n c.run_trace.result (tests_pass W k.result k.ensures c.in_ok-sentence_refusal.was) c.run_trace.ensures.answer)
