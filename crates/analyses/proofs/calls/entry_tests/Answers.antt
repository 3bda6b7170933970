-- `analyses::calls::entry_tests` meets its contract.
-- Assumes nothing.
use Rattle.model.specs.Base.{◌or_else◌}
use Rattle.model.specs.GrammarFile.{grammar_refusal, grammar_of}
use Rattle.model.specs.Trace.{sentence_refusal}
use Rattle.model.specs.Counting.{limits_refusal}
use Rattle.model.specs.Calls.{room_refusal}
use Rattle.model.proofs.Verdicts.{handed_on, tests_pass, tests_stop, tests_after}
use Rattle.analyses.proofs.calls.entry_tests.Goals as goal

pub returns-in_err-grammar_refusal : goal.returns-in_err-grammar_refusal
returns-in_err-grammar_refusal c =
    let a = c.args in
    let G = grammar_refusal a.file.now in
    let O = room_refusal a.out.now in
    let L = limits_refusal a.n a.limit in
    let W = sentence_refusal (grammar_of a.file.now) a.sentence.now in
    let k = c.grammar_refusal in
    rw (handed_on c.from_residual.result c.from_residual.ensures.1) (tests_stop G k.result k.ensures (O or_else L or_else W) c.in_err-grammar_refusal.was)

pub returns-in_err-room_refusal : goal.returns-in_err-room_refusal
returns-in_err-room_refusal c =
    let a = c.args in
    let G = grammar_refusal a.file.now in
    let O = room_refusal a.out.now in
    let L = limits_refusal a.n a.limit in
    let W = sentence_refusal (grammar_of a.file.now) a.sentence.now in
    let g = c.grammar_refusal in
    let k = c.room_refusal in
    rw (handed_on c.from_residual-in_err-room_refusal.result c.from_residual-in_err-room_refusal.ensures.1) (tests_after G (O or_else L or_else W) _ (tests_pass G g.result g.ensures c.in_ok-grammar_refusal.was) (tests_stop O k.result k.ensures (L or_else W) c.in_err-room_refusal.was))

pub returns-in_err-limits_refusal : goal.returns-in_err-limits_refusal
returns-in_err-limits_refusal c =
    let a = c.args in
    let G = grammar_refusal a.file.now in
    let O = room_refusal a.out.now in
    let L = limits_refusal a.n a.limit in
    let W = sentence_refusal (grammar_of a.file.now) a.sentence.now in
    let g = c.grammar_refusal in
    let o = c.room_refusal in
    let k = c.limits_refusal in
    rw (handed_on c.from_residual-in_err-limits_refusal.result c.from_residual-in_err-limits_refusal.ensures.1) (tests_after G (O or_else L or_else W) _ (tests_pass G g.result g.ensures c.in_ok-grammar_refusal.was)
    (tests_after O (L or_else W) _ (tests_pass O o.result o.ensures c.in_ok-room_refusal.was) (tests_stop L k.result k.ensures W c.in_err-limits_refusal.was)))

pub returns : goal.returns
returns c =
    let a = c.args in
    let G = grammar_refusal a.file.now in
    let O = room_refusal a.out.now in
    let L = limits_refusal a.n a.limit in
    let W = sentence_refusal (grammar_of a.file.now) a.sentence.now in
    let g = c.grammar_refusal in
    let o = c.room_refusal in
    let l = c.limits_refusal in
    let k = c.sentence_refusal in
    tests_after G (O or_else L or_else W) k.result (tests_pass G g.result g.ensures c.in_ok-grammar_refusal.was)
    (tests_after O (L or_else W) k.result (tests_pass O o.result o.ensures c.in_ok-room_refusal.was)
    (tests_after L W k.result (tests_pass L l.result l.ensures c.in_ok-limits_refusal.was) k.ensures))
