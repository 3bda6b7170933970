-- `reader::blocks_refusal` meets its contract. The loop keeps: the first refusal is the first from block k on.
-- Assumes nothing.
use mathlib.Core.Path.{sym, ◌∙◌}
use Rattle.model.specs.declared.Refusal.{Refusal}
use Rattle.model.specs.Verdict.{refuse_if}
use Rattle.model.proofs.TestLoops.{refuse_on, refuse_off, left_pass, left_stop, left_end}
use Rattle.reader.proofs.blocks.blocks_refusal.Goals as goal

pub returns-then-meets : goal.returns-then-meets
returns-then-meets g c = λ test is.
    let k = c.loop-k.k in
    let meets = refuse_on (test k) (Refusal.Grammar c.args.number k) (sym (is k c.meets.result c.meets.ensures) ∙ c.if-meets.true) in
    sym (c.loop-k.invariant test is ∙ left_stop (λ k. refuse_if (test k) (Refusal.Grammar c.args.number k)) k c.args.n c.loop-k-test.true meets)

pub loop-k-preserved : goal.loop-k-preserved
loop-k-preserved g c = λ test is.
    let k = c.loop-k.k in
    let passes = refuse_off (test k) (Refusal.Grammar c.args.number k) (sym (is k c.meets.result c.meets.ensures) ∙ c.if-meets.false) in
    c.loop-k.invariant test is ∙ left_pass (λ k. refuse_if (test k) (Refusal.Grammar c.args.number k)) k c.args.n c.loop-k-test.true passes

pub returns : goal.returns
returns g c = λ test is. sym (c.loop-k.invariant test is ∙ left_end (λ k. refuse_if (test k) (Refusal.Grammar c.args.number k)) c.loop-k.k c.args.n c.loop-k-test.false)
