-- `ranks::queue::carry` meets its contract.
-- Assumes nothing.
use Rattle.std.proofs.Common.{arith}
use Rattle.ranks.proofs.Copying.{answer_read, mapped_more}
use Rattle.ranks.proofs.queue.carry.Goals as goal

pub bounds-w-k : goal.bounds-w-k
bounds-w-k g c =
    let i = c.loop-i in
    let r = c.requires.1.0 in
    omega (arith, i.invariant.0, i.invariant.1.kept, r.long, r.behind, r.fits)

pub overflow_add-k : goal.overflow_add-k
overflow_add-k g c =
    let i = c.loop-i in
    let r = c.requires.1.0 in
    record { fits = omega (arith, i.invariant.0, r.fits) }

pub loop-i-preserved : goal.loop-i-preserved
loop-i-preserved g c =
    let i = c.loop-i in
    let a = c.args in
    let p = i.invariant in
    let r = answer_read g.after a.w.now i.w a.from i.i a.to a.out i.k c.requires.1.0 i.auto.i c.loop-i-test.true p.0 p.1 (goal.F-post g a.f) c.requires.1.1.1 c.f.result c.f.ensures in
    (omega (arith, p.0), mapped_more g.after a.w.now i.w a.from i.i a.to a.out i.k c.requires.1.0 i.auto.i c.loop-i-test.true p.0 p.1 c.f.result r)
