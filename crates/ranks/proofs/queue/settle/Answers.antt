-- `ranks::queue::settle` meets its contract.
-- Assumes nothing.
use mathlib.Core.Path.{◌≡◌}
use Prim.Native.Nat.{◌+◌}
use native.Mathlib.Omega.{arith}
use Rattle.ranks.proofs.Settling.{settling_none, settling_more, settled_before, settled_last}
use Rattle.ranks.proofs.queue.settle.Goals as goal

pub loop-p-init : goal.loop-p-init
loop-p-init c =
    let a = c.args in
    (omega arith, c.requires.ordered, settling_none a.e a.w.now a.from a.gap a.end)

pub bounds-w-p : goal.bounds-w-p
bounds-w-p c = omega (arith, c.loop-p.invariant.2.kept, c.requires.long, c.requires.within)

pub bounds-w-p-then-e-x : goal.bounds-w-p-then-e-x
bounds-w-p-then-e-x c = omega arith

pub returns-then-e-x : goal.returns-then-e-x
returns-then-e-x c =
    let i = c.loop-p in
    let a = c.args in
    settled_before a.e a.w.now i.w a.from a.gap a.end i.p c.requires i.invariant.0 i.invariant.2 c.loop-p-test.true c.if-e-x.true

pub bounds-w-p-in-loop-p : goal.bounds-w-p-in-loop-p
bounds-w-p-in-loop-p c = omega arith

pub loop-p-preserved : goal.loop-p-preserved
loop-p-preserved c =
    let i = c.loop-p in
    let a = c.args in
    (omega arith, omega arith, settling_more a.e a.w.now i.w a.from a.gap a.end i.p c.requires i.invariant.0 i.invariant.2 c.loop-p-test.true c.if-e-x.false)

pub bounds-w-p-2 : goal.bounds-w-p-2
bounds-w-p-2 c = omega arith

pub returns : goal.returns
returns c =
    let i = c.loop-p in
    let a = c.args in
    let k : i.p + a.gap ≡ a.end = omega arith in
    settled_last a.e a.w.now i.w a.from a.gap a.end i.p c.requires i.invariant.0 i.invariant.2 k
