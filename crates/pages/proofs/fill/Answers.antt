-- `pages::fill` meets its contract.
-- Assumes nothing.
use native.Mathlib.Omega.{arith}
use Rattle.pages.proofs.Pages.{filled_none, filled_full, filled_more, filled_last, filled_walks, filled_within, filled_long, filled_less, last_long}
use Rattle.pages.proofs.fill.Goals as goal

pub loop-out-init : goal.loop-out-init
loop-out-init c =
    let a = c.args in
    filled_none a.tables.now.rules a.tables.now.chain a.sentence.now a.walk.now.queues a.walk.now.path a.walk.now.turns a.out.now a.pen c.requires.1

pub overflow_sub-out : goal.overflow_sub-out
overflow_sub-out c =
    let a = c.args in
    let i = c.loop-out in
    filled_within a.tables.now.rules a.tables.now.chain a.sentence.now a.walk.now.queues a.walk.now.path a.walk.now.turns a.out.now a.pen i.walk.queues i.walk.path i.walk.turns i.out i.here i.invariant c.requires.0

pub put_next-requires : goal.put_next-requires
put_next-requires c =
    let a = c.args in
    let i = c.loop-out in
    let w = c.requires.0 in
    (filled_walks a.tables.now.rules a.tables.now.chain a.sentence.now a.walk.now.queues a.walk.now.path a.walk.now.turns a.out.now a.pen i.walk.queues i.walk.path i.walk.turns i.out i.here i.invariant w, omega (arith, c.loop-out-test.true, filled_within a.tables.now.rules a.tables.now.chain a.sentence.now a.walk.now.queues a.walk.now.path a.walk.now.turns a.out.now a.pen i.walk.queues i.walk.path i.walk.turns i.out i.here i.invariant w))

pub loop-out-smaller : goal.loop-out-smaller
loop-out-smaller c =
    let a = c.args in
    let i = c.loop-out in
    filled_less a.tables.now.rules a.tables.now.chain a.sentence.now a.walk.now.queues a.walk.now.path a.walk.now.turns a.out.now a.pen i.walk.queues i.walk.path i.walk.turns i.out i.here i.invariant c.requires.0 _ _ _ _ _ (rw c.in-Some.is at c.put_next.ensures)

pub loop-out-preserved : goal.loop-out-preserved
loop-out-preserved c =
    let a = c.args in
    let i = c.loop-out in
    filled_more a.tables.now.rules a.tables.now.chain a.sentence.now a.walk.now.queues a.walk.now.path a.walk.now.turns a.out.now a.pen i.walk.queues i.walk.path i.walk.turns i.out i.here i.invariant _ _ _ _ _ (rw c.in-Some.is at c.put_next.ensures)

pub shape_of-out-in_default : goal.shape_of-out-in_default
shape_of-out-in_default c =
    let a = c.args in
    let i = c.loop-out in
    last_long a.tables.now.rules a.tables.now.chain a.sentence.now a.walk.now.queues a.walk.now.path a.walk.now.turns a.out.now a.pen i.walk.queues i.walk.path i.walk.turns i.out i.here i.invariant c.requires.0 _ _ _ _ (rw c.in_default.is at c.put_next.ensures)

pub returns-in_default : goal.returns-in_default
returns-in_default c =
    let a = c.args in
    let i = c.loop-out in
    filled_last a.tables.now.rules a.tables.now.chain a.sentence.now a.walk.now.queues a.walk.now.path a.walk.now.turns a.out.now a.pen i.walk.queues i.walk.path i.walk.turns i.out i.here i.invariant _ _ _ _ (rw c.in_default.is at c.put_next.ensures)

pub shape_of-out : goal.shape_of-out
shape_of-out c =
    let a = c.args in
    let i = c.loop-out in
    filled_long a.tables.now.rules a.tables.now.chain a.sentence.now a.walk.now.queues a.walk.now.path a.walk.now.turns a.out.now a.pen i.walk.queues i.walk.path i.walk.turns i.out i.here i.invariant c.requires.0

pub returns : goal.returns
returns c =
    let a = c.args in
    let i = c.loop-out in
    filled_full a.tables.now.rules a.tables.now.chain a.sentence.now a.walk.now.queues a.walk.now.path a.walk.now.turns a.out.now a.pen i.walk.queues i.walk.path i.walk.turns i.out i.here i.invariant (omega (arith, c.loop-out-test.false, filled_within a.tables.now.rules a.tables.now.chain a.sentence.now a.walk.now.queues a.walk.now.path a.walk.now.turns a.out.now a.pen i.walk.queues i.walk.path i.walk.turns i.out i.here i.invariant c.requires.0))
