-- `tally::prefixes::tally_all` meets its contract.
-- Assumes nothing.
use mathlib.Core.Path.{◌∙◌}
use native.Mathlib.Omega.{arith}
use Rattle.tally.proofs.Passed.{so_begins, so_over, so_notes, so_walks, so_comes, so_ends}
use Rattle.tally.proofs.prefixes.tally_all.Goals as goal

pub first-walk-requires : goal.first-walk-requires
first-walk-requires c = c.requires.0

pub loop-so-init : goal.loop-so-init
loop-so-init c =
    let a = c.args in
    let w = c.first-walk in
    so_begins a.tables.now.rules a.tables.now.chain a.sentence.now c.first-walk.result.queues a.n a.limit a.m a.held.now w.result.path w.result.turns w.ensures.1 w.ensures.2 _ c.first_standing-at.ensures

pub shape_of-held-then-so-limit : goal.shape_of-held-then-so-limit
shape_of-held-then-so-limit c = c.loop-so.invariant.kept

pub returns-then-so-limit : goal.returns-then-so-limit
returns-then-so-limit c =
    let a = c.args in
    let l = c.loop-so in
    let w = c.first-walk in
    (w.result.queues, w.ensures.0, so_over a.tables.now.rules a.tables.now.chain a.sentence.now c.first-walk.result.queues a.n a.limit a.m a.held.now l.walk.queues l.held l.walk.path l.walk.turns l.at l.so l.invariant (omega (arith, c.if-so-limit.true, l.invariant.spent)))

pub note-so-requires : goal.note-so-requires
note-so-requires c =
    let a = c.args in
    let l = c.loop-so in
    let w = c.first-walk in
    so_notes a.tables.now.rules a.tables.now.chain a.sentence.now c.first-walk.result.queues a.n a.limit a.m a.held.now l.walk.queues l.held l.walk.path l.walk.turns l.at l.so l.invariant (c.requires.1 w.result.queues w.ensures.0) c.if-so-limit.false

pub next-requires : goal.next-requires
next-requires c =
    let a = c.args in
    let l = c.loop-so in
    let w = c.first-walk in
    so_walks a.tables.now.rules a.tables.now.chain a.sentence.now c.first-walk.result.queues a.n a.limit a.m a.held.now l.walk.queues l.held l.walk.path l.walk.turns l.at l.so l.invariant (c.requires.1 w.result.queues w.ensures.0)

pub loop-so-smaller : goal.loop-so-smaller
loop-so-smaller c =
    let l = c.loop-so in
    omega (arith, c.note-so.ensures.spent, l.invariant.spent, c.if-so-limit.false)

pub loop-so-preserved : goal.loop-so-preserved
loop-so-preserved c =
    let a = c.args in
    let l = c.loop-so in
    so_comes a.tables.now.rules a.tables.now.chain a.sentence.now c.first-walk.result.queues a.n a.limit a.m a.held.now l.walk.queues l.held l.walk.path l.walk.turns l.at l.so l.invariant c.if-so-limit.false _ _ c.note-so.ensures _ _ _ _ (rw c.in-Some.is at c.next.ensures)

pub shape_of-held-in_default : goal.shape_of-held-in_default
shape_of-held-in_default c = c.note-so.ensures.kept ∙ c.loop-so.invariant.kept

pub returns-in_default : goal.returns-in_default
returns-in_default c =
    let a = c.args in
    let l = c.loop-so in
    let w = c.first-walk in
    (w.result.queues, w.ensures.0, so_ends a.tables.now.rules a.tables.now.chain a.sentence.now c.first-walk.result.queues a.n a.limit a.m a.held.now l.walk.queues l.held l.walk.path l.walk.turns l.at l.so l.invariant c.if-so-limit.false _ _ c.note-so.ensures _ _ _ (rw c.in_default.is at c.next.ensures))
