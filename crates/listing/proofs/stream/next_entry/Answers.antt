-- `listing::stream::next_entry` meets its contract.
-- Assumes nothing.
use mathlib.Core.Path.{sym, ◌∙◌}
use Rattle.listing.proofs.Entries.{none_begins, none_walks, none_ends, none_meets, none_passes, fewer}
use Rattle.listing.proofs.stream.next_entry.Goals as goal

pub loop-here-init : goal.loop-here-init
loop-here-init c = let a = c.args in none_begins a.tables.now.rules a.tables.now.chain a.sentence.now a.walk.now.queues a.walk.now.path a.walk.now.turns a.at

pub next-requires : goal.next-requires
next-requires c =
    let a = c.args in
    let l = c.loop-here in
    none_walks a.tables.now.rules a.tables.now.chain a.sentence.now a.walk.now.queues a.walk.now.path a.walk.now.turns a.at l.walk.queues l.walk.path l.walk.turns l.here l.invariant c.requires

pub returns-then-at_end : goal.returns-then-at_end
returns-then-at_end c =
    let a = c.args in
    let l = c.loop-here in
    none_meets a.tables.now.rules a.tables.now.chain a.sentence.now a.walk.now.queues a.walk.now.path a.walk.now.turns a.at l.walk.queues l.walk.path l.walk.turns l.here l.invariant _ _ _ _ (rw c.in_ok-here.was at c.next.ensures) (sym c.if-at_end.true ∙ c.at_end.ensures)

pub loop-here-smaller : goal.loop-here-smaller
loop-here-smaller c =
    let a = c.args in
    let l = c.loop-here in
    fewer a.tables.now.rules a.tables.now.chain a.sentence.now a.walk.now.queues a.walk.now.path a.walk.now.turns a.at l.walk.queues l.walk.path l.walk.turns l.here l.invariant _ _ _ _ (rw c.in_ok-here.was at c.next.ensures) c.requires

pub loop-here-preserved : goal.loop-here-preserved
loop-here-preserved c =
    let a = c.args in
    let l = c.loop-here in
    none_passes a.tables.now.rules a.tables.now.chain a.sentence.now a.walk.now.queues a.walk.now.path a.walk.now.turns a.at l.walk.queues l.walk.path l.walk.turns l.here l.invariant _ _ _ _ (rw c.in_ok-here.was at c.next.ensures) (sym c.if-at_end.false ∙ c.at_end.ensures)

pub returns-in_err-here : goal.returns-in_err-here
returns-in_err-here c =
    let a = c.args in
    let l = c.loop-here in
    rw c.from_residual.ensures
    (none_ends a.tables.now.rules a.tables.now.chain a.sentence.now a.walk.now.queues a.walk.now.path a.walk.now.turns a.at l.walk.queues l.walk.path l.walk.turns l.here l.invariant _ _ _ (rw c.in_err-here.was at c.next.ensures))
