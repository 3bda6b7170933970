-- `pages::put_next` meets its contract.
-- Assumes nothing.
use lib.ListN.{length}
use Rattle.pages.proofs.Pages.{next_few, next_fits, says_next, says_last}
use Rattle.pages.proofs.put_next.Goals as goal

pub put_line-place-requires : goal.put_line-place-requires
put_line-place-requires c =
    let a = c.args in
    next_fits a.tables.now.rules a.tables.now.chain a.sentence.now a.walk.now.queues a.walk.now.path a.walk.now.turns _ _ _ a.pen _ (rw c.in_ok-at.was at c.next_entry.ensures) c.requires.0 (length a.out.now) c.requires.1

pub returns : goal.returns
returns c =
    let a = c.args in
    says_next a.tables.now.rules a.tables.now.chain a.sentence.now a.walk.now.queues a.walk.now.path a.walk.now.turns _ _ _ a.pen _ (rw c.in_ok-at.was at c.next_entry.ensures) c.put_line-place.ensures

pub returns-in_err-at : goal.returns-in_err-at
returns-in_err-at c =
    let a = c.args in
    rw c.from_residual.ensures
    (says_last a.tables.now.rules a.tables.now.chain a.sentence.now a.walk.now.queues a.walk.now.path a.walk.now.turns _ _ _ a.pen (rw c.in_err-at.was at c.next_entry.ensures) a.out.now)
