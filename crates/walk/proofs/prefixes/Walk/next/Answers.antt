-- `walk::prefixes::Walk::next` meets its contract.
-- Assumes nothing.
use Rattle.walk.proofs.Nexts.{chosen_extends, chosen_comes, chosen_ends}
use Rattle.walk.proofs.prefixes.Walk.next.Goals as goal

pub extend-requires : goal.extend-requires
extend-requires c =
    let a = c.args in
    chosen_extends a.tables.now.rules a.tables.now.chain a.sentence.now a.self.now.queues a.self.now.path a.self.now.turns a.at _ _ (rw c.in_ok-from.was at c.choose.ensures) c.requires

pub returns : goal.returns
returns c =
    let a = c.args in
    chosen_comes a.tables.now.rules a.tables.now.chain a.sentence.now a.self.now.queues a.self.now.path a.self.now.turns a.at _ _ (rw c.in_ok-from.was at c.choose.ensures) _ _ _ c.extend.result c.extend.ensures

pub returns-in_err-from : goal.returns-in_err-from
returns-in_err-from c =
    let a = c.args in
    rw c.from_residual.ensures
    (chosen_ends a.tables.now.rules a.tables.now.chain a.sentence.now a.self.now.queues a.self.now.path a.self.now.turns a.at (rw c.in_err-from.was at c.choose.ensures))
