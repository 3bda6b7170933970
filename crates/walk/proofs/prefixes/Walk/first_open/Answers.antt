-- `walk::prefixes::Walk::first_open` meets its contract.
-- Assumes nothing.
use Rattle.walk.proofs.Nexts.{none_open, first_may_find, first_open}
use Rattle.walk.proofs.prefixes.Walk.first_open.Goals as goal

pub returns-then-from-at : goal.returns-then-from-at
returns-then-from-at c =
    let a = c.args in
    none_open a.tables.now.rules a.tables.now.chain a.sentence.now a.self.now.queues a.at c.if-from-at.true

pub find-requires : goal.find-requires
find-requires c =
    let a = c.args in
    first_may_find a.tables.now.rules a.tables.now.chain a.sentence.now a.self.now.queues a.at c.if-from-at.false _ c.category.ensures _ c.first_rule.ensures c.requires

pub returns : goal.returns
returns c =
    let a = c.args in
    first_open a.tables.now.rules a.tables.now.chain a.sentence.now a.self.now.queues a.at c.if-from-at.false _ c.category.ensures _ c.first_rule.ensures _ c.find.ensures
