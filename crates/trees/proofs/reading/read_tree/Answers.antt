-- `trees::reading::read_tree` meets its contract.
-- Assumes nothing.
use Rattle.model.proofs.Verdicts.{handed_on}
use Rattle.trees.proofs.Nodes.{nodes_left, all_nodes, node_met}
use Rattle.trees.proofs.reading.read_tree.Goals as goal

pub returns-in_err-after : goal.returns-in_err-after
returns-in_err-after c =
    let a = c.args in
    rw (handed_on c.from_residual.result c.from_residual.ensures.1)
    (node_met a.file.now a.list.now a.ends.now _ c.start.result.0 c.start.ensures _ c.in_err-after.ensures)

pub returns-then-after-list : goal.returns-then-after-list
returns-then-after-list c =
    let a = c.args in
    nodes_left a.file.now a.list.now a.ends.now _ c.start.result.0 c.start.ensures c.in_ok-after.after c.in_ok-after.ensures c.if-after-list.true

pub returns : goal.returns
returns c =
    let a = c.args in
    all_nodes a.file.now a.list.now a.ends.now _ c.start.result.0 c.start.ensures c.in_ok-after.after c.in_ok-after.ensures c.if-after-list.false
