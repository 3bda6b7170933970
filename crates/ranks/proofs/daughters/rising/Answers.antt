-- `ranks::daughters::rising` meets its contract.
-- Assumes nothing.
use Rattle.ranks.proofs.Sorting.{network}
use Rattle.ranks.proofs.daughters.rising.Goals as goal

pub returns-clause-order : goal.returns-clause-order
returns-clause-order c =
    let v = c.args in
    let a = c.min-a in
    let b = c.max-b in
    let s = c.min-c in
    let low = c.min in
    let mid = c.max in
    let high = c.max-2 in
    network v.x v.y v.z a.result b.result s.result low.result mid.result high.result a.ensures b.ensures s.ensures low.ensures mid.ensures high.ensures
