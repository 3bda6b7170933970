-- `ranks::queue::settle1` meets its contract.
-- Assumes nothing.
use mathlib.Core.List.{[]}
use Rattle.ranks.proofs.Placing.{placed_none, placed_next}
use Rattle.ranks.proofs.queue.settle1.Goals as goal

pub returns : goal.returns
returns c =
    let a = c.args in
    placed_next a.e [] a.w.now c.settle.new.w a.from 0 a.end c.settle.result c.requires c.settle.ensures c.settle.new.w tt (placed_none c.settle.new.w c.settle.result a.end)
