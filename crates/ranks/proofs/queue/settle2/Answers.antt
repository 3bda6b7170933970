-- `ranks::queue::settle2` meets its contract.
-- Assumes nothing.
use mathlib.Core.List.{[], ◌∷◌}
use native.Mathlib.Omega.{arith}
use Rattle.ranks.proofs.Placing.{placed_next, next_gap}
use Rattle.ranks.proofs.queue.settle2.Goals as goal

pub settle1-requires : goal.settle1-requires
settle1-requires c =
    let a = c.args in
    let r = c.settle-p in
    next_gap a.e0 (a.e1 ∷ []) a.w.now r.new.w a.from 1 a.end r.result c.requires.0 r.ensures (omega arith)

pub returns : goal.returns
returns c =
    let a = c.args in
    let r = c.settle-p in
    placed_next a.e0 (a.e1 ∷ []) a.w.now r.new.w a.from 1 a.end r.result c.requires.0 r.ensures c.settle1.new.w (c.requires.1, tt) c.settle1.ensures
