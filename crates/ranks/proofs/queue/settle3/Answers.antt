-- `ranks::queue::settle3` meets its contract.
-- Assumes nothing.
use mathlib.Core.List.{[], ◌∷◌}
use Prim.Native.Nat.{◌≤◌}
use native.Mathlib.Omega.{arith}
use Rattle.ranks.proofs.Placing.{placed_next, next_gap}
use Rattle.ranks.proofs.queue.settle3.Goals as goal

pub settle2-requires : goal.settle2-requires
settle2-requires c =
    let a = c.args in
    let r = c.settle-p in
    (next_gap a.e0 (a.e1 ∷ (a.e2 ∷ [])) a.w.now r.new.w a.from 2 a.end r.result c.requires.0 r.ensures (omega arith), c.requires.2)

pub returns : goal.returns
returns c =
    let a = c.args in
    let r = c.settle-p in
    let h : a.e0 ≤ a.e2 = omega (arith, c.requires.1, c.requires.2) in
    placed_next a.e0 (a.e1 ∷ (a.e2 ∷ [])) a.w.now r.new.w a.from 2 a.end r.result c.requires.0 r.ensures c.settle2.new.w (c.requires.1, (h, tt)) c.settle2.ensures
