-- `ranks::step::settle_some` meets its contract.
-- Assumes nothing.
use mathlib.Core.Path.{ap₂, ◌∙◌}
use mathlib.Core.List.{[], ◌∷◌}
use Prim.Native.Nat.{ℕ}
use native.Mathlib.Omega.{arith}
use lib.ListN.{get_or}
use Rattle.ranks.specs.Queue.{insert}
use Rattle.ranks.proofs.Lists.{two_of, three_of}
use Rattle.ranks.proofs.Sorting.{insert_pair}
use Rattle.ranks.proofs.Stepping.{placed_as, placed_list}
use Rattle.ranks.proofs.step.settle_some.Goals as goal

pub returns-in-len2 : goal.returns-in-len2
returns-in-len2 c =
    let a = c.args in
    let x = get_or a.e.now 0 0 in
    let y = get_or a.e.now 1 0 in
    placed_list (two_of a.e.now (omega (arith, c.in-len2.len_at_least, c.in-len2.len_below)))
    (placed_as (c.min.result ∷ (c.max.result ∷ [])) (x ∷ (y ∷ [])) a.w.now c.settle2.new.w a.from 2 a.end
    (λ q. ap₂ (λ (u v : ℕ). insert u (insert v q)) c.max.ensures c.min.ensures ∙ insert_pair x y q)
    c.settle2.ensures)

pub returns-in-len3 : goal.returns-in-len3
returns-in-len3 c =
    let a = c.args in
    let r = c.rising in
    let x = get_or a.e.now 0 0 in
    let y = get_or a.e.now 1 0 in
    let z = get_or a.e.now 2 0 in
    placed_list (three_of a.e.now (omega (arith, c.in-len3.len_at_least, c.in-len3.len_below)))
    (placed_as (get_or r.result 0 0 ∷ (get_or r.result 1 0 ∷ (get_or r.result 2 0 ∷ []))) (x ∷ (y ∷ (z ∷ []))) a.w.now c.settle3.new.w a.from 3 a.end r.ensures.order.same c.settle3.ensures)
