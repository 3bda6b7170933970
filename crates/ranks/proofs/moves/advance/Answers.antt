-- `ranks::moves::advance` meets its contract.
-- Assumes nothing.
use mathlib.Core.Path.{subst}
use Prim.Native.Nat.{ℕ}
use Rattle.ranks.specs.Prediction.{remade}
use Rattle.ranks.specs.Queue.{Mapped}
use Rattle.ranks.proofs.Gathering.{first_two, two_apart}
use Rattle.ranks.proofs.moves.advance.Goals as goal

pub advance_two-requires : goal.advance_two-requires
advance_two-requires c =
    let a = c.args in
    let m = a.m in
    let p = c.requires in
    (p.0, p.1, p.2, two_apart m.len0 m.f1 m.len1 m.f2 m.len2 m.f3 m.len3 c.if-m-eq1-2.true c.if-m-eq1.true a.w.now a.from a.to p.3, p.4.len0, p.4.f1, p.4.len1)

pub returns-then-m-eq1-2 : goal.returns-then-m-eq1-2
returns-then-m-eq1-2 c =
    let a = c.args in
    let m = a.m in
    let e = first_two m.len0 m.f1 m.len1 m.f2 m.len2 m.f3 m.len3 c.if-m-eq1-2.true c.if-m-eq1.true in
    subst (λ (f : ℕ → ℕ). Mapped (remade f) a.w.now c.advance_two.new.w a.from a.to a.out) (λ i r. e r i) c.advance_two.ensures
