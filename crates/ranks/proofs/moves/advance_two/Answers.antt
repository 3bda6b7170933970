-- `ranks::moves::advance_two` meets its contract.
-- Assumes nothing.
use mathlib.Core.Path.{subst}
use Prim.Native.Nat.{ℕ}
use Rattle.ranks.specs.Prediction.{remade}
use Rattle.ranks.specs.Queue.{Mapped}
use Rattle.ranks.proofs.Gathering.{first_one}
use Rattle.ranks.proofs.moves.advance_two.Goals as goal

pub returns-then-len1-eq1 : goal.returns-then-len1-eq1
returns-then-len1-eq1 c =
    let a = c.args in
    let e = first_one a.len0 a.f1 a.len1 c.if-len1-eq1.true in
    subst (λ (f : ℕ → ℕ). Mapped (remade f) a.w.now c.shift.new.w a.from a.to a.out) (λ i r. e r i) c.shift.ensures
