-- `ranks::queue::scan` meets its contract.
-- Assumes nothing.
use mathlib.Core.Path.{subst}
use Prim.Native.Nat.{ℕ, ◌+◌}
use Rattle.ranks.specs.Prediction.{remade}
use Rattle.ranks.specs.Queue.{Mapped}
use Rattle.ranks.proofs.Moved.{lowered}
use Rattle.ranks.proofs.queue.scan.Goals as goal

pub returns : goal.returns
returns c =
    let a = c.args in
    subst (λ (f : ℕ → ℕ). Mapped (remade f) a.w.now c.shift.new.w (a.from + 1) a.to a.to) (λ i r. lowered r i) c.shift.ensures
