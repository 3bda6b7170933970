-- `unfold::to_tree::count_up` meets its contract.
-- Assumes nothing.
use mathlib.Core.Path.{ap}
use mathlib.Core.List.{[], ◌∷◌, ◌++◌}
use Prim.Native.Nat.{ℕ, ◌<◌}
use native.Mathlib.Omega.{arith}
use native.Mathlib.Numerals.{add-one}
use lib.ListN.{length}
use Rattle.std.proofs.lemmas.List.{take_more_set}
use Rattle.model.specs.Base.{numbers_from}
use Rattle.model.proofs.Lists.{numbers_next}
use Rattle.unfold.proofs.to_tree.count_up.Goals as goal

pub loop-k-preserved : goal.loop-k-preserved
loop-k-preserved c =
    let l = c.loop-k in
    let inside : l.k < length l.list = omega arith in
    rw (take_more_set, l.invariant, add-one, numbers_next c.args.first l.k) (ap (λ (x : ℕ). numbers_from c.args.first l.k ++ (x ∷ [])) (omega arith))
