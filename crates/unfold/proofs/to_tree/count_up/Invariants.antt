-- `unfold::to_tree::count_up` meets its contract.
-- Assumes nothing.
use mathlib.Core.Path.{◌≡◌}
use lib.ListN.{take}
use Rattle.model.specs.Base.{numbers_from}
use Rattle.unfold.proofs.to_tree.count_up.Given as goal

abbrev pub invariant-loop-k : goal.invariant-loop-k
invariant-loop-k l = take l.k l.list ≡ numbers_from l.first l.k
