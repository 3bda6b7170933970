-- `unfold::to_tree::link` meets its contract.
-- Assumes nothing.
use Rattle.unfold.specs.Unfold.{Linked}
use Rattle.unfold.proofs.to_tree.link.Given as goal

abbrev pub invariant-loop-k : goal.invariant-loop-k
invariant-loop-k l = Linked l.taken l.steps l.k
