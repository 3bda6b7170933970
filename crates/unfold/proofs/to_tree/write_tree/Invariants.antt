-- `unfold::to_tree::write_tree` meets its contract.
-- Assumes nothing.
use mathlib.Core.Path.{◌≡◌}
use Prim.Native.Nat.{◌-◌, ◌≤◌}
use lib.ListN.{length}
use Rattle.model.specs.Tree.{Tree, preorder}
use Rattle.unfold.specs.Unfold.{daughter_count, Grows}
use Rattle.unfold.proofs.UnfoldLoop.{Standing}
use Rattle.unfold.proofs.to_tree.write_tree.Given as goal

abbrev pub invariant-loop-top : goal.invariant-loop-top
invariant-loop-top l = (l.top ≤ 96) × (l.w ≤ 96) × (length l.st ≡ 96) × (length l.out ≡ length l.initial.out)
    × ((tree : Tree) → Grows (daughter_count l.file) l.trace l.steps tree 0 → length (preorder tree) ≤ 96 → Standing (daughter_count l.file) l.trace l.steps tree l.w l.top l.st l.out l.initial.out)

abbrev pub decreases-loop-top : goal.decreases-loop-top
decreases-loop-top l = 96 - l.w
