-- `lines::put_line` meets its contract.
-- Assumes nothing.
use Prim.Native.Nat.{◌+◌, ◌*◌, ◌≤◌}
use Rattle.lines.proofs.Placed.{LineTo}
use Rattle.lines.proofs.put_line.Given as goal

abbrev pub invariant-loop-i : goal.invariant-loop-i
invariant-loop-i l = (l.p ≤ l.at + 6 * l.i) × LineTo l.list l.initial.out l.at l.out l.i l.p
