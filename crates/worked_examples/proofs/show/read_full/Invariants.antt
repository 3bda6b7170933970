-- How much of the buffer is filled after each read of `worked_examples::show::read_full`.
use Rattle.std.proofs.Common.{◌≤◌, length}
use Rattle.worked_examples.proofs.show.read_full.Given as goal

abbrev pub invariant-loop : goal.invariant-loop
invariant-loop g l = l.done ≤ length l.buf
