-- What stands in the buffer after each read of `count_analyses::read_file`.
use Rattle.std.proofs.Common.{◌≤◌, length}
use Rattle.count_analyses.proofs.read_file.Given as goal

abbrev pub invariant-loop : goal.invariant-loop
invariant-loop g l = l.loaded.bytes ≤ length l.buf
