-- How much of the text is written after each write of `count_analyses::write_text`.
use Rattle.std.proofs.Common.{◌≤◌, length}
use Rattle.count_analyses.proofs.write_text.Given as goal

abbrev pub invariant-loop : goal.invariant-loop
invariant-loop g l = l.done ≤ length l.text
