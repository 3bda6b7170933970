-- `writer::put_checks` meets its contract.
-- Assumes nothing.
use Rattle.writer.specs.Writing.{Checked}
use Rattle.writer.proofs.blocks.put_checks.Given as goal

abbrev pub invariant-loop-k : goal.invariant-loop-k
invariant-loop-k l = Checked l.initial.out l.out l.k
