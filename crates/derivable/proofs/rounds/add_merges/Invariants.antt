-- `derivable::add_merges` meets its contract. The loop keeps: the table holds what the merges of form i with the first j forms add.
-- Assumes nothing.
use Rattle.derivable.specs.Rounds.{Grows, with_merges}
use Rattle.derivable.proofs.rounds.add_merges.Given as goal

abbrev pub invariant-loop-j : goal.invariant-loop-j
invariant-loop-j l = Grows (with_merges l.i l.j) l.initial.table l.table
