-- `derivable::one_round` meets its contract. The loop keeps: the table holds what the merges and the move of the first i forms add.
-- Assumes nothing.
use Rattle.derivable.specs.Rounds.{Grows, with_round_of}
use Rattle.derivable.proofs.rounds.one_round.Given as goal

abbrev pub invariant-loop-i : goal.invariant-loop-i
invariant-loop-i l = Grows (with_round_of l.i) l.initial.table l.table
