-- `derivable::all_rounds` meets its contract. The loop keeps: so many rounds were made.
-- Assumes nothing.
use Rattle.derivable.specs.Rounds.{Rounds}
use Rattle.derivable.proofs.rounds.all_rounds.Given as goal

abbrev pub invariant-loop-round : goal.invariant-loop-round
invariant-loop-round l = Rounds l._round l.initial.table l.table
