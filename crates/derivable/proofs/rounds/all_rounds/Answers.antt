-- `derivable::all_rounds` meets its contract. The loop keeps: so many rounds were made.
-- Assumes nothing.
use native.Mathlib.Omega.{arith}
use Rattle.derivable.proofs.Growing.{no_rounds, rounds_more, rounds_still, rounds_all}
use Rattle.derivable.proofs.rounds.all_rounds.Goals as goal

pub loop-round-init : goal.loop-round-init
loop-round-init c = no_rounds c.args.table.now c.requires

pub returns-then-table-before : goal.returns-then-table-before
returns-then-table-before c =
    let t = c.loop-round in
    rounds_still t._round t.invariant c.one_round.ensures c.if-table-before.true 63 (omega arith)

pub loop-round-preserved : goal.loop-round-preserved
loop-round-preserved c =
    let t = c.loop-round in
    rounds_more t._round t.invariant c.one_round.ensures

pub returns : goal.returns
returns c =
    let t = c.loop-round in
    rounds_all t._round 63 (omega arith) t.invariant
