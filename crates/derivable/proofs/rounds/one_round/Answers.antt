-- `derivable::one_round` meets its contract. The loop keeps: the table holds what the merges and the move of the first i forms add.
-- Assumes nothing.
use native.Mathlib.Omega.{arith}
use mathlib.Core.Path.{refl}
use Rattle.derivable.specs.Rounds.{with_merges, with_round_of}
use Rattle.derivable.proofs.Growing.{grows_then, grows_same, round_further, round_whole}
use Rattle.derivable.proofs.rounds.one_round.Goals as goal

pub loop-i-preserved : goal.loop-i-preserved
loop-i-preserved c =
    let t = c.loop-i in
    let m = c.args.table.now.count in
    let merged = grows_then {h = λ forms. with_merges t.i m (with_round_of t.i forms)} t.invariant c.add_merges.ensures (λ forms l. refl) in
    grows_then merged c.add_move.ensures (λ forms l. round_further t.i m forms l (omega arith))

pub returns : goal.returns
returns c =
    let t = c.loop-i in
    grows_same t.invariant (λ forms l. round_whole t.i c.args.table.now.count (omega arith) forms l)
