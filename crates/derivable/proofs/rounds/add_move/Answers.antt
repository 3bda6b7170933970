-- `derivable::add_move` meets its contract.
-- Assumes nothing.
use native.Mathlib.Omega.{arith}
use mathlib.Core.Path.{refl}
use Rattle.derivable.proofs.SchemeRows.{move_some}
use Rattle.derivable.proofs.rounds.add_move.Goals as goal

pub returns-in-Some : goal.returns-in-Some
returns-in-Some c =
    let a = c.args in
    move_some {before = a.table.now} {i = a.i} (omega arith) refl c.move_row.ensures c.in-Some.moved c.in-Some.is c.add_kept.ensures
