-- `derivable::add_merge` meets its contract.
-- Assumes nothing.
use native.Mathlib.Omega.{arith}
use mathlib.Core.Path.{refl}
use Rattle.derivable.proofs.SchemeRows.{merge_none, merge_some}
use Rattle.derivable.proofs.rounds.add_merge.Goals as goal

pub returns-in-Some : goal.returns-in-Some
returns-in-Some c =
    let a = c.args in
    merge_some {before = a.table.now} {i = a.i} {j = a.j} (omega arith) (omega arith) refl refl c.merge_rows.ensures c.in-Some.merged c.in-Some.is c.add_kept.ensures

pub returns-in_default : goal.returns-in_default
returns-in_default c =
    let a = c.args in
    merge_none {before = a.table.now} {i = a.i} {j = a.j} (omega arith) (omega arith) refl refl c.merge_rows.ensures c.in_default.is (omega arith)
