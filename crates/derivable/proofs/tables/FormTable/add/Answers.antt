-- `derivable::FormTable::add` meets its contract.
-- Assumes nothing.
use native.Mathlib.Omega.{arith}
use mathlib.Core.Path.{ap, ◌∙◌}
use mathlib.Core.Bool.{not}
use Rattle.derivable.proofs.TableLaws.{none_found, some_found, add_found, add_full, add_new}
use Rattle.derivable.proofs.tables.FormTable.add.Goals as goal
use Rattle.derivable.proofs.tables.FormTable.add.Goals.{else-self-lt-ROWS-via-then-self-lt-ROWS+else-is_none, else-self-lt-ROWS-via-else-self-lt-ROWS}

pub returns-then-is_none : goal.returns-then-is_none
returns-then-is_none c =
    let t = c.args.self.now in
    let row = c.args.row.now in
    let none = none_found t.rows t.count row (omega arith) c.forms.result.now c.forms.ensures c.find_row.result c.find_row.ensures (c.is_none.ensures ∙ ap not c.if-is_none.true) in
    add_new t.rows t.count row (omega arith) none (omega arith)

pub returns-else-self-lt-ROWS : goal.returns-else-self-lt-ROWS
returns-else-self-lt-ROWS c =
    let t = c.args.self.now in
    let row = c.args.row.now in
    elim c.else-self-lt-ROWS.branch [
      | else-self-lt-ROWS-via-then-self-lt-ROWS+else-is_none w ↦
          add_found t.rows t.count row (omega arith)
          (some_found t.rows t.count row (omega arith) w.forms.result.now w.forms.ensures w.find_row.result w.find_row.ensures (w.is_none.ensures ∙ ap not w.if-is_none.false))
      | else-self-lt-ROWS-via-else-self-lt-ROWS w ↦ add_full t.rows t.count row (omega arith) w.if-self-lt-ROWS.false
    ]
