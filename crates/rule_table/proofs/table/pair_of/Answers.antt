-- `rule_table::table::pair_of` meets its contract.
-- Assumes nothing.
use Rattle.std.specs.Prelude.{if◌then◌else◌}
use mathlib.Core.Path.{sym, ap, ◌∙◌}
use mathlib.Core.Bool.{Bool}
use native.Mathlib.Omega.{arith}
use borrow.Author.Tests.{lt-ltb, le-ltb}
use Rattle.model.specs.GrammarFile.{field}
use Rattle.rule_table.specs.Cells.{pair_at}
use Rattle.rule_table.proofs.table.pair_of.Goals as goal

pub returns-then-j-from : goal.returns-then-j-from
returns-then-j-from c =
    let a = c.args in
    let n = c.record_daughters.ensures in
    c.pair_at.ensures ∙ sym (ap (λ (b : Bool). if b then pair_at a.d.now a.e.now a.j else record { cell = 0; places = 0 }) (lt-ltb a.j (field a.e.now 1) (omega arith)))

pub returns-else-j-from : goal.returns-else-j-from
returns-else-j-from c =
    let a = c.args in
    let n = c.record_daughters.ensures in
    sym (ap (λ (b : Bool). if b then pair_at a.d.now a.e.now a.j else record { cell = 0; places = 0 }) (le-ltb a.j (field a.e.now 1) (omega arith)))
