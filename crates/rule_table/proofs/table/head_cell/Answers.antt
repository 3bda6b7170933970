-- `rule_table::table::head_cell` meets its contract.
-- Assumes nothing.
use mathlib.Core.Path.{ap, ◌∙◌}
use native.Mathlib.Omega.{arith}
use Rattle.model.specs.GrammarFile.{dimension_in}
use Rattle.rule_table.proofs.table.head_cell.Goals as goal

pub returns : goal.returns
returns c =
    let a = c.args in
    let k = c.record_category-a.ensures in
    omega (arith, k, c.record_daughters.ensures, c.dimension_in.ensures ∙ ap (dimension_in a.d.now) k, c.record_word.ensures)
