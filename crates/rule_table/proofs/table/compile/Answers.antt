-- `rule_table::table::compile` meets its contract.
-- Assumes nothing.
use mathlib.Core.Path.{ap₂, ◌∙◌}
use native.Mathlib.Omega.{arith}
use Rattle.model.specs.GrammarFile.{dimensions_of, record_of}
use Rattle.model.proofs.FromFile.{rules_in}
use Rattle.rule_table.specs.Cells.{cells_of}
use Rattle.rule_table.proofs.Writing.{rules_next}
use Rattle.rule_table.proofs.Compiled.{compiled}
use Rattle.rule_table.proofs.table.compile.Goals as goal

pub loop-r-preserved : goal.loop-r-preserved
loop-r-preserved c =
    let f = c.args.file.now in
    let i = c.loop-r in
    let e = c.cells_of.ensures ∙ ap₂ cells_of c.dimensions-d.ensures c.record_of-e.ensures in (
      c.put.ensures.kept ∙ i.invariant.0,
      rules_next (λ q. cells_of (dimensions_of f) (record_of f q)) i.t _ c.cells_of.result i.r (rw c.from.ensures at c.put.ensures) e i.invariant.1,
    )

pub returns : goal.returns
returns c accepted =
    let i = c.loop-r in
    let f = c.args.file.now in
    compiled f (λ j. (c.type_inv.file j).fits) accepted i.t i.invariant.0
    (λ q h. i.invariant.1 q (omega (arith, c.loop-r-test.false, c.rules_held-r-end.ensures.1 (rules_in f accepted).1)))
