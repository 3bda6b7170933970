-- `made_rules::add_start` meets its contract.
-- Assumes nothing.
use native.Mathlib.Omega.{arith}
use Rattle.made_rules.proofs.RuleLaws.{start_none, start_some}
use Rattle.made_rules.proofs.starts.add_start.Goals as goal

pub returns-in-Some : goal.returns-in-Some
returns-in-Some c =
    let a = c.args in
    start_some {start = a.start} a.lexical (omega arith) c.start_row-row.ensures c.in-Some.i c.in-Some.ensures.0 c.in-Some.ensures.1 c.category_at.ensures c.add_rule.ensures

pub returns-in_default : goal.returns-in_default
returns-in_default c =
    let a = c.args in
    start_none {start = a.start} a.lexical (omega arith) c.start_row-row.ensures a.records.now c.in_default.ensures
