-- `made_rules::add_merge_rule` meets its contract.
-- Assumes nothing.
use native.Mathlib.Omega.{arith}
use mathlib.Core.Path.{refl}
use Rattle.made_rules.proofs.RuleLaws.{no_merge, merge_left_out, merge_rule_lem}
use Rattle.made_rules.proofs.schemes.add_merge_rule.Goals as goal

pub returns-in_default : goal.returns-in_default
returns-in_default c =
    let a = c.args in
    no_merge {table = a.forms.now} {i = a.i} {j = a.j} (omega arith) (omega arith) refl refl c.merge_rows.ensures a.records.now c.in_default.is

pub returns-else-not-left_out : goal.returns-else-not-left_out
returns-else-not-left_out c =
    let a = c.args in
    let m = c.in-Some.merged in
    merge_left_out {table = a.forms.now} {i = a.i} {j = a.j} (omega arith) (omega arith) refl refl c.merge_rows.ensures m.scheme m.row c.in-Some.is c.left_out.ensures a.records.now c.if-not-left_out.false

pub returns-then-not-left_out : goal.returns-then-not-left_out
returns-then-not-left_out c =
    let a = c.args in
    let m = c.in-Some.merged in
    merge_rule_lem {table = a.forms.now} {i = a.i} {j = a.j} (omega arith) (omega arith) refl refl c.merge_rows.ensures m.scheme m.row c.in-Some.is c.left_out.ensures c.if-not-left_out.true
    c.number_of.ensures c.category_at.ensures c.category_at-then-not-left_out.ensures c.movers.ensures.0 c.movers-then-not-left_out.ensures.0 c.add_rule.ensures
