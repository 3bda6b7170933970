-- `rule_table::table::length_in` meets its contract.
-- Assumes nothing.
use Rattle.std.specs.Prelude.{if◌then◌else◌}
use mathlib.Core.Path.{sym, ap, ◌∙◌}
use mathlib.Core.Bool.{Bool}
use Prim.Native.Nat.{◌+◌}
use native.Mathlib.Omega.{arith}
use borrow.Author.Tests.{lt-ltb, le-ltb}
use Rattle.model.specs.GrammarFile.{field}
use Rattle.rule_table.proofs.table.length_in.Goals as goal

pub returns-then-k-m : goal.returns-then-k-m
returns-then-k-m c =
    let a = c.args in
    (c.from.ensures ∙ c.byte.ensures ∙ sym (ap (λ (b : Bool). if b then field a.e.now (7 + a.k) else 1) (lt-ltb a.k a.m (omega arith))), omega arith)

pub returns-else-k-m : goal.returns-else-k-m
returns-else-k-m c =
    let a = c.args in
    (sym (ap (λ (b : Bool). if b then field a.e.now (7 + a.k) else 1) (le-ltb a.k a.m (omega arith))), omega arith)
