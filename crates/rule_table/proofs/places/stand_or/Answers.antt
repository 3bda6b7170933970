-- `rule_table::places::stand_or` meets its contract.
-- Assumes nothing.
use Rattle.std.specs.Prelude.{if◌then◌else◌}
use mathlib.Core.Path.{sym, ap, ◌∙◌}
use mathlib.Core.Bool.{Bool}
use native.Mathlib.Omega.{arith}
use borrow.Author.Tests.{lt-ltb, le-ltb}
use Rattle.rule_table.specs.Places.{stand_of}
use Rattle.rule_table.proofs.places.stand_or.Goals as goal

pub returns-then-c-n : goal.returns-then-c-n
returns-then-c-n c =
    let a = c.args in
    (c.stand_of.ensures.0 ∙ sym (ap (λ (b : Bool). if b then stand_of a.e.now a.j a.c else a.zero) (lt-ltb a.c a.n (omega arith))), c.stand_of.ensures.1)

pub returns-else-c-n : goal.returns-else-c-n
returns-else-c-n c =
    let a = c.args in
    (sym (ap (λ (b : Bool). if b then stand_of a.e.now a.j a.c else a.zero) (le-ltb a.c a.n (omega arith))), c.requires.2)
