-- `rule_table::places::first_of` meets its contract.
-- Assumes nothing.
use mathlib.Core.Path.{◌≡◌, sym, ap, ◌∙◌}
use Prim.Native.Nat.{ℕ, ◌-◌}
use native.Mathlib.Omega.{arith}
use Rattle.rule_table.specs.Places.{first_of}
use Rattle.rule_table.proofs.Standing.{first_here, first_next}
use Rattle.rule_table.proofs.places.first_of.Goals as goal

pub returns-then-from-x : goal.returns-then-from-x
returns-then-from-x c =
    let i = c.loop-v in
    let a = c.args in
    (sym (i.invariant ∙ first_here a.e.now a.x i.v (omega arith) (sym (c.from.ensures ∙ c.byte.ensures) ∙ c.if-from-x.true)), omega arith)

pub loop-v-preserved : goal.loop-v-preserved
loop-v-preserved c =
    let i = c.loop-v in
    let a = c.args in
    i.invariant ∙ first_next a.e.now a.x i.v (omega arith) (λ h. c.if-from-x.false (c.from.ensures ∙ c.byte.ensures ∙ h))

pub returns : goal.returns
returns c =
    let i = c.loop-v in
    let a = c.args in
    let z : i.v ≡ 12 = omega arith in
    (sym (i.invariant ∙ ap (λ (v : ℕ). first_of a.e.now a.x v (12 - v)) z), omega arith)
