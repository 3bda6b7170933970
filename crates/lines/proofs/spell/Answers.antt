-- `lines::spell` meets its contract.
-- Assumes nothing.
use Rattle.lines.proofs.Digits.{begun, one_more, all_there}
use mathlib.Core.Path.{◌≡◌, sym, ap, ◌∙◌}
use Prim.Native.Nat.{ℕ, ◌-◌}
use native.Mathlib.Omega.{arith}
use lib.ListN.{drop, length-set}
use Rattle.model.specs.Program.{digits_before}
use Rattle.lines.proofs.spell.Goals as goal

pub loop-i-init : goal.loop-i-init
loop-i-init c = (omega arith, c.requires, begun c.args.n c.args.text.now c.requires)

pub returns-then-rest-lt10 : goal.returns-then-rest-lt10
returns-then-rest-lt10 c =
    let i = c.loop-i in
    let a = c.args in
    (omega arith, length-set i.text (i.i - 1) c.digit.result ∙ i.invariant.1, all_there a.n i.i i.rest i.text c.digit.result (omega arith) (omega arith) i.invariant.2 c.digit.ensures c.if-rest-lt10.true)

pub loop-i-preserved : goal.loop-i-preserved
loop-i-preserved c =
    let i = c.loop-i in
    let a = c.args in
    (omega arith, length-set i.text (i.i - 1) c.digit.result ∙ i.invariant.1, one_more a.n i.i i.rest i.text c.digit.result (omega arith) (omega arith) i.invariant.2 c.digit.ensures c.if-rest-lt10.false)

pub returns : goal.returns
returns c =
    let i = c.loop-i in
    let e : i.i ≡ 0 = omega arith in
    (omega arith, i.invariant.1, sym (i.invariant.2 ∙ ap (λ (k : ℕ). digits_before k i.rest (drop k i.text)) e))
