-- `rule_tests::repeated_rule` meets its contract. The loop keeps: those of the chain below `next` are left to compare.
-- Assumes nothing.
use mathlib.Core.Path.{sym, ap, ◌∙◌}
use mathlib.Core.List.{List}
use Prim.Native.Nat.{ℕ}
use native.Mathlib.Omega.{arith}
use Rattle.model.specs.GrammarFile.{same_rule}
use Rattle.rule_tests.proofs.Chains.{walk, walk_start, walk_end, walk_few, walk_hit, walk_on}
use Rattle.rule_tests.proofs.chain.repeated_rule.Goals as goal

pub loop-next-init : goal.loop-next-init
loop-next-init c =
    walk_start (walk c.requires c.earlier-next.ensures)

pub returns-then-same_rule : goal.returns-then-same_rule
returns-then-same_rule c =
    let w = walk c.requires c.earlier-next.ensures in
    let found = ap (λ (x : List ℕ). same_rule x c.args.e.now) (sym c.record.ensures) ∙ sym c.same_rule.ensures ∙ c.if-same_rule.true in
    sym (walk_hit w c.loop-next.invariant (omega arith) found)

pub earlier-next-requires-in-loop-next : goal.earlier-next-requires-in-loop-next
earlier-next-requires-in-loop-next c =
    let w = walk c.requires c.earlier-next.ensures in
    omega (arith, walk_few w c.loop-next.invariant)

pub loop-next-smaller : goal.loop-next-smaller
loop-next-smaller c =
    let w = walk c.requires c.earlier-next.ensures in
    let other = ap (λ (x : List ℕ). same_rule x c.args.e.now) (sym c.record.ensures) ∙ sym c.same_rule.ensures ∙ c.if-same_rule.false in
    (walk_on w c.loop-next.invariant (omega arith) other c.earlier-next-in-loop-next.ensures).0

pub loop-next-preserved : goal.loop-next-preserved
loop-next-preserved c =
    let w = walk c.requires c.earlier-next.ensures in
    let other = ap (λ (x : List ℕ). same_rule x c.args.e.now) (sym c.record.ensures) ∙ sym c.same_rule.ensures ∙ c.if-same_rule.false in
    (walk_on w c.loop-next.invariant (omega arith) other c.earlier-next-in-loop-next.ensures).1

pub returns : goal.returns
returns c =
    let w = walk c.requires c.earlier-next.ensures in
    sym (walk_end w c.loop-next.invariant (omega arith))
