-- `grammar::part_check` meets its contract. The loop keeps: the weighted sum so far and that from place i on are the whole.
-- Assumes nothing.
use Rattle.std.proofs.Common.{ap, ℕ, ◌≤◌, ◌<◌, ◌+◌, ◌*◌, arith}
use native.Mathlib.Nat.{mul-le-mul}
use Rattle.grammar.proofs.Walks.{weighted_more, weighted_end}
use Rattle.grammar.proofs.lists.part_check.Goals as goal

small : (i b : ℕ) → i < 508 → b < 256 → (i + 1) * b ≤ 129540
small i b h k = mul-le-mul {n₂ = 508} {m₂ = 255} (omega arith) (omega arith)

pub overflow_mul-sum : goal.overflow_mul-sum
overflow_mul-sum c = omega (arith, small c.loop-i.i c.from.result (omega arith) (omega (arith, c.type_inv.bytes c.loop-i.i)))

pub overflow_add-sum-in-loop-i : goal.overflow_add-sum-in-loop-i
overflow_add-sum-in-loop-i c = omega (arith, small c.loop-i.i c.from.result (omega arith) (omega (arith, c.type_inv.bytes c.loop-i.i)))

pub loop-i-preserved : goal.loop-i-preserved
loop-i-preserved c =
    let s = small c.loop-i.i c.from.result (omega arith) (omega (arith, c.type_inv.bytes c.loop-i.i)) in
    let m = weighted_more c.args.bytes.now c.loop-i.i (omega arith) in
    let same = ap (λ (x : ℕ). (c.loop-i.i + 1) * x) c.from.ensures in
    omega arith

pub returns : goal.returns
returns c = omega (arith, weighted_end c.args.bytes.now c.loop-i.i (omega arith))
