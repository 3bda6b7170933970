-- `ranks::daughters::all_made_at` meets its contract.
-- Assumes nothing.
use Rattle.std.proofs.Common.{◌≡◌, ◌∙◌, ℕ, get_or, set, length-set, get_or-set_other, get_or-set_same, below_more, arith}
use Rattle.ranks.specs.Step.{daughter_at}
use Rattle.ranks.proofs.Stepping.{first_made}
use Rattle.ranks.proofs.daughters.all_made_at.Goals as goal

pub loop-j-preserved : goal.loop-j-preserved
loop-j-preserved c =
    let i = c.loop-j in
    let a = c.args in
    let x = c.made_at.result in
    let here : x ≡ daughter_at a.t.now a.at i.j a.b.now a.mark = c.made_at.ensures (omega (arith, c.loop-j-test.true)) in (
      length-set i.e i.j x ∙ i.invariant.0,
      below_more (λ (k : ℕ). get_or (set i.e i.j x) k 0 ≡ daughter_at a.t.now a.at k a.b.now a.mark) i.j
          (λ k l. get_or-set_other i.e i.j k x 0 (λ z. omega arith) ∙ i.invariant.1 k l)
          (get_or-set_same i.e i.j x 0 (omega (arith, c.loop-j-test.true, i.invariant.0)) ∙ here),
    )

pub returns : goal.returns
returns c =
    let i = c.loop-j in
    let a = c.args in
    first_made (λ (k : ℕ). daughter_at a.t.now a.at k a.b.now a.mark) a.d i.e i.invariant.0 (λ k l m. i.invariant.1 k (omega (arith, c.loop-j-test.false)))
