-- `ranks::daughters::all_made_two_at` meets its contract.
-- Assumes nothing.
use Rattle.std.proofs.Common.{◌≡◌, ap, subst, ◌∙◌, ℕ, ◌+◌, ◌*◌, get_or, set, length-set, get_or-set_other, get_or-set_same, below_more, arith}
use Rattle.ranks.specs.Daughters.{two_bases, MakesTwo}
use Rattle.ranks.specs.Step.{daughter_at}
use Rattle.ranks.proofs.Stepping.{first_made}
use Rattle.ranks.proofs.daughters.all_made_two_at.Goals as goal

pub made_two_at-requires : goal.made_two_at-requires
made_two_at-requires c =
    let i = c.loop-j in
    let a = c.args in
    let makes = c.requires.1 i.j (omega (arith, c.loop-j-test.true)) (omega (arith, c.loop-j-test.true)) in
    (c.requires.0, omega (arith, c.loop-j-test.true), λ z. subst (λ (l : ℕ). MakesTwo (get_or a.t.now (a.at + 2 + 2 * i.j) 0) (get_or a.t.now (a.at + 3 + 2 * i.j) 0) l a.base a.mark) (omega (arith, makes.one_of_two)) makes)

pub loop-j-preserved : goal.loop-j-preserved
loop-j-preserved c =
    let i = c.loop-j in
    let a = c.args in
    let x = c.made_two_at.result in
    let two = (c.requires.1 i.j (omega (arith, c.loop-j-test.true)) (omega (arith, c.loop-j-test.true))).one_of_two in
    let here : x ≡ daughter_at a.t.now a.at i.j (two_bases a.lowest a.base) a.mark =
    c.made_two_at.ensures (omega (arith, c.loop-j-test.true)) ∙ ap (λ (l : ℕ). daughter_at a.t.now a.at i.j (two_bases l a.base) a.mark) (omega (arith, two)) in (
      length-set i.e i.j x ∙ i.invariant.0,
      below_more (λ (k : ℕ). get_or (set i.e i.j x) k 0 ≡ daughter_at a.t.now a.at k (two_bases a.lowest a.base) a.mark) i.j
          (λ k l. get_or-set_other i.e i.j k x 0 (λ z. omega arith) ∙ i.invariant.1 k l)
          (get_or-set_same i.e i.j x 0 (omega (arith, c.loop-j-test.true, i.invariant.0)) ∙ here),
    )

pub returns : goal.returns
returns c =
    let i = c.loop-j in
    let a = c.args in
    first_made (λ (k : ℕ). daughter_at a.t.now a.at k (two_bases a.lowest a.base) a.mark) a.d i.e i.invariant.0 (λ k l m. i.invariant.1 k (omega (arith, c.loop-j-test.false)))
