-- `walk::prefixes::find` meets its contract.
-- Assumes nothing.
use mathlib.Core.Path.{sym, ◌∙◌}
use native.Mathlib.Omega.{arith}
use Rattle.walk.proofs.Seeking.{find_opens, find_returns, find_later, find_goes}
use Rattle.walk.proofs.prefixes.find.Goals as goal

pub opens-requires : goal.opens-requires
opens-requires c =
    let a = c.args in
    find_opens a.tables.now.rules a.tables.now.chain a.sentence.now a.at c.in-Some.x (rw c.in-Some.is at c.loop-next.invariant.0)

pub returns-then-opens : goal.returns-then-opens
returns-then-opens c =
    let a = c.args in
    find_returns a.tables.now.rules a.tables.now.chain a.sentence.now a.at c.in-Some.x (rw c.in-Some.is at c.loop-next.invariant.0) a.r (rw c.in-Some.is at c.loop-next.invariant.1) (sym c.opens.ensures ∙ c.if-opens.true)

pub loop-next-smaller : goal.loop-next-smaller
loop-next-smaller c =
    let a = c.args in
    let may = rw c.in-Some.is at c.loop-next.invariant.0 in
    let later = find_later a.tables.now.rules a.tables.now.chain a.sentence.now a.at c.in-Some.x may c.next_rule-next.result c.next_rule-next.ensures in
    rw c.in-Some.is (omega (arith, later, may.named.1))

pub loop-next-preserved : goal.loop-next-preserved
loop-next-preserved c =
    let a = c.args in
    let i = rw c.in-Some.is at c.loop-next.invariant in
    let h = find_goes a.tables.now.rules a.tables.now.chain a.sentence.now a.at c.in-Some.x i.0 c.next_rule-next.result c.next_rule-next.ensures (sym c.opens.ensures ∙ c.if-opens.false) in
    (h.0, i.1 ∙ h.1)
