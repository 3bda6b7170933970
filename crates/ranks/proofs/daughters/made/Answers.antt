-- `ranks::daughters::made` meets its contract.
-- Assumes nothing.
use mathlib.Core.Path.{◌∙◌}
use native.Mathlib.Omega.{arith}
use Rattle.ranks.proofs.TwoComponents.{alone_made}
use Rattle.ranks.proofs.daughters.made.Goals as goal

pub alone-requires : goal.alone-requires
alone-requires c =
    let h = c.requires.2 c.if-places-eq1.true in
    (h.at_most_two.least, c.requires.1.lanes.rank0, omega (arith, c.requires.1.number))

pub returns-then-places-eq1 : goal.returns-then-places-eq1
returns-then-places-eq1 c =
    let a = c.args in
    c.alone.ensures ∙ alone_made a.b.now a.cell a.places a.mark (c.requires.2 c.if-places-eq1.true)
