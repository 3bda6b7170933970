-- `rule_table::places::stand_of` meets its contract.
-- Assumes nothing.
use mathlib.Core.Path.{ap, ◌∙◌}
use Rattle.rule_table.specs.Places.{stand_at}
use Rattle.rule_table.proofs.places.stand_of.Goals as goal

pub returns : goal.returns
returns c =
    let a = c.args in
    (c.stand_at.ensures.0 ∙ ap (stand_at a.e.now) c.first_of.ensures.0, c.stand_at.ensures.1)
