-- `made_rules::dimensions` meets its contract.
-- Assumes nothing.
use Rattle.std.proofs.Common.{rules}
use Rattle.made_rules.specs.Listed.{dimension_byte}
use Rattle.forms.proofs.Made.{gives_each}
use Rattle.made_rules.proofs.DimensionLaws.{dimensions_are}
use Rattle.made_rules.proofs.numbers.dimensions.Goals as goal

pub returns : goal.returns
returns c =
    let rows = c.args.forms.now in
    let r = c.from_fn.ensures.items in
    dimensions_are rows _ r.long (gives_each (dimension_byte rows) r (λ i y q k. search rules))
