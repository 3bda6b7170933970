-- An order of the daughters as the list of the positions that they come to.
-- Assumes nothing.
use Rattle.std.specs.Prelude.{List, ℕ}
use Rattle.doubles.specs.declared.order.Order.{Order}

abbrev pub positions : Order → List ℕ
positions order = order.0
