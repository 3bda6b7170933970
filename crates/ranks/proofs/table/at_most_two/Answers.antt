-- `ranks::table::at_most_two` meets its contract.
-- Assumes nothing.
use mathlib.Core.Path.{ap}
use Prim.Native.Nat.{ℕ, ◌%◌}
use lib.Dec.{ltb}
use Rattle.ranks.proofs.table.at_most_two.Goals as goal

pub returns : goal.returns
returns c = ap (λ (n : ℕ). ltb (n % 8) 3) c.places_cell.ensures
