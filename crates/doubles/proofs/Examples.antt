-- The examples hold, by computation.
-- Assumes nothing.
use mathlib.Core.Path.{refl}
use Rattle.doubles.specs.Examples.{Examples}

pub examples_hold : Examples
examples_hold = record { exchanged = refl; cycled = refl; cycled_back = refl; not_renumbered = refl; other_string = refl; own_components = refl }
