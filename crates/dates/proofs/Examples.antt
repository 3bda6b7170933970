-- The examples hold, by computation.
-- Assumes nothing.
use mathlib.Core.Path.{refl}
use mathlib.Core.List.{◌++◌}
use Rattle.model.specs.Examples.{AllHold}
use Rattle.dates.specs.Examples.{of_the_paper, further}

pub examples_hold : AllHold (of_the_paper ++ further)
examples_hold = (refl, (refl, (refl, (refl, (refl, (refl, (refl, (refl, tt))))))))
