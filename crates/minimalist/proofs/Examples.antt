-- The examples hold, by computation.
-- Assumes nothing.
use mathlib.Core.Path.{refl}
use Rattle.minimalist.specs.Examples.{Examples}

pub examples_hold : Examples
examples_hold =
    record {
      read = refl;
      accepted = refl;
      no_word = refl;
      repeated = refl;
      moving = refl;
      landed = refl;
      sentence = refl;
      nodes_are = refl;
      stays = refl;
      lands = refl;
    }
