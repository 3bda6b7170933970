-- A place as one number.
-- Assumes nothing.
use native.Mathlib.Omega.{arith}
use Rattle.sentences.specs.Places.{OneNumber}

pub one_number : OneNumber
one_number = record { ends = λ low high h. (omega arith, omega arith); number = λ place. omega arith }
