-- A place of a sentence as one number (document 02, paper 5): "A sentence place now holds a lowest and a highest word number, lent as one 32-bit number with
-- the highest in the upper 16 bits". A number and its two ends say the same.
-- Assumes nothing.
use Rattle.std.specs.Prelude.{◌≡◌, ℕ, ◌<◌}
use Rattle.model.specs.Step.{lowest, highest, range}

pub record OneNumber : Type 0 where
  pub ends : (low high : ℕ) → low < 65536 → (lowest (range low high) ≡ low) × (highest (range low high) ≡ high)
  pub number : (place : ℕ) → range (lowest place) (highest place) ≡ place
