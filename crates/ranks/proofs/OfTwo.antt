-- Whether a rule is of dimension 2 and its daughters of at most two components: by its dimension, and then by each daughter.
-- Assumes nothing.
use Rattle.std.specs.Prelude.{if◌then◌else◌}
use mathlib.Core.Path.{◌≡◌, refl, sym}
use mathlib.Core.Bool.{Bool, true, false}
use mathlib.Core.List.{List}
use Prim.Native.Nat.{ℕ, zero, suc, ◌+◌, ◌*◌, ◌%◌, ◌<◌}
use native.Mathlib.Omega.{arith}
use borrow.Author.Tests.{eqb-true, ltb-true}
use lib.Dec.{eqb}
use lib.ListN.{get_or}
use Rattle.model.proofs.Tests.{not_both}
use Rattle.ranks.specs.Table.{dimension_in, at_most_two, of_two}

-- one test and then another
both : (a b : Bool) → (if a then b else false) ≡ true → (a ≡ true) × (b ≡ true)
both true b e = (refl, e)
both false b e = not_both (sym e)

module _ (t : List ℕ) (at : ℕ) where
  abbrev two : Bool
  two = eqb (dimension_in t at) 2

  abbrev rest1 : Bool
  rest1 = if at_most_two t at 1 then at_most_two t at 2 else false

  abbrev rest0 : Bool
  rest0 = if at_most_two t at 0 then rest1 else false

  -- what such a rule has
  module _ (h : of_two t at ≡ true) where
    pub two_is_the_dimension : dimension_in t at ≡ 2
    two_is_the_dimension = eqb-true (dimension_in t at) 2 (both two rest0 h).0

    pub few_places : (j : ℕ) → j < 3 → get_or t (at + 3 + 2 * j) 0 % 8 < 3
    few_places j k = ltb-true (get_or t (at + 3 + 2 * j) 0 % 8) 3 (few j k)
      where
        after0 : (at_most_two t at 0 ≡ true) × (rest1 ≡ true)
        after0 = both (at_most_two t at 0) rest1 (both two rest0 h).1

        few : (j : ℕ) → j < 3 → at_most_two t at j ≡ true
        few zero k = after0.0
        few (suc zero) k = (both (at_most_two t at 1) (at_most_two t at 2) after0.1).0
        few (suc (suc zero)) k = (both (at_most_two t at 1) (at_most_two t at 2) after0.1).1
        few (suc (suc (suc j))) k = absurd (omega arith)
