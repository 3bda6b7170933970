-- The part of a list from a place on: where it ends early, and what stands in it.
-- Assumes nothing.
use mathlib.Core.Path.{◌≡◌}
use mathlib.Core.List.{List}
use Prim.Native.Nat.{ℕ, ◌+◌, ◌<◌, ◌≤◌}
use native.Mathlib.Omega.{arith}
use lib.ListN.{length, get_or, drop, length-take, get_or-eq_default}
use lib.Seq.{take-take, get_or-take, get_or-drop}
use Rattle.model.specs.GrammarFile.{fields}

module _ (bytes : List ℕ) (i n : ℕ) where
  pub part_length : length (fields bytes i n) ≤ n
  part_length = simp length-take (omega arith)

  pub part_at : (j : ℕ) → j < n → get_or (fields bytes i n) j 0 ≡ get_or bytes (i + j) 0
  part_at j h = rw (get_or-take, get_or-drop)

  pub part_past : (j : ℕ) → n ≤ j → get_or (fields bytes i n) j 0 ≡ 0
  part_past j h = get_or-eq_default (fields bytes i n) 0 {n = j} (omega (arith, part_length))

  -- the part from its first byte on is the part itself
  pub part_again : fields (fields bytes i n) 0 n ≡ fields bytes i n
  part_again = take-take n n (drop i bytes) (omega arith)
