-- The daughters of a nonlexical step.
-- Assumes nothing.
use Rattle.std.specs.Prelude.{◌≡◌, List, [], ◌∷◌, ℕ, ◌+◌, ◌/◌, ◌%◌, ◌<◌, ◌≤◌, min, eqb, get_or, if◌then◌else◌}
use Rattle.ranks.specs.Prediction.{Prediction, Sized, unpacked}
use Rattle.ranks.specs.Queue.{insert_all}

-- a prediction of these ranks, otherwise as the packed one, with `mark` added to its number
abbrev pub reranked : ℕ → ℕ → ℕ → ℕ → ℕ → ℕ → Prediction
reranked cell mark r0 r1 r2 r3 = record { least = min (min r0 r1) (min r2 r3); number = mark + (unpacked cell).number; category = (unpacked cell).category; rank3 = r3; rank2 = r2; rank1 = r1; rank0 = r0 }

-- A daughter from its two cells: `cell` is a packed prediction with positions for ranks, and `places` has, 8 times each, for each of its components the
-- component of the front in which it stands. It begins where that component begins: bs are the ranks at which the front's components begin.
abbrev pub daughter : List ℕ → ℕ → ℕ → ℕ → Prediction
daughter bs cell places mark = reranked cell mark (get_or bs (places / 8 % 4) 0 + (unpacked cell).rank0) (get_or bs (places / 64 % 4) 0 + (unpacked cell).rank1) (get_or bs (places / 512 % 4) 0 + (unpacked cell).rank2) (get_or bs (places / 4096 % 4) 0 + (unpacked cell).rank3)

-- `places` has, lowest, the dimension of the daughter. A cell has 0 for its least rank, and where the daughter has at most two components, 2 and 3 repeat component 0.
pub record AtMostTwo (cell places : ℕ) : Type 0 where
  pub least : (unpacked cell).least ≡ 0
  pub rank2 : (unpacked cell).rank2 ≡ (unpacked cell).rank0
  pub rank3 : (unpacked cell).rank3 ≡ (unpacked cell).rank0
  pub place2 : places / 512 % 4 ≡ places / 8 % 4
  pub place3 : places / 4096 % 4 ≡ places / 8 % 4

-- and where it has a single component, 1 repeats it too
pub record Alone (cell places : ℕ) : Type 0 where
  pub at_most_two : AtMostTwo cell places
  pub rank1 : (unpacked cell).rank1 ≡ (unpacked cell).rank0
  pub place1 : places / 64 % 4 ≡ places / 8 % 4

-- by its dimension
pub record Repeats (cell places : ℕ) : Type 0 where
  pub one : places % 8 ≡ 1 → Alone cell places
  pub two : places % 8 < 3 → AtMostTwo cell places

-- Where the two components of a front begin: component `lowest` at rank 0, the other at `base`. `daughter` takes four ranks; those of components 2 and 3, which the
-- front does not have, are those of 0 and 1 again.
abbrev pub two_bases : ℕ → ℕ → List ℕ
two_bases lowest base = if eqb lowest 0 then 0 ∷ (base ∷ (0 ∷ (base ∷ []))) else base ∷ (0 ∷ (base ∷ (0 ∷ [])))

-- the two cells of a daughter of at most two components can make it for such a front
pub record MakesTwo (cell places lowest base mark : ℕ) : Type 0 where
  pub one_of_two : lowest < 2
  pub base_small : base < 512
  pub sized : Sized (daughter (two_bases lowest base) cell places mark)
  pub at_most_two : AtMostTwo cell places

-- three numbers in rising order, which together settle as x, y and z do
pub record Rising (x y z low mid high : ℕ) : Type 0 where
  pub first : low ≤ mid
  pub second : mid ≤ high
  pub same : (q : List ℕ) → insert_all (low ∷ (mid ∷ (high ∷ []))) q ≡ insert_all (x ∷ (y ∷ (z ∷ []))) q
