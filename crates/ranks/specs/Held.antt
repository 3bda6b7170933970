-- The queue of predictions that a part of an array holds: one number a prediction, in the order of the queue.
-- Assumes nothing.
use Rattle.std.specs.Prelude.{◌≡◌, List, [], ◌∷◌, map, ℕ, ◌<◌, ◌≤◌, length, get_or, take}
use Rattle.std.proofs.Math.Seq.{slice}
use Rattle.model.specs.Grammar.{Grammar, dimension}
use Rattle.model.proofs.Apart.{Every}
use Rattle.ranking.specs.Ranks.{Ranked, least_rank}
use Rattle.ranks.specs.Prediction.{Prediction, ranks, packed, unpacked}
use Rattle.ranks.specs.Queue.{room}

-- the rank of component c; a component that is not there repeats that of component 0
abbrev pub lane_of : List ℕ → ℕ → ℕ
lane_of rs c = get_or rs c (get_or rs 0 0)

-- a prediction with its least rank beside the others, and its number
abbrev pub in_lanes : Ranked ℕ → Prediction
in_lanes p =
    record { least = least_rank p.ranks; number = p.node; category = p.category; rank3 = lane_of p.ranks 3; rank2 = lane_of p.ranks 2; rank1 = lane_of p.ranks 1; rank0 = lane_of p.ranks 0 }

abbrev pub number_of : Ranked ℕ → ℕ
number_of p = packed (in_lanes p)

-- the prediction of a number, which has as many ranks as its category has components
abbrev pub prediction_of : Grammar → ℕ → Ranked ℕ
prediction_of g x = record { category = (unpacked x).category; ranks = take (dimension g (unpacked x).category) (ranks (unpacked x)); node = (unpacked x).number }

-- the queue from place `from` on, up to `to`
abbrev pub queue_in : Grammar → List ℕ → ℕ → ℕ → List (Ranked ℕ)
queue_in g w from to = map (prediction_of g) (slice from to w)

-- what fits into a number: 1 to 4 ranks, as many as the category has components, each below 256
pub record Fits (g : Grammar) (p : Ranked ℕ) : Type 0 where
  pub sized : length p.ranks ≡ dimension g p.category
  pub some_ranks : 1 ≤ length p.ranks
  pub few_ranks : length p.ranks ≤ 4
  pub small : (c : ℕ) → lane_of p.ranks c < 256
  pub least_small : least_rank p.ranks < 256
  pub category_small : p.category < 64
  pub node_small : p.node < 512

-- the queue stands in the array, and its numbers are those of its predictions
pub record Held (g : Grammar) (w : List ℕ) (from to : ℕ) : Type 0 where
  pub long : length w ≡ room
  pub ordered : from ≤ to
  pub within : to ≤ room
  pub fit : Every (Fits g) (queue_in g w from to)
  pub numbers : map number_of (queue_in g w from to) ≡ slice from to w

-- the array begins with the first queue: a prediction of category a, whose only component has rank 0; its number is 0
pub record FirstQueue (a : ℕ) (w : List ℕ) : Type 0 where
  pub long : length w ≡ room
  pub first : get_or w 0 0 ≡ number_of (record { category = a; ranks = 0 ∷ []; node = 0 })
