-- `grammar::block_check` meets its contract. The loop over turns keeps: the lanes are those of the bytes from 4 times the turns left on. The loop over places
-- keeps: the lanes of the places before this one have taken their byte of this turn, and the others are as they were.
-- Assumes nothing.
use mathlib.Core.Path.{◌≡◌}
use Prim.Native.Nat.{ℕ, ◌≤◌, ◌<◌, ◌+◌, ◌*◌}
use lib.ListN.{length, get_or}
use Rattle.grammar.proofs.Lanes.{AllLanes, TookOne, lane_at}
use Rattle.grammar.proofs.lists.block_check.Given as goal

abbrev pub invariant-loop-place : goal.invariant-loop-place
invariant-loop-place l = (length l.lanes ≡ 4)
    × ((k : ℕ) → k < l.place → TookOne (get_or l.summed (4 * l.turn + k) 0) (lane_at l.initial.lanes k) (lane_at l.lanes k))
    × ((k : ℕ) → l.place ≤ k → lane_at l.lanes k ≡ lane_at l.initial.lanes k)

abbrev pub invariant-loop-turn : goal.invariant-loop-turn
invariant-loop-turn l = (length l.summed ≡ 508) × (length l.lanes ≡ 4) × AllLanes l.summed l.turn l.lanes
