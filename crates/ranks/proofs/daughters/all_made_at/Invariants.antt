-- `ranks::daughters::all_made_at` meets its contract.
-- Assumes nothing.
use Rattle.std.proofs.Common.{◌≡◌, ℕ, ◌<◌, length, get_or}
use Rattle.ranks.specs.Step.{daughter_at}
use Rattle.ranks.proofs.daughters.all_made_at.Given as goal

abbrev pub invariant-loop-j : goal.invariant-loop-j
invariant-loop-j l = (length l.e ≡ 3) × ((k : ℕ) → k < l.j → get_or l.e k 0 ≡ daughter_at l.t l.at k l.b l.mark)
