-- What `ranks::queue::move3` writes of each number.
-- Assumes nothing.
use Rattle.ranking.specs.Ranks.{shifted}
use Rattle.ranks.specs.Prediction.{remade}
use Rattle.ranks.specs.Moves.{moves_ranks, moves_lengths}
use Rattle.ranks.specs.contracts.queue.fn.move3.carry as closure
use Rattle.ranks.proofs.queue.move3.Given as goal

abbrev pub ghost-carry : goal.ghost-carry
ghost-carry a = remade (shifted (moves_ranks (closure.captures a.f).m) (moves_lengths (closure.captures a.f).m))
