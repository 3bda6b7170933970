-- What `ranks::queue::shift` writes of each number.
-- Assumes nothing.
use Rattle.std.proofs.Common.{[], ◌∷◌}
use Rattle.ranking.specs.Ranks.{shifted}
use Rattle.ranks.specs.Prediction.{remade}
use Rattle.ranks.specs.contracts.queue.fn.shift.carry as closure
use Rattle.ranks.proofs.queue.shift.Given as goal

abbrev pub ghost-carry : goal.ghost-carry
ghost-carry a = remade (shifted (0 ∷ []) ((closure.captures a.f).len0 ∷ []))
