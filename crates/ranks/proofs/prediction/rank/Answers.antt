-- `ranks::prediction::rank` meets its contract.
-- Assumes nothing.
use Rattle.ranks.proofs.Packing.{rank_at}
use Rattle.ranks.proofs.prediction.rank.Goals as goal

pub returns : goal.returns
returns c = rank_at c.args.x c.args.c c.requires
