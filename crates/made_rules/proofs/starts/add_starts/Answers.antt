-- `made_rules::add_starts` meets its contract.
-- Assumes nothing.
use Rattle.made_rules.proofs.Listing.{lists_then, lists_first, starts_both}
use Rattle.made_rules.proofs.starts.add_starts.Goals as goal

pub returns : goal.returns
returns c = lists_first c.clear.ensures (lists_then c.add_start.ensures c.add_start-2.ensures (λ forms l. starts_both c.args.start forms))
