-- `derivable::add_entry` meets its contract.
-- Assumes nothing.
use Rattle.derivable.proofs.SchemeRows.{entry_added}
use Rattle.derivable.proofs.rounds.add_entry.Goals as goal

pub returns : goal.returns
returns c = entry_added c.args.e.now c.entry_row-row.ensures c.add.ensures
