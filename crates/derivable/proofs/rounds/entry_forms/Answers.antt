-- `derivable::entry_forms` meets its contract. The loop keeps: the table holds the forms of the first i entries.
-- Assumes nothing.
use Rattle.derivable.proofs.Growing.{entries_more}
use Rattle.derivable.proofs.rounds.entry_forms.Goals as goal

pub loop-i-preserved : goal.loop-i-preserved
loop-i-preserved c = (c.add_entry.ensures.most, entries_more c.args.bytes.now c.loop-i.i c.entry_bytes.ensures c.loop-i.invariant.1 c.add_entry.ensures)
