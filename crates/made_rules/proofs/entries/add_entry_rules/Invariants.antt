-- `made_rules::add_entry_rules` meets its contract.
-- Assumes nothing.
use Rattle.made_rules.specs.Listed.{Lists}
use Rattle.made_rules.proofs.Listing.{with_entries_of}
use Rattle.made_rules.proofs.entries.add_entry_rules.Given as goal

abbrev pub invariant-loop-i : goal.invariant-loop-i
invariant-loop-i l = Lists (with_entries_of l.bytes l.i) l.forms l.initial.records l.records
