-- `made_rules::add_merge_rules` meets its contract.
-- Assumes nothing.
use Rattle.made_rules.specs.Listed.{Lists, with_merges}
use Rattle.made_rules.proofs.schemes.add_merge_rules.Given as goal

abbrev pub invariant-loop-j : goal.invariant-loop-j
invariant-loop-j l = Lists (with_merges l.i l.j) l.forms l.initial.records l.records
