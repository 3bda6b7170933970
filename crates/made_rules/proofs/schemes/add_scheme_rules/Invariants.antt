-- `made_rules::add_scheme_rules` meets its contract.
-- Assumes nothing.
use Rattle.made_rules.specs.Listed.{Lists, with_schemes_of}
use Rattle.made_rules.proofs.schemes.add_scheme_rules.Given as goal

abbrev pub invariant-loop-i : goal.invariant-loop-i
invariant-loop-i l = Lists (with_schemes_of l.i) l.forms l.initial.records l.records
