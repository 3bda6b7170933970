-- `rule_tests::repeated_rule` meets its contract. The loop keeps: those of the chain below `next` are left to compare.
-- Assumes nothing.
use Rattle.rule_tests.specs.Layout.{record_in}
use Rattle.rule_tests.proofs.Chains.{Left}
use Rattle.rule_tests.proofs.chain.repeated_rule.Given as goal

abbrev pub invariant-loop-next : goal.invariant-loop-next
invariant-loop-next l = Left (record_in l.records.layout l.records.bytes.now) l.e l.initial.next l.next

abbrev pub decreases-loop-next : goal.decreases-loop-next
decreases-loop-next l = l.next
