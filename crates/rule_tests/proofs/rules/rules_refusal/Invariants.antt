-- `rule_tests::rules_refusal` meets its contract. The loop keeps: table and chain are those of the rules before rule i, and the first refusal is the first
-- Assumes nothing.
use mathlib.Core.Path.{◌≡◌}
use Prim.Native.Nat.{◌≤◌}
use lib.ListN.{length}
use Rattle.model.specs.Verdict.{tested}
use Rattle.model.specs.GrammarFile.{record_refusal}
use Rattle.rule_tests.specs.Chains.{Chained, hash_at}
use Rattle.rule_tests.specs.Layout.{record_in}
use Rattle.rule_tests.specs.Rules.{rules_refusal}
use Rattle.model.proofs.TestLoops.{left}
use Rattle.rule_tests.proofs.Chains.{Latest}
use Rattle.rule_tests.proofs.rules.rules_refusal.Given as goal

abbrev pub invariant-loop-i : goal.invariant-loop-i
invariant-loop-i l = (l.i ≤ l.n) × (length l.table ≡ 256) × (length l.chain ≡ 256) × Latest (hash_at (record_in l.records.layout l.records.bytes.now)) l.i l.table × Chained (hash_at (record_in l.records.layout l.records.bytes.now)) l.i l.chain
    × (tested (rules_refusal l.dimensions l.words (record_in l.records.layout l.records.bytes.now) l.n) ≡ left (record_refusal l.dimensions l.words (record_in l.records.layout l.records.bytes.now)) l.i l.n)
