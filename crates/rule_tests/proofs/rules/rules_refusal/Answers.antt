-- `rule_tests::rules_refusal` meets its contract. The loop keeps: table and chain are those of the rules before rule i, and the first refusal is the first
-- from rule i on.
-- Assumes nothing.
use mathlib.Core.Path.{refl, sym, ap, ◌∙◌}
use native.Mathlib.Omega.{arith}
use lib.ListN.{replicate}
use Rattle.model.specs.GrammarFile.{record_refusal}
use Rattle.model.proofs.Verdicts.{handed_on, tests_pass, tests_met}
use Rattle.rule_tests.specs.Chains.{hash_of, hash_at}
use Rattle.rule_tests.specs.Layout.{record_in}
use Rattle.model.proofs.TestLoops.{left_all, left_pass, left_stop, left_end}
use Rattle.rule_tests.proofs.Chains.{latest_none, chain_none, entered}
use Rattle.rule_tests.proofs.rules.rules_refusal.Goals as goal

pub loop-i-init : goal.loop-i-init
loop-i-init c =
    let a = c.args in
    let record_at = record_in a.records.now.layout a.records.now.bytes.now in
    (omega arith, refl, refl, latest_none (hash_at record_at), chain_none (hash_at record_at) (replicate 256 0), left_all (record_refusal a.dimensions.now a.words record_at) a.n)

pub rule_refusal-requires : goal.rule_refusal-requires
rule_refusal-requires c =
    let a = c.args in
    let record_at = record_in a.records.now.layout a.records.now.bytes.now in
    let inv = c.loop-i.invariant in
    let hashed = c.hash_of.ensures ∙ ap hash_of c.record-e.ensures in
    let more = entered (hash_at record_at) c.loop-i.i (omega arith) inv.1 inv.2 inv.3 inv.4 (omega arith) hashed c.enter.ensures in
    rw c.from.ensures (record { is = c.record-e.ensures; chained = more.3 })

pub returns-in_err-rule_refusal : goal.returns-in_err-rule_refusal
returns-in_err-rule_refusal c =
    let a = c.args in
    let test = record_refusal a.dimensions.now a.words (record_in a.records.now.layout a.records.now.bytes.now) in
    let stop = tests_met (test c.loop-i.i) c.rule_refusal.result c.rule_refusal.ensures c.in_err-rule_refusal.was in
    rw (handed_on c.from_residual.result c.from_residual.ensures.1) (sym (c.loop-i.invariant.5 ∙ left_stop test c.loop-i.i a.n c.loop-i-test.true stop))

pub loop-i-preserved : goal.loop-i-preserved
loop-i-preserved c =
    let a = c.args in
    let record_at = record_in a.records.now.layout a.records.now.bytes.now in
    let inv = c.loop-i.invariant in
    let hashed = c.hash_of.ensures ∙ ap hash_of c.record-e.ensures in
    let more = entered (hash_at record_at) c.loop-i.i (omega arith) inv.1 inv.2 inv.3 inv.4 (omega arith) hashed c.enter.ensures in
    let test = record_refusal a.dimensions.now a.words record_at in
    let pass = tests_pass (test c.loop-i.i) c.rule_refusal.result c.rule_refusal.ensures c.in_ok-rule_refusal.was in
    rw c.from.ensures (
      omega (arith, c.loop-i-test.true),
      more.0,
      more.1,
      more.2,
      more.3,
      inv.5 ∙ left_pass test c.loop-i.i a.n c.loop-i-test.true pass,
    )

pub returns : goal.returns
returns c =
    let a = c.args in
    sym (c.loop-i.invariant.5 ∙ left_end (record_refusal a.dimensions.now a.words (record_in a.records.now.layout a.records.now.bytes.now)) c.loop-i.i a.n c.loop-i-test.false)
