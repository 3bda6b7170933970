-- `lexicon::entries_refusal` meets its contract.
-- Assumes nothing.
use native.Mathlib.Omega.{arith}
use mathlib.Core.Path.{refl, sym, ◌∙◌}
use Prim.Native.Nat.{◌/◌}
use lib.ListN.{length}
use Rattle.model.specs.declared.Refusal.{Refusal}
use Rattle.model.specs.Base.{◌or_else◌, first_from}
use Rattle.model.specs.Verdict.{refuse_if, tested}
use Rattle.model.proofs.Tests.{stop}
use Rattle.model.proofs.Verdicts.{met_is, tests_after}
use Rattle.model.proofs.TestLoops.{refuse_on, refuse_off, left_all, left_pass, left_stop, left_end}
use Rattle.minimalist.specs.Lexicon.{wrong_lexicon, repeated_entry}
use Rattle.lexicon.proofs.EntryWalks.{few_entries}
use Rattle.lexicon.proofs.entries.entries_refusal.Goals as goal
use Rattle.lexicon.proofs.entries.entries_refusal.Invariants.{test}

pub returns-then-lexicon_wrong : goal.returns-then-lexicon_wrong
returns-then-lexicon_wrong c =
    let a = c.args in
    let wrong = wrong_lexicon a.bytes.now a.words a.start in
    let rest = first_from (test a.bytes.now) 0 (length a.bytes.now / 8) in
    met_is (refuse_if wrong (Refusal.Grammar 30 0) or_else rest) (Refusal.Grammar 30 0) (stop wrong (Refusal.Grammar 30 0) rest (sym c.lexicon_wrong.ensures ∙ c.if-lexicon_wrong.true))

pub overflow_cast-n : goal.overflow_cast-n
overflow_cast-n c =
    let a = c.args in
    omega (arith, few_entries a.bytes.now a.words a.start (sym c.lexicon_wrong.ensures ∙ c.if-lexicon_wrong.false))

pub loop-i-init : goal.loop-i-init
loop-i-init c =
    let a = c.args in
    let wrong = wrong_lexicon a.bytes.now a.words a.start in
    let rest = first_from (test a.bytes.now) 0 (length a.bytes.now / 8) in
    let right = refuse_off wrong (Refusal.Grammar 30 0) (sym c.lexicon_wrong.ensures ∙ c.if-lexicon_wrong.false) in
    (refl, sym (tests_after (refuse_if wrong (Refusal.Grammar 30 0)) rest (tested rest) right refl) ∙ left_all (test a.bytes.now) (length a.bytes.now / 8))

pub returns-then-repeated_entry : goal.returns-then-repeated_entry
returns-then-repeated_entry c =
    let a = c.args in
    let t = c.loop-i in
    sym (t.invariant.1 ∙ left_stop (test a.bytes.now) t.i (length a.bytes.now / 8) c.loop-i-test.true (refuse_on (repeated_entry a.bytes.now t.i) (Refusal.Grammar 10 t.i) (sym c.repeated_entry.ensures ∙ c.if-repeated_entry.true)))

pub loop-i-preserved : goal.loop-i-preserved
loop-i-preserved c =
    let a = c.args in
    let t = c.loop-i in
    (refl, t.invariant.1 ∙ left_pass (test a.bytes.now) t.i (length a.bytes.now / 8) c.loop-i-test.true (refuse_off (repeated_entry a.bytes.now t.i) (Refusal.Grammar 10 t.i) (sym c.repeated_entry.ensures ∙ c.if-repeated_entry.false)))

pub returns : goal.returns
returns c =
    let a = c.args in
    let t = c.loop-i in
    sym (t.invariant.1 ∙ left_end (test a.bytes.now) t.i (length a.bytes.now / 8) c.loop-i-test.false)
