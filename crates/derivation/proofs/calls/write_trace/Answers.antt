-- `derivation::calls::write_trace` meets its contract.
-- Assumes nothing.
use mathlib.Core.Path.{sym, ◌∙◌}
use Prim.Native.Nat.{◌≤◌}
use native.Mathlib.Omega.{arith}
use lib.ListN.{length}
use lib.Seq.{length-take-le}
use Rattle.model.specs.GrammarFile.{grammar_of}
use Rattle.model.proofs.Verdicts.{handed_on}
use Rattle.derivation.proofs.TreeCalls.{list_few, trace_written, none_written}
use Rattle.derivation.proofs.calls.write_trace.Goals as goal

pub write_front-requires : goal.write_front-requires
write_front-requires c =
    let a = c.args in
    let k = c.trace_tree in
    let f = list_few (grammar_of a.file.now) a.sentence.now a.tree.now k.result _ k.ensures c.in_ok-n.was in
    let h : length a.tree.now ≤ length k.new.trace = omega arith in
    rw length-take-le (omega (arith, f, c.requires.1))

pub returns : goal.returns
returns c =
    let a = c.args in
    let k = c.trace_tree in
    let f = list_few (grammar_of a.file.now) a.sentence.now a.tree.now k.result _ k.ensures c.in_ok-n.was in
    let h : length a.tree.now ≤ length k.new.trace = omega arith in
    let w = rw length-take-le at c.write_front.ensures in
    let r = trace_written (grammar_of a.file.now) a.sentence.now a.tree.now k.result _ k.ensures a.out.now _ w c.in_ok-n.was in
    (sym c.in_ok-n.was ∙ r.0, r.1)

pub returns-in_err-n : goal.returns-in_err-n
returns-in_err-n c =
    let a = c.args in
    let k = c.trace_tree in
    let r = none_written (grammar_of a.file.now) a.sentence.now a.tree.now k.result _ k.ensures a.out.now c.in_err-n.was in
    (handed_on c.from_residual.result c.from_residual.ensures.1 ∙ sym c.in_err-n.was ∙ r.0, r.1)
