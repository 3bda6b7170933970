-- `writer::write_grammar` meets its contract.
-- Assumes nothing.
use mathlib.Core.Path.{ap, ap₂}
use mathlib.Core.List.{List, ◌++◌}
use Prim.Native.Nat.{ℕ, ◌*◌}
use native.Mathlib.Omega.{arith}
use borrow.Rule.Slice.PartMut.{Post-is}
use Rattle.model.specs.Writer.{writer_refusal}
use Rattle.model.proofs.Verdicts.{handed_on, tests_pass, tests_met}
use Rattle.writer.specs.Writing.{heading}
use Rattle.writer.proofs.Outcome.{refused_given, refused_room, written_out}
use Rattle.writer.proofs.writer.write_grammar.Goals as goal

pub returns-in_err-given_refusal : goal.returns-in_err-given_refusal
returns-in_err-given_refusal c =
    let a = c.args in
    let h = heading a.categories a.start a.words a.rules a.dimensions.now in
    let k = c.given_refusal in
    rw (handed_on c.from_residual.result c.from_residual.ensures.1) (refused_given h a.records.now a.out.now (tests_met (writer_refusal h a.records.now) k.result k.ensures c.in_err-given_refusal.was))

pub returns-then-out-n : goal.returns-then-out-n
returns-then-out-n c =
    let a = c.args in
    let h = heading a.categories a.start a.words a.rules a.dimensions.now in
    let k = c.given_refusal in
    let pass = tests_pass (writer_refusal h a.records.now) k.result k.ensures c.in_ok-given_refusal.was in
    let n = c.blocks_for-n in
    let long = ap (λ (m : ℕ). 512 * m) n.ensures in
    refused_room h a.records.now a.out.now (512 * n.result) long pass (omega (arith, c.if-out-n.true))

pub returns : goal.returns
returns c =
    let a = c.args in
    let h = heading a.categories a.start a.words a.rules a.dimensions.now in
    let k = c.given_refusal in
    let pass = tests_pass (writer_refusal h a.records.now) k.result k.ensures c.in_ok-given_refusal.was in
    let n = c.blocks_for-n in
    let long = ap (λ (m : ℕ). 512 * m) n.ensures in
    written_out h a.records.now a.out.now (512 * n.result) long pass (omega (arith, c.if-out-n.false)) _
    (ap₂ (λ (x y : List ℕ). x ++ y) c.put_file.ensures (Post-is 0 (512 * n.result) a.out.now (omega arith)))
