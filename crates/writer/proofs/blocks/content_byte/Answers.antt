-- `writer::content_byte` meets its contract.
-- Assumes nothing.
use mathlib.Core.Path.{sym, ap, ◌∙◌}
use Prim.Native.Nat.{ℕ}
use Rattle.writer.specs.Writing.{heading_given, content_at}
use Rattle.writer.proofs.Content.{rule_content_lem}
use Rattle.writer.proofs.blocks.content_byte.Goals as goal

pub returns-then-k-eq0 : goal.returns-then-k-eq0
returns-then-k-eq0 c =
    let a = c.args in
    let h = heading_given a.given.now in
    c.heading_byte.ensures ∙ sym (ap (λ (m : ℕ). content_at h a.given.now.records.now m a.i) c.if-k-eq0.true)

pub returns : goal.returns
returns c =
    let a = c.args in
    let h = heading_given a.given.now in
    c.rule_byte.ensures ∙ rule_content_lem h a.given.now.records.now a.k a.i c.if-k-eq0.false
