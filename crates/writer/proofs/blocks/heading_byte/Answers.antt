-- `writer::heading_byte` meets its contract.
-- Assumes nothing.
use mathlib.Core.Path.{ap, ◌∙◌}
use mathlib.Core.List.{List}
use Prim.Native.Nat.{ℕ, ◌-◌}
use lib.ListN.{get_or}
use Rattle.writer.specs.Writing.{heading_given}
use Rattle.writer.proofs.Content.{heading_dimension}
use Rattle.writer.proofs.blocks.heading_byte.Goals as goal

pub returns-then-i-ge16 : goal.returns-then-i-ge16
returns-then-i-ge16 c =
    let a = c.args in
    let h = heading_given a.given.now in
    c.byte.ensures ∙ ap (λ (l : List ℕ). get_or l (a.i - 16) 0) c.fields.ensures ∙ heading_dimension h a.i c.if-i-ge16.true
