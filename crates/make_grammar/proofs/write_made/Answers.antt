-- `make_grammar::write_made` meets its contract.
-- Assumes nothing.
use native.Mathlib.Omega.{arith}
use mathlib.Core.Path.{ap, ap₂, ◌∙◌}
use mathlib.Core.List.{List, ◌++◌}
use Prim.Native.Nat.{ℕ, ◌*◌}
use lib.ListN.{length, drop}
use borrow.Rule.Slice.PartMut.{Post-is}
use Rattle.model.specs.Writer.{Heading, file_of}
use Rattle.make_grammar.specs.Making.{made_heading}
use Rattle.make_grammar.proofs.Outcome.{no_room_left, room_left, heading_made}
use Rattle.make_grammar.proofs.write_made.Goals as goal

pub returns-then-out-n : goal.returns-then-out-n
returns-then-out-n c =
    let a = c.args in
    let n = c.blocks_for-n in
    record { writes = λ forms l. no_room_left (ap (λ (m : ℕ). 512 * m) n.ensures) (omega (arith, c.if-out-n.true)) }

pub returns : goal.returns
returns c =
    let a = c.args in
    let n = c.blocks_for-n in
    let dims = c.dimensions.ensures in
    record {
      writes = λ forms l.
          room_left {file = file_of (made_heading a.words a.rules forms) a.records.now} (ap (λ (m : ℕ). 512 * m) n.ensures)
          (omega (arith, c.if-out-n.false)) _
          (ap₂ (λ (x y : List ℕ). x ++ y) c.put_file.ensures (Post-is 0 (512 * n.result) a.out.now (omega arith))
          ∙ ap (λ (h : Heading). file_of h a.records.now ++ drop (512 * n.result) a.out.now) (heading_made (length a.forms.now) a.words a.rules _ forms l.1 (dims forms l)));
    }
