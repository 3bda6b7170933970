-- `writer::put_check` meets its contract.
-- Assumes nothing.
use mathlib.Core.Path.{ap, ◌∙◌}
use Prim.Native.Nat.{◌+◌, ◌*◌}
use native.Mathlib.Omega.{arith}
use Rattle.model.specs.GrammarFile.{check_of}
use Rattle.model.specs.Writer.{little4}
use Rattle.writer.proofs.Checks.{little_bytes, check_put}
use Rattle.writer.proofs.blocks.put_check.Goals as goal

pub returns : goal.returns
returns c =
    let a = c.args in
    check_put a.out.now c.copy_from_slice.new.self (512 * a.k + 508) (check_of a.out.now a.k) (omega (arith, c.requires))
    (c.copy_from_slice.ensures.after ∙ c.to_le_bytes.ensures ∙ little_bytes c.check_from-sum.result ∙ ap little4 c.check_from-sum.ensures)
