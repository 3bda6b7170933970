-- `writer::put_checks` meets its contract.
-- Assumes nothing.
use native.Mathlib.Omega.{arith}
use Rattle.writer.proofs.Checks.{checked_more}
use Rattle.writer.proofs.blocks.put_checks.Goals as goal

pub loop-k-preserved : goal.loop-k-preserved
loop-k-preserved c =
    let e = c.put_check.ensures in
    rw e (checked_more c.args.out.now c.loop-k.out c.loop-k.k c.loop-k.invariant (omega (arith, c.requires)))
