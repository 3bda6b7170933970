-- `made_records::put_record` meets its contract.
-- Assumes nothing.
use native.Mathlib.Omega.{arith}
use Prim.Native.Nat.{◌*◌}
use Rattle.made_records.specs.Records.{record_byte}
use Rattle.made_records.proofs.RecordLaws.{put_new, put_old}
use borrow.Author.Rules.{rules}
use Rattle.made_records.proofs.put_record.Goals as goal

pub loop-p-preserved : goal.loop-p-preserved
loop-p-preserved c =
    let t = c.loop-p in
    let a = c.args in
    (search rules, put_new (record_byte a.front.now a.shape) t.records a.records.now (24 * a.k) t.p c.record_byte.result (omega (arith, t.invariant.0)) c.record_byte.ensures t.invariant.1, put_old (record_byte a.front.now a.shape) t.records a.records.now (24 * a.k) t.p c.record_byte.result t.invariant.2)

pub returns : goal.returns
returns c = let t = c.loop-p in record { long = t.invariant.0; new = λ p h. t.invariant.1 p (omega arith); old = t.invariant.2 }
