-- `made_records::put_record` meets its contract.
-- Assumes nothing.
use mathlib.Core.Path.{◌≡◌}
use Prim.Native.Nat.{ℕ, ◌+◌, ◌*◌, ◌<◌}
use lib.ListN.{length, get_or}
use Rattle.made_records.specs.Records.{record_byte}
use Rattle.made_records.proofs.put_record.Given as goal

abbrev pub invariant-loop-p : goal.invariant-loop-p
invariant-loop-p l = (length l.records ≡ length l.initial.records)
    × ((q : ℕ) → q < l.p → get_or l.records (24 * l.k + q) 0 ≡ record_byte l.front l.shape q) × ((q : ℕ) → q < 24 * l.k → get_or l.records q 0 ≡ get_or l.initial.records q 0)
