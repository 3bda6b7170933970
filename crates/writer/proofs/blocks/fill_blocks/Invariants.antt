-- `writer::fill_blocks` meets its contract.
-- Assumes nothing.
use mathlib.Core.Path.{◌≡◌}
use Prim.Native.Nat.{ℕ, ◌/◌, ◌%◌, ◌<◌}
use lib.ListN.{length, get_or}
use Rattle.writer.specs.Writing.{heading_given, content_at}
use Rattle.writer.proofs.blocks.fill_blocks.Given as goal

abbrev pub invariant-loop-p : goal.invariant-loop-p
invariant-loop-p l = (length l.out ≡ length l.initial.out) × ((q : ℕ) → q < l.p → get_or l.out q 0 ≡ content_at (heading_given l.given) l.given.records.now (q / 512) (q % 512))
