-- `lines::put_bytes` meets its contract.
-- Assumes nothing.
use Rattle.lines.proofs.Placed.{put_part}
use Rattle.lines.proofs.put_bytes.Goals as goal

pub returns : goal.returns
returns c = let a = c.args in put_part a.out.now c.copy_from_slice.new.self a.bytes.now a.at c.requires c.copy_from_slice.ensures.after
