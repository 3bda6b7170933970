-- `lines::put_verdict` meets its contract.
-- Assumes nothing.
use Rattle.lines.proofs.put_verdict.Goals as goal

pub returns-in-Ok : goal.returns-in-Ok
returns-in-Ok c = rw c.in-Ok.is c.put_count.ensures

pub returns-in-Err : goal.returns-in-Err
returns-in-Err c = rw c.in-Err.is c.put_refusal.ensures
