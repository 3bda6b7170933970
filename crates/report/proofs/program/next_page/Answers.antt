-- `report::next_page` meets its contract.
-- Assumes nothing.
use Rattle.report.proofs.Printing.{next_is}
use Rattle.report.proofs.program.next_page.Goals as goal

pub returns : goal.returns
returns c = next_is c.put_page.ensures
