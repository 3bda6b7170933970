-- `report::refused_page` meets its contract.
-- Assumes nothing.
use Rattle.report.proofs.Printing.{refused_page}
use Rattle.report.proofs.program.refused_page.Goals as goal

pub returns : goal.returns
returns c = refused_page _ c.put_verdict.ensures
