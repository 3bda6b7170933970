-- `report::put_page` meets its contract.
-- Assumes nothing.
use Rattle.report.proofs.Printing.{walks_here, put_more, put_last}
use native.Mathlib.Omega.{arith}
use Rattle.report.proofs.program.put_page.Goals as goal

pub fill-requires : goal.fill-requires
fill-requires c = (walks_here c.args.rest _ c.heard.ensures c.requires.0, omega (arith, c.requires.1))

pub returns-in-More : goal.returns-in-More
returns-in-More c = put_more c.args.rest c.args.place c.args.out.now _ _ _ c.heard.ensures _ (rw c.in-More.is at c.fill.ensures) c.requires.1

pub returns-in-Last : goal.returns-in-Last
returns-in-Last c = put_last c.args.rest c.args.place c.args.out.now _ _ _ c.heard.ensures _ (rw c.in-Last.is at c.fill.ensures)
