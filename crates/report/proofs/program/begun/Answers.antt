-- `report::begun` meets its contract.
-- Assumes nothing.
use mathlib.Core.Path.{refl, ap}
use lib.ListN.{take}
use Rattle.model.specs.Program.{program_limit}
use Rattle.steps.specs.declared.Standing.{Standing}
use Rattle.analyses.proofs.Limits.{ranges}
use Rattle.report.proofs.Printing.{walk_begins}
use Rattle.report.proofs.program.begun.Goals as goal

pub first-walk-requires : goal.first-walk-requires
first-walk-requires c = c.requires.0

pub first_of_listing-requires : goal.first_of_listing-requires
first_of_listing-requires c = let r = ranges c.args.n program_limit c.requires.1 in (r.nodes_some, r.nodes_few)

pub returns : goal.returns
returns c = λ file accepted tables start.
    let a = c.args in
    let w = c.first-walk.ensures in
    let v = walk_begins file accepted a.tables.rules a.tables.chain (take a.sentence.spoken a.sentence.words) c.first-walk.result.queues _ _ a.n _ _ tables start w.0 w.1 w.2 c.requires.1 c.first_of_listing.ensures in
    record {
      goes_on = record { sentence_is = refl; walking = v.0; steps_are = v.1 };
      at_start = ap (λ (t : Standing). t.steps) c.first_of_listing.ensures;
    }
