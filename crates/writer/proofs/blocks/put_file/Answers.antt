-- `writer::put_file` meets its contract.
-- Assumes nothing.
use mathlib.Core.Path.{◌∙◌}
use Rattle.writer.specs.Writing.{heading}
use Rattle.writer.proofs.Checks.{file_put}
use Rattle.writer.proofs.blocks.put_file.Goals as goal

pub returns : goal.returns
returns c =
    let a = c.args in
    let h = heading a.categories a.start a.words a.rules a.dimensions.now in
    let filled = c.fill_blocks.ensures in
    file_put h a.records.now _ _ (filled.0 ∙ c.requires) filled.1 (rw c.blocks_for.ensures at c.put_checks.ensures)
