-- `forms::start_row` meets its contract.
-- Assumes nothing.
use Rattle.std.proofs.Common.{rules}
use Rattle.minimalist.specs.Made.{start_form}
use Rattle.forms.specs.Rows.{start_byte}
use Rattle.forms.proofs.Made.{filled_from}
use Rattle.forms.proofs.RowForms.{filled_row, start_row}
use Rattle.forms.proofs.forms.start_row.Goals as goal

pub returns : goal.returns
returns c =
    let a = c.args in
    filled_row (start_form a.start a.lexical) (start_byte a.start a.lexical) (start_row a.start a.lexical) _ (filled_from (start_byte a.start a.lexical) c.from_fn.ensures.items (λ i y q k. search rules))
