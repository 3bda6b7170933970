-- `forms::entry_row` meets its contract.
-- Assumes nothing.
use Rattle.std.proofs.Common.{rules}
use Rattle.minimalist.specs.Schemes.{lexical_form}
use Rattle.minimalist.specs.Lexicon.{entry_of}
use Rattle.forms.specs.Rows.{entry_byte}
use Rattle.forms.proofs.Made.{filled_from}
use Rattle.forms.proofs.RowForms.{filled_row, entry_found}
use Rattle.forms.proofs.forms.entry_row.Goals as goal

pub returns : goal.returns
returns c =
    let e = c.args.e.now in
    let six = c.fields-six.result.now in
    let n = c.before_zero-n.result in
    filled_row (lexical_form (entry_of e)) (entry_byte six n) (entry_found e six n c.fields-six.ensures c.before_zero-n.ensures) _ (filled_from (entry_byte six n) c.from_fn.ensures.items (λ i y q k. search rules))
