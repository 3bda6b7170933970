-- `made_rules::number_of` meets its contract.
-- Assumes nothing.
use mathlib.Core.Path.{ap, ◌∙◌}
use Prim.Native.Nat.{ℕ, ◌+◌}
use native.Mathlib.Omega.{arith}
use lib.ListN.{length}
use Rattle.derivable.specs.Tables.{row_at}
use Rattle.made_rules.proofs.Places.{first_below, number_or}
use Rattle.made_rules.proofs.numbers.number_of.Goals as goal

pub category_at-requires : goal.category_at-requires
category_at-requires c =
    let rows = c.args.forms.now in
    let row = c.args.row.now in
    omega (arith, c.unwrap_or.ensures, number_or rows row c.find_row.result c.find_row.ensures, first_below (row_at rows) row 0 (length rows))

pub returns : goal.returns
returns c = c.category_at.ensures ∙ ap (λ (x : ℕ). x + 1) (c.unwrap_or.ensures ∙ number_or c.args.forms.now c.args.row.now c.find_row.result c.find_row.ensures)
