-- `forms::left_out` meets its contract.
-- Assumes nothing.
use Rattle.forms.specs.Rows.{wrong_firsts, firsts_in}
use Prim.Native.Nat.{ℕ}
use mathlib.Core.Path.{sym, ap, ◌∙◌}
use borrow.Author.Tests.{eq-eqb}
use Rattle.forms.proofs.RowForms.{empty_left, movers_left}
use Rattle.forms.proofs.forms.left_out.Goals as goal

pub returns-then-byte-eq0 : goal.returns-then-byte-eq0
returns-then-byte-eq0 c = λ a s r. eq-eqb c.byte.result 0 c.if-byte-eq0.true ∙ sym (empty_left a s c.args.row.now r (sym c.byte.ensures ∙ c.if-byte-eq0.true))

pub returns-else-byte-eq0 : goal.returns-else-byte-eq0
returns-else-byte-eq0 c = λ a s r.
    let row = c.args.row.now in
    c.wrong_moving.ensures ∙ ap (λ (n : ℕ). wrong_firsts (firsts_in row 0 n)) c.movers.ensures.0 ∙ movers_left a s row r (λ z. c.if-byte-eq0.false (c.byte.ensures ∙ z))
