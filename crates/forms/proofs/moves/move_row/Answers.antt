-- `forms::move_row` meets its contract.
-- Assumes nothing.
use Rattle.std.proofs.Common.{rules, arith}
use Rattle.minimalist.specs.Lexicon.{is_licensor}
use mathlib.Core.Path.{sym, ap, subst, ◌∙◌}
use Rattle.forms.specs.declared.moves.MoveScheme.{MoveScheme}
use Rattle.forms.specs.Rows.{move_byte, FilledBy, SaysMove}
use Rattle.forms.proofs.Made.{filled_from}
use Rattle.forms.proofs.MoveForms.{moved, says_no_licensor, says_not_one, some_begins, says_ends, says_stays}
use Rattle.forms.proofs.moves.move_row.Goals as goal
use Rattle.forms.proofs.moves.move_row.Goals.{then-byte-eq0, else-byte-eq0, then-not-is_licensor-via-then-not-is_licensor, then-not-is_licensor-via-else-not-is_licensor+then-how_many-ne1}

pub returns-then-not-is_licensor : goal.returns-then-not-is_licensor
returns-then-not-is_licensor c =
    let x = c.args.a.now in
    elim c.then-not-is_licensor.branch [
      | then-not-is_licensor-via-then-not-is_licensor w ↦ says_no_licensor x (ap is_licensor (sym c.byte-f.ensures) ∙ sym c.is_licensor.ensures ∙ w.if-not-is_licensor.true)
      | then-not-is_licensor-via-else-not-is_licensor+then-how_many-ne1 w ↦ says_not_one x c.byte-f.result c.movers-n.result c.byte-f.ensures c.movers-n.ensures.0 (sym c.is_licensor.ensures ∙ w.if-not-is_licensor.false) (λ z. w.if-how_many-ne1.true (w.how_many.ensures ∙ z))
    ]

pub returns-in_err-t : goal.returns-in_err-t
returns-in_err-t c =
    let x = c.args.a.now in
    let licensor = sym c.is_licensor.ensures ∙ c.if-not-is_licensor.false in
    let one = sym c.how_many.ensures ∙ c.if-how_many-ne1.false in
    let here = some_begins x c.byte-f.result c.movers-n.result c.byte-f.ensures c.movers-n.ensures.0 licensor one in
    let z : ⊥ = omega (arith, here, c.in_err-t.ensures) in
    absurd z

pub returns : goal.returns
returns c =
    let x = c.args.a.now in
    let f = c.byte-f in
    let n = c.movers-n in
    let licensor = sym c.is_licensor.ensures ∙ c.if-not-is_licensor.false in
    let one = sym c.how_many.ensures ∙ c.if-how_many-ne1.false in
    let t = c.in_ok-t.t in
    let row = c.from_fn-row.result in
    let place = c.in_ok-t.ensures.1 in
    let scheme = c.if-byte-eq0.scheme in
    let Says : MoveScheme → Type 0 = λ s. FilledBy (move_byte x n.result t s) row → SaysMove x (moved s t row) in
    let says : Says scheme = elim c.if-byte-eq0.branch [
      | then-byte-eq0 w ↦ subst Says (sym w.scheme-is) (says_ends x f.result n.result f.ensures n.ensures.0 licensor one t place row (sym c.byte.ensures ∙ w.if-byte-eq0.true))
      | else-byte-eq0 w ↦ subst Says (sym w.scheme-is) (says_stays x f.result n.result f.ensures n.ensures.0 licensor one t place row (λ z. w.if-byte-eq0.false (c.byte.ensures ∙ z)))
    ] in
    says (filled_from (move_byte x n.result t scheme) c.from_fn-row.ensures.items (λ i y q k. search rules))
