-- `forms::merge_rows` meets its contract.
-- Assumes nothing.
use Rattle.minimalist.specs.Lexicon as paper
use mathlib.Core.Path.{sym, ap₂, subst, ◌∙◌}
use Rattle.forms.proofs.MergeRows.{merged, says_none, says_moving, says_after_entry, says_before}
use Rattle.forms.specs.declared.merges.MergeScheme.{MergeScheme}
use Rattle.forms.specs.Rows.{SaysMerge}
use Rattle.forms.proofs.merges.merge_rows.Goals as goal
use Rattle.forms.proofs.merges.merge_rows.Goals.{then-byte-eq1, else-byte-eq1}

pub returns-then-not-selects : goal.returns-then-not-selects
returns-then-not-selects c =
    let a = c.args in
    says_none a.a.now a.b.now (ap₂ paper.selects (sym c.byte.ensures) (sym c.byte-2.ensures) ∙ sym c.selects.ensures ∙ c.if-not-selects.true)

pub returns-then-byte-ne0 : goal.returns-then-byte-ne0
returns-then-byte-ne0 c =
    let a = c.args in
    let pick = ap₂ paper.selects (sym c.byte.ensures) (sym c.byte-2.ensures) ∙ sym c.selects.ensures ∙ c.if-not-selects.false in
    says_moving a.a.now a.b.now _ pick (λ z. c.if-byte-ne0.true (c.byte-3.ensures ∙ z)) c.merge_row.ensures

pub returns : goal.returns
returns c =
    let a = c.args in
    let pick = ap₂ paper.selects (sym c.byte.ensures) (sym c.byte-2.ensures) ∙ sym c.selects.ensures ∙ c.if-not-selects.false in
    let ends = sym c.byte-3.ensures ∙ c.if-byte-ne0.false in
    let row = c.merge_row-2 in
    let Says : MergeScheme → Type 0 = λ s. SaysMerge a.a.now a.b.now (merged s row.result) in
    elim c.if-byte-eq1.branch [
      | then-byte-eq1 w ↦ subst Says (sym w.scheme-is) (says_after_entry a.a.now a.b.now row.result pick ends row.ensures (sym c.byte-4.ensures ∙ w.if-byte-eq1.true))
      | else-byte-eq1 w ↦ subst Says (sym w.scheme-is) (says_before a.a.now a.b.now row.result pick ends row.ensures (λ z. w.if-byte-eq1.false (c.byte-4.ensures ∙ z)))
    ]
