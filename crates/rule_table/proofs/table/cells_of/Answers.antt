-- `rule_table::table::cells_of` meets its contract.
-- Assumes nothing.
use Rattle.std.specs.Prelude.{if◌then◌else◌}
use mathlib.Core.Path.{◌≡◌, sym, ap, subst⁻¹, ◌∙◌}
use mathlib.Core.Bool.{Bool}
use mathlib.Core.List.{[], ◌∷◌}
use Prim.Native.Nat.{ℕ}
use native.Mathlib.Omega.{arith}
use borrow.Author.Tests.{eq-eqb, ne_eqb}
use lib.ListN.{get_or}
use Rattle.model.specs.GrammarFile.{field, dimension_in}
use Rattle.ranks.specs.Prediction.{Sized, packed}
use Rattle.ranks.specs.Daughters.{daughter}
use Rattle.rule_table.specs.declared.table.Pair.{Pair}
use Rattle.rule_table.specs.Cells.{zeros, dimension_of, ready_cell, in_order, ready, lexical_cells, narrow_cells, wide_cells, some_cells}
use Rattle.rule_table.proofs.Sizes.{ready_sized}
use Rattle.rule_table.proofs.table.cells_of.Goals as goal

pub returns-then-n-eq0 : goal.returns-then-n-eq0
returns-then-n-eq0 c =
    let a = c.args in
    let d = a.d.now in
    let e = a.e.now in
    let h = c.head_cell-head.ensures in
    (λ i. h i ∷ (0 ∷ (0 ∷ (0 ∷ (0 ∷ (0 ∷ (0 ∷ (0 ∷ []))))))))
    ∙ sym (ap (λ (b : Bool). if b then lexical_cells d e else some_cells d e) (eq-eqb (field e 1) 0 (sym c.record_daughters-n.ensures ∙ c.if-n-eq0.true)))

pub ready-requires : goal.ready-requires
ready-requires c =
    let a = c.args in
    subst⁻¹ (λ (p : Pair). Sized (daughter zeros p.cell p.places 0)) c.pair_of-p0.ensures (ready_sized a.d.now a.e.now 0 (omega arith))

pub ready-requires-then-dimension_in-eq1 : goal.ready-requires-then-dimension_in-eq1
ready-requires-then-dimension_in-eq1 c =
    let a = c.args in
    subst⁻¹ (λ (p : Pair). Sized (daughter zeros p.cell p.places 0)) c.pair_of-p1.ensures (ready_sized a.d.now a.e.now 1 (omega arith))

pub ready-requires-then-dimension_in-eq1-2 : goal.ready-requires-then-dimension_in-eq1-2
ready-requires-then-dimension_in-eq1-2 c =
    let a = c.args in
    subst⁻¹ (λ (p : Pair). Sized (daughter zeros p.cell p.places 0)) c.pair_of-p2.ensures (ready_sized a.d.now a.e.now 2 (omega arith))

pub returns-then-dimension_in-eq1 : goal.returns-then-dimension_in-eq1
returns-then-dimension_in-eq1 c =
    let a = c.args in
    let d = a.d.now in
    let e = a.e.now in
    let w : c.dimension_in.result ≡ dimension_of d e = c.dimension_in.ensures ∙ ap (dimension_in d) c.record_category.ensures in
    let of : Pair → ℕ = λ p. packed (daughter zeros p.cell p.places 0) in
    let x : c.ready.result ≡ ready_cell d e 0 = c.ready.ensures ∙ ap of c.pair_of-p0.ensures in
    let y : c.ready-then-dimension_in-eq1.result ≡ ready_cell d e 1 = c.ready-then-dimension_in-eq1.ensures ∙ ap of c.pair_of-p1.ensures in
    let z : c.ready-then-dimension_in-eq1-2.result ≡ ready_cell d e 2 = c.ready-then-dimension_in-eq1-2.ensures ∙ ap of c.pair_of-p2.ensures in
    let n = c.record_daughters-n.ensures in
    let o : c.in_order-t.result ≡ ready d e = c.in_order-t.ensures ∙ (λ i. in_order (n i) (x i) (y i) (z i)) in
    let h = c.head_cell-head.ensures in
    let l = c.lengths_cell-lens.ensures in
    (λ i. h i ∷ (l i ∷ (get_or (o i) 0 0 ∷ (0 ∷ (get_or (o i) 1 0 ∷ (0 ∷ (get_or (o i) 2 0 ∷ (0 ∷ []))))))))
    ∙ sym (ap (λ (b : Bool). if b then lexical_cells d e else some_cells d e) (ne_eqb (field e 1) 0 (λ q. c.if-n-eq0.false (c.record_daughters-n.ensures ∙ q)))
    ∙ ap (λ (b : Bool). if b then narrow_cells d e else wide_cells d e) (eq-eqb (dimension_of d e) 1 (sym w ∙ c.if-dimension_in-eq1.true)))

pub returns-else-dimension_in-eq1 : goal.returns-else-dimension_in-eq1
returns-else-dimension_in-eq1 c =
    let a = c.args in
    let d = a.d.now in
    let e = a.e.now in
    let w : c.dimension_in.result ≡ dimension_of d e = c.dimension_in.ensures ∙ ap (dimension_in d) c.record_category.ensures in
    let h = c.head_cell-head.ensures in
    let l = c.lengths_cell-lens.ensures in
    let x = c.pair_of-p0.ensures in
    let y = c.pair_of-p1.ensures in
    let z = c.pair_of-p2.ensures in
    (λ i. h i ∷ (l i ∷ ((x i).cell ∷ ((x i).places ∷ ((y i).cell ∷ ((y i).places ∷ ((z i).cell ∷ ((z i).places ∷ []))))))))
    ∙ sym (ap (λ (b : Bool). if b then lexical_cells d e else some_cells d e) (ne_eqb (field e 1) 0 (λ q. c.if-n-eq0.false (c.record_daughters-n.ensures ∙ q)))
    ∙ ap (λ (b : Bool). if b then narrow_cells d e else wide_cells d e) (ne_eqb (dimension_of d e) 1 (λ q. c.if-dimension_in-eq1.false (w ∙ q))))
