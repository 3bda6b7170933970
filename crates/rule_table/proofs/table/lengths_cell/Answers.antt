-- `rule_table::table::lengths_cell` meets its contract.
-- Assumes nothing.
use Rattle.std.specs.Prelude.{if◌then◌else◌}
use mathlib.Core.Path.{◌≡◌, ap, ◌∙◌}
use Prim.Native.Nat.{ℕ, ◌+◌}
use native.Mathlib.Omega.{arith}
use lib.Dec.{ltb}
use Rattle.model.specs.GrammarFile.{field, dimension_in}
use Rattle.rule_table.specs.Cells.{dimension_of, length_in}
use Rattle.rule_table.proofs.table.lengths_cell.Goals as goal

pub returns : goal.returns
returns c =
    let a = c.args in
    let d = a.d.now in
    let e = a.e.now in
    let k = c.record_category.ensures in
    let m = c.from-m in
    let w : m.result ≡ dimension_of d e = m.ensures ∙ c.dimension_in.ensures ∙ ap (dimension_in d) k in
    let n0 : c.length_in-n0.result ≡ length_in d e 0 = c.length_in-n0.ensures.0 ∙ ap (λ (n : ℕ). if ltb 0 n then field e (7 + 0) else 1) w in
    let n1 : c.length_in-n1.result ≡ length_in d e 1 = c.length_in-n1.ensures.0 ∙ ap (λ (n : ℕ). if ltb 1 n then field e (7 + 1) else 1) w in
    let n2 : c.length_in-n2.result ≡ length_in d e 2 = c.length_in-n2.ensures.0 ∙ ap (λ (n : ℕ). if ltb 2 n then field e (7 + 2) else 1) w in
    let n3 : c.length_in-n3.result ≡ length_in d e 3 = c.length_in-n3.ensures.0 ∙ ap (λ (n : ℕ). if ltb 3 n then field e (7 + 3) else 1) w in
    omega (arith, n0, n1, n2, n3)
