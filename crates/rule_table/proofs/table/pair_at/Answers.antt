-- `rule_table::table::pair_at` meets its contract.
-- Assumes nothing.
use Rattle.std.specs.Prelude.{if◌then◌else◌}
use mathlib.Core.Path.{◌≡◌, sym, ap, ap₂, ◌∙◌}
use Prim.Native.Nat.{ℕ, ◌+◌, ◌*◌, ◌%◌}
use native.Mathlib.Omega.{arith}
use lib.Dec.{ltb}
use borrow.Author.Rules.{rules}
use Rattle.model.specs.GrammarFile.{dimension_in}
use Rattle.ranks.specs.Prediction.{packed}
use Rattle.rule_table.specs.declared.places.Stand.{Stand}
use Rattle.rule_table.specs.Places.{stand_of, stand_in}
use Rattle.rule_table.specs.Cells.{width}
use Rattle.rule_table.proofs.Standing.{stand_zero}
use Rattle.rule_table.proofs.table.pair_at.Goals as goal

pub pack-cell-requires : goal.pack-cell-requires
pack-cell-requires c = record { lanes = search rules; number = omega arith; category = omega arith }

pub returns : goal.returns
returns c =
    let a = c.args in
    let d = a.d.now in
    let e = a.e.now in
    let k = c.record_daughter-a.ensures in
    let m = c.from-n in
    let w : m.result ≡ width d e a.j = m.ensures ∙ c.dimension_in.ensures ∙ ap (dimension_in d) k in
    let z = c.stand_of-s0 in
    let s0 : z.result ≡ stand_in e (width d e a.j) a.j 0 = z.ensures.0 ∙ sym (stand_zero e (width d e a.j) a.j) in
    let s1 : c.stand_or-s1.result ≡ stand_in e (width d e a.j) a.j 1 = c.stand_or-s1.ensures.0 ∙ ap₂ (λ (n : ℕ) (y : Stand). if ltb 1 n then stand_of e a.j 1 else y) w z.ensures.0 in
    let s2 : c.stand_or-s2.result ≡ stand_in e (width d e a.j) a.j 2 = c.stand_or-s2.ensures.0 ∙ ap₂ (λ (n : ℕ) (y : Stand). if ltb 2 n then stand_of e a.j 2 else y) w z.ensures.0 in
    let s3 : c.stand_or-s3.result ≡ stand_in e (width d e a.j) a.j 3 = c.stand_or-s3.ensures.0 ∙ ap₂ (λ (n : ℕ) (y : Stand). if ltb 3 n then stand_of e a.j 3 else y) w z.ensures.0 in
    let b = c.from-b.ensures ∙ k in
    let q = c.pack-cell.ensures ∙ ap packed (λ i. record { least = 0; number = a.j; category = b i % 64; rank3 = (s3 i).position; rank2 = (s2 i).position; rank1 = (s1 i).position; rank0 = (s0 i).position }) in
    λ i. record { cell = q i; places = w i + 8 * ((s0 i).component + 8 * ((s1 i).component + 8 * ((s2 i).component + 8 * (s3 i).component))) }
