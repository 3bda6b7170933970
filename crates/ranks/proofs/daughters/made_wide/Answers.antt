-- `ranks::daughters::made_wide` meets its contract.
-- Assumes nothing.
use mathlib.Core.Path.{◌≡◌, ap, ap₂, subst⁻¹, ◌∙◌}
use mathlib.Core.List.{List}
use Prim.Native.Nat.{ℕ, ◌+◌, ◌/◌, ◌%◌, min}
use lib.ListN.{get_or}
use Rattle.ranks.specs.Prediction.{Prediction, Sized, packed, unpacked}
use Rattle.ranks.specs.Daughters.{daughter}
use Rattle.ranks.proofs.daughters.made_wide.Goals as goal

-- what is packed, of the ranks of the cell
abbrev parts : List ℕ → ℕ → ℕ → ℕ → ℕ → ℕ → ℕ → ℕ → ℕ → ℕ → Prediction
parts b places least number category mark r0 r1 r2 r3 = record {
  least = least;
  number = mark + number;
  category = category;
  rank3 = get_or b (places / 4096 % 4) 0 + r3;
  rank2 = get_or b (places / 512 % 4) 0 + r2;
  rank1 = get_or b (places / 64 % 4) 0 + r1;
  rank0 = get_or b (places / 8 % 4) 0 + r0;
}

-- it is the daughter
is_daughter : (b : List ℕ) (cell places mark : ℕ) (r0 r1 r2 r3 n k s t l : ℕ)
    → r0 ≡ (unpacked cell).rank0 → r1 ≡ (unpacked cell).rank1 → r2 ≡ (unpacked cell).rank2 → r3 ≡ (unpacked cell).rank3
    → n ≡ (unpacked cell).number → k ≡ (unpacked cell).category
    → s ≡ min (get_or b (places / 8 % 4) 0 + r0) (get_or b (places / 64 % 4) 0 + r1)
    → t ≡ min (get_or b (places / 512 % 4) 0 + r2) (get_or b (places / 4096 % 4) 0 + r3)
    → l ≡ min s t
    → parts b places l n k mark r0 r1 r2 r3 ≡ daughter b cell places mark
is_daughter b cell places mark r0 r1 r2 r3 n k s t l e0 e1 e2 e3 en ek es et el =
    let q0 = ap (λ (r : ℕ). get_or b (places / 8 % 4) 0 + r) e0 in
    let q1 = ap (λ (r : ℕ). get_or b (places / 64 % 4) 0 + r) e1 in
    let q2 = ap (λ (r : ℕ). get_or b (places / 512 % 4) 0 + r) e2 in
    let q3 = ap (λ (r : ℕ). get_or b (places / 4096 % 4) 0 + r) e3 in
    let m = ap (λ (x : ℕ). mark + x) en in
    let least = el ∙ ap₂ min (es ∙ ap₂ min q0 q1) (et ∙ ap₂ min q2 q3) in
    λ i. record { least = least i; number = m i; category = ek i; rank3 = q3 i; rank2 = q2 i; rank1 = q1 i; rank0 = q0 i }

pub pack-requires : goal.pack-requires
pack-requires c =
    let a = c.args in
    subst⁻¹ Sized (is_daughter a.b.now a.cell a.places a.mark _ _ _ _ _ _ _ _ _ c.rank.ensures c.rank-2.ensures c.rank-3.ensures c.rank-4.ensures c.number.ensures (c.from.ensures ∙ c.category.ensures.0) c.min.ensures c.min-2.ensures c.min-least.ensures) c.requires.1

pub returns : goal.returns
returns c =
    let a = c.args in
    c.pack.ensures
    ∙ ap packed (is_daughter a.b.now a.cell a.places a.mark _ _ _ _ _ _ _ _ _ c.rank.ensures c.rank-2.ensures c.rank-3.ensures c.rank-4.ensures c.number.ensures (c.from.ensures ∙ c.category.ensures.0) c.min.ensures c.min-2.ensures c.min-least.ensures)
