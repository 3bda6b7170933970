-- `ranks::moves::bases` meets its contract.
-- Assumes nothing.
use mathlib.Core.Path.{◌≡◌, ap, ap₂, subst⁻¹, ◌∙◌}
use mathlib.Core.List.{List}
use Prim.Native.Nat.{ℕ}
use native.Mathlib.Omega.{arith}
use Rattle.ranking.specs.Ranks.{shifted}
use Rattle.ranks.specs.Prediction.{Sized, Short, Apart, unpacked, packed, ranks, remade}
use Rattle.ranks.specs.Moves.{lengths_of, Small, begun, Begins}
use Rattle.ranks.proofs.Packing.{unpacked_packed}
use Rattle.ranks.proofs.moves.bases.Goals as goal

ranks_small : (x : ℕ) → Short (unpacked x) → Small (ranks (unpacked x))
ranks_small x h = record { c0 = h.rank0; c1 = h.rank1; c2 = h.rank2; c3 = h.rank3 }

lengths_small : (x lens : ℕ) → Begins x lens → Small (lengths_of lens)
lengths_small x lens h = record { c0 = h.len0; c1 = h.len1; c2 = h.len2; c3 = h.len3 }

pub moved4-requires : goal.moved4-requires
moved4-requires c =
    let x = c.args.front in
    let p = c.requires in
    let f = c.ranks_of in
    let n = c.lengths_of in (
      p.short,
      subst⁻¹ (λ (ks : List ℕ). Apart ks n.result (unpacked x)) f.ensures (subst⁻¹ (λ (ns : List ℕ). Apart (ranks (unpacked x)) ns (unpacked x)) n.ensures p.apart),
      subst⁻¹ Small f.ensures (ranks_small x p.short),
      subst⁻¹ Small n.ensures (lengths_small x c.args.lens p),
    )

pub returns : goal.returns
returns c =
    let x = c.args.front in
    let l = c.args.lens in
    let f = c.ranks_of in
    let n = c.lengths_of in
    let m = c.moved4 in
    let y : m.result ≡ packed (begun x l) = m.ensures ∙ ap₂ (λ (ks ns : List ℕ). remade (shifted ks ns) x) f.ensures n.ensures in
    let z : Sized (begun x l) = record { lanes = c.requires.after; number = omega arith; category = omega arith } in
    c.ranks_of-2.ensures ∙ ap (λ (p : ℕ). ranks (unpacked p)) y ∙ ap ranks (unpacked_packed (begun x l) z)
