-- `ranks::daughters::made_two` meets its contract.
-- Assumes nothing.
use mathlib.Core.Path.{◌≡◌, ap, ap₂, subst⁻¹, ◌∙◌}
use Prim.Native.Nat.{ℕ, ◌+◌, ◌*◌, ◌<◌, min}
use native.Mathlib.Omega.{arith}
use Rattle.ranks.specs.Prediction.{unpacked}
use Rattle.ranks.proofs.TwoComponents.{no_least, least_small, two_made}
use Rattle.ranks.proofs.daughters.made_two.Goals as goal

-- the lesser of the two ranks
module _ (c : goal.After-min) where
  abbrev z : ℕ
  z = c.lifted-y.result

  least_is : c.min.result ≡ min (unpacked z).rank0 (unpacked z).rank1
  least_is = c.min.ensures ∙ ap₂ min c.rank.ensures c.rank-2.ensures

pub overflow_add-far0 : goal.overflow_add-far0
overflow_add-far0 c = record { fits = omega (arith, c.requires.one_of_two) }

pub overflow_add-far1 : goal.overflow_add-far1
overflow_add-far1 c = record { fits = omega (arith, c.requires.one_of_two) }

pub lifted-y-requires : goal.lifted-y-requires
lifted-y-requires c =
    let p = c.requires in
    (p.at_most_two.least, omega arith, omega arith, p.base_small, omega (arith, p.sized.number))

pub with_least-requires : goal.with_least-requires
with_least-requires c =
    let a = c.args in
    let e = c.lifted-y.ensures in (
      subst⁻¹ (λ (n : ℕ). (unpacked n).least ≡ 0) e (no_least a.cell a.places a.lowest a.base a.mark c.requires),
      subst⁻¹ (λ (n : ℕ). n < 512) (least_is c ∙ ap (λ (n : ℕ). min (unpacked n).rank0 (unpacked n).rank1) e) (least_small a.cell a.places a.lowest a.base a.mark c.requires),
    )

pub returns : goal.returns
returns c =
    let a = c.args in
    let e = c.lifted-y.ensures in
    c.with_least.ensures
    ∙ ap₂ (λ (n l : ℕ). n + l * 2251799813685248) e (least_is c.before ∙ ap (λ (n : ℕ). min (unpacked n).rank0 (unpacked n).rank1) e)
    ∙ two_made a.cell a.places a.lowest a.base a.mark c.requires
