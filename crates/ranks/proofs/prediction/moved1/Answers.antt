-- `ranks::prediction::moved1` meets its contract.
-- Assumes nothing.
use mathlib.Core.Path.{◌≡◌}
use mathlib.Core.List.{[], ◌∷◌}
use Prim.Native.Nat.{◌+◌, ◌*◌}
use native.Mathlib.Omega.{arith}
use Rattle.ranking.specs.Ranks.{above, shifted}
use Rattle.ranks.specs.Prediction.{unpacked, packed, marks, remade}
use Rattle.ranks.proofs.Lanes.{marked_flags, marked_spread}
use Rattle.ranks.proofs.Moved.{less_two, marks_small, moved1_sum}
use Rattle.ranks.proofs.prediction.moved1.Goals as goal

module _ (c : goal.After-spread) where
  -- what is spread: the length, above f1
  spread_is : c.spread.result ≡ packed (marks (above c.args.f1 c.args.len1) (unpacked c.args.x))
  spread_is =
      let a = c.args in
      let r = c.reached-t1 in
      marked_spread a.f1 (unpacked a.x) r.result a.len1 c.spread.result r.ensures c.spread.ensures

  sum : remade (shifted (0 ∷ (c.args.f1 ∷ [])) (c.args.len0 ∷ (c.args.len1 ∷ []))) c.args.x + c.reached-t1.result + 2251799948165633 ≡ c.args.x + c.args.len0 * 2251799948165633 + c.spread.result
  sum =
      let a = c.args in
      moved1_sum a.x a.len0 a.f1 a.len1 c.reached-t1.result c.spread.result c.requires.1 c.requires.2 c.reached-t1.ensures spread_is

pub spread-requires : goal.spread-requires
spread-requires c =
    let a = c.args in
    (marked_flags a.f1 (unpacked a.x) c.reached-t1.result c.reached-t1.ensures, c.requires.5)

pub overflow_add-result-2 : goal.overflow_add-result-2
overflow_add-result-2 c =
    let a = c.args in
    let p = c.requires in
    let s = marks_small a.f1 a.len1 (unpacked a.x) p.5 in
    record { fits = omega (arith, s, spread_is c, p.0.least, p.3) }

pub overflow_sub-result : goal.overflow_sub-result
overflow_sub-result c = omega (arith, sum c)

pub overflow_sub-result-2 : goal.overflow_sub-result-2
overflow_sub-result-2 c = omega (arith, sum c)

pub returns : goal.returns
returns c =
    let a = c.args in
    less_two (remade (shifted (0 ∷ (a.f1 ∷ [])) (a.len0 ∷ (a.len1 ∷ []))) a.x) c.reached-t1.result 2251799948165633 (a.x + a.len0 * 2251799948165633 + c.spread.result) (sum c)
