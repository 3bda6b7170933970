-- `ranks::prediction::moved3` meets its contract.
-- Assumes nothing.
use mathlib.Core.Path.{◌≡◌}
use mathlib.Core.List.{[], ◌∷◌}
use Prim.Native.Nat.{ℕ, ◌+◌, ◌*◌, ◌<◌}
use native.Mathlib.Omega.{arith}
use Rattle.ranking.specs.Ranks.{above, shifted}
use Rattle.ranks.specs.Prediction.{unpacked, packed, marks, remade}
use Rattle.ranks.proofs.Lanes.{marked_flags, marked_spread}
use Rattle.ranks.proofs.Moved.{less_four, first_fits, second_fits, third_fits, last_fits, marks_small, moved3_sum}
use Rattle.ranks.proofs.prediction.moved3.Goals as goal

module _ (c : goal.After-spread) where
  spread1_is : c.spread.result ≡ packed (marks (above c.args.m.f1 c.args.m.len1) (unpacked c.args.x))
  spread1_is =
      let a = c.args in
      let r = c.reached-t1 in
      marked_spread a.m.f1 (unpacked a.x) r.result a.m.len1 c.spread.result r.ensures c.spread.ensures

  spread1_small : c.spread.result < 576460752303423488
  spread1_small =
      let m = marks_small c.args.m.f1 c.args.m.len1 (unpacked c.args.x) c.requires.3.len1 in
      small m spread1_is
    where
      small : {a b : ℕ} → b < 576460752303423488 → a ≡ b → a < 576460752303423488
      small h e = omega arith

module _ (c : goal.After-spread-2) where
  spread2_is : c.spread-2.result ≡ packed (marks (above c.args.m.f2 c.args.m.len2) (unpacked c.args.x))
  spread2_is =
      let a = c.args in
      let r = c.reached-t2 in
      marked_spread a.m.f2 (unpacked a.x) r.result a.m.len2 c.spread-2.result r.ensures c.spread-2.ensures

  spread2_small : c.spread-2.result < 576460752303423488
  spread2_small =
      let m = marks_small c.args.m.f2 c.args.m.len2 (unpacked c.args.x) c.requires.3.len2 in
      small m spread2_is
    where
      small : {a b : ℕ} → b < 576460752303423488 → a ≡ b → a < 576460752303423488
      small h e = omega arith

module _ (c : goal.After-spread-3) where
  spread3_is : c.spread-3.result ≡ packed (marks (above c.args.m.f3 c.args.m.len3) (unpacked c.args.x))
  spread3_is =
      let a = c.args in
      let r = c.reached-t3 in
      marked_spread a.m.f3 (unpacked a.x) r.result a.m.len3 c.spread-3.result r.ensures c.spread-3.ensures

  spread3_small : c.spread-3.result < 576460752303423488
  spread3_small =
      let m = marks_small c.args.m.f3 c.args.m.len3 (unpacked c.args.x) c.requires.3.len3 in
      small m spread3_is
    where
      small : {a b : ℕ} → b < 576460752303423488 → a ≡ b → a < 576460752303423488
      small h e = omega arith

module _ (c : goal.After-spread-3) where
  abbrev after : ℕ
  after = remade (shifted (0 ∷ (c.args.m.f1 ∷ (c.args.m.f2 ∷ (c.args.m.f3 ∷ [])))) (c.args.m.len0 ∷ (c.args.m.len1 ∷ (c.args.m.len2 ∷ (c.args.m.len3 ∷ []))))) c.args.x

  abbrev before_less : ℕ
  before_less = c.args.x + c.args.m.len0 * 2251799948165633 + c.spread.result + c.spread-2.result + c.spread-3.result

  sum : after + c.reached-t1.result + c.reached-t2.result + c.reached-t3.result + 2251799948165633 ≡ before_less
  sum =
      let a = c.args in
      let r1 = c.reached-t1 in
      let r2 = c.reached-t2 in
      let r3 = c.reached-t3 in
      moved3_sum a.x a.m.len0 a.m.f1 a.m.len1 a.m.f2 a.m.len2 a.m.f3 a.m.len3 r1.result r2.result r3.result c.spread.result c.spread-2.result c.spread-3.result
      c.requires.1 c.requires.2 r1.ensures (spread1_is c.before.before) r2.ensures (spread2_is c.before) r3.ensures (spread3_is c)

pub spread-requires : goal.spread-requires
spread-requires c =
    let r = c.reached-t1 in
    (marked_flags c.args.m.f1 (unpacked c.args.x) r.result r.ensures, c.requires.3.len1)

pub overflow_add-result-2 : goal.overflow_add-result-2
overflow_add-result-2 c =
    let p = c.requires in
    record { fits = omega (arith, spread1_small c, p.0.least, p.3.len0) }

pub spread-requires-2 : goal.spread-requires-2
spread-requires-2 c =
    let r = c.reached-t2 in
    (marked_flags c.args.m.f2 (unpacked c.args.x) r.result r.ensures, c.requires.3.len2)

pub overflow_add-result-3 : goal.overflow_add-result-3
overflow_add-result-3 c =
    let p = c.requires in
    record { fits = omega (arith, spread1_small c.before, spread2_small c, p.0.least, p.3.len0) }

pub spread-requires-3 : goal.spread-requires-3
spread-requires-3 c =
    let r = c.reached-t3 in
    (marked_flags c.args.m.f3 (unpacked c.args.x) r.result r.ensures, c.requires.3.len3)

pub overflow_add-result-4 : goal.overflow_add-result-4
overflow_add-result-4 c =
    let p = c.requires in
    record { fits = omega (arith, spread1_small c.before.before, spread2_small c.before, spread3_small c, p.0.least, p.3.len0) }

pub overflow_sub-result : goal.overflow_sub-result
overflow_sub-result c = first_fits (after c) c.reached-t1.result c.reached-t2.result c.reached-t3.result 2251799948165633 (before_less c) (sum c)

pub overflow_sub-result-2 : goal.overflow_sub-result-2
overflow_sub-result-2 c = second_fits (after c) c.reached-t1.result c.reached-t2.result c.reached-t3.result 2251799948165633 (before_less c) (sum c)

pub overflow_sub-result-3 : goal.overflow_sub-result-3
overflow_sub-result-3 c = third_fits (after c) c.reached-t1.result c.reached-t2.result c.reached-t3.result 2251799948165633 (before_less c) (sum c)

pub overflow_sub-result-4 : goal.overflow_sub-result-4
overflow_sub-result-4 c = last_fits (after c) c.reached-t1.result c.reached-t2.result c.reached-t3.result 2251799948165633 (before_less c) (sum c)

pub returns : goal.returns
returns c = less_four (after c) c.reached-t1.result c.reached-t2.result c.reached-t3.result 2251799948165633 (before_less c) (sum c)
