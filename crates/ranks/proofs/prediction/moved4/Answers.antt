-- `ranks::prediction::moved4` meets its contract.
-- Assumes nothing.
use mathlib.Core.Path.{◌≡◌, sym, ap₂, subst, ◌∙◌}
use mathlib.Core.List.{List, [], ◌∷◌}
use Prim.Native.Nat.{ℕ, ◌+◌, ◌<◌}
use native.Mathlib.Omega.{arith}
use lib.ListN.{get_or}
use Rattle.ranking.specs.Ranks.{above, shifted}
use Rattle.ranks.specs.Prediction.{Apart, unpacked, packed, marks, remade}
use Rattle.ranks.proofs.Lists.{four_of}
use Rattle.ranks.proofs.Lanes.{marked_flags, marked_spread}
use Rattle.ranks.proofs.Moved.{less_four, first_fits, second_fits, third_fits, last_fits, marks_small, moved4_sum}
use Rattle.ranks.proofs.prediction.moved4.Goals as goal

-- what is spread of a component's marks
small : (x f len t s : ℕ) → len < 256 → t ≡ packed (marks (above f 1) (unpacked x)) → s ≡ packed (marks (above 0 len) (unpacked t)) → s < 576460752303423488
small x f len t s h e d = below (marks_small f len (unpacked x) h) (marked_spread f (unpacked x) t len s e d)
  where
    below : {a b : ℕ} → b < 576460752303423488 → a ≡ b → a < 576460752303423488
    below h e = omega arith

module _ (c : goal.After-spread) where
  small0 : c.spread.result < 576460752303423488
  small0 = small c.args.x (get_or c.args.f.now 0 0) (get_or c.args.lens.now 0 0) c.reached-t0.result c.spread.result c.requires.3.c0 c.reached-t0.ensures c.spread.ensures

module _ (c : goal.After-spread-2) where
  small1 : (c.spread.result < 576460752303423488) × (c.spread-2.result < 576460752303423488)
  small1 = (
    small c.args.x (get_or c.args.f.now 0 0) (get_or c.args.lens.now 0 0) c.reached-t0.result c.spread.result c.requires.3.c0 c.reached-t0.ensures c.spread.ensures,
    small c.args.x (get_or c.args.f.now 1 0) (get_or c.args.lens.now 1 0) c.reached-t1.result c.spread-2.result c.requires.3.c1 c.reached-t1.ensures c.spread-2.ensures,
  )

module _ (c : goal.After-spread-3) where
  small2 : (c.spread.result < 576460752303423488) × (c.spread-2.result < 576460752303423488) × (c.spread-3.result < 576460752303423488)
  small2 = (
    small c.args.x (get_or c.args.f.now 0 0) (get_or c.args.lens.now 0 0) c.reached-t0.result c.spread.result c.requires.3.c0 c.reached-t0.ensures c.spread.ensures,
    small c.args.x (get_or c.args.f.now 1 0) (get_or c.args.lens.now 1 0) c.reached-t1.result c.spread-2.result c.requires.3.c1 c.reached-t1.ensures c.spread-2.ensures,
    small c.args.x (get_or c.args.f.now 2 0) (get_or c.args.lens.now 2 0) c.reached-t2.result c.spread-3.result c.requires.3.c2 c.reached-t2.ensures c.spread-3.ensures,
  )

module _ (c : goal.After-spread-4) where
  small3 : (c.spread.result < 576460752303423488) × (c.spread-2.result < 576460752303423488) × (c.spread-3.result < 576460752303423488) × (c.spread-4.result < 576460752303423488)
  small3 = (
    small c.args.x (get_or c.args.f.now 0 0) (get_or c.args.lens.now 0 0) c.reached-t0.result c.spread.result c.requires.3.c0 c.reached-t0.ensures c.spread.ensures,
    small c.args.x (get_or c.args.f.now 1 0) (get_or c.args.lens.now 1 0) c.reached-t1.result c.spread-2.result c.requires.3.c1 c.reached-t1.ensures c.spread-2.ensures,
    small c.args.x (get_or c.args.f.now 2 0) (get_or c.args.lens.now 2 0) c.reached-t2.result c.spread-3.result c.requires.3.c2 c.reached-t2.ensures c.spread-3.ensures,
    small c.args.x (get_or c.args.f.now 3 0) (get_or c.args.lens.now 3 0) c.reached-t3.result c.spread-4.result c.requires.3.c3 c.reached-t3.ensures c.spread-4.ensures,
  )

  abbrev after : ℕ
  after =
      remade
      (shifted (get_or c.args.f.now 0 0 ∷ (get_or c.args.f.now 1 0 ∷ (get_or c.args.f.now 2 0 ∷ (get_or c.args.f.now 3 0 ∷ []))))
      (get_or c.args.lens.now 0 0 ∷ (get_or c.args.lens.now 1 0 ∷ (get_or c.args.lens.now 2 0 ∷ (get_or c.args.lens.now 3 0 ∷ [])))))
      c.args.x

  abbrev before_less : ℕ
  before_less = c.args.x + c.spread.result + c.spread-2.result + c.spread-3.result + c.spread-4.result

  apart_is : Apart (get_or c.args.f.now 0 0 ∷ (get_or c.args.f.now 1 0 ∷ (get_or c.args.f.now 2 0 ∷ (get_or c.args.f.now 3 0 ∷ [])))) (get_or c.args.lens.now 0 0 ∷ (get_or c.args.lens.now 1 0 ∷ (get_or c.args.lens.now 2 0 ∷ (get_or c.args.lens.now 3 0 ∷ [])))) (unpacked c.args.x)
  apart_is =
      let a = c.args in
      subst (λ (ks : List ℕ). Apart ks (get_or a.lens.now 0 0 ∷ (get_or a.lens.now 1 0 ∷ (get_or a.lens.now 2 0 ∷ (get_or a.lens.now 3 0 ∷ [])))) (unpacked a.x)) (four_of a.f.now c.told-f)
      (subst (λ (ns : List ℕ). Apart a.f.now ns (unpacked a.x)) (four_of a.lens.now c.told-lens) c.requires.1)

  sum : after + c.reached-t0.result + c.reached-t1.result + c.reached-t2.result + c.reached-t3.result ≡ before_less
  sum =
      let a = c.args in
      let t0 = c.reached-t0 in
      let t1 = c.reached-t1 in
      let t2 = c.reached-t2 in
      let t3 = c.reached-t3 in
      let f = a.f.now in
      let n = a.lens.now in
      moved4_sum a.x (get_or f 0 0) (get_or n 0 0) (get_or f 1 0) (get_or n 1 0) (get_or f 2 0) (get_or n 2 0) (get_or f 3 0) (get_or n 3 0) t0.result t1.result t2.result t3.result c.spread.result c.spread-2.result c.spread-3.result c.spread-4.result
      apart_is t0.ensures (marked_spread (get_or f 0 0) (unpacked a.x) t0.result (get_or n 0 0) c.spread.result t0.ensures c.spread.ensures)
      t1.ensures (marked_spread (get_or f 1 0) (unpacked a.x) t1.result (get_or n 1 0) c.spread-2.result t1.ensures c.spread-2.ensures)
      t2.ensures (marked_spread (get_or f 2 0) (unpacked a.x) t2.result (get_or n 2 0) c.spread-3.result t2.ensures c.spread-3.ensures)
      t3.ensures (marked_spread (get_or f 3 0) (unpacked a.x) t3.result (get_or n 3 0) c.spread-4.result t3.ensures c.spread-4.ensures)

pub spread-requires : goal.spread-requires
spread-requires c =
    let r = c.reached-t0 in
    (marked_flags (get_or c.args.f.now 0 0) (unpacked c.args.x) r.result r.ensures, c.requires.3.c0)

pub overflow_add-result : goal.overflow_add-result
overflow_add-result c =
    let p = c.requires in
    record { fits = omega (arith, small0 c, p.0.least) }

pub spread-requires-2 : goal.spread-requires-2
spread-requires-2 c =
    let r = c.reached-t1 in
    (marked_flags (get_or c.args.f.now 1 0) (unpacked c.args.x) r.result r.ensures, c.requires.3.c1)

pub overflow_add-result-2 : goal.overflow_add-result-2
overflow_add-result-2 c =
    let p = c.requires in
    record { fits = omega (arith, small1 c, p.0.least) }

pub spread-requires-3 : goal.spread-requires-3
spread-requires-3 c =
    let r = c.reached-t2 in
    (marked_flags (get_or c.args.f.now 2 0) (unpacked c.args.x) r.result r.ensures, c.requires.3.c2)

pub overflow_add-result-3 : goal.overflow_add-result-3
overflow_add-result-3 c =
    let p = c.requires in
    record { fits = omega (arith, small2 c, p.0.least) }

pub spread-requires-4 : goal.spread-requires-4
spread-requires-4 c =
    let r = c.reached-t3 in
    (marked_flags (get_or c.args.f.now 3 0) (unpacked c.args.x) r.result r.ensures, c.requires.3.c3)

pub overflow_add-result-4 : goal.overflow_add-result-4
overflow_add-result-4 c =
    let p = c.requires in
    record { fits = omega (arith, small3 c, p.0.least) }

pub overflow_sub-result : goal.overflow_sub-result
overflow_sub-result c = first_fits (after c) c.reached-t0.result c.reached-t1.result c.reached-t2.result c.reached-t3.result (before_less c) (sum c)

pub overflow_sub-result-2 : goal.overflow_sub-result-2
overflow_sub-result-2 c = second_fits (after c) c.reached-t0.result c.reached-t1.result c.reached-t2.result c.reached-t3.result (before_less c) (sum c)

pub overflow_sub-result-3 : goal.overflow_sub-result-3
overflow_sub-result-3 c = third_fits (after c) c.reached-t0.result c.reached-t1.result c.reached-t2.result c.reached-t3.result (before_less c) (sum c)

pub overflow_sub-result-4 : goal.overflow_sub-result-4
overflow_sub-result-4 c = last_fits (after c) c.reached-t0.result c.reached-t1.result c.reached-t2.result c.reached-t3.result (before_less c) (sum c)

pub returns : goal.returns
returns c =
    let a = c.args in
    less_four (after c) c.reached-t0.result c.reached-t1.result c.reached-t2.result c.reached-t3.result (before_less c) (sum c)
    ∙ sym (ap₂ (λ (ks ns : List ℕ). remade (shifted ks ns) a.x) (four_of a.f.now c.told-f) (four_of a.lens.now c.told-lens))
