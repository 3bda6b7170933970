-- What a step does to the ranks of one number.
-- Assumes nothing.
use Rattle.std.specs.Prelude.{if◌then◌else◌}
use mathlib.Core.Path.{◌≡◌, refl, sym, ap, ap₂, ◌∙◌}
use mathlib.Core.Bool.{Bool, true, false}
use mathlib.Core.List.{[], ◌∷◌}
use Prim.Native.Nat.{ℕ, zero, suc, ◌+◌, ◌-◌, ◌*◌, ◌<◌, ◌≤◌}
use native.Mathlib.Omega.{arith}
use borrow.Author.Tests.{ltb-true, lt-ltb}
use lib.Dec.{ltb}
use Rattle.ranking.specs.Ranks.{above, passed, added, shifted}
use Rattle.ranks.specs.Prediction.{Prediction, Behind, Apart, Each, lanes, packed, unpacked, rerank, marks, remade}
use Rattle.ranks.proofs.Packing.{packed_unpacked}

-- ---- sums, place by place

pub lane_add : (f g : ℕ → ℕ) (p : Prediction) → packed (rerank f p) + packed (marks g p) ≡ packed (rerank (λ r. f r + g r) p)
lane_add f g p = sums (f p.rank0) (f p.rank1) (f p.rank2) (f p.rank3) (p.number * 64 + p.category) (f p.least) (g p.rank0) (g p.rank1) (g p.rank2) (g p.rank3) (g p.least)
  where
    sums : (a0 a1 a2 a3 m a b0 b1 b2 b3 b : ℕ) → lanes a0 a1 a2 a3 m a + lanes b0 b1 b2 b3 (0 * 64 + 0) b ≡ lanes (a0 + b0) (a1 + b1) (a2 + b2) (a3 + b3) m (a + b)
    sums a0 a1 a2 a3 m a b0 b1 b2 b3 b = omega arith

pub lane_same : (f g : ℕ → ℕ) (p : Prediction) → Each (λ r. f r ≡ g r) p → packed (rerank f p) ≡ packed (rerank g p)
lane_same f g p e = λ i. lanes (e.rank0 i) (e.rank1 i) (e.rank2 i) (e.rank3 i) (p.number * 64 + p.category) (e.least i)

pub lane_all : (n : ℕ) (p : Prediction) → n * 2251799948165633 ≡ packed (marks (λ r. n) p)
lane_all n p = omega arith

-- what holds of all ranks holds of each, and two facts of each make a third
pub each_also : {P Q : ℕ → Type 0} → ((r : ℕ) → P r → Q r) → (p : Prediction) → Each P p → Each Q p
each_also h p e = record { least = h p.least e.least; rank3 = h p.rank3 e.rank3; rank2 = h p.rank2 e.rank2; rank1 = h p.rank1 e.rank1; rank0 = h p.rank0 e.rank0 }

pub each_both : {P Q R : ℕ → Type 0} → ((r : ℕ) → P r → Q r → R r) → (p : Prediction) → Each P p → Each Q p → Each R p
each_both h p e d = record { least = h p.least e.least d.least; rank3 = h p.rank3 e.rank3 d.rank3; rank2 = h p.rank2 e.rank2 d.rank2; rank1 = h p.rank1 e.rank1 d.rank1; rank0 = h p.rank0 e.rank0 d.rank0 }

-- ---- bounds

pub above_most : (f n r : ℕ) → above f n r ≤ n
above_most f n r = go (ltb f r)
  where
    go : (b : Bool) → (if b then n else 0) ≤ n
    go true = omega arith
    go false = omega arith

pub marks_small : (f n : ℕ) (p : Prediction) → n < 256 → packed (marks (above f n) p) < 576460752303423488
marks_small f n p h =
    bound (above f n p.rank0) (above f n p.rank1) (above f n p.rank2) (above f n p.rank3) (above f n p.least)
    (omega (arith, above_most f n p.rank0)) (omega (arith, above_most f n p.rank1)) (omega (arith, above_most f n p.rank2)) (omega (arith, above_most f n p.rank3)) (omega (arith, above_most f n p.least))
  where
    bound : (a0 a1 a2 a3 a : ℕ) → a0 < 256 → a1 < 256 → a2 < 256 → a3 < 256 → a < 256 → lanes a0 a1 a2 a3 (0 * 64 + 0) a < 576460752303423488
    bound a0 a1 a2 a3 a h0 h1 h2 h3 h = omega arith

-- ---- one rank

above_some : (f r : ℕ) → above f 1 r ≤ r
above_some f r = go (ltb f r) refl
  where
    go : (b : Bool) → ltb f r ≡ b → (if b then 1 else 0) ≤ r
    go true e = omega (arith, ltb-true f r e)
    go false e = omega arith

pub above_zero : (n r : ℕ) → 0 < r → above 0 n r ≡ n
above_zero n r h = ap (λ (b : Bool). (if b then n else 0)) (lt-ltb 0 r h)

-- ---- one number: after the ones are taken off

pub less : (d t s : ℕ) → d + t ≡ s → s - t ≡ d
less d t s e = omega arith

pub less_two : (d t o s : ℕ) → d + t + o ≡ s → s - t - o ≡ d
less_two d t o s e = omega arith

pub less_four : (d t u v o s : ℕ) → d + t + u + v + o ≡ s → s - t - u - v - o ≡ d
less_four d t u v o s e = omega arith

-- and none is taken off too many
module _ (d t u v o s : ℕ) (e : d + t + u + v + o ≡ s) where
  pub first_fits : t ≤ s
  first_fits = omega arith

  pub second_fits : u ≤ s - t
  second_fits = omega arith

  pub third_fits : v ≤ s - t - u
  third_fits = omega arith

  pub last_fits : o ≤ s - t - u - v
  last_fits = omega arith

-- and before the ones are taken off

module _ (x : ℕ) where
  pub shifted_sum : (n : ℕ) → Behind (unpacked x) → remade (shifted (0 ∷ []) (n ∷ [])) x + 2251799948165633 ≡ x + n * 2251799948165633
  shifted_sum n h =
      lane_add (shifted (0 ∷ []) (n ∷ [])) (λ r. 1) (unpacked x)
      ∙ lane_same (λ r. shifted (0 ∷ []) (n ∷ []) r + 1) (λ r. r + n) (unpacked x) (each_also one (unpacked x) h)
      ∙ sym (lane_add (λ r. r) (λ r. n) (unpacked x))
      ∙ ap₂ (λ (a b : ℕ). a + b) (packed_unpacked x) (sym (lane_all n (unpacked x)))
    where
      one : (r : ℕ) → 0 < r → shifted (0 ∷ []) (n ∷ []) r + 1 ≡ r + n
      one r k = omega (arith, above_zero 1 r k, above_zero n r k)

  pub moved1_sum : (n0 f1 n1 t1 m1 : ℕ) → Behind (unpacked x) → Apart (0 ∷ (f1 ∷ [])) (n0 ∷ (n1 ∷ [])) (unpacked x)
      → t1 ≡ packed (marks (above f1 1) (unpacked x)) → m1 ≡ packed (marks (above f1 n1) (unpacked x))
      → remade (shifted (0 ∷ (f1 ∷ [])) (n0 ∷ (n1 ∷ []))) x + t1 + 2251799948165633 ≡ x + n0 * 2251799948165633 + m1
  moved1_sum n0 f1 n1 t1 m1 h k e1 d1 =
      ap (λ (y : ℕ). remade (shifted (0 ∷ (f1 ∷ [])) (n0 ∷ (n1 ∷ []))) x + y + 2251799948165633) e1
      ∙ ap (λ (y : ℕ). y + 2251799948165633) (lane_add (shifted (0 ∷ (f1 ∷ [])) (n0 ∷ (n1 ∷ []))) (above f1 1) (unpacked x))
      ∙ lane_add (λ r. (shifted (0 ∷ (f1 ∷ [])) (n0 ∷ (n1 ∷ []))) r + above f1 1 r) (λ r. 1) (unpacked x)
      ∙ lane_same (λ r. (shifted (0 ∷ (f1 ∷ [])) (n0 ∷ (n1 ∷ []))) r + above f1 1 r + 1) (λ r. r + n0 + above f1 n1 r) (unpacked x) (each_both one (unpacked x) h k)
      ∙ sym (lane_add (λ r. r + n0) (above f1 n1) (unpacked x))
      ∙ ap (λ (y : ℕ). y + packed (marks (above f1 n1) (unpacked x))) (sym (lane_add (λ r. r) (λ r. n0) (unpacked x)))
      ∙ (let a = sym (lane_all n0 (unpacked x)) in let b = sym d1 in λ i. packed_unpacked x i + a i + b i)
    where
      one : (r : ℕ) → 0 < r → passed r (0 ∷ (f1 ∷ [])) ≤ r + added r (0 ∷ (f1 ∷ [])) (n0 ∷ (n1 ∷ [])) → (shifted (0 ∷ (f1 ∷ [])) (n0 ∷ (n1 ∷ []))) r + above f1 1 r + 1 ≡ r + n0 + above f1 n1 r
      one r a b = omega (arith, above_zero 1 r a, above_zero n0 r a)

  pub moved3_sum : (n0 f1 n1 f2 n2 f3 n3 t1 t2 t3 m1 m2 m3 : ℕ) → Behind (unpacked x) → Apart (0 ∷ (f1 ∷ (f2 ∷ (f3 ∷ [])))) (n0 ∷ (n1 ∷ (n2 ∷ (n3 ∷ [])))) (unpacked x)
      → t1 ≡ packed (marks (above f1 1) (unpacked x)) → m1 ≡ packed (marks (above f1 n1) (unpacked x))
      → t2 ≡ packed (marks (above f2 1) (unpacked x)) → m2 ≡ packed (marks (above f2 n2) (unpacked x))
      → t3 ≡ packed (marks (above f3 1) (unpacked x)) → m3 ≡ packed (marks (above f3 n3) (unpacked x))
      → remade (shifted (0 ∷ (f1 ∷ (f2 ∷ (f3 ∷ [])))) (n0 ∷ (n1 ∷ (n2 ∷ (n3 ∷ []))))) x + t1 + t2 + t3 + 2251799948165633 ≡ x + n0 * 2251799948165633 + m1 + m2 + m3
  moved3_sum n0 f1 n1 f2 n2 f3 n3 t1 t2 t3 m1 m2 m3 h k e1 d1 e2 d2 e3 d3 =
      (λ i. remade (shifted (0 ∷ (f1 ∷ (f2 ∷ (f3 ∷ [])))) (n0 ∷ (n1 ∷ (n2 ∷ (n3 ∷ []))))) x + e1 i + e2 i + e3 i + 2251799948165633)
      ∙ ap (λ (y : ℕ). y + packed (marks (above f2 1) (unpacked x)) + packed (marks (above f3 1) (unpacked x)) + 2251799948165633) (lane_add (shifted (0 ∷ (f1 ∷ (f2 ∷ (f3 ∷ [])))) (n0 ∷ (n1 ∷ (n2 ∷ (n3 ∷ []))))) (above f1 1) (unpacked x))
      ∙ ap (λ (y : ℕ). y + packed (marks (above f3 1) (unpacked x)) + 2251799948165633) (lane_add (λ r. (shifted (0 ∷ (f1 ∷ (f2 ∷ (f3 ∷ [])))) (n0 ∷ (n1 ∷ (n2 ∷ (n3 ∷ []))))) r + above f1 1 r) (above f2 1) (unpacked x))
      ∙ ap (λ (y : ℕ). y + 2251799948165633) (lane_add (λ r. (shifted (0 ∷ (f1 ∷ (f2 ∷ (f3 ∷ [])))) (n0 ∷ (n1 ∷ (n2 ∷ (n3 ∷ []))))) r + above f1 1 r + above f2 1 r) (above f3 1) (unpacked x))
      ∙ lane_add (λ r. (shifted (0 ∷ (f1 ∷ (f2 ∷ (f3 ∷ [])))) (n0 ∷ (n1 ∷ (n2 ∷ (n3 ∷ []))))) r + above f1 1 r + above f2 1 r + above f3 1 r) (λ r. 1) (unpacked x)
      ∙ lane_same (λ r. (shifted (0 ∷ (f1 ∷ (f2 ∷ (f3 ∷ [])))) (n0 ∷ (n1 ∷ (n2 ∷ (n3 ∷ []))))) r + above f1 1 r + above f2 1 r + above f3 1 r + 1) (λ r. r + n0 + above f1 n1 r + above f2 n2 r + above f3 n3 r) (unpacked x) (each_both one (unpacked x) h k)
      ∙ sym (lane_add (λ r. r + n0 + above f1 n1 r + above f2 n2 r) (above f3 n3) (unpacked x))
      ∙ ap (λ (y : ℕ). y + packed (marks (above f3 n3) (unpacked x))) (sym (lane_add (λ r. r + n0 + above f1 n1 r) (above f2 n2) (unpacked x)))
      ∙ ap (λ (y : ℕ). y + packed (marks (above f2 n2) (unpacked x)) + packed (marks (above f3 n3) (unpacked x))) (sym (lane_add (λ r. r + n0) (above f1 n1) (unpacked x)))
      ∙ ap (λ (y : ℕ). y + packed (marks (above f1 n1) (unpacked x)) + packed (marks (above f2 n2) (unpacked x)) + packed (marks (above f3 n3) (unpacked x))) (sym (lane_add (λ r. r) (λ r. n0) (unpacked x)))
      ∙ (let a = sym (lane_all n0 (unpacked x)) in let b1 = sym d1 in let b2 = sym d2 in let b3 = sym d3 in λ i. packed_unpacked x i + a i + b1 i + b2 i + b3 i)
    where
      one : (r : ℕ) → 0 < r → passed r (0 ∷ (f1 ∷ (f2 ∷ (f3 ∷ [])))) ≤ r + added r (0 ∷ (f1 ∷ (f2 ∷ (f3 ∷ [])))) (n0 ∷ (n1 ∷ (n2 ∷ (n3 ∷ []))))
          → (shifted (0 ∷ (f1 ∷ (f2 ∷ (f3 ∷ [])))) (n0 ∷ (n1 ∷ (n2 ∷ (n3 ∷ []))))) r + above f1 1 r + above f2 1 r + above f3 1 r + 1 ≡ r + n0 + above f1 n1 r + above f2 n2 r + above f3 n3 r
      one r a b = omega (arith, above_zero 1 r a, above_zero n0 r a)

  pub moved4_sum : (f0 n0 f1 n1 f2 n2 f3 n3 t0 t1 t2 t3 m0 m1 m2 m3 : ℕ) → Apart (f0 ∷ (f1 ∷ (f2 ∷ (f3 ∷ [])))) (n0 ∷ (n1 ∷ (n2 ∷ (n3 ∷ [])))) (unpacked x)
      → t0 ≡ packed (marks (above f0 1) (unpacked x)) → m0 ≡ packed (marks (above f0 n0) (unpacked x))
      → t1 ≡ packed (marks (above f1 1) (unpacked x)) → m1 ≡ packed (marks (above f1 n1) (unpacked x))
      → t2 ≡ packed (marks (above f2 1) (unpacked x)) → m2 ≡ packed (marks (above f2 n2) (unpacked x))
      → t3 ≡ packed (marks (above f3 1) (unpacked x)) → m3 ≡ packed (marks (above f3 n3) (unpacked x))
      → remade (shifted (f0 ∷ (f1 ∷ (f2 ∷ (f3 ∷ [])))) (n0 ∷ (n1 ∷ (n2 ∷ (n3 ∷ []))))) x + t0 + t1 + t2 + t3 ≡ x + m0 + m1 + m2 + m3
  moved4_sum f0 n0 f1 n1 f2 n2 f3 n3 t0 t1 t2 t3 m0 m1 m2 m3 k e0 d0 e1 d1 e2 d2 e3 d3 =
      (λ i. remade (shifted (f0 ∷ (f1 ∷ (f2 ∷ (f3 ∷ [])))) (n0 ∷ (n1 ∷ (n2 ∷ (n3 ∷ []))))) x + e0 i + e1 i + e2 i + e3 i)
      ∙ ap (λ (y : ℕ). y + packed (marks (above f1 1) (unpacked x)) + packed (marks (above f2 1) (unpacked x)) + packed (marks (above f3 1) (unpacked x))) (lane_add ((shifted (f0 ∷ (f1 ∷ (f2 ∷ (f3 ∷ [])))) (n0 ∷ (n1 ∷ (n2 ∷ (n3 ∷ [])))))) (above f0 1) (unpacked x))
      ∙ ap (λ (y : ℕ). y + packed (marks (above f2 1) (unpacked x)) + packed (marks (above f3 1) (unpacked x))) (lane_add (λ r. (shifted (f0 ∷ (f1 ∷ (f2 ∷ (f3 ∷ [])))) (n0 ∷ (n1 ∷ (n2 ∷ (n3 ∷ []))))) r + above f0 1 r) (above f1 1) (unpacked x))
      ∙ ap (λ (y : ℕ). y + packed (marks (above f3 1) (unpacked x))) (lane_add (λ r. (shifted (f0 ∷ (f1 ∷ (f2 ∷ (f3 ∷ [])))) (n0 ∷ (n1 ∷ (n2 ∷ (n3 ∷ []))))) r + above f0 1 r + above f1 1 r) (above f2 1) (unpacked x))
      ∙ lane_add (λ r. (shifted (f0 ∷ (f1 ∷ (f2 ∷ (f3 ∷ [])))) (n0 ∷ (n1 ∷ (n2 ∷ (n3 ∷ []))))) r + above f0 1 r + above f1 1 r + above f2 1 r) (above f3 1) (unpacked x)
      ∙ lane_same (λ r. (shifted (f0 ∷ (f1 ∷ (f2 ∷ (f3 ∷ [])))) (n0 ∷ (n1 ∷ (n2 ∷ (n3 ∷ []))))) r + above f0 1 r + above f1 1 r + above f2 1 r + above f3 1 r) (λ r. r + above f0 n0 r + above f1 n1 r + above f2 n2 r + above f3 n3 r) (unpacked x) (each_also one (unpacked x) k)
      ∙ sym (lane_add (λ r. r + above f0 n0 r + above f1 n1 r + above f2 n2 r) (above f3 n3) (unpacked x))
      ∙ ap (λ (y : ℕ). y + packed (marks (above f3 n3) (unpacked x))) (sym (lane_add (λ r. r + above f0 n0 r + above f1 n1 r) (above f2 n2) (unpacked x)))
      ∙ ap (λ (y : ℕ). y + packed (marks (above f2 n2) (unpacked x)) + packed (marks (above f3 n3) (unpacked x))) (sym (lane_add (λ r. r + above f0 n0 r) (above f1 n1) (unpacked x)))
      ∙ ap (λ (y : ℕ). y + packed (marks (above f1 n1) (unpacked x)) + packed (marks (above f2 n2) (unpacked x)) + packed (marks (above f3 n3) (unpacked x))) (sym (lane_add (λ r. r) (above f0 n0) (unpacked x)))
      ∙ (let b0 = sym d0 in let b1 = sym d1 in let b2 = sym d2 in let b3 = sym d3 in λ i. packed_unpacked x i + b0 i + b1 i + b2 i + b3 i)
    where
      one : (r : ℕ) → passed r (f0 ∷ (f1 ∷ (f2 ∷ (f3 ∷ [])))) ≤ r + added r (f0 ∷ (f1 ∷ (f2 ∷ (f3 ∷ [])))) (n0 ∷ (n1 ∷ (n2 ∷ (n3 ∷ []))))
          → (shifted (f0 ∷ (f1 ∷ (f2 ∷ (f3 ∷ [])))) (n0 ∷ (n1 ∷ (n2 ∷ (n3 ∷ []))))) r + above f0 1 r + above f1 1 r + above f2 1 r + above f3 1 r ≡ r + above f0 n0 r + above f1 n1 r + above f2 n2 r + above f3 n3 r
      one r b = omega arith

-- no variable in place of the front's only component: every rank falls by one
pub lowered : (r : ℕ) → shifted (0 ∷ []) (0 ∷ []) r ≡ r - 1
lowered zero = refl
lowered (suc r) = omega (arith, above_zero 1 (suc r) (omega arith), above_zero 0 (suc r) (omega arith))
