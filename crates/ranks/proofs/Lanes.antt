-- All ranks of a number at once: which of them lie above f, and sums and differences in every place.
-- Assumes nothing.
use Rattle.std.specs.Prelude.{if◌then◌else◌}
use mathlib.Core.Path.{◌≡◌, refl, sym, ap, ap₂, subst⁻¹, ◌∙◌}
use mathlib.Core.Bool.{Bool, true, false}
use Prim.Native.Nat.{ℕ, zero, suc, ◌+◌, ◌-◌, ◌*◌, ◌/◌, ◌<◌}
use native.Mathlib.Omega.{arith}
use borrow.Author.Tests.{ltb-true, ltb-false}
use lib.Dec.{ltb}
use lib.Bits.{bit_and, and_block, and_shr, and_high, and_zero_r, and_zero_l, and_mask, and_comm}
use Rattle.ranking.specs.Ranks.{above}
use Rattle.ranks.specs.Prediction.{Prediction, Short, Sized, Flags, lanes, packed, unpacked, marks}
use Rattle.ranks.proofs.Packing.{unpacked_packed}

-- ---- a mask, place by place

and_two : (a b r s : ℕ) → r < 512 → s < 512 → bit_and (a * 512 + r) (b * 512 + s) ≡ bit_and a b * 512 + bit_and r s
and_two a b r s h k = and_block 9 a b r s h k

and_lanes : (r0 r1 r2 r3 m l s0 s1 s2 s3 k : ℕ) → r0 < 512 → r1 < 512 → r2 < 512 → r3 < 512 → m < 32768 → s0 < 512 → s1 < 512 → s2 < 512 → s3 < 512
    → bit_and (lanes r0 r1 r2 r3 m l) (lanes s0 s1 s2 s3 0 k) ≡ lanes (bit_and r0 s0) (bit_and r1 s1) (bit_and r2 s2) (bit_and r3 s3) 0 (bit_and l k)
and_lanes r0 r1 r2 r3 m l s0 s1 s2 s3 k h0 h1 h2 h3 hm g0 g1 g2 g3 =
    and_two ((((l * 32768 + m) * 512 + r3) * 512 + r2) * 512 + r1) ((((k * 32768 + 0) * 512 + s3) * 512 + s2) * 512 + s1) r0 s0 h0 g0
    ∙ ap (λ (x : ℕ). x * 512 + bit_and r0 s0) (and_two (((l * 32768 + m) * 512 + r3) * 512 + r2) (((k * 32768 + 0) * 512 + s3) * 512 + s2) r1 s1 h1 g1
    ∙ ap (λ (x : ℕ). x * 512 + bit_and r1 s1) (and_two ((l * 32768 + m) * 512 + r3) ((k * 32768 + 0) * 512 + s3) r2 s2 h2 g2
    ∙ ap (λ (x : ℕ). x * 512 + bit_and r2 s2) (and_two (l * 32768 + m) (k * 32768 + 0) r3 s3 h3 g3
    ∙ ap (λ (x : ℕ). x * 512 + bit_and r3 s3) (and_block 15 l k m 0 hm (omega arith) ∙ ap (λ (x : ℕ). bit_and l k * 32768 + x) (and_zero_r m)))))

-- ---- the free bit of each place

-- bit 8 of a number below 512
bit : (b : ℕ) → b < 512 → bit_and b 256 ≡ b / 256 * 256
bit b h = and_high b 1 8 ∙ omega arith

lanes_ap : (r0 r1 r2 r3 l s0 s1 s2 s3 k : ℕ) → r0 ≡ s0 → r1 ≡ s1 → r2 ≡ s2 → r3 ≡ s3 → l ≡ k → lanes r0 r1 r2 r3 0 l ≡ lanes s0 s1 s2 s3 0 k
lanes_ap r0 r1 r2 r3 l s0 s1 s2 s3 k e0 e1 e2 e3 e = λ i. lanes (e0 i) (e1 i) (e2 i) (e3 i) 0 (e i)

pub top_bits : (r0 r1 r2 r3 m l : ℕ) → r0 < 512 → r1 < 512 → r2 < 512 → r3 < 512 → m < 32768 → l < 512
    → bit_and (lanes r0 r1 r2 r3 m l / 256) 2251799948165633 ≡ lanes (r0 / 256) (r1 / 256) (r2 / 256) (r3 / 256) 0 (l / 256)
top_bits r0 r1 r2 r3 m l h0 h1 h2 h3 hm hl =
    sym (and_shr (lanes r0 r1 r2 r3 m l) 576460786730402048 8)
    ∙ ap (λ (x : ℕ). x / 256)
    (and_lanes r0 r1 r2 r3 m l 256 256 256 256 256 h0 h1 h2 h3 hm (omega arith) (omega arith) (omega arith) (omega arith)
    ∙ lanes_ap (bit_and r0 256) (bit_and r1 256) (bit_and r2 256) (bit_and r3 256) (bit_and l 256) (r0 / 256 * 256) (r1 / 256 * 256) (r2 / 256 * 256) (r3 / 256 * 256) (l / 256 * 256) (bit r0 h0) (bit r1 h1) (bit r2 h2) (bit r3 h3) (bit l hl))
    ∙ omega arith

-- one rank: the sum with 255 - f reaches 256 exactly where it lies above f
above_is : (f r : ℕ) → f < 256 → r < 256 → (r + (255 - f)) / 256 ≡ above f 1 r
above_is f r hf hr = go (ltb f r) refl
  where
    go : (b : Bool) → ltb f r ≡ b → (r + (255 - f)) / 256 ≡ (if b then 1 else 0)
    go true e = omega (arith, ltb-true f r e)
    go false e = omega (arith, ltb-false f r e)

pub above_lanes : (f : ℕ) (p : Prediction) → f < 256 → Short p → p.number * 64 + p.category < 32768
    → bit_and ((packed p + (255 - f) * 2251799948165633) / 256) 2251799948165633 ≡ packed (marks (above f 1) p)
above_lanes f p hf h hm =
    ap (λ (x : ℕ). bit_and (x / 256) 2251799948165633) (sums (255 - f) p.rank0 p.rank1 p.rank2 p.rank3 (p.number * 64 + p.category) p.least)
    ∙ top_bits (p.rank0 + (255 - f)) (p.rank1 + (255 - f)) (p.rank2 + (255 - f)) (p.rank3 + (255 - f)) (p.number * 64 + p.category) (p.least + (255 - f))
    (omega (arith, h.rank0)) (omega (arith, h.rank1)) (omega (arith, h.rank2)) (omega (arith, h.rank3)) hm (omega (arith, h.least))
    ∙ lanes_ap ((p.rank0 + (255 - f)) / 256) ((p.rank1 + (255 - f)) / 256) ((p.rank2 + (255 - f)) / 256) ((p.rank3 + (255 - f)) / 256) ((p.least + (255 - f)) / 256)
    (above f 1 p.rank0) (above f 1 p.rank1) (above f 1 p.rank2) (above f 1 p.rank3) (above f 1 p.least)
    (above_is f p.rank0 hf h.rank0) (above_is f p.rank1 hf h.rank1) (above_is f p.rank2 hf h.rank2) (above_is f p.rank3 hf h.rank3) (above_is f p.least hf h.least)
  where
    sums : (k r0 r1 r2 r3 m l : ℕ) → lanes r0 r1 r2 r3 m l + k * 2251799948165633 ≡ lanes (r0 + k) (r1 + k) (r2 + k) (r3 + k) m (l + k)
    sums k r0 r1 r2 r3 m l = omega arith

-- ---- a length in each place

-- the mask of a place is all of it or nothing
spread_bit : (a n : ℕ) → a < 2 → n < 256 → bit_and (a * 511) n ≡ above 0 n a
spread_bit zero n k h = and_zero_l n
spread_bit (suc zero) n k h = and_comm 511 n ∙ and_mask n 9 ∙ omega arith
spread_bit (suc (suc a)) n k h = absurd (omega arith)

pub spread_lanes : (n : ℕ) (p : Prediction) → n < 256 → Flags p → bit_and (packed p * 512 - packed p) (n * 2251799948165633) ≡ packed (marks (above 0 n) p)
spread_lanes n p h k =
    ap₂ bit_and (wide p.rank0 p.rank1 p.rank2 p.rank3 p.number p.category p.least k.number k.category) (all n)
    ∙ and_lanes (p.rank0 * 511) (p.rank1 * 511) (p.rank2 * 511) (p.rank3 * 511) 0 (p.least * 511) n n n n n
    (omega (arith, k.each.rank0)) (omega (arith, k.each.rank1)) (omega (arith, k.each.rank2)) (omega (arith, k.each.rank3)) (omega arith) (omega arith) (omega arith) (omega arith) (omega arith)
    ∙ lanes_ap (bit_and (p.rank0 * 511) n) (bit_and (p.rank1 * 511) n) (bit_and (p.rank2 * 511) n) (bit_and (p.rank3 * 511) n) (bit_and (p.least * 511) n)
    (above 0 n p.rank0) (above 0 n p.rank1) (above 0 n p.rank2) (above 0 n p.rank3) (above 0 n p.least)
    (spread_bit p.rank0 n k.each.rank0 h) (spread_bit p.rank1 n k.each.rank1 h) (spread_bit p.rank2 n k.each.rank2 h) (spread_bit p.rank3 n k.each.rank3 h) (spread_bit p.least n k.each.least h)
  where
    wide : (a0 a1 a2 a3 m b a : ℕ) → m ≡ 0 → b ≡ 0 → lanes a0 a1 a2 a3 (m * 64 + b) a * 512 - lanes a0 a1 a2 a3 (m * 64 + b) a ≡ lanes (a0 * 511) (a1 * 511) (a2 * 511) (a3 * 511) 0 (a * 511)
    wide a0 a1 a2 a3 m b a e d = omega arith

    all : (n : ℕ) → n * 2251799948165633 ≡ lanes n n n n 0 n
    all n = omega arith

-- the marks of the ranks above f are such numbers
above_two : (f r : ℕ) → above f 1 r < 2
above_two f r = go (ltb f r)
  where
    go : (b : Bool) → (if b then 1 else 0) < 2
    go true = omega arith
    go false = omega arith

above_above : (f n r : ℕ) → above 0 n (above f 1 r) ≡ above f n r
above_above f n r = go (ltb f r)
  where
    go : (b : Bool) → above 0 n ((if b then 1 else 0)) ≡ (if b then n else 0)
    go true = refl
    go false = refl

module _ (f : ℕ) (p : Prediction) where
  marks_flags : Flags (marks (above f 1) p)
  marks_flags = record {
    each = record { least = above_two f p.least; rank3 = above_two f p.rank3; rank2 = above_two f p.rank2; rank1 = above_two f p.rank1; rank0 = above_two f p.rank0 };
    number = refl;
    category = refl;
  }

  marks_sized : Sized (marks (above f 1) p)
  marks_sized = record {
    lanes = record { least = omega (arith, above_two f p.least); rank3 = omega (arith, above_two f p.rank3); rank2 = omega (arith, above_two f p.rank2); rank1 = omega (arith, above_two f p.rank1); rank0 = omega (arith, above_two f p.rank0) };
    number = omega arith;
    category = omega arith;
  }

  pub marked_flags : (t : ℕ) → t ≡ packed (marks (above f 1) p) → Flags (unpacked t)
  marked_flags t e = subst⁻¹ Flags (ap unpacked e ∙ unpacked_packed (marks (above f 1) p) marks_sized) marks_flags

  pub marked_spread : (t n y : ℕ) → t ≡ packed (marks (above f 1) p) → y ≡ packed (marks (above 0 n) (unpacked t)) → y ≡ packed (marks (above f n) p)
  marked_spread t n y e d =
      d
      ∙ ap (λ (q : Prediction). packed (marks (above 0 n) q)) (ap unpacked e ∙ unpacked_packed (marks (above f 1) p) marks_sized)
      ∙ lanes_ap (above 0 n (above f 1 p.rank0)) (above 0 n (above f 1 p.rank1)) (above 0 n (above f 1 p.rank2)) (above 0 n (above f 1 p.rank3)) (above 0 n (above f 1 p.least))
      (above f n p.rank0) (above f n p.rank1) (above f n p.rank2) (above f n p.rank3) (above f n p.least)
      (above_above f n p.rank0) (above_above f n p.rank1) (above_above f n p.rank2) (above_above f n p.rank3) (above_above f n p.least)
