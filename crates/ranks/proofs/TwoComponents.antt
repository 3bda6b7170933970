-- Daughters of one component, and of at most two for a front of two: where their components go, and their least rank.
-- Assumes nothing.
use mathlib.Core.Path.{◌≡◌, sym, ap, ap₂, ◌∙◌}
use mathlib.Core.List.{List}
use Prim.Native.Nat.{ℕ, zero, suc, ◌+◌, ◌*◌, ◌/◌, ◌%◌, ◌<◌, min}
use native.Mathlib.Omega.{arith}
use lib.ListN.{get_or}
use Rattle.ranks.specs.Prediction.{Prediction, Sized, lanes, packed, unpacked}
use Rattle.ranks.specs.Daughters.{daughter, Alone, two_bases, MakesTwo}
use Rattle.ranks.proofs.Packing.{packed_unpacked, packed_least, packed_rank0, packed_rank1}

-- a daughter with a single component
pub alone_made : (bs : List ℕ) (cell places mark : ℕ) → Alone cell places
    → cell + get_or bs (places / 8 % 4) 0 * 2251799948165633 + (unpacked cell).rank0 * 2251799813685248 + mark * 4398046511104 ≡ packed (daughter bs cell places mark)
alone_made bs cell places mark h =
    let b = get_or bs (places / 8 % 4) 0 in
    let r = (unpacked cell).rank0 in
    sum cell b r (unpacked cell).number (unpacked cell).category mark (unpacked cell).rank1 (unpacked cell).rank2 (unpacked cell).rank3 (unpacked cell).least (sym (packed_unpacked cell)) h.rank1 h.at_most_two.rank2 h.at_most_two.rank3 h.at_most_two.least
    ∙ (let l : b + r ≡ min (min (b + r) (b + (unpacked cell).rank1)) (min (b + (unpacked cell).rank2) (b + (unpacked cell).rank3)) = omega (arith, h.rank1, h.at_most_two.rank2, h.at_most_two.rank3) in
    let p1 = sym (ap (λ (i : ℕ). get_or bs i 0) h.place1) in
    let p2 = sym (ap (λ (i : ℕ). get_or bs i 0) h.at_most_two.place2) in
    let p3 = sym (ap (λ (i : ℕ). get_or bs i 0) h.at_most_two.place3) in
    let q1 = sym h.rank1 in
    let q2 = sym h.at_most_two.rank2 in
    let q3 = sym h.at_most_two.rank3 in
    ap (λ (x : ℕ). lanes (b + r) (b + r) (b + r) (b + r) ((mark + (unpacked cell).number) * 64 + (unpacked cell).category) x) l
    ∙ (λ i. lanes (b + r) (p1 i + q1 i) (p2 i + q2 i) (p3 i + q3 i) ((mark + (unpacked cell).number) * 64 + (unpacked cell).category) (min (min (b + r) (p1 i + (unpacked cell).rank1)) (min (p2 i + (unpacked cell).rank2) (p3 i + (unpacked cell).rank3)))))
  where
    sum : (x b r n a mark r1 r2 r3 l : ℕ) → x ≡ lanes r r1 r2 r3 (n * 64 + a) l → r1 ≡ r → r2 ≡ r → r3 ≡ r → l ≡ 0
        → x + b * 2251799948165633 + r * 2251799813685248 + mark * 4398046511104 ≡ lanes (b + r) (b + r) (b + r) (b + r) ((mark + n) * 64 + a) (b + r)
    sum x b r n a mark r1 r2 r3 l e h1 h2 h3 h4 = omega arith

times : (base k m : ℕ) → m ≡ k → base * k ≡ base * m
times base k m e = ap (λ (n : ℕ). base * n) (sym e)

-- component k of the front begins at `base` where it is not the lowest
zero_lowest : (base k m : ℕ) → k < 4 → m ≡ k % 2 → get_or (two_bases 0 base) k 0 ≡ base * m
zero_lowest base zero m h e = let z : 0 ≡ base * 0 = omega arith in z ∙ times base 0 m e
zero_lowest base (suc zero) m h e = let z : base ≡ base * 1 = omega arith in z ∙ times base 1 m e
zero_lowest base (suc (suc zero)) m h e = let z : 0 ≡ base * 0 = omega arith in z ∙ times base 0 m e
zero_lowest base (suc (suc (suc zero))) m h e = let z : base ≡ base * 1 = omega arith in z ∙ times base 1 m e
zero_lowest base (suc (suc (suc (suc k)))) m h e = absurd (omega arith)

one_lowest : (base k m : ℕ) → k < 4 → m ≡ (k + 1) % 2 → get_or (two_bases 1 base) k 0 ≡ base * m
one_lowest base zero m h e = let z : base ≡ base * 1 = omega arith in z ∙ times base 1 m e
one_lowest base (suc zero) m h e = let z : 0 ≡ base * 0 = omega arith in z ∙ times base 0 m e
one_lowest base (suc (suc zero)) m h e = let z : base ≡ base * 1 = omega arith in z ∙ times base 1 m e
one_lowest base (suc (suc (suc zero))) m h e = let z : 0 ≡ base * 0 = omega arith in z ∙ times base 0 m e
one_lowest base (suc (suc (suc (suc k)))) m h e = absurd (omega arith)

begins_at : (lowest base n : ℕ) → lowest < 2 → get_or (two_bases lowest base) (n % 4) 0 ≡ base * ((n + lowest) % 2)
begins_at zero base n h = zero_lowest base (n % 4) ((n + 0) % 2) (omega arith) (omega arith)
begins_at (suc zero) base n h = one_lowest base (n % 4) ((n + 1) % 2) (omega arith) (omega arith)
begins_at (suc (suc lowest)) base n h = absurd (omega arith)

-- what `lifted` adds to the ranks
far_sum : (base h0 h1 b0 b1 : ℕ) → h0 < 2 → h1 < 2 → b0 ≡ base * h0 → b1 ≡ base * h1 → base * (h0 * 134479873 + h1 * 512) ≡ b0 * 134479873 + b1 * 512
far_sum base zero zero b0 b1 k l e f = omega arith
far_sum base zero (suc zero) b0 b1 k l e f = omega arith
far_sum base (suc zero) zero b0 b1 k l e f = omega arith
far_sum base (suc zero) (suc zero) b0 b1 k l e f = omega arith
far_sum base zero (suc (suc h1)) b0 b1 k l e f = absurd (omega arith)
far_sum base (suc zero) (suc (suc h1)) b0 b1 k l e f = absurd (omega arith)
far_sum base (suc (suc h0)) h1 b0 b1 k l e f = absurd (omega arith)

pub far_small : (base h0 h1 : ℕ) → base < 512 → h0 < 2 → h1 < 2 → base * (h0 * 134479873 + h1 * 512) < 68719476736
far_small base zero zero h k l = omega arith
far_small base zero (suc zero) h k l = omega arith
far_small base (suc zero) zero h k l = omega arith
far_small base (suc zero) (suc zero) h k l = omega arith
far_small base zero (suc (suc h1)) h k l = absurd (omega arith)
far_small base (suc zero) (suc (suc h1)) h k l = absurd (omega arith)
far_small base (suc (suc h0)) h1 h k l = absurd (omega arith)

module _ (cell places lowest base mark : ℕ) (h : MakesTwo cell places lowest base mark) where
  abbrev bs : List ℕ
  bs = two_bases lowest base

  abbrev b0 : ℕ
  b0 = get_or bs (places / 8 % 4) 0

  abbrev b1 : ℕ
  b1 = get_or bs (places / 64 % 4) 0

  abbrev r : ℕ
  r = (unpacked cell).rank0

  abbrev r1 : ℕ
  r1 = (unpacked cell).rank1

  -- the daughter without its least rank
  abbrev y : ℕ
  y = cell + base * ((places / 8 + lowest) % 2 * 134479873 + (places / 64 + lowest) % 2 * 512) + mark * 4398046511104

  abbrev p : Prediction
  p = record { least = 0; number = mark + (unpacked cell).number; category = (unpacked cell).category; rank3 = b0 + r; rank2 = b0 + r; rank1 = b1 + r1; rank0 = b0 + r }

  lifted_is : y ≡ packed p
  lifted_is =
      sum cell b0 b1 (base * ((places / 8 + lowest) % 2 * 134479873 + (places / 64 + lowest) % 2 * 512)) r r1 (unpacked cell).rank2 (unpacked cell).rank3 (unpacked cell).number (unpacked cell).category (unpacked cell).least (sym (packed_unpacked cell)) h.at_most_two.rank2 h.at_most_two.rank3 h.at_most_two.least
      (far_sum base ((places / 8 + lowest) % 2) ((places / 64 + lowest) % 2) b0 b1 (omega arith) (omega arith) (begins_at lowest base (places / 8) h.one_of_two) (begins_at lowest base (places / 64) h.one_of_two))
    where
      sum : (x b0 b1 q r r1 r2 r3 n a l : ℕ) → x ≡ lanes r r1 r2 r3 (n * 64 + a) l → r2 ≡ r → r3 ≡ r → l ≡ 0 → q ≡ b0 * 134479873 + b1 * 512
          → x + q + mark * 4398046511104 ≡ lanes (b0 + r) (b1 + r1) (b0 + r) (b0 + r) ((mark + n) * 64 + a) 0
      sum x b0 b1 q r r1 r2 r3 n a l e h2 h3 h4 f = omega arith

  p_sized : Sized p
  p_sized =
      record {
        lanes = record { least = omega arith; rank3 = h.sized.lanes.rank0; rank2 = h.sized.lanes.rank0; rank1 = h.sized.lanes.rank1; rank0 = h.sized.lanes.rank0 };
        number = h.sized.number;
        category = h.sized.category;
      }

  rank0_is : (unpacked y).rank0 ≡ b0 + r
  rank0_is = ap (λ (n : ℕ). (unpacked n).rank0) lifted_is ∙ packed_rank0 p p_sized

  rank1_is : (unpacked y).rank1 ≡ b1 + r1
  rank1_is = ap (λ (n : ℕ). (unpacked n).rank1) lifted_is ∙ packed_rank1 p p_sized

  pub no_least : (unpacked y).least ≡ 0
  no_least = ap (λ (n : ℕ). (unpacked n).least) lifted_is ∙ packed_least p p_sized

  pub least_small : min (unpacked y).rank0 (unpacked y).rank1 < 512
  least_small = omega (arith, rank0_is, h.sized.lanes.rank0)

  pub two_made : y + min (unpacked y).rank0 (unpacked y).rank1 * 2251799813685248 ≡ packed (daughter (two_bases lowest base) cell places mark)
  two_made =
      ap₂ (λ (u v : ℕ). y + min u v * 2251799813685248) rank0_is rank1_is ∙ ap (λ (n : ℕ). n + min (b0 + r) (b1 + r1) * 2251799813685248) lifted_is
      ∙ top (b0 + r) (b1 + r1) ((mark + (unpacked cell).number) * 64 + (unpacked cell).category) (min (b0 + r) (b1 + r1))
      ∙ (let l : min (b0 + r) (b1 + r1) ≡ min (min (b0 + r) (b1 + r1)) (min (b0 + r) (b0 + r)) = omega arith in
      let p2 = sym (ap (λ (i : ℕ). get_or bs i 0) h.at_most_two.place2) in
      let p3 = sym (ap (λ (i : ℕ). get_or bs i 0) h.at_most_two.place3) in
      let q2 = sym h.at_most_two.rank2 in
      let q3 = sym h.at_most_two.rank3 in
      ap (λ (x : ℕ). lanes (b0 + r) (b1 + r1) (b0 + r) (b0 + r) ((mark + (unpacked cell).number) * 64 + (unpacked cell).category) x) l
      ∙ (λ i. lanes (b0 + r) (b1 + r1) (p2 i + q2 i) (p3 i + q3 i) ((mark + (unpacked cell).number) * 64 + (unpacked cell).category) (min (min (b0 + r) (b1 + r1)) (min (p2 i + q2 i) (p3 i + q3 i)))))
    where
      top : (a b m l : ℕ) → lanes a b a a m 0 + l * 2251799813685248 ≡ lanes a b a a m l
      top a b m l = omega arith
