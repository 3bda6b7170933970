-- A prediction as a number and back.
-- Assumes nothing.
use mathlib.Core.Path.{◌≡◌, refl, ap}
use Prim.Native.Nat.{ℕ, zero, suc, ◌*◌, ◌/◌, ◌%◌, ◌^◌, ◌<◌}
use native.Mathlib.Omega.{arith}
use lib.ListN.{get_or}
use Rattle.ranks.specs.Prediction.{Prediction, Sized, ranks, packed, unpacked, rerank, remade}

pub packed_unpacked : (x : ℕ) → packed (unpacked x) ≡ x
packed_unpacked x =
    let a : x / 512 / 512 ≡ x / 262144 = omega arith in
    let b : x / 262144 / 512 ≡ x / 134217728 = omega arith in
    let d : x / 134217728 / 512 ≡ x / 68719476736 = omega arith in
    let e : x / 68719476736 / 64 ≡ x / 4398046511104 = omega arith in
    let f : x / 4398046511104 / 512 ≡ x / 2251799813685248 = omega arith in
    omega arith

module _ (p : Prediction) (h : Sized p) where
  pub packed_least : (unpacked (packed p)).least ≡ p.least
  packed_least = omega (arith, h.lanes.least, h.lanes.rank0, h.lanes.rank1, h.lanes.rank2, h.lanes.rank3, h.number, h.category)

  pub packed_number : (unpacked (packed p)).number ≡ p.number
  packed_number = omega (arith, h.lanes.least, h.lanes.rank0, h.lanes.rank1, h.lanes.rank2, h.lanes.rank3, h.number, h.category)

  pub packed_category : (unpacked (packed p)).category ≡ p.category
  packed_category = omega (arith, h.lanes.least, h.lanes.rank0, h.lanes.rank1, h.lanes.rank2, h.lanes.rank3, h.number, h.category)

  pub packed_rank3 : (unpacked (packed p)).rank3 ≡ p.rank3
  packed_rank3 = omega (arith, h.lanes.least, h.lanes.rank0, h.lanes.rank1, h.lanes.rank2, h.lanes.rank3, h.number, h.category)

  pub packed_rank2 : (unpacked (packed p)).rank2 ≡ p.rank2
  packed_rank2 = omega (arith, h.lanes.least, h.lanes.rank0, h.lanes.rank1, h.lanes.rank2, h.lanes.rank3, h.number, h.category)

  pub packed_rank1 : (unpacked (packed p)).rank1 ≡ p.rank1
  packed_rank1 = omega (arith, h.lanes.least, h.lanes.rank0, h.lanes.rank1, h.lanes.rank2, h.lanes.rank3, h.number, h.category)

  pub packed_rank0 : (unpacked (packed p)).rank0 ≡ p.rank0
  packed_rank0 = omega (arith, h.lanes.least, h.lanes.rank0, h.lanes.rank1, h.lanes.rank2, h.lanes.rank3, h.number, h.category)

-- the rank that a shift brings down
pub rank_at : (x c : ℕ) → c < 4 → x / 2 ^ (9 * c) % 512 ≡ get_or (ranks (unpacked x)) c 0
rank_at x zero h = omega arith
rank_at x (suc zero) h = refl
rank_at x (suc (suc zero)) h = refl
rank_at x (suc (suc (suc zero))) h = refl
rank_at x (suc (suc (suc (suc c)))) h = absurd (omega arith)

pub unpacked_packed : (p : Prediction) → Sized p → unpacked (packed p) ≡ p
unpacked_packed p h =
    let l = packed_least p h in
    let n = packed_number p h in
    let a = packed_category p h in
    let d = packed_rank3 p h in
    let c = packed_rank2 p h in
    let b = packed_rank1 p h in
    let z = packed_rank0 p h in
    λ i. record { least = l i; number = n i; category = a i; rank3 = d i; rank2 = c i; rank1 = b i; rank0 = z i }

-- the order of the numbers is the order of least ranks
pub packed_rises : (p q : Prediction) → Sized p → Sized q → p.least < q.least → packed p < packed q
packed_rises p q h k e = omega (arith, h.lanes.rank0, h.lanes.rank1, h.lanes.rank2, h.lanes.rank3, h.number, h.category)

-- what the contracts say of a packed prediction
pub remade_packed : (f : ℕ → ℕ) (p : Prediction) → Sized p → remade f (packed p) ≡ packed (rerank f p)
remade_packed f p h = ap (λ (q : Prediction). packed (rerank f q)) (unpacked_packed p h)
