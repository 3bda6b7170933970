-- The numbers that go into a cell are as small as their places.
-- Assumes nothing.
use Rattle.std.specs.Prelude.{if◌then◌else◌}
use mathlib.Core.Path.{◌≡◌, refl}
use mathlib.Core.Bool.{Bool, true, false}
use mathlib.Core.List.{List}
use Prim.Native.Nat.{ℕ, zero, suc, ◌+◌, ◌-◌, ◌*◌, ◌/◌, ◌%◌, ◌<◌, ◌≤◌}
use native.Mathlib.Omega.{arith}
use lib.Dec.{ltb, eqb}
use lib.ListN.{get_or}
use Rattle.model.specs.GrammarFile.{field}
use Rattle.ranks.specs.Prediction.{Sized, unpacked}
use Rattle.ranks.specs.Daughters.{daughter}
use Rattle.ranks.proofs.Packing.{packed_rank0, packed_rank1, packed_rank2, packed_rank3}
use Rattle.rule_table.specs.Places.{Small, first_of, stand_at, stand_of, stand_in}
use Rattle.rule_table.specs.Cells.{zeros, width, positions, pair_at, pair_of}

-- the search ends
first_most : (e : List ℕ) (x v n : ℕ) → first_of e x v n ≤ v + n
first_most e x v zero = omega arith
first_most e x v (suc n) = go (eqb (field e (11 + v)) x) (first_most e x (suc v) n)
  where
    go : (b : Bool) → first_of e x (suc v) n ≤ suc v + n → (if b then v else first_of e x (suc v) n) ≤ v + suc n
    go true h = omega arith
    go false h = omega arith

-- a variable stands in one of four components, at a position that is no greater than its number
at_small : (e : List ℕ) (v : ℕ) → v ≤ 12 → Small (stand_at e v)
at_small e v h = go (ltb v (field e 7)) (ltb v (field e 7 + field e 8)) (ltb v (field e 7 + field e 8 + field e 9))
  where
    go : (a b c : Bool)
        → Small
        (if a then record { component = 0; position = v }
        else if b then record { component = 1; position = v - field e 7 }
        else if c then record { component = 2; position = v - (field e 7 + field e 8) }
        else record { component = 3; position = v - (field e 7 + field e 8 + field e 9) })
    go true b c = record { component_small = omega arith; position_small = omega arith }
    go false true c = record { component_small = omega arith; position_small = omega arith }
    go false false true = record { component_small = omega arith; position_small = omega arith }
    go false false false = record { component_small = omega arith; position_small = omega arith }

of_small : (e : List ℕ) (j c : ℕ) → Small (stand_of e j c)
of_small e j c = at_small e (first_of e (4 * j + c) 0 12) (omega (arith, first_most e (4 * j + c) 0 12))

pub in_small : (e : List ℕ) (n j c : ℕ) → Small (stand_in e n j c)
in_small e n j c = go (ltb c n)
  where
    go : (b : Bool) → Small (if b then stand_of e j c else stand_of e j 0)
    go true = of_small e j c
    go false = of_small e j 0

-- so a daughter fits into its cell
pub positions_sized : (d e : List ℕ) (j : ℕ) → j < 3 → Sized (positions d e j)
positions_sized d e j h =
    let s0 = in_small e (width d e j) j 0 in
    let s1 = in_small e (width d e j) j 1 in
    let s2 = in_small e (width d e j) j 2 in
    let s3 = in_small e (width d e j) j 3 in
    record {
      lanes = record { least = omega arith; rank3 = omega (arith, s3.position_small); rank2 = omega (arith, s2.position_small); rank1 = omega (arith, s1.position_small); rank0 = omega (arith, s0.position_small) };
      number = omega arith;
      category = omega arith;
    }

-- the ranks of a cell are positions
pub record Low (x : ℕ) : Type 0 where
  pub rank3 : (unpacked x).rank3 ≤ 12
  pub rank2 : (unpacked x).rank2 ≤ 12
  pub rank1 : (unpacked x).rank1 ≤ 12
  pub rank0 : (unpacked x).rank0 ≤ 12

pair_low : (d e : List ℕ) (j : ℕ) → j < 3 → Low (pair_of d e j).cell
pair_low d e j h = go (ltb j (field e 1))
  where
    go : (b : Bool) → Low (if b then pair_at d e j else record { cell = 0; places = 0 }).cell
    go true =
        let z = positions_sized d e j h in
        let p = positions d e j in
        let w = width d e j in
        record {
          rank3 = omega (arith, packed_rank3 p z, (in_small e w j 3).position_small);
          rank2 = omega (arith, packed_rank2 p z, (in_small e w j 2).position_small);
          rank1 = omega (arith, packed_rank1 p z, (in_small e w j 1).position_small);
          rank0 = omega (arith, packed_rank0 p z, (in_small e w j 0).position_small);
        }
    go false = record { rank3 = omega arith; rank2 = omega arith; rank1 = omega arith; rank0 = omega arith }

-- components that begin at rank 0
pub zero_at : (i : ℕ) → get_or zeros i 0 ≡ 0
zero_at zero = refl
zero_at (suc zero) = refl
zero_at (suc (suc zero)) = refl
zero_at (suc (suc (suc zero))) = refl
zero_at (suc (suc (suc (suc i)))) = refl

low_sized : (x places : ℕ) → Low x → Sized (daughter zeros x places 0)
low_sized x places l =
    let z0 = zero_at (places / 8 % 4) in
    let z1 = zero_at (places / 64 % 4) in
    let z2 = zero_at (places / 512 % 4) in
    let z3 = zero_at (places / 4096 % 4) in
    record {
      lanes = record {
        least = omega (arith, z0, z1, z2, z3, l.rank0, l.rank1, l.rank2, l.rank3);
        rank3 = omega (arith, z3, l.rank3);
        rank2 = omega (arith, z2, l.rank2);
        rank1 = omega (arith, z1, l.rank1);
        rank0 = omega (arith, z0, l.rank0);
      };
      number = omega arith;
      category = omega arith;
    }

-- and a ready made daughter into its own
pub ready_sized : (d e : List ℕ) (j : ℕ) → j < 3 → Sized (daughter zeros (pair_of d e j).cell (pair_of d e j).places 0)
ready_sized d e j h = low_sized (pair_of d e j).cell (pair_of d e j).places (pair_low d e j h)
