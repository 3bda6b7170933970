-- The step by a rule of dimension 2 whose daughters have at most two components: its daughters can be made, the others can move, and what it writes.
-- Assumes nothing.
use mathlib.Core.Path.{◌≡◌, refl, sym, ap, ap₂, subst⁻¹, ◌∙◌}
use mathlib.Core.List.{List, [], ◌∷◌, map}
use Prim.Native.Nat.{ℕ, ◌+◌, ◌-◌, ◌*◌, ◌/◌, ◌%◌, ◌<◌}
use native.Mathlib.Omega.{arith}
use lib.ListN.{get_or, take}
use lib.Seq.{slice}
use Rattle.ranking.specs.Ranks.{shifted}
use Rattle.ranks.specs.declared.prediction.Moves.{Moves}
use Rattle.ranks.specs.Prediction.{Short, Behind, Apart, Sized, unpacked, remade}
use Rattle.ranks.specs.Queue.{Roomy, Every, Mapped, Placed, Next, insert_all}
use Rattle.ranks.specs.Moves.{moves_ranks, moves_lengths, Bounded}
use Rattle.ranks.specs.Daughters.{daughter, two_bases, MakesTwo}
use Rattle.ranks.specs.Step.{daughters_at, by_two, two_moves, two_begins, TwoRanks, ExpandsTwo, expanded_two}
use Rattle.ranks.proofs.Two.{moves_first, moves_second, begins_first, begins_second}
use Rattle.ranks.proofs.Gathering.{first_two, two_apart}
use Rattle.ranks.proofs.Stepping.{replaced, next_as, wide_next}
use Rattle.ranks.proofs.OfTwo.{few_places}

-- what an arm of the step knows of the front and of the cell of the lengths: component `lowest` has rank 0, and the other has rank f and begins at `base`
pub record Arm (front cell lowest base len0 f len1 : ℕ) : Type 0 where
  pub one_of_two : lowest < 2
  pub base_small : base < 512
  pub begins : two_bases lowest base ≡ two_begins front cell
  pub moves : by_two len0 f len1 ≡ two_moves front cell

-- the two arms, by what the code reads
module _ (front cell : ℕ) (h : TwoRanks front cell) (n m r0 r1 : ℕ) (en : n ≡ cell % 65536) (em : m ≡ cell / 65536 % 65536) (e0 : r0 ≡ (unpacked front).rank0) (e1 : r1 ≡ (unpacked front).rank1) where
  pub arm_first : r0 ≡ 0 → Arm front cell 0 (r1 + n - 1) n r1 m
  arm_first z =
      record {
        one_of_two = omega arith;
        base_small = omega (arith, h.short.rank1, h.len0);
        begins = ap (λ (k : ℕ). two_bases 0 (r1 + k - 1)) en ∙ begins_first front cell r1 (sym e0 ∙ z) e1;
        moves = ap₂ (λ (k l : ℕ). by_two k r1 l) en em ∙ moves_first front cell r1 (sym e0 ∙ z) e1;
      }

  pub arm_second : (r0 ≡ 0 → ⊥) → Arm front cell 1 (r0 + m - 1) m r0 n
  arm_second z =
      record {
        one_of_two = omega arith;
        base_small = omega (arith, h.short.rank0, h.len1);
        begins = ap (λ (k : ℕ). two_bases 1 (r0 + k - 1)) em ∙ begins_second front cell r0 e0 z;
        moves = ap₂ (λ (k l : ℕ). by_two k r0 l) em en ∙ moves_second front cell r0 e0 z;
      }

module _ (t : List ℕ) (at n mark : ℕ) (w : List ℕ) (from to : ℕ) (p : ExpandsTwo t at n mark w from to) (lowest base len0 f len1 : ℕ) (arm : Arm (get_or w from 0) (get_or t (at + 1) 0) lowest base len0 f len1) where
  pub makes_two : (j : ℕ) → j < 3 → j < n → MakesTwo (get_or t (at + 2 + 2 * j) 0) (get_or t (at + 3 + 2 * j) 0) lowest base mark
  makes_two j k l =
      let makes = p.0.makes j l in
      record {
        one_of_two = arm.one_of_two;
        base_small = arm.base_small;
        sized = subst⁻¹ (λ (bs : List ℕ). Sized (daughter bs (get_or t (at + 2 + 2 * j) 0) (get_or t (at + 3 + 2 * j) 0) mark)) arm.begins makes.sized;
        at_most_two = makes.repeats.two (few_places t at p.2 j k);
      }

  pub others_go : Roomy w (from + 1) to (to + n) × Every Short w (from + 1) to × Every Behind w (from + 1) to × Every (Apart (0 ∷ (f ∷ [])) (len0 ∷ (len1 ∷ []))) w (from + 1) to × (len0 < 256) × (f < 256) × (len1 < 256)
  others_go =
      let s = p.0.steps in
      let b = subst⁻¹ Bounded arm.moves p.0.bounded in (
        record { long = s.long; ordered = omega (arith, s.some); behind = omega arith; fits = omega (arith, s.fits, s.few, s.some) },
        p.0.short,
        p.0.behind,
        two_apart len0 f len1 255 1 255 1 refl refl w (from + 1) to (subst⁻¹ (λ (m : Moves). Every (Apart (moves_ranks m) (moves_lengths m)) w (from + 1) to) arm.moves p.0.apart),
        b.len0,
        b.f1,
        b.len1,
      )

  pub two_next : (es u v : List ℕ) → es ≡ take n (daughters_at t at (two_bases lowest base) mark)
      → Mapped (remade (shifted (0 ∷ (f ∷ [])) (len0 ∷ (len1 ∷ [])))) w u (from + 1) to (to + n)
      → Placed es u v to n (to + n + (to - (from + 1)))
      → Next (expanded_two t at n mark w from to) w v to (to + n + (to - (from + 1)))
  two_next es u v made moved placed =
      next_as w v to
      (ap (λ (g : ℕ → ℕ). insert_all es (map (remade g) (slice (from + 1) to w))) (λ i r. first_two len0 f len1 255 1 255 1 refl refl r i)
      ∙ wide_next t at n mark (two_bases lowest base) (by_two len0 f len1) w from to es made arm.begins arm.moves)
      (replaced (remade (shifted (0 ∷ (f ∷ [])) (len0 ∷ (len1 ∷ [])))) es w u v from to n moved placed)
