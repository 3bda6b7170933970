-- Rules of dimension 2: one of the front's two components has rank 0, so that the front's ranks need not be compared with each other.
-- Assumes nothing.
use Rattle.std.specs.Prelude.{if◌then◌else◌}
use mathlib.Core.Path.{◌≡◌, refl, sym, ap, ◌∙◌}
use mathlib.Core.Bool.{Bool, true, false}
use mathlib.Core.List.{[], ◌∷◌, map}
use Prim.Native.Nat.{ℕ, ◌+◌, ◌-◌, ◌/◌, ◌%◌, ◌<◌, ◌≤◌}
use native.Mathlib.Omega.{arith}
use borrow.Author.Tests.{eq-eqb, ne_eqb, eqb-true, eqb-false, le-ltb}
use lib.Dec.{ltb, eqb}
use lib.ListN.{length, take}
use Rattle.ranking.specs.Ranks.{above, passed, added, shifted, least_rank}
use Rattle.ranks.specs.Prediction.{unpacked}
use Rattle.ranks.specs.Moves.{moves_ranks, moves_lengths, Bounded}
use Rattle.ranks.specs.Daughters.{two_bases}
use Rattle.ranks.specs.Step.{by_two, two_moves_of, two_begins_of, two_moves, two_begins}
use Rattle.ranks.proofs.Moved.{above_zero}

above_none : (k n r : ℕ) → r ≤ k → above k n r ≡ 0
above_none k n r h = ap (λ (b : Bool). if b then n else 0) (le-ltb k r h)

module _ (a b n m : ℕ) (zero : least_rank (a ∷ b ∷ []) ≡ 0) (unequal : a ≡ b → ⊥) where
  second_zero : (a ≡ 0 → ⊥) → b ≡ 0
  second_zero f = go (ltb b a) refl zero
    where
      go : (t : Bool) → ltb b a ≡ t → (if t then b else a) ≡ 0 → b ≡ 0
      go true e z = z
      go false e z = absurd (f z)

  pub other_some : a ≡ 0 → 0 < b
  other_some e = some b (λ z. unequal (e ∙ sym z))
    where
      some : (b : ℕ) → (b ≡ 0 → ⊥) → 0 < b
      some b f = omega arith

  pub two_goes : (r : ℕ) → shifted (moves_ranks (two_moves_of a b n m)) (moves_lengths (two_moves_of a b n m)) r ≡ shifted (a ∷ b ∷ []) (n ∷ m ∷ []) r
  two_goes r = go (eqb a 0) refl
    where
      first : shifted (0 ∷ (b ∷ (255 ∷ (255 ∷ [])))) (n ∷ (m ∷ (1 ∷ (1 ∷ [])))) r ≡ shifted (0 ∷ b ∷ []) (n ∷ m ∷ []) r
      first = omega arith

      second : shifted (0 ∷ (a ∷ (255 ∷ (255 ∷ [])))) (m ∷ (n ∷ (1 ∷ (1 ∷ [])))) r ≡ shifted (a ∷ 0 ∷ []) (n ∷ m ∷ []) r
      second = omega arith

      go : (t : Bool) → eqb a 0 ≡ t
          → shifted (moves_ranks (if t then by_two n b m else by_two m a n))
          (moves_lengths (if t then by_two n b m else by_two m a n)) r
          ≡ shifted (a ∷ b ∷ []) (n ∷ m ∷ []) r
      go true e = first ∙ ap (λ (k : ℕ). shifted (k ∷ b ∷ []) (n ∷ m ∷ []) r) (sym (eqb-true a 0 e))
      go false e = second ∙ ap (λ (k : ℕ). shifted (a ∷ k ∷ []) (n ∷ m ∷ []) r) (sym (second_zero (eqb-false a 0 e)))

  pub two_begins_lem : take 2 (two_begins_of a b n m) ≡ map (shifted (a ∷ b ∷ []) (n ∷ m ∷ [])) (a ∷ b ∷ [])
  two_begins_lem = go (eqb a 0) refl
    where
      at_zero : (k n m : ℕ) → shifted (0 ∷ k ∷ []) (n ∷ m ∷ []) 0 ≡ 0
      at_zero k n m = omega (arith, above_none 0 n 0 (omega arith), above_none 0 1 0 (omega arith), above_none k m 0 (omega arith), above_none k 1 0 (omega arith))

      at_other : (k n m : ℕ) → 0 < k → shifted (0 ∷ k ∷ []) (n ∷ m ∷ []) k ≡ k + n - 1
      at_other k n m h = omega (arith, above_zero n k h, above_zero 1 k h, above_none k m k (omega arith), above_none k 1 k (omega arith))

      turned : (r : ℕ) → shifted (0 ∷ a ∷ []) (m ∷ n ∷ []) r ≡ shifted (a ∷ 0 ∷ []) (n ∷ m ∷ []) r
      turned r = omega arith

      go : (t : Bool) → eqb a 0 ≡ t → take 2 (if t then two_bases 0 (b + n - 1) else two_bases 1 (a + m - 1)) ≡ map (shifted (a ∷ b ∷ []) (n ∷ m ∷ [])) (a ∷ b ∷ [])
      go true e =
          let z = sym (eqb-true a 0 e) in
          let p = sym (at_zero b n m) in
          let q = sym (at_other b n m (other_some (eqb-true a 0 e))) in
          (λ i. p i ∷ (q i ∷ [])) ∙ ap (λ (k : ℕ). map (shifted (k ∷ b ∷ []) (n ∷ m ∷ [])) (k ∷ b ∷ [])) z
      go false e =
          let z = sym (second_zero (eqb-false a 0 e)) in
          let s : 0 < a = pos a (eqb-false a 0 e) in
          let p = sym (at_other a m n s) ∙ turned a in
          let q = sym (at_zero a m n) ∙ turned 0 in
          (λ i. p i ∷ (q i ∷ [])) ∙ ap (λ (k : ℕ). map (shifted (a ∷ k ∷ []) (n ∷ m ∷ [])) (a ∷ k ∷ [])) z
        where
          pos : (a : ℕ) → (a ≡ 0 → ⊥) → 0 < a
          pos a f = omega arith

  pub two_apart : (r : ℕ) → passed r (a ∷ b ∷ []) ≤ r → passed r (moves_ranks (two_moves_of a b n m)) ≤ r + added r (moves_ranks (two_moves_of a b n m)) (moves_lengths (two_moves_of a b n m))
  two_apart r h = go (eqb a 0) refl
    where
      first : a ≡ 0 → passed r (0 ∷ (b ∷ (255 ∷ (255 ∷ [])))) ≤ r + added r (0 ∷ (b ∷ (255 ∷ (255 ∷ [])))) (n ∷ (m ∷ (1 ∷ (1 ∷ []))))
      first z = omega (arith, h, ap (λ (k : ℕ). above k 1 r) z)

      second : b ≡ 0 → passed r (0 ∷ (a ∷ (255 ∷ (255 ∷ [])))) ≤ r + added r (0 ∷ (a ∷ (255 ∷ (255 ∷ [])))) (m ∷ (n ∷ (1 ∷ (1 ∷ []))))
      second z = omega (arith, h, ap (λ (k : ℕ). above k 1 r) z)

      go : (t : Bool) → eqb a 0 ≡ t
          → passed r (moves_ranks (if t then by_two n b m else by_two m a n))
          ≤ r + added r (moves_ranks (if t then by_two n b m else by_two m a n))
          (moves_lengths (if t then by_two n b m else by_two m a n))
      go true e = first (eqb-true a 0 e)
      go false e = second (second_zero (eqb-false a 0 e))

pub two_bounded : (a b n m : ℕ) → a < 256 → b < 256 → n < 256 → m < 256 → Bounded (two_moves_of a b n m)
two_bounded a b n m ha hb hn hm = go (eqb a 0)
  where
    go : (t : Bool) → Bounded (if t then by_two n b m else by_two m a n)
    go true = record { len0 = hn; f1 = hb; len1 = hm; f2 = omega arith; len2 = omega arith; f3 = omega arith; len3 = omega arith }
    go false = record { len0 = hm; f1 = ha; len1 = hn; f2 = omega arith; len2 = omega arith; f3 = omega arith; len3 = omega arith }

-- what the code makes of the front's ranks
module _ (front lens : ℕ) where
  pub two_four : length (two_begins front lens) ≡ 4
  two_four = go (eqb (unpacked front).rank0 0)
    where
      go : (t : Bool) → length {A = ℕ} (if t then two_bases 0 ((unpacked front).rank1 + lens % 65536 - 1) else two_bases 1 ((unpacked front).rank0 + lens / 65536 % 65536 - 1)) ≡ 4
      go true = refl
      go false = refl

  pub moves_first : (f : ℕ) → (unpacked front).rank0 ≡ 0 → f ≡ (unpacked front).rank1
      → by_two (lens % 65536) f (lens / 65536 % 65536) ≡ two_moves front lens
  moves_first f z e =
      ap (λ (k : ℕ). by_two (lens % 65536) k (lens / 65536 % 65536)) e
      ∙ sym (ap (λ (t : Bool). if t then by_two (lens % 65536) (unpacked front).rank1 (lens / 65536 % 65536) else by_two (lens / 65536 % 65536) (unpacked front).rank0 (lens % 65536)) (eq-eqb (unpacked front).rank0 0 z))

  pub moves_second : (f : ℕ) → f ≡ (unpacked front).rank0 → (f ≡ 0 → ⊥)
      → by_two (lens / 65536 % 65536) f (lens % 65536) ≡ two_moves front lens
  moves_second f e n =
      ap (λ (k : ℕ). by_two (lens / 65536 % 65536) k (lens % 65536)) e
      ∙ sym (ap (λ (t : Bool). if t then by_two (lens % 65536) (unpacked front).rank1 (lens / 65536 % 65536) else by_two (lens / 65536 % 65536) (unpacked front).rank0 (lens % 65536)) (ne_eqb (unpacked front).rank0 0 (λ z. n (e ∙ z))))

  pub begins_first : (f : ℕ) → (unpacked front).rank0 ≡ 0 → f ≡ (unpacked front).rank1 → two_bases 0 (f + lens % 65536 - 1) ≡ two_begins front lens
  begins_first f z e =
      ap (λ (k : ℕ). two_bases 0 (k + lens % 65536 - 1)) e
      ∙ sym (ap (λ (t : Bool). if t then two_bases 0 ((unpacked front).rank1 + lens % 65536 - 1) else two_bases 1 ((unpacked front).rank0 + lens / 65536 % 65536 - 1)) (eq-eqb (unpacked front).rank0 0 z))

  pub begins_second : (f : ℕ) → f ≡ (unpacked front).rank0 → (f ≡ 0 → ⊥) → two_bases 1 (f + lens / 65536 % 65536 - 1) ≡ two_begins front lens
  begins_second f e n =
      ap (λ (k : ℕ). two_bases 1 (k + lens / 65536 % 65536 - 1)) e
      ∙ sym (ap (λ (t : Bool). if t then two_bases 0 ((unpacked front).rank1 + lens % 65536 - 1) else two_bases 1 ((unpacked front).rank0 + lens / 65536 % 65536 - 1)) (ne_eqb (unpacked front).rank0 0 (λ z. n (e ∙ z))))
