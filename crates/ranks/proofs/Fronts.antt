-- The front and the rule's lengths, four numbers each: a component that is not there has the rank of component 0 and length 1, and so moves nothing.
-- Assumes nothing.
use mathlib.Core.Path.{◌≡◌, refl, sym, ◌∙◌}
use mathlib.Core.Logic.{◌⊎◌, inl, inr}
use mathlib.Core.List.{List, [], ◌∷◌, ◌++◌}
use Prim.Native.Nat.{ℕ, ◌+◌, ◌-◌, ◌<◌, ◌≤◌}
use native.Mathlib.Omega.{arith}
use native.Mathlib.Decide.{ℕ_discrete}
use lib.ListN.{length, get_or}
use Rattle.model.specs.Grammar.{Grammar}
use Rattle.model.proofs.Apart.{mem_every}
use Rattle.model.proofs.Perm.{perm_sym}
use Rattle.ranking.specs.Ranks.{Ranked, RankedState, passed, added, shifted, least_rank}
use Rattle.ranking.specs.RanksAgree.{all_ranks}
use Rattle.ranking.proofs.Bounds.{Takes, ranks_gapless, front_zero, passed_bounded}
use Rattle.ranking.proofs.Limits.{Reached}
use Rattle.ranks.specs.Held.{lane_of}
use Rattle.ranks.specs.Table.{ones}
use Rattle.ranks.proofs.Pairs.{Pairwise, pairwise_perm, pairwise_first, Unequal, numbers_unequal}
use Rattle.ranks.proofs.Fitting.{least_mem, lanes_all}
use Rattle.ranks.proofs.Moved.{above_most}
use Rattle.ranks.proofs.Gathering.{Fair}
use Rattle.ranks.proofs.Fairness.{Bytes, fair_four, Unlike}

abbrev pub lanes_of : List ℕ → List ℕ
lanes_of rs = lane_of rs 0 ∷ (lane_of rs 1 ∷ (lane_of rs 2 ∷ (lane_of rs 3 ∷ [])))

-- the lengths of a rule's components, and 1 for each that is not there
abbrev pub four_lengths : List ℕ → List ℕ
four_lengths ns = ns ++ ones (4 - length ns)

-- of the front of a queue that steps reach
module _ (g : Grammar) {A : Type 0} (x : Ranked A) (R : List (Ranked A)) (ws : List ℕ) (reached : Reached g (record { queue = x ∷ R; words = ws })) where
  abbrev state : RankedState A
  state = record { queue = x ∷ R; words = ws }

  pub front_least : least_rank x.ranks ≡ 0
  front_least = front_zero g reached.0 state reached.1

  pub front_takes : Takes (x ∷ R)
  front_takes = passed_bounded g reached.0 state reached.1

  -- no two of its ranks are the same
  pub front_unequal : Pairwise Unequal x.ranks
  front_unequal =
      pairwise_first Unequal x.ranks (all_ranks R)
      (pairwise_perm Unequal (λ a b u e. u (sym e)) (perm_sym (ranks_gapless g reached.0 state reached.1)) (numbers_unequal 0 (length (all_ranks (x ∷ R)))))

-- one of its lanes has rank 0
pub some_zero : (rs : List ℕ) → 1 ≤ length rs → length rs ≤ 4 → least_rank rs ≡ 0
    → (lane_of rs 0 ≡ 0) ⊎ ((lane_of rs 1 ≡ 0) ⊎ ((lane_of rs 2 ≡ 0) ⊎ (lane_of rs 3 ≡ 0)))
some_zero rs h n e = go (ℕ_discrete (lane_of rs 0) 0) (ℕ_discrete (lane_of rs 1) 0) (ℕ_discrete (lane_of rs 2) 0) (ℕ_discrete (lane_of rs 3) 0)
  where
    go : Dec (lane_of rs 0 ≡ 0) → Dec (lane_of rs 1 ≡ 0) → Dec (lane_of rs 2 ≡ 0) → Dec (lane_of rs 3 ≡ 0)
        → (lane_of rs 0 ≡ 0) ⊎ ((lane_of rs 1 ≡ 0) ⊎ ((lane_of rs 2 ≡ 0) ⊎ (lane_of rs 3 ≡ 0)))
    go (yes z) b c d = inl z
    go (no a) (yes z) c d = inr (inl z)
    go (no a) (no b) (yes z) d = inr (inr (inl z))
    go (no a) (no b) (no c) (yes z) = inr (inr (inr z))
    go (no a) (no b) (no c) (no d) = absurd (mem_every (λ r. r ≡ 0 → ⊥) rs (lanes_all (λ r. r ≡ 0 → ⊥) rs n a b c d) (least_rank rs) (least_mem rs h) e)

-- of two components with other ranks one alone has rank 0
apart : {a b n m : ℕ} → Unequal a b → Unlike a n b m
apart u p q r s = u (q ∙ sym s)

-- a component of length 1 is no concern
first_one : {a b m : ℕ} → Unlike a 1 b m
first_one p q r s = p refl

second_one : {a b n : ℕ} → Unlike a n b 1
second_one p q r s = r refl

-- one to four ranks, with as many lengths
pub data OneToFour : List ℕ → List ℕ → Type 0 where
  one : (a n : ℕ) → OneToFour (a ∷ []) (n ∷ [])
  two : (a b n m : ℕ) → OneToFour (a ∷ b ∷ []) (n ∷ m ∷ [])
  three : (a b c n m l : ℕ) → OneToFour (a ∷ b ∷ c ∷ []) (n ∷ m ∷ l ∷ [])
  four : (a b c d n m l i : ℕ) → OneToFour (a ∷ b ∷ c ∷ d ∷ []) (n ∷ m ∷ l ∷ i ∷ [])

pub one_to_four : (rs ns : List ℕ) → length rs ≡ length ns → 1 ≤ length rs → length rs ≤ 4 → OneToFour rs ns
one_to_four [] ns e h k = absurd (omega arith)
one_to_four (a ∷ rs) [] e h k = absurd (omega arith)
one_to_four (a ∷ []) (n ∷ []) e h k = one a n
one_to_four (a ∷ []) (n ∷ m ∷ ns) e h k = absurd (omega arith)
one_to_four (a ∷ b ∷ rs) (n ∷ []) e h k = absurd (omega arith)
one_to_four (a ∷ b ∷ []) (n ∷ m ∷ []) e h k = two a b n m
one_to_four (a ∷ b ∷ []) (n ∷ m ∷ l ∷ ns) e h k = absurd (omega arith)
one_to_four (a ∷ b ∷ c ∷ rs) (n ∷ m ∷ []) e h k = absurd (omega arith)
one_to_four (a ∷ b ∷ c ∷ []) (n ∷ m ∷ l ∷ []) e h k = three a b c n m l
one_to_four (a ∷ b ∷ c ∷ []) (n ∷ m ∷ l ∷ i ∷ ns) e h k = absurd (omega arith)
one_to_four (a ∷ b ∷ c ∷ d ∷ rs) (n ∷ m ∷ l ∷ []) e h k = absurd (omega arith)
one_to_four (a ∷ b ∷ c ∷ d ∷ []) (n ∷ m ∷ l ∷ i ∷ []) e h k = four a b c d n m l i
one_to_four (a ∷ b ∷ c ∷ d ∷ []) (n ∷ m ∷ l ∷ i ∷ j ∷ ns) e h k = absurd (omega arith)
one_to_four (a ∷ b ∷ c ∷ d ∷ f ∷ rs) (n ∷ m ∷ l ∷ i ∷ ns) e h k = absurd (omega arith)

-- two components that move others are not both of rank 0
pub fair : (rs ns : List ℕ) → OneToFour rs ns → least_rank rs ≡ 0 → Pairwise Unequal rs → Fair (lanes_of rs) (four_lengths ns)
fair rs ns (one a n) z u = fair_four a a a a n 1 1 1 (some_zero (a ∷ []) (omega arith) (omega arith) z) second_one second_one second_one first_one first_one first_one
fair rs ns (two a b n m) z u =
    fair_four a b a a n m 1 1 (some_zero (a ∷ b ∷ []) (omega arith) (omega arith) z) (apart u.0.0) second_one second_one second_one second_one first_one
fair rs ns (three a b c n m l) z u =
    fair_four a b c a n m l 1 (some_zero (a ∷ b ∷ c ∷ []) (omega arith) (omega arith) z) (apart u.0.0) (apart u.0.1.0) second_one (apart u.1.0.0) second_one second_one
fair rs ns (four a b c d n m l i) z u =
    fair_four a b c d n m l i (some_zero (a ∷ b ∷ c ∷ d ∷ []) (omega arith) (omega arith) z) (apart u.0.0) (apart u.0.1.0) (apart u.0.1.1.0) (apart u.1.0.0) (apart u.1.0.1.0) (apart u.1.1.0.0)

-- what the four add and take off is what the components do that are there
pub four_shifted : (rs ns : List ℕ) → OneToFour rs ns → (r : ℕ) → shifted (lanes_of rs) (four_lengths ns) r ≡ shifted rs ns r
four_shifted rs ns (one a n) r = omega arith
four_shifted rs ns (two a b n m) r = omega arith
four_shifted rs ns (three a b c n m l) r = omega arith
four_shifted rs ns (four a b c d n m l i) r = omega arith

pub four_apart : (rs ns : List ℕ) → OneToFour rs ns → (r : ℕ) → passed r rs ≤ r → passed r (lanes_of rs) ≤ r + added r (lanes_of rs) (four_lengths ns)
four_apart rs ns (one a n) r h = omega arith
four_apart rs ns (two a b n m) r h = omega arith
four_apart rs ns (three a b c n m l) r h = omega arith
four_apart rs ns (four a b c d n m l i) r h = omega arith

-- numbers below 256
pub four_bytes : (rs ns : List ℕ) → OneToFour rs ns → ((c : ℕ) → lane_of rs c < 256) → ((c : ℕ) → get_or ns c 0 < 256) → Bytes (lanes_of rs) × Bytes (four_lengths ns)
four_bytes rs ns (one a n) h k = ((h 0, (h 1, (h 2, (h 3, tt)))), (k 0, (omega arith, (omega arith, (omega arith, tt)))))
four_bytes rs ns (two a b n m) h k = ((h 0, (h 1, (h 2, (h 3, tt)))), (k 0, (k 1, (omega arith, (omega arith, tt)))))
four_bytes rs ns (three a b c n m l) h k = ((h 0, (h 1, (h 2, (h 3, tt)))), (k 0, (k 1, (k 2, (omega arith, tt)))))
four_bytes rs ns (four a b c d n m l i) h k = ((h 0, (h 1, (h 2, (h 3, tt)))), (k 0, (k 1, (k 2, (k 3, tt)))))

-- a rank below 256 goes to one below 512
pub shifted_small : (rs ns : List ℕ) → OneToFour rs ns → ((c : ℕ) → get_or ns c 0 ≤ 12) → (r : ℕ) → r < 256 → shifted rs ns r < 512
shifted_small rs ns (one a n) h r k = omega (arith, h 0, above_most a n r)
shifted_small rs ns (two a b n m) h r k = omega (arith, h 0, h 1, above_most a n r, above_most b m r)
shifted_small rs ns (three a b c n m l) h r k = omega (arith, h 0, h 1, h 2, above_most a n r, above_most b m r, above_most c l r)
shifted_small rs ns (four a b c d n m l i) h r k = omega (arith, h 0, h 1, h 2, h 3, above_most a n r, above_most b m r, above_most c l r, above_most d i r)
