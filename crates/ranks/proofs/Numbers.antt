-- Predictions as numbers: a prediction is found again in its number, and the numbers stand in the order of the queue.
-- Assumes nothing.
use Rattle.std.specs.Prelude.{if◌then◌else◌}
use mathlib.Core.Path.{◌≡◌, refl, sym, ap, ap₂, ◌∙◌}
use mathlib.Core.Bool.{Bool, true, false}
use mathlib.Core.List.{List, [], ◌∷◌, ◌++◌, map}
use Prim.Native.Nat.{ℕ, ◌<◌, ◌≤◌}
use native.Mathlib.Omega.{arith}
use native.Mathlib.Decide.{dec_lt}
use lib.Dec.{ltb}
use lib.ListN.{length, take}
use borrow.Author.Tests.{lt-ltb, le-ltb}
use Rattle.model.specs.Grammar.{Grammar, dimension}
use Rattle.model.specs.WellFormed.{Perm, same, more, swap, chain}
use Rattle.model.proofs.Perm.{perm_sym}
use Rattle.model.proofs.Apart.{Every, every_to, every_perm}
use Rattle.ranking.specs.Ranks.{Ranked, least_rank, insert_ranked, put_in}
use Rattle.ranking.proofs.Bounds.{Rising}
use Rattle.ranks.specs.Prediction.{Prediction, Sized, ranks, unpacked}
use Rattle.ranks.specs.Queue.{insert, insert_if, insert_all}
use Rattle.ranks.specs.Held.{lane_of, in_lanes, number_of, prediction_of, Fits}
use Rattle.ranks.proofs.Packing.{unpacked_packed, packed_rises}
use Rattle.ranks.proofs.Sorting.{insert_swap}
use Rattle.ranks.proofs.Pairs.{Pairwise, pairwise_perm}

-- the lanes of at most four ranks, as many as there are
pub lanes_ranks : (rs : List ℕ) → 1 ≤ length rs → length rs ≤ 4 → take (length rs) (lane_of rs 0 ∷ (lane_of rs 1 ∷ (lane_of rs 2 ∷ (lane_of rs 3 ∷ [])))) ≡ rs
lanes_ranks [] h k = absurd (omega arith)
lanes_ranks (a ∷ []) h k = refl
lanes_ranks (a ∷ b ∷ []) h k = refl
lanes_ranks (a ∷ b ∷ c ∷ []) h k = refl
lanes_ranks (a ∷ b ∷ c ∷ d ∷ []) h k = refl
lanes_ranks (a ∷ b ∷ c ∷ d ∷ e ∷ rs) h k = absurd (omega arith)

module _ (g : Grammar) where
  pub sized : (p : Ranked ℕ) → Fits g p → Sized (in_lanes p)
  sized p h =
      record {
        lanes = record { least = omega (arith, h.least_small); rank3 = omega (arith, h.small 3); rank2 = omega (arith, h.small 2); rank1 = omega (arith, h.small 1); rank0 = omega (arith, h.small 0) };
        number = h.node_small;
        category = h.category_small;
      }

  pub unpacked_number : (p : Ranked ℕ) → Fits g p → unpacked (number_of p) ≡ in_lanes p
  unpacked_number p h = unpacked_packed (in_lanes p) (sized p h)

  pub read_back : (p : Ranked ℕ) → Fits g p → prediction_of g (number_of p) ≡ p
  read_back p h =
      ap (λ (u : Prediction). record { category = u.category; ranks = take (dimension g u.category) (ranks u); node = u.number }) (unpacked_number p h)
      ∙ again (ap (λ (n : ℕ). take n (ranks (in_lanes p))) (sym h.sized) ∙ lanes_ranks p.ranks h.some_ranks h.few_ranks)
    where
      again : take (dimension g p.category) (ranks (in_lanes p)) ≡ p.ranks
          → ◌≡◌ {A = Ranked ℕ} (record { category = p.category; ranks = take (dimension g p.category) (ranks (in_lanes p)); node = p.node }) p
      again e = λ i. record { category = p.category; ranks = e i; node = p.node }

  -- the numbers compare as the least ranks
  pub number_less : (p q : Ranked ℕ) → Fits g p → Fits g q → least_rank p.ranks < least_rank q.ranks → number_of p < number_of q
  number_less p q h k l = packed_rises (in_lanes p) (in_lanes q) (sized p h) (sized q k) l

  -- all of a queue
  pub read_all : (q : List (Ranked ℕ)) → Every (Fits g) q → map (prediction_of g) (map number_of q) ≡ q
  read_all [] h = refl
  read_all (p ∷ q) h = ap₂ (λ (a : Ranked ℕ) (l : List (Ranked ℕ)). a ∷ l) (read_back p h.0) (read_all q h.1)

-- predictions with other least ranks
abbrev pub Other : Ranked ℕ → Ranked ℕ → Type 0
Other p q = least_rank p.ranks ≡ least_rank q.ranks → ⊥

rising_other : (q : List (Ranked ℕ)) → Rising q → Pairwise Other q
rising_other [] h = tt
rising_other (p ∷ q) h = (every_to (λ x. least_rank p.ranks < least_rank x.ranks) (Other p) (λ x l e. omega arith) q h.0, rising_other q h.1)

insert_perm : (p : Ranked ℕ) (q : List (Ranked ℕ)) → Perm (insert_ranked p q) (p ∷ q)
insert_perm p [] = same refl
insert_perm p (y ∷ q) = go (ltb (least_rank y.ranks) (least_rank p.ranks)) (insert_perm p q)
  where
    go : (b : Bool) → Perm (insert_ranked p q) (p ∷ q) → Perm (if b then y ∷ insert_ranked p q else p ∷ y ∷ q) (p ∷ y ∷ q)
    go true k = chain (more y k) (swap y p)
    go false k = same refl

pub put_perm : (xs q : List (Ranked ℕ)) → Perm (put_in xs q) (xs ++ q)
put_perm [] q = same refl
put_perm (x ∷ xs) q = chain (insert_perm x (put_in xs q)) (more x (put_perm xs q))

-- in which order numbers are put in makes no difference
all_swap : (e : ℕ) (es l : List ℕ) → insert_all es (insert e l) ≡ insert e (insert_all es l)
all_swap e [] l = refl
all_swap e (x ∷ es) l = ap (insert_all es) (insert_swap e x l) ∙ all_swap e es (insert x l)

module _ (g : Grammar) where
  insert_number : (p : Ranked ℕ) (q : List (Ranked ℕ)) → Fits g p → Every (Fits g) q → Every (Other p) q → map number_of (insert_ranked p q) ≡ insert (number_of p) (map number_of q)
  insert_number p [] h k o = refl
  insert_number p (y ∷ q) h k o = go (dec_lt (least_rank y.ranks) (least_rank p.ranks)) (insert_number p q h k.1 o.1)
    where
      less : (a b : ℕ) → (b < a → ⊥) → (a ≡ b → ⊥) → a < b
      less a b u v = omega arith

      go : Dec (least_rank y.ranks < least_rank p.ranks) → map number_of (insert_ranked p q) ≡ insert (number_of p) (map number_of q)
          → map number_of (if ltb (least_rank y.ranks) (least_rank p.ranks) then y ∷ insert_ranked p q else p ∷ y ∷ q)
          ≡ insert_if (ltb (number_of p) (number_of y)) (number_of p) (number_of y) (map number_of q) (insert (number_of p) (map number_of q))
      go (yes l) e =
          let a = number_less g y p k.0 h l in
          ap (λ (b : Bool). map number_of (if b then y ∷ insert_ranked p q else p ∷ y ∷ q)) (lt-ltb (least_rank y.ranks) (least_rank p.ranks) l)
          ∙ ap (λ (m : List ℕ). number_of y ∷ m) e
          ∙ ap (λ (b : Bool). insert_if b (number_of p) (number_of y) (map number_of q) (insert (number_of p) (map number_of q))) (sym (le-ltb (number_of p) (number_of y) (before (number_of y) (number_of p) a)))
        where
          before : (a b : ℕ) → a < b → a ≤ b
          before a b u = omega arith
      go (no n) e =
          let l = less (least_rank p.ranks) (least_rank y.ranks) n o.0 in
          let a = number_less g p y h k.0 l in
          ap (λ (b : Bool). map number_of (if b then y ∷ insert_ranked p q else p ∷ y ∷ q)) (le-ltb (least_rank y.ranks) (least_rank p.ranks) (before (least_rank p.ranks) (least_rank y.ranks) l))
          ∙ ap (λ (b : Bool). insert_if b (number_of p) (number_of y) (map number_of q) (insert (number_of p) (map number_of q))) (sym (lt-ltb (number_of p) (number_of y) a))
        where
          before : (a b : ℕ) → a < b → a ≤ b
          before a b u = omega arith

  by_other : (xs q : List (Ranked ℕ)) → Every (Fits g) (xs ++ q) → Pairwise Other (xs ++ q) → map number_of (put_in xs q) ≡ insert_all (map number_of xs) (map number_of q)
  by_other [] q h o = refl
  by_other (x ∷ xs) q h o =
      let b = perm_sym (put_perm xs q) in
      insert_number x (put_in xs q) h.0 (every_perm (Fits g) b h.1) (every_perm (Other x) b o.0)
      ∙ ap (insert (number_of x)) (by_other xs q h.1 o.1)
      ∙ sym (all_swap (number_of x) (map number_of xs) (map number_of q))

  -- a queue in order, made by putting in: its numbers are made by putting numbers in
  pub put_numbers : (xs q : List (Ranked ℕ)) → Every (Fits g) (put_in xs q) → Rising (put_in xs q) → map number_of (put_in xs q) ≡ insert_all (map number_of xs) (map number_of q)
  put_numbers xs q h r = by_other xs q (every_perm (Fits g) (put_perm xs q) h) (pairwise_perm Other (λ x y o e. o (sym e)) (put_perm xs q) (rising_other (put_in xs q) r))
