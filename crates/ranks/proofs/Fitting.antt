-- Every prediction of a queue that a live prefix reaches fits into its number.
-- Assumes nothing.
use Rattle.std.specs.Prelude.{if◌then◌else◌}
use mathlib.Core.Path.{◌≡◌, refl, sym, subst}
use mathlib.Core.Bool.{Bool, true, false}
use mathlib.Core.List.{List, [], ◌∷◌, Memᴰ}
use Prim.Native.Nat.{ℕ, ◌<◌, ◌≤◌, min}
use native.Mathlib.Omega.{arith}
use native.Mathlib.Decide.{dec_lt}
use lib.Dec.{ltb}
use lib.ListN.{length, get_or, get_or-eq_default}
use borrow.Author.Tests.{lt-ltb, le-ltb}
use Rattle.model.specs.Grammar.{Grammar, dimension}
use Rattle.model.specs.WellFormed.{WellFormed}
use Rattle.model.proofs.Lists.{mem_get_d}
use Rattle.model.proofs.Apart.{Every, every_to, every_mem, mem_every}
use Rattle.ranking.specs.Ranks.{Ranked, RankedState, least_rank}
use Rattle.ranking.proofs.Bounds.{Rising, ranks_sized}
use Rattle.ranking.proofs.Limits.{Reached, dimension_four, ranks_below}
use Rattle.ranks.specs.Held.{lane_of, Fits}

-- the least rank is one of them, and no other is below it
pub least_mem : (rs : List ℕ) → 1 ≤ length rs → Memᴰ (least_rank rs) rs
least_mem [] h = absurd (omega arith)
least_mem (r ∷ []) h = Memᴰ.head refl
least_mem (r ∷ s ∷ rs) h = go (ltb (least_rank (s ∷ rs)) r) (least_mem (s ∷ rs) (omega arith))
  where
    go : (b : Bool) → Memᴰ (least_rank (s ∷ rs)) (s ∷ rs) → Memᴰ (if b then least_rank (s ∷ rs) else r) (r ∷ s ∷ rs)
    go true m = Memᴰ.tail m
    go false m = Memᴰ.head refl

pub least_below : (rs : List ℕ) → Every (λ r. least_rank rs ≤ r) rs
least_below [] = tt
least_below (r ∷ []) = (omega arith, tt)
least_below (r ∷ s ∷ rs) = go (dec_lt (least_rank (s ∷ rs)) r) (least_below (s ∷ rs))
  where
    go : Dec (least_rank (s ∷ rs) < r) → Every (λ x. least_rank (s ∷ rs) ≤ x) (s ∷ rs) → Every (λ x. (if ltb (least_rank (s ∷ rs)) r then least_rank (s ∷ rs) else r) ≤ x) (r ∷ s ∷ rs)
    go (yes l) h =
        subst (λ (b : Bool). Every (λ x. (if b then least_rank (s ∷ rs) else r) ≤ x) (r ∷ s ∷ rs)) (sym (lt-ltb (least_rank (s ∷ rs)) r l)) (omega arith, h)
    go (no n) h =
        subst (λ (b : Bool). Every (λ x. (if b then least_rank (s ∷ rs) else r) ≤ x) (r ∷ s ∷ rs)) (sym (le-ltb (least_rank (s ∷ rs)) r (omega arith)))
        (omega arith, every_to (λ x. least_rank (s ∷ rs) ≤ x) (λ x. r ≤ x) (λ x l. omega arith) (s ∷ rs) h)

-- behind the front every rank is at least 1
pub others_positive : {A : Type 0} (p : Ranked A) (q : List (Ranked A)) → Rising (p ∷ q) → Every (λ x. Every (λ r. 0 < r) x.ranks) q
others_positive p q h =
    every_to (λ x. least_rank p.ranks < least_rank x.ranks) (λ x. Every (λ r. 0 < r) x.ranks)
    (λ x l. every_to (λ r. least_rank x.ranks ≤ r) (λ r. 0 < r) (λ r k. omega arith) x.ranks (least_below x.ranks)) q h.0

-- lanes: each is a rank, and what holds of the four holds of each rank
pub lane_mem : (rs : List ℕ) (c : ℕ) → 1 ≤ length rs → Memᴰ (lane_of rs c) rs
lane_mem rs c h = go (dec_lt c (length rs))
  where
    go : Dec (c < length rs) → Memᴰ (lane_of rs c) rs
    go (yes l) = mem_get_d rs (get_or rs 0 0) c l
    go (no n) = rw (get_or-eq_default rs (get_or rs 0 0) {n = c} (omega arith)) (mem_get_d rs 0 0 h)

pub lanes_all : (P : ℕ → Type 0) (rs : List ℕ) → length rs ≤ 4 → P (lane_of rs 0) → P (lane_of rs 1) → P (lane_of rs 2) → P (lane_of rs 3) → Every P rs
lanes_all P [] n h0 h1 h2 h3 = tt
lanes_all P (a ∷ []) n h0 h1 h2 h3 = (h0, tt)
lanes_all P (a ∷ b ∷ []) n h0 h1 h2 h3 = (h0, (h1, tt))
lanes_all P (a ∷ b ∷ c ∷ []) n h0 h1 h2 h3 = (h0, (h1, (h2, tt)))
lanes_all P (a ∷ b ∷ c ∷ d ∷ []) n h0 h1 h2 h3 = (h0, (h1, (h2, (h3, tt))))
lanes_all P (a ∷ b ∷ c ∷ d ∷ e ∷ rs) n h0 h1 h2 h3 = absurd (omega arith)

-- the least of four lanes is the least rank
pub least_lanes : (rs : List ℕ) → 1 ≤ length rs → length rs ≤ 4 → min (min (lane_of rs 0) (lane_of rs 1)) (min (lane_of rs 2) (lane_of rs 3)) ≡ least_rank rs
least_lanes rs h n = both (lane_of rs 0) (lane_of rs 1) (lane_of rs 2) (lane_of rs 3) (least_rank rs) (at 0) (at 1) (at 2) (at 3)
    (mem_every (λ x. least4 ≤ x) rs (lanes_all (λ x. least4 ≤ x) rs n (omega arith) (omega arith) (omega arith) (omega arith)) (least_rank rs) (least_mem rs h))
  where
    least4 : ℕ
    least4 = min (min (lane_of rs 0) (lane_of rs 1)) (min (lane_of rs 2) (lane_of rs 3))

    at : (c : ℕ) → least_rank rs ≤ lane_of rs c
    at c = mem_every (λ x. least_rank rs ≤ x) rs (least_below rs) (lane_of rs c) (lane_mem rs c h)

    both : (a b c d l : ℕ) → l ≤ a → l ≤ b → l ≤ c → l ≤ d → min (min a b) (min c d) ≤ l → min (min a b) (min c d) ≡ l
    both a b c d l ha hb hc hd k = omega arith

-- a category with a dimension is one of the grammar's
named : (g : Grammar) (a : ℕ) → 1 ≤ dimension g a → a < length g.dimensions
named g a h = go (dec_lt a (length g.dimensions))
  where
    go : Dec (a < length g.dimensions) → a < length g.dimensions
    go (yes l) = l
    go (no n) = absurd (omega (arith, h, get_or-eq_default g.dimensions 0 {n = a} (omega arith)))

-- at most 64 predictions have at most 256 components, so every rank is below 256
module _ (g : Grammar) (well : WellFormed g) (t : RankedState ℕ) (reached : Reached g t) (few : length t.queue ≤ 64) where
  pub all_fit : Every (λ p. p.node < 512) t.queue → Every (Fits g) t.queue
  all_fit numbers = every_mem (Fits g) t.queue one
    where
      one : (p : Ranked ℕ) → Memᴰ p t.queue → Fits g p
      one p m =
          let s = mem_every (λ p. (length p.ranks ≡ dimension g p.category) × (1 ≤ length p.ranks)) t.queue (ranks_sized g reached.0 t reached.1) p m in
          record {
            sized = s.0;
            some_ranks = s.1;
            few_ranks = omega (arith, s.0, dimension_four g well p.category);
            small = λ c. omega (arith, few, ranks_below g well t reached p m (lane_of p.ranks c) (lane_mem p.ranks c s.1));
            least_small = omega (arith, few, ranks_below g well t reached p m (least_rank p.ranks) (least_mem p.ranks s.1));
            category_small = omega (arith, well.categories.1, named g p.category (omega (arith, s.0, s.1)));
            node_small = mem_every (λ p. p.node < 512) t.queue numbers p m;
          }
