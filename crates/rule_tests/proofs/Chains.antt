-- Records in chains by their hashes: how the tables grow by one record, and that a record holds the rule of an earlier one exactly when it holds that of one in
-- its chain.
-- Assumes nothing.
use mathlib.Core.Path.{◌≡◌, refl, sym, ap, ◌∙◌}
use mathlib.Core.Bool.{Bool, true, false}
use mathlib.Core.List.{List}
use Prim.Native.Nat.{ℕ, zero, suc, ◌+◌, ◌-◌, ◌<◌, ◌≤◌}
use native.Mathlib.Omega.{arith}
use native.Mathlib.Decide.{ℕ_discrete}
use borrow.Author.Tests.{eq-eqb, ne_eqb}
use lib.ListN.{length, get_or, set, length-set, replicate, get_or-replicate}
use lib.Seq.{get_or-set_same, get_or-set_other}
use Rattle.model.specs.Base.{any_below}
use Rattle.model.specs.GrammarFile.{same_rule, repeated}
use Rattle.grammar.proofs.Below.{any_hit, any_less}
use Rattle.rule_tests.specs.Chains.{hash_of, latest, Chained, hash_at, InChain}
use Rattle.rule_tests.proofs.Hashes.{same_hash}

-- the latest of n + 1, by whether number n has the hash
module _ (hash : ℕ → ℕ) (h n : ℕ) where
  latest_here : hash n ≡ h → latest hash h (suc n) ≡ suc n
  latest_here e = rw (eq-eqb (hash n) h e)

  latest_else : (hash n ≡ h → ⊥) → latest hash h (suc n) ≡ latest hash h n
  latest_else d = rw (ne_eqb (hash n) h d)

module _ (hash : ℕ → ℕ) (h : ℕ) where
  latest_below : (n : ℕ) → latest hash h n ≤ n
  latest_below zero = omega arith
  latest_below (suc n) = go (ℕ_discrete (hash n) h) (latest_below n)
    where
      go : Dec (hash n ≡ h) → latest hash h n ≤ n → latest hash h (suc n) ≤ suc n
      go (yes e) below = omega (arith, latest_here hash h n e)
      go (no d) below = omega (arith, latest_else hash h n d)

  latest_has : (n j : ℕ) → latest hash h n ≡ suc j → hash j ≡ h
  latest_has zero j e = absurd (omega arith)
  latest_has (suc n) j e = go (ℕ_discrete (hash n) h) (latest_has n j)
    where
      go : Dec (hash n ≡ h) → (latest hash h n ≡ suc j → hash j ≡ h) → hash j ≡ h
      go (yes f) has = let z : n ≡ j = omega (arith, e, latest_here hash h n f) in ap hash (sym z) ∙ f
      go (no d) has = has (sym (latest_else hash h n d) ∙ e)

  -- a test that no number with another hash passes: only the latest with the hash, and those before it, make a difference
  any_latest : (test : ℕ → Bool) → ((j : ℕ) → (hash j ≡ h → ⊥) → test j ≡ false) → (n : ℕ) → any_below test n ≡ any_below test (latest hash h n)
  any_latest test other zero = refl
  any_latest test other (suc n) = go (ℕ_discrete (hash n) h) (any_latest test other n)
    where
      go : Dec (hash n ≡ h) → any_below test n ≡ any_below test (latest hash h n) → any_below test (suc n) ≡ any_below test (latest hash h (suc n))
      go (yes e) same = ap (any_below test) (sym (latest_here hash h n e))
      go (no d) same = any_less test n (other n d) ∙ same ∙ ap (any_below test) (sym (latest_else hash h n d))

-- a table of the latest of n numbers, by their hashes
pub record Latest (hash : ℕ → ℕ) (n : ℕ) (table : List ℕ) : Type 0 where
  pub at : (h : ℕ) → h < 256 → get_or table h 0 ≡ latest hash h n

-- number n is entered in that table, and what stood there in the chain
module _ (hash : ℕ → ℕ) (n : ℕ) (table : List ℕ) (of : Latest hash n table) (long : length table ≡ 256) (byte : hash n < 256) where
  latest_more : Latest hash (n + 1) (set table (hash n) (n + 1))
  latest_more = record { at = λ h l. go h l (ℕ_discrete (hash n) h) }
    where
      next : n + 1 ≡ suc n
      next = omega arith

      go : (h : ℕ) → h < 256 → Dec (hash n ≡ h) → get_or (set table (hash n) (n + 1)) h 0 ≡ latest hash h (n + 1)
      go h l (yes e) =
          ap (λ (k : ℕ). get_or (set table (hash n) (n + 1)) k 0) (sym e) ∙ get_or-set_same table (hash n) (n + 1) 0 (omega arith) ∙ next
          ∙ sym (latest_here hash h n e) ∙ ap (latest hash h) (sym next)
      go h l (no d) =
          get_or-set_other table (hash n) h (n + 1) 0 (λ z. d (sym z)) ∙ of.at h l ∙ sym (latest_else hash h n d) ∙ ap (latest hash h) (sym next)

  chain_more : (chain : List ℕ) → length chain ≡ 256 → n < 256 → Chained hash n chain → Chained hash (n + 1) (set chain n (get_or table (hash n) 0))
  chain_more chain wide few chained = record { few = omega arith; before = λ r l. go r l (ℕ_discrete r n) }
    where
      go : (r : ℕ) → r < n + 1 → Dec (r ≡ n) → get_or (set chain n (get_or table (hash n) 0)) r 0 ≡ latest hash (hash r) r
      go r l (yes e) =
          ap (λ (k : ℕ). get_or (set chain n (get_or table (hash n) 0)) k 0) e ∙ get_or-set_same chain n (get_or table (hash n) 0) 0 (omega arith)
          ∙ of.at (hash n) byte ∙ ap (λ (k : ℕ). latest hash (hash k) k) (sym e)
      go r l (no d) = get_or-set_other chain n r (get_or table (hash n) 0) 0 d ∙ chained.before r (omega arith)

-- the same with hash h of number n, and with what is answered and left by `enter`
pub entered : (hash : ℕ → ℕ) (n : ℕ) {table chain table' : List ℕ} {h v : ℕ} → n < 256
    → length table ≡ 256 → length chain ≡ 256 → Latest hash n table → Chained hash n chain
    → h < 256 → h ≡ hash n → (v ≡ get_or table h 0) × (table' ≡ set table h (n + 1))
    → (length table' ≡ 256) × (length (set chain n v) ≡ 256) × Latest hash (n + 1) table' × Chained hash (n + 1) (set chain n v)
entered hash n {table} {chain} {table'} {h} {v} few long wide of chained byte is put = (
  ap length put.1 ∙ simp length-set long,
  simp length-set wide,
  rw put.1 (rw is (latest_more hash n table of long (omega arith))),
  rw put.0 (rw is (chain_more hash n table of long (omega arith) chain wide few chained)),
)

-- the table and the chain of no numbers
pub latest_none : (hash : ℕ → ℕ) → Latest hash 0 (replicate 256 0)
latest_none hash = record { at = λ h l. get_or-replicate 256 h 0 0 l }

pub chain_none : (hash : ℕ → ℕ) (chain : List ℕ) → Chained hash 0 chain
chain_none hash chain = record { few = omega arith; before = λ r l. absurd (omega arith) }

-- a record e compared with others
module _ (record_at : ℕ → List ℕ) (e : List ℕ) where
  abbrev equal : ℕ → Bool
  equal j = same_rule (record_at j) e

  -- of the records below n, those below v are left to compare; v is 0, or one more than the number of a record with e's hash
  pub record Left (n v : ℕ) : Type 0 where
    pub below : v ≤ n
    pub same : (j : ℕ) → v ≡ suc j → hash_at record_at j ≡ hash_of e
    pub left : any_below equal n ≡ any_below equal v

  other : (j : ℕ) → (hash_at record_at j ≡ hash_of e → ⊥) → equal j ≡ false
  other j d = go (equal j) refl
    where
      go : (b : Bool) → equal j ≡ b → b ≡ false
      go true f = absurd (d (same_hash (record_at j) e f))
      go false f = refl

  left_latest : (n m : ℕ) → m ≤ n → any_below equal n ≡ any_below equal m → Left n (latest (hash_at record_at) (hash_of e) m)
  left_latest n m l f =
      record {
        below = omega (arith, latest_below (hash_at record_at) (hash_of e) m);
        same = latest_has (hash_at record_at) (hash_of e) m;
        left = f ∙ any_latest (hash_at record_at) (hash_of e) equal other m;
      }

-- record r, which is e, is compared along its chain, from `first` on
pub record Walk (record_at : ℕ → List ℕ) (r : ℕ) (chain e : List ℕ) (first : ℕ) : Type 0 where
  pub within : InChain record_at r chain e
  pub from : first ≡ get_or chain r 0

pub walk : {record_at : ℕ → List ℕ} {r : ℕ} {chain e : List ℕ} {first : ℕ} → InChain record_at r chain e → first ≡ get_or chain r 0 → Walk record_at r chain e first
walk i f = record { within = i; from = f }

module _ {record_at : ℕ → List ℕ} {r : ℕ} {chain e : List ℕ} {first : ℕ} (w : Walk record_at r chain e first) where
  at_first : Left record_at e r first
  at_first =
      rw (w.from ∙ w.within.chained.before r (omega arith) ∙ ap (λ (x : List ℕ). latest (hash_at record_at) (hash_of x) r) (sym w.within.is))
      (left_latest record_at e r r (omega arith) refl)

  all : repeated record_at r ≡ any_below (equal record_at e) first
  all = ap (λ (x : List ℕ). any_below (λ j. same_rule (record_at j) x) r) (sym w.within.is) ∙ at_first.left

  pub walk_start : Left record_at e first first
  walk_start = record { below = omega arith; same = at_first.same; left = refl }

  module _ {v : ℕ} (l : Left record_at e first v) where
    pub walk_end : v ≤ 0 → repeated record_at r ≡ false
    walk_end z = let s : v ≡ 0 = omega arith in all ∙ l.left ∙ ap (any_below (equal record_at e)) s

    pub walk_few : v ≤ 256
    walk_few = omega (arith, l.below, at_first.below, w.within.chained.few)

    pub walk_hit : 0 < v → same_rule (record_at (v - 1)) e ≡ true → repeated record_at r ≡ true
    walk_hit p f = all ∙ l.left ∙ any_hit (equal record_at e) (v - 1) v (omega arith) f

    pub walk_on : {n : ℕ} → 0 < v → same_rule (record_at (v - 1)) e ≡ false → n ≡ get_or chain (v - 1) 0 → (n < v) × Left record_at e first n
    walk_on {n} p f g =
        let s : v ≡ suc (v - 1) = omega arith in
        let next : n ≡ latest (hash_at record_at) (hash_of e) (v - 1)
        = g ∙ w.within.chained.before (v - 1) (omega (arith, l.below, at_first.below)) ∙ ap (λ (h : ℕ). latest (hash_at record_at) h (v - 1)) (l.same (v - 1) s) in (
          omega (arith, next, latest_below (hash_at record_at) (hash_of e) (v - 1)),
          rw next (left_latest record_at e first (v - 1) (omega (arith, l.below)) (l.left ∙ ap (any_below (equal record_at e)) s ∙ any_less (equal record_at e) (v - 1) f)),
        )
