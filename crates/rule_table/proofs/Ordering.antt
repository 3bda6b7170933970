-- Numbers in rising order: two, or three, that settle as those that they come from.
-- Assumes nothing.
use Rattle.std.specs.Prelude.{if◌then◌else◌}
use mathlib.Core.Path.{◌≡◌, refl, sym, ap₂, ◌∙◌}
use mathlib.Core.Bool.{Bool, true, false}
use mathlib.Core.List.{List, [], ◌∷◌}
use Prim.Native.Nat.{ℕ, zero, suc, ◌+◌, ◌<◌, ◌≤◌, min, max}
use native.Mathlib.Omega.{arith}
use borrow.Author.Tests.{le-ltb}
use lib.Dec.{eqb}
use lib.ListN.{get_or, take}
use Rattle.ranks.specs.Queue.{insert, insert_all}
use Rattle.ranks.specs.Daughters.{Rising}
use Rattle.ranks.proofs.Sorting.{insert_pair, network}
use Rattle.rule_table.specs.Cells.{in_order}

-- rising numbers stay as they are
already : (a b c : ℕ) → a ≤ b → b ≤ c → insert_all (a ∷ (b ∷ (c ∷ []))) [] ≡ a ∷ (b ∷ (c ∷ []))
already a b c h k = rw (le-ltb b a h) (rw (le-ltb c a (omega arith), le-ltb c b k))

-- three numbers have one rising order
module _ (x y z low mid high : ℕ) (r : Rising x y z low mid high) where
  abbrev least : ℕ
  least = min (min x y) (min (max x y) z)

  abbrev middle : ℕ
  middle = max (min x y) (min (max x y) z)

  abbrev most : ℕ
  most = max (max x y) z

  same : low ∷ (mid ∷ (high ∷ [])) ≡ least ∷ (middle ∷ (most ∷ []))
  same =
      let n : Rising x y z least middle most = network x y z (min x y) (max x y) (min (max x y) z) least middle most refl refl refl refl refl refl in
      sym (already low mid high r.first r.second) ∙ r.same [] ∙ sym (n.same []) ∙ already least middle most n.first n.second

  pub order_three : low ∷ (mid ∷ (high ∷ [])) ≡ in_order 3 x y z
  order_three = same

-- the first n settle as they did, each with m added
pub order_settles : (n x y z m : ℕ) (q : List ℕ) → 1 ≤ n → n ≤ 3
    → insert_all (take n ((get_or (in_order n x y z) 0 0 + m) ∷ ((get_or (in_order n x y z) 1 0 + m) ∷ ((get_or (in_order n x y z) 2 0 + m) ∷ [])))) q
    ≡ insert_all (take n ((x + m) ∷ ((y + m) ∷ ((z + m) ∷ [])))) q
order_settles zero x y z m q h k = absurd (omega arith)
order_settles (suc zero) x y z m q h k = refl
order_settles (suc (suc zero)) x y z m q h k =
    let a : min x y + m ≡ min (x + m) (y + m) = omega arith in
    let b : max x y + m ≡ max (x + m) (y + m) = omega arith in
    ap₂ (λ (u v : ℕ). insert u (insert v q)) b a ∙ insert_pair (x + m) (y + m) q
order_settles (suc (suc (suc zero))) x y z m q h k =
    (network (x + m) (y + m) (z + m) (min x y + m) (max x y + m) (min (max x y) z + m) (min (min x y) (min (max x y) z) + m) (max (min x y) (min (max x y) z) + m) (max (max x y) z + m)
    (omega arith) (omega arith) (omega arith) (omega arith) (omega arith) (omega arith)
    ).same q
order_settles (suc (suc (suc (suc n)))) x y z m q h k = absurd (omega arith)

pub order_first : (n x y z : ℕ) → 1 < n → n ≤ 3 → get_or (in_order n x y z) 0 0 ≤ get_or (in_order n x y z) 1 0
order_first zero x y z h k = absurd (omega arith)
order_first (suc zero) x y z h k = absurd (omega arith)
order_first (suc (suc zero)) x y z h k = omega arith
order_first (suc (suc (suc zero))) x y z h k = omega arith
order_first (suc (suc (suc (suc n)))) x y z h k = absurd (omega arith)

pub order_second : (n x y z : ℕ) → 2 < n → n ≤ 3 → get_or (in_order n x y z) 1 0 ≤ get_or (in_order n x y z) 2 0
order_second zero x y z h k = absurd (omega arith)
order_second (suc zero) x y z h k = absurd (omega arith)
order_second (suc (suc zero)) x y z h k = absurd (omega arith)
order_second (suc (suc (suc zero))) x y z h k = omega arith
order_second (suc (suc (suc (suc n)))) x y z h k = absurd (omega arith)

-- what is below b, for each of the first n, is so in any order
pub order_below : (n x y z b : ℕ) → (0 < n → x < b) → (1 < n → y < b) → (2 < n → z < b) → n ≤ 3 → (j : ℕ) → j < n → get_or (in_order n x y z) j 0 < b
order_below zero x y z b e f g k j h = absurd (omega arith)
order_below (suc zero) x y z b e f g k zero h = e h
order_below (suc zero) x y z b e f g k (suc j) h = absurd (omega arith)
order_below (suc (suc zero)) x y z b e f g k zero h = omega (arith, e (omega arith), f (omega arith))
order_below (suc (suc zero)) x y z b e f g k (suc zero) h = omega (arith, e (omega arith), f (omega arith))
order_below (suc (suc zero)) x y z b e f g k (suc (suc j)) h = absurd (omega arith)
order_below (suc (suc (suc zero))) x y z b e f g k zero h = omega (arith, e (omega arith), f (omega arith), g (omega arith))
order_below (suc (suc (suc zero))) x y z b e f g k (suc zero) h = omega (arith, e (omega arith), f (omega arith), g (omega arith))
order_below (suc (suc (suc zero))) x y z b e f g k (suc (suc zero)) h = omega (arith, e (omega arith), f (omega arith), g (omega arith))
order_below (suc (suc (suc zero))) x y z b e f g k (suc (suc (suc j))) h = absurd (omega arith)
order_below (suc (suc (suc (suc n)))) x y z b e f g k j h = absurd (omega arith)

pub order_all : (n x y z b : ℕ) → x < b → y < b → z < b → (j : ℕ) → j < 3 → get_or (in_order n x y z) j 0 < b
order_all n x y z b e f g j h = go (eqb n 3) (eqb n 2) j h
  where
    go : (s t : Bool) (j : ℕ) → j < 3
        → get_or
        (if s then min (min x y) (min (max x y) z) ∷ (max (min x y) (min (max x y) z) ∷ (max (max x y) z ∷ []))
        else if t then min x y ∷ (max x y ∷ (z ∷ []))
        else x ∷ (y ∷ (z ∷ []))) j 0
        < b
    go true t zero h = omega arith
    go true t (suc zero) h = omega arith
    go true t (suc (suc zero)) h = omega arith
    go true t (suc (suc (suc j))) h = absurd (omega arith)
    go false true zero h = omega arith
    go false true (suc zero) h = omega arith
    go false true (suc (suc zero)) h = omega arith
    go false true (suc (suc (suc j))) h = absurd (omega arith)
    go false false zero h = e
    go false false (suc zero) h = f
    go false false (suc (suc zero)) h = g
    go false false (suc (suc (suc j))) h = absurd (omega arith)
