-- What holds of every two of a list, in whatever order they stand.
-- Assumes nothing.
use mathlib.Core.Path.{◌≡◌, subst}
use mathlib.Core.List.{List, [], ◌∷◌, ◌++◌}
use Prim.Native.Nat.{ℕ, zero, suc, ◌≤◌}
use native.Mathlib.Omega.{arith}
use Rattle.model.specs.Base.{numbers_from}
use Rattle.model.specs.WellFormed.{Perm, same, more, swap, chain}
use Rattle.model.proofs.Apart.{Every, every_left, every_perm}

module _ {A : Type 0} (D : A → A → Type 0) where
  abbrev pub Pairwise : List A → Type 0
  Pairwise [] = Unit {0}
  Pairwise (x ∷ l) = Every (D x) l × Pairwise l

  pub pairwise_perm : ((x y : A) → D x y → D y x) → {l m : List A} → Perm l m → Pairwise l → Pairwise m
  pairwise_perm turn (same e) h = subst Pairwise e h
  pairwise_perm turn (more x p) h = (every_perm (D x) p h.0, pairwise_perm turn p h.1)
  pairwise_perm turn (swap x y) h = ((turn x y h.0.0, h.1.0), (h.0.1, h.1.1))
  pairwise_perm turn (chain p q) h = pairwise_perm turn q (pairwise_perm turn p h)

  pub pairwise_first : (l m : List A) → Pairwise (l ++ m) → Pairwise l
  pairwise_first [] m h = tt
  pairwise_first (x ∷ l) m h = (every_left (D x) l m h.0, pairwise_first l m h.1)

-- numbers that are not the same
abbrev pub Unequal : ℕ → ℕ → Type 0
Unequal a b = a ≡ b → ⊥

numbers_above : (a from n : ℕ) → suc a ≤ from → Every (Unequal a) (numbers_from from n)
numbers_above a from zero h = tt
numbers_above a from (suc n) h = (λ e. omega arith, numbers_above a (suc from) n (omega arith))

pub numbers_unequal : (from n : ℕ) → Pairwise Unequal (numbers_from from n)
numbers_unequal from zero = tt
numbers_unequal from (suc n) = (numbers_above from (suc from) n (omega arith), numbers_unequal (suc from) n)
