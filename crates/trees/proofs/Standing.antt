-- What a tree reader finds at a place of the list.
-- Assumes nothing.
use Rattle.std.specs.Prelude.{if◌then◌else◌, Option, Some, None}
use mathlib.Core.Path.{◌≡◌, refl, ap}
use mathlib.Core.Bool.{Bool, true, false}
use mathlib.Core.List.{List}
use Prim.Native.Nat.{ℕ, ◌<◌, ◌≤◌}
use native.Mathlib.Omega.{arith}
use borrow.Author.Tests.{ltb-true, ltb-false}
use lib.Dec.{ltb}
use lib.ListN.{length, get_or}
use Rattle.model.specs.declared.RuleNumber.{RuleNumber}
use Rattle.trees.specs.Found.{found_at}

module _ (list : List ℕ) (k next : ℕ) where
  abbrev standing : Bool → Option (RuleNumber × ℕ)
  standing b = if b then Some (record { 0 = get_or list k 0 }, next) else None

  pub found_rule : (x : RuleNumber × ℕ) → found_at list k next ≡ Some x → (k < length list) × (x.0.0 ≡ get_or list k 0) × (x.1 ≡ next)
  found_rule x e = go (ltb k (length list)) refl e
    where
      go : (b : Bool) → ltb k (length list) ≡ b → standing b ≡ Some x → (k < length list) × (x.0.0 ≡ get_or list k 0) × (x.1 ≡ next)
      go true t f =
          let q : x ≡ (record { 0 = get_or list k 0 }, next) = cc in
          (ltb-true k (length list) t, ap (λ (y : RuleNumber × ℕ). y.0.0) q, ap (λ (y : RuleNumber × ℕ). y.1) q)
      go false t f = let z : ◌≡◌ {A = ℕ} 0 1 = cc in absurd (omega arith)

  pub found_end : found_at list k next ≡ None → length list ≤ k
  found_end e = go (ltb k (length list)) refl e
    where
      go : (b : Bool) → ltb k (length list) ≡ b → standing b ≡ None → length list ≤ k
      go true t f = let z : ◌≡◌ {A = ℕ} 0 1 = cc in absurd (omega arith)
      go false t f = ltb-false k (length list) t
