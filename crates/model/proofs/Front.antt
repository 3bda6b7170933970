-- The front prediction's least index stands left of every index of the others.
-- Assumes nothing.
use Rattle.std.specs.Prelude.{if◌then◌else◌}
use mathlib.Core.Path.{◌≡◌, refl, subst}
use mathlib.Core.Logic.{◌⊎◌, inl, inr}
use mathlib.Core.Bool.{Bool, true, false}
use mathlib.Core.List.Memᴰ
use mathlib.Core.List.{List, [], ◌∷◌, ◌++◌, Memᴰ}
use Prim.Native.Nat.{◌≤◌}
use native.Mathlib.Omega.{arith}
use lib.Dec.{T}
use lib.ListN.{length}
use Rattle.model.specs.Step.{Index, before, least, Prediction, least_of}
use Rattle.model.proofs.Lists.{mem_right, each_out}
use Rattle.model.proofs.Digits.{left, left_before, before_between}
use Rattle.model.proofs.Sorting.{Sorted, least_least}
use Rattle.model.proofs.Marks.{indices_of}
use Rattle.model.proofs.Apart.{Every, every_right, every_both, mem_every, Apart, AllApart}

pub least_mem : (is : List Index) → 1 ≤ length is → Memᴰ (least is) is
least_mem [] h = absurd (omega arith)
least_mem (i ∷ []) h = Memᴰ.head refl
least_mem (i ∷ j ∷ is) h = go (before (least (j ∷ is)) i) (least_mem (j ∷ is) (omega arith))
  where
    go : (b : Bool) → Memᴰ (least (j ∷ is)) (j ∷ is) → Memᴰ (if b then least (j ∷ is) else i) (i ∷ j ∷ is)
    go true m = Memᴰ.tail m
    go false m = Memᴰ.head refl

every_unit : {A : Type 0} (xs : List A) → Every (λ x. Unit {0}) xs
every_unit [] = tt
every_unit (x ∷ xs) = (tt, every_unit xs)

-- what is apart in one list is apart in its two parts
pub cross : (js rest : List Index) → AllApart (js ++ rest) → Every (λ x. Every (λ i. Apart i x) js) rest
cross [] rest h = every_unit rest
cross (j ∷ js) rest h = every_both (Apart j) (λ x. Every (λ i. Apart i x) js) rest (every_right (Apart j) js rest h.0) (cross js rest h.1)

module _ {A : Type 0} (p : Prediction A) (q : List (Prediction A)) (sorted : Sorted (p ∷ q)) where
  none_left : (j : Index) → Memᴰ j (indices_of (p ∷ q)) → T (left j (least_of p)) → ⊥
  none_left j m t =
      let (x, i, k) = each_out (λ (x : Prediction A). x.indices) (p ∷ q) m in
      go x k (Memᴰ.cases_cons i)
    where
      b : T (before j (least_of p))
      b = left_before j (least_of p) t

      later : (x : Prediction A) → Memᴰ j x.indices → Memᴰ x q → T (before j (least_of x)) ⊎ T (before (least_of x) (least_of p)) → ⊥
      later x k i (inl u) = least_least x.indices j k u
      later x k i (inr u) = sorted.0 x i u

      go : (x : Prediction A) → Memᴰ j x.indices → (x ≡ p) ⊎ Memᴰ x q → ⊥
      go x k (inl e) = least_least p.indices j (subst (λ (y : Prediction A). Memᴰ j y.indices) e k) b
      go x k (inr i) = later x k i (before_between j (least_of x) (least_of p) b)

  -- the least index of the front stands left of all those
  pub front_left : 1 ≤ length p.indices → AllApart (indices_of (p ∷ q)) → (x : Index) → Memᴰ x (indices_of q) → T (left (least_of p) x)
  front_left l h x m =
      go (mem_every (λ i. Apart i x) p.indices (mem_every (λ x. Every (λ i. Apart i x) p.indices) (indices_of q) (cross p.indices (indices_of q) h) x m) (least_of p) (least_mem p.indices l))
    where
      go : Apart (least_of p) x → T (left (least_of p) x)
      go (inl a) = a
      go (inr a) = absurd (none_left x (mem_right p.indices m) a)
