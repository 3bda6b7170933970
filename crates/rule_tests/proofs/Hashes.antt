-- Records that refusal 10 takes for the same rule have the same hash.
-- Assumes nothing.
use mathlib.Core.Path.{◌≡◌, sym, ap, subst}
use mathlib.Core.Logic.{◌⊎◌, inl, inr}
use mathlib.Core.Bool.{true}
use mathlib.Core.List.{List, [], ◌∷◌, Memᴰ}
use Prim.Native.Nat.{ℕ, ◌+◌, ◌%◌, ◌<◌}
use native.Mathlib.Omega.{arith}
use lib.Dec.{T}
use Rattle.model.specs.GrammarFile.{field, other_orders, same_record, same_reordered, same_rule}
use Rattle.model.proofs.Tests.{passes, or_cases}
use Rattle.grammar.proofs.Walks.{same_at}
use Rattle.doubles.proofs.Orders.{by_others}
use Rattle.doubles.proofs.Agreement.{Agrees, found}
use Rattle.rule_tests.specs.Chains.{hash_sum, hash_of}

module _ (earlier e : List ℕ) where
  abbrev daughters : List ℕ → ℕ
  daughters x = field x 2 + field x 3 + field x 4

  -- an order of the daughters does not change their sum
  same_sum : (n : ℕ) {o : List ℕ} → Memᴰ o (other_orders n) → Agrees earlier e o → daughters earlier ≡ daughters e
  same_sum = by_others (λ o. Agrees earlier e o → daughters earlier ≡ daughters e) (sum {a = 0} {b = 2} {c = 1} (omega arith)) (sum {a = 1} {b = 0} {c = 2} (omega arith)) (sum {a = 1} {b = 2} {c = 0} (omega arith))
      (sum {a = 2} {b = 0} {c = 1} (omega arith)) (sum {a = 2} {b = 1} {c = 0} (omega arith))
    where
      sum : {a b c : ℕ} → field earlier (2 + a) + field earlier (2 + b) + field earlier (2 + c) ≡ daughters earlier → Agrees earlier e (a ∷ b ∷ c ∷ []) → daughters earlier ≡ daughters e
      sum {a} {b} {c} q h =
          let x : field e 2 ≡ field earlier (2 + a) = h.daughter 0 (omega arith) in
          let y : field e 3 ≡ field earlier (2 + b) = h.daughter 1 (omega arith) in
          let z : field e 4 ≡ field earlier (2 + c) = h.daughter 2 (omega arith) in
          omega (arith, q, x, y, z)

  sums : T (same_record earlier e) ⊎ T (same_reordered earlier e) → hash_sum earlier ≡ hash_sum e
  sums (inl t) =
      let at : (i : ℕ) → i < 23 → field earlier i ≡ field e i = same_at 23 earlier e (passes (same_record earlier e) t) in
      omega (arith, at 0 (omega arith), at 2 (omega arith), at 3 (omega arith), at 4 (omega arith), at 5 (omega arith), at 6 (omega arith))
  sums (inr t) =
      let f = found earlier e t in
      let h = f.agreed in
      omega (arith, h.category, h.part 0 (omega arith), h.part 1 (omega arith), same_sum (field e 1) f.among h)

pub same_hash : (earlier e : List ℕ) → same_rule earlier e ≡ true → hash_of earlier ≡ hash_of e
same_hash earlier e q = ap (λ (n : ℕ). n % 256) (sums earlier e (or_cases (same_record earlier e) (same_reordered earlier e) (subst T (sym q) tt)))
