-- What decides refusal 10 before all its tests are made: other categories, and other components.
-- Assumes nothing.
use mathlib.Core.Path.{◌≡◌, refl, sym, subst, ◌∙◌}
use mathlib.Core.Bool.{Bool, false, ◌&&◌}
use mathlib.Core.List.{List, [], ◌∷◌, map}
use Prim.Native.Nat.{ℕ, ◌+◌, ◌%◌}
use native.Mathlib.Omega.{arith}
use borrow.Author.Tests.{eq-eqb}
use lib.Dec.{T, eqb, eqb→eq}
use Rattle.model.specs.Base.{any_of, same_list, total}
use Rattle.model.specs.GrammarFile.{fields, field, same_record, other_orders, renumbered, same_frame, same_daughters, same_variables, same_in_order, same_reordered, same_rule}
use Rattle.model.proofs.Tests.{passes, fails, not_both, and_r, or_off, all_true, all_by}
use Rattle.grammar.proofs.Walks.{and_none, differ_at}
use Rattle.std.specs.List.{list_any}
use Rattle.doubles.specs.Components.{same_components}
use Rattle.doubles.specs.declared.order.Order.{Order}
use Rattle.doubles.specs.Order.{positions}

-- two tests, of which the first fails
pub first_off : {a : Bool} (b : Bool) → a ≡ false → a && b ≡ false
first_off b e = rw e

-- records of different categories are no double
pub other_category : (earlier e : List ℕ) → (field earlier 0 ≡ field e 0 → ⊥) → same_rule earlier e ≡ false
other_category earlier e d =
    let frame = first_off (same_list (fields earlier 5 6) (fields e 5 6)) (differ_at 2 earlier e 0 (omega arith) d) in
    or_off (same_record earlier e) (same_reordered earlier e) (differ_at 23 earlier e 0 (omega arith) d) (first_off (any_of (same_in_order earlier e) (other_orders (field e 1))) frame)

-- some order passes
pub some_order : (test : List ℕ → Bool) (orders : List Order) → list_any (λ order. test (positions order)) orders ≡ any_of test (map positions orders)
some_order test [] = refl
some_order test (o ∷ os) = rw (some_order test os)

-- an order does not change the components that variables name: where they differ, every order fails
kept_components : (earlier e o : List ℕ) → T (same_in_order earlier e o) → T (same_components earlier e)
kept_components earlier e o t =
    all_by (λ k. eqb (field e (11 + k) % 4) (field earlier (11 + k) % 4)) (total (fields e 7 4))
    (λ k h.
    let q = eqb→eq (renumbered o (field e (11 + k))) (field earlier (11 + k))
    (all_true (λ k. eqb (renumbered o (field e (11 + k))) (field earlier (11 + k))) (total (fields e 7 4)) (and_r (same_daughters earlier e o) (same_variables earlier e o) t) k h) in
    let same : field e (11 + k) % 4 ≡ field earlier (11 + k) % 4 = omega (arith, q) in
    subst T (sym (eq-eqb (field e (11 + k) % 4) (field earlier (11 + k) % 4) same)) tt)

none_passes : (test : List ℕ → Bool) (os : List (List ℕ)) → ((o : List ℕ) → test o ≡ false) → any_of test os ≡ false
none_passes test [] h = refl
none_passes test (o ∷ os) h = or_off (test o) (any_of test os) (h o) (none_passes test os h)

pub other_components : (earlier e : List ℕ) → same_components earlier e ≡ false → same_reordered earlier e ≡ false
other_components earlier e q =
    let every-fails : (o : List ℕ) → same_in_order earlier e o ≡ false = λ o. fails (same_in_order earlier e o) (λ t. not_both (sym (passes (same_components earlier e) (kept_components earlier e o t)) ∙ q)) in
    and_none (same_frame earlier e) (none_passes (same_in_order earlier e) (other_orders (field e 1)) every-fails)
