-- Orders of at most three daughters: that which they have and those which refusal 10 tries are all there are, and each is undone by one of them.
-- Assumes nothing.
use mathlib.Core.Path.{◌≡◌, refl, sym, ap, subst, ◌∙◌}
use mathlib.Core.Logic.{◌⊎◌, inl, inr}
use mathlib.Core.Bool.{Bool, ◌&&◌}
use mathlib.Core.List.Memᴰ
use mathlib.Core.List.{List, [], ◌∷◌, ◌++◌, Memᴰ}
use Prim.Native.Nat.{ℕ, zero, suc, ◌+◌, ◌-◌, ◌<◌, ◌≤◌}
use native.Mathlib.Omega.{arith}
use native.Mathlib.Decide.{ℕ_discrete}
use borrow.Author.Tests.{eq-eqb, ne_eqb}
use lib.Dec.{T, eqb, eqb→eq}
use lib.ListN.{length, get_or, get_or-append}
use lib.Seq.{get_or-append-add}
use Rattle.model.specs.Base.{numbers_from, all_below}
use Rattle.model.specs.GrammarFile.{other_orders}
use Rattle.model.specs.WellFormed.{Perm, same, more, swap, chain}
use Rattle.model.proofs.Tests.{and_l, and_r, all_true}
use Rattle.model.proofs.Lists.{mem_left, mem_get_d, numbers_in, length_numbers}
use Rattle.model.proofs.Once.{numbers_low}
use Rattle.model.proofs.Perm.{perm_sym, perm_mem, perm_length}

-- the order that daughters have
abbrev pub unmoved : List ℕ
unmoved = 0 ∷ 1 ∷ 2 ∷ []

-- all orders of n daughters
abbrev pub orders : ℕ → List (List ℕ)
orders n = unmoved ∷ other_orders n

-- an order of n positions as one of three, of which the others stay
abbrev pub extended : ℕ → List ℕ → List ℕ
extended n order = order ++ numbers_from n (3 - n)

numbers_at : (from count i : ℕ) → i < count → get_or (numbers_from from count) i 0 ≡ from + i
numbers_at from zero i h = let z : ⊥ = omega arith in absurd z
numbers_at from (suc count) zero h = omega arith
numbers_at from (suc count) (suc i) h = omega (arith, numbers_at (suc from) count i (omega arith))

module _ (n : ℕ) (order : List ℕ) (perm : Perm order (numbers_from 0 n)) where
  pub order_length : length order ≡ n
  order_length = perm_length perm ∙ length_numbers 0 n

  pub order_low : (i : ℕ) → i < n → get_or order i 0 < n
  order_low i h = omega (arith, numbers_low 0 n (perm_mem perm (mem_get_d order 0 i (omega (arith, order_length)))))

  order_has : (j : ℕ) → j < n → Memᴰ j order
  order_has j h = perm_mem (perm_sym perm) (numbers_in j 0 n (omega arith) (omega arith))

  pub extended_at : (i : ℕ) → i < n → get_or (extended n order) i 0 ≡ get_or order i 0
  extended_at i h = get_or-append order (numbers_from n (3 - n)) 0 i (omega (arith, order_length))

  pub extended_stays : (i : ℕ) → n ≤ i → i < 3 → get_or (extended n order) i 0 ≡ i
  extended_stays i lo hi =
      let e : i ≡ length order + (i - n) = omega (arith, order_length) in
      ap (λ (k : ℕ). get_or (extended n order) k 0) e ∙ get_or-append-add order (numbers_from n (3 - n)) (i - n) 0
      ∙ omega (arith, numbers_at n (3 - n) (i - n) (omega arith))

-- where a number is in a list of three
data At (j x y z : ℕ) : Type 0 where
  first : j ≡ x → At j x y z
  second : j ≡ y → At j x y z
  third : j ≡ z → At j x y z

at_of : (j x y z : ℕ) → Memᴰ j (x ∷ y ∷ z ∷ []) → At j x y z
at_of j x y z m = one (Memᴰ.cases_cons m)
  where
    three : (j ≡ z) ⊎ Memᴰ j [] → At j x y z
    three (inl e) = third e
    three (inr k) = elim k [ ]

    two : (j ≡ y) ⊎ Memᴰ j (z ∷ []) → At j x y z
    two (inl e) = second e
    two (inr k) = three (Memᴰ.cases_cons k)

    one : (j ≡ x) ⊎ Memᴰ j (y ∷ z ∷ []) → At j x y z
    one (inl e) = first e
    one (inr k) = two (Memᴰ.cases_cons k)

-- the order of number i among those of n daughters
nth : (n i : ℕ) → i < length (orders n) → Memᴰ (get_or (orders n) i []) (orders n)
nth n i h = mem_get_d (orders n) [] i h

is_three : (x y z a b c : ℕ) {os : List (List ℕ)} → a ≡ x → b ≡ y → c ≡ z → Memᴰ (a ∷ b ∷ c ∷ []) os → Memᴰ (x ∷ y ∷ z ∷ []) os
is_three x y z a b c {os} e f g m = subst (λ (l : List ℕ). Memᴰ l os) (λ i. e i ∷ f i ∷ g i ∷ []) m

of_three : (x y z : ℕ) → At 0 x y z → At 1 x y z → At 2 x y z → Memᴰ (x ∷ y ∷ z ∷ []) (orders 3)
of_three x y z (first a) (second b) (third c) = is_three x y z 0 1 2 a b c (nth 3 0 (omega arith))
of_three x y z (first a) (third b) (second c) = is_three x y z 0 2 1 a c b (nth 3 1 (omega arith))
of_three x y z (second a) (first b) (third c) = is_three x y z 1 0 2 b a c (nth 3 2 (omega arith))
of_three x y z (third a) (first b) (second c) = is_three x y z 1 2 0 b c a (nth 3 3 (omega arith))
of_three x y z (second a) (third b) (first c) = is_three x y z 2 0 1 c a b (nth 3 4 (omega arith))
of_three x y z (third a) (second b) (first c) = is_three x y z 2 1 0 c b a (nth 3 5 (omega arith))
of_three x y z (first a) (first b) m = let z : ⊥ = omega arith in absurd z
of_three x y z (second a) (second b) m = let z : ⊥ = omega arith in absurd z
of_three x y z (third a) (third b) m = let z : ⊥ = omega arith in absurd z
of_three x y z (first a) (second b) (first c) = let z : ⊥ = omega arith in absurd z
of_three x y z (first a) (second b) (second c) = let z : ⊥ = omega arith in absurd z
of_three x y z (second a) (first b) (first c) = let z : ⊥ = omega arith in absurd z
of_three x y z (second a) (first b) (second c) = let z : ⊥ = omega arith in absurd z
of_three x y z (first a) (third b) (first c) = let z : ⊥ = omega arith in absurd z
of_three x y z (first a) (third b) (third c) = let z : ⊥ = omega arith in absurd z
of_three x y z (third a) (first b) (first c) = let z : ⊥ = omega arith in absurd z
of_three x y z (third a) (first b) (third c) = let z : ⊥ = omega arith in absurd z
of_three x y z (second a) (third b) (second c) = let z : ⊥ = omega arith in absurd z
of_three x y z (second a) (third b) (third c) = let z : ⊥ = omega arith in absurd z
of_three x y z (third a) (second b) (second c) = let z : ⊥ = omega arith in absurd z
of_three x y z (third a) (second b) (third c) = let z : ⊥ = omega arith in absurd z

of_two : (x y : ℕ) → At 0 x y 2 → At 1 x y 2 → Memᴰ (x ∷ y ∷ 2 ∷ []) (orders 2)
of_two x y (first a) (second b) = is_three x y 2 0 1 2 a b refl (nth 2 0 (omega arith))
of_two x y (second a) (first b) = is_three x y 2 1 0 2 b a refl (nth 2 1 (omega arith))
of_two x y (first a) (first b) = let z : ⊥ = omega arith in absurd z
of_two x y (second a) (second b) = let z : ⊥ = omega arith in absurd z
of_two x y (third a) m = let z : ⊥ = omega arith in absurd z
of_two x y (first a) (third b) = let z : ⊥ = omega arith in absurd z
of_two x y (second a) (third b) = let z : ⊥ = omega arith in absurd z

-- each permutation of n positions is among the orders of n daughters
pub is_among : (n : ℕ) (order : List ℕ) → n ≤ 3 → Perm order (numbers_from 0 n) → Memᴰ (extended n order) (orders n)
is_among zero [] three p = Memᴰ.head refl
is_among (suc zero) (x ∷ []) three p = Memᴰ.head (λ i. (e i) ∷ 1 ∷ 2 ∷ [])
  where
    e : x ≡ 0
    e = omega (arith, order_low 1 (x ∷ []) p 0 (omega arith))
is_among (suc (suc zero)) (x ∷ y ∷ []) three p =
    of_two x y (at_of 0 x y 2 (mem_left (2 ∷ []) (order_has 2 (x ∷ y ∷ []) p 0 (omega arith))))
    (at_of 1 x y 2 (mem_left (2 ∷ []) (order_has 2 (x ∷ y ∷ []) p 1 (omega arith))))
is_among (suc (suc (suc zero))) (x ∷ y ∷ z ∷ []) three p =
    of_three x y z (at_of 0 x y z (order_has 3 (x ∷ y ∷ z ∷ []) p 0 (omega arith)))
    (at_of 1 x y z (order_has 3 (x ∷ y ∷ z ∷ []) p 1 (omega arith))) (at_of 2 x y z (order_has 3 (x ∷ y ∷ z ∷ []) p 2 (omega arith)))
is_among zero (x ∷ l) three p = let z : ⊥ = omega (arith, order_length 0 (x ∷ l) p) in absurd z
is_among (suc zero) [] three p = let z : ⊥ = omega (arith, order_length 1 [] p) in absurd z
is_among (suc zero) (x ∷ y ∷ l) three p = let z : ⊥ = omega (arith, order_length 1 (x ∷ y ∷ l) p) in absurd z
is_among (suc (suc zero)) [] three p = let z : ⊥ = omega (arith, order_length 2 [] p) in absurd z
is_among (suc (suc zero)) (x ∷ []) three p = let z : ⊥ = omega (arith, order_length 2 (x ∷ []) p) in absurd z
is_among (suc (suc zero)) (x ∷ y ∷ z ∷ l) three p = let z : ⊥ = omega (arith, order_length 2 (x ∷ y ∷ z ∷ l) p) in absurd z
is_among (suc (suc (suc zero))) [] three p = let z : ⊥ = omega (arith, order_length 3 [] p) in absurd z
is_among (suc (suc (suc zero))) (x ∷ []) three p = let z : ⊥ = omega (arith, order_length 3 (x ∷ []) p) in absurd z
is_among (suc (suc (suc zero))) (x ∷ y ∷ []) three p = let z : ⊥ = omega (arith, order_length 3 (x ∷ y ∷ []) p) in absurd z
is_among (suc (suc (suc zero))) (x ∷ y ∷ z ∷ w ∷ l) three p = let z : ⊥ = omega (arith, order_length 3 (x ∷ y ∷ z ∷ w ∷ l) p) in absurd z
is_among (suc (suc (suc (suc n)))) order three p = let z : ⊥ = omega arith in absurd z

-- what holds of each order
one_of : (P : List ℕ → Type 0) {o x : List ℕ} {os : List (List ℕ)} → P x → (Memᴰ o os → P o) → Memᴰ o (x ∷ os) → P o
one_of P {o} {x} {os} p q m = go (Memᴰ.cases_cons m)
  where
    go : (o ≡ x) ⊎ Memᴰ o os → P o
    go (inl e) = subst P (sym e) p
    go (inr k) = q k

none_of : (P : List ℕ → Type 0) {o : List ℕ} → Memᴰ o [] → P o
none_of P m = elim m [ ]

-- of any number of daughters, but for the order that they have
pub by_others : (P : List ℕ → Type 0) → P (0 ∷ 2 ∷ 1 ∷ []) → P (1 ∷ 0 ∷ 2 ∷ []) → P (1 ∷ 2 ∷ 0 ∷ []) → P (2 ∷ 0 ∷ 1 ∷ []) → P (2 ∷ 1 ∷ 0 ∷ [])
    → (n : ℕ) {o : List ℕ} → Memᴰ o (other_orders n) → P o
by_others P a b c d e n {o} m = go (ℕ_discrete n 2) (ℕ_discrete n 3)
  where
    go : Dec (n ≡ 2) → Dec (n ≡ 3) → P o
    go (yes q) t = one_of P b (none_of P) (rw (eq-eqb n 2 q) at m)
    go (no q) (yes r) = one_of P a (one_of P b (one_of P c (one_of P d (one_of P e (none_of P))))) (rw (ne_eqb n 2 q, eq-eqb n 3 r) at m)
    go (no q) (no r) = none_of P (rw (ne_eqb n 2 q, ne_eqb n 3 r) at m)

module _ (P : ℕ → List ℕ → Type 0) where
  -- of 0, 1, 2 and 3 daughters
  by_orders : ((n : ℕ) → n ≤ 3 → P n unmoved) → P 2 (1 ∷ 0 ∷ 2 ∷ []) → P 3 (0 ∷ 2 ∷ 1 ∷ []) → P 3 (1 ∷ 0 ∷ 2 ∷ []) → P 3 (1 ∷ 2 ∷ 0 ∷ []) → P 3 (2 ∷ 0 ∷ 1 ∷ [])
      → P 3 (2 ∷ 1 ∷ 0 ∷ []) → (n : ℕ) {o : List ℕ} → n ≤ 3 → Memᴰ o (orders n) → P n o
  by_orders stay two a b c d e zero three m = one_of (P 0) (stay 0 three) (none_of (P 0)) m
  by_orders stay two a b c d e (suc zero) three m = one_of (P 1) (stay 1 three) (none_of (P 1)) m
  by_orders stay two a b c d e (suc (suc zero)) three m = one_of (P 2) (stay 2 three) (one_of (P 2) two (none_of (P 2))) m
  by_orders stay two a b c d e (suc (suc (suc zero))) three m =
      one_of (P 3) (stay 3 three) (one_of (P 3) a (one_of (P 3) b (one_of (P 3) c (one_of (P 3) d (one_of (P 3) e (none_of (P 3))))))) m
  by_orders stay two a b c d e (suc (suc (suc (suc n)))) three m = let z : ⊥ = omega arith in absurd z

-- each of the orders is a permutation of n positions
pub record Permutation (n : ℕ) (o : List ℕ) : Type 0 where
  pub order : List ℕ
  pub is_order : Perm order (numbers_from 0 n)
  pub is : o ≡ extended n order

stays : (n : ℕ) → n ≤ 3 → unmoved ≡ extended n (numbers_from 0 n)
stays zero h = refl
stays (suc zero) h = refl
stays (suc (suc zero)) h = refl
stays (suc (suc (suc zero))) h = refl
stays (suc (suc (suc (suc n)))) h = let z : ⊥ = omega arith in absurd z

pub is_permutation : (n : ℕ) {o : List ℕ} → n ≤ 3 → Memᴰ o (orders n) → Permutation n o
is_permutation =
    by_orders Permutation
    (λ n h. record { order = numbers_from 0 n; is_order = same refl; is = stays n h })
    (record { order = 1 ∷ 0 ∷ []; is_order = swap 1 0; is = refl })
    (record { order = 0 ∷ 2 ∷ 1 ∷ []; is_order = more 0 (swap 2 1); is = refl })
    (record { order = 1 ∷ 0 ∷ 2 ∷ []; is_order = swap 1 0; is = refl })
    (record { order = 1 ∷ 2 ∷ 0 ∷ []; is_order = chain (more 1 (swap 2 0)) (swap 1 0); is = refl })
    (record { order = 2 ∷ 0 ∷ 1 ∷ []; is_order = chain (swap 2 0) (more 0 (swap 2 1)); is = refl })
    (record { order = 2 ∷ 1 ∷ 0 ∷ []; is_order = chain (swap 2 1) (chain (more 1 (swap 2 0)) (swap 1 0)); is = refl })

-- each of the orders is undone by one of them
abbrev undoes : List ℕ → List ℕ → ℕ → Bool
undoes o back j = eqb (get_or back (get_or o j 0) 0) j && eqb (get_or o (get_or back j 0) 0) j

record Undone (n : ℕ) (o : List ℕ) : Type 0 where
  back : List ℕ
  is_one : Memᴰ back (orders n)
  undone : T (all_below (undoes o back) 3)

undone_by : (n : ℕ) {o : List ℕ} → n ≤ 3 → Memᴰ o (orders n) → Undone n o
undone_by =
    by_orders Undone
    (λ n h. record { back = unmoved; is_one = Memᴰ.head refl; undone = tt })
    (record { back = 1 ∷ 0 ∷ 2 ∷ []; is_one = nth 2 1 (omega arith); undone = tt })
    (record { back = 0 ∷ 2 ∷ 1 ∷ []; is_one = nth 3 1 (omega arith); undone = tt })
    (record { back = 1 ∷ 0 ∷ 2 ∷ []; is_one = nth 3 2 (omega arith); undone = tt })
    (record { back = 2 ∷ 0 ∷ 1 ∷ []; is_one = nth 3 4 (omega arith); undone = tt })
    (record { back = 1 ∷ 2 ∷ 0 ∷ []; is_one = nth 3 3 (omega arith); undone = tt })
    (record { back = 2 ∷ 1 ∷ 0 ∷ []; is_one = nth 3 5 (omega arith); undone = tt })

-- a permutation of n positions, undone
pub record Inverse (n : ℕ) (order : List ℕ) : Type 0 where
  pub back : List ℕ
  pub is_order : Perm back (numbers_from 0 n)
  pub back_again : (j : ℕ) → j < n → get_or back (get_or order j 0) 0 ≡ j
  pub there_again : (j : ℕ) → j < n → get_or order (get_or back j 0) 0 ≡ j

pub inverse : (n : ℕ) (order : List ℕ) → n ≤ 3 → Perm order (numbers_from 0 n) → Inverse n order
inverse n order three perm =
    let u = undone_by n three (is_among n order three perm) in
    let t = is_permutation n three u.is_one in
    let o = extended n order in
    let b = extended n t.order in
    let both : (j : ℕ) → j < n → T (undoes o b j) = λ j h. subst (λ (l : List ℕ). T (undoes o l j)) t.is (all_true (undoes o u.back) 3 u.undone j (omega arith)) in
    record {
      back = t.order;
      is_order = t.is_order;
      back_again = λ j h.
          sym (extended_at n t.order t.is_order (get_or order j 0) (order_low n order perm j h))
          ∙ ap (λ (k : ℕ). get_or b k 0) (sym (extended_at n order perm j h))
          ∙ eqb→eq (get_or b (get_or o j 0) 0) j (and_l (eqb (get_or b (get_or o j 0) 0) j) (eqb (get_or o (get_or b j 0) 0) j) (both j h));
      there_again = λ j h.
          sym (extended_at n order perm (get_or t.order j 0) (order_low n t.order t.is_order j h))
          ∙ ap (λ (k : ℕ). get_or o k 0) (sym (extended_at n t.order t.is_order j h))
          ∙ eqb→eq (get_or o (get_or b j 0) 0) j (and_r (eqb (get_or b (get_or o j 0) 0) j) (eqb (get_or o (get_or b j 0) 0) j) (both j h));
    }
