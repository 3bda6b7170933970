-- What passed and failed tests say, and what passes or fails them: of `&&`, `||` and `not`, of tests joined by `or_else`, of tests below a number, and of lists compared.
-- Assumes nothing.
use Rattle.std.specs.Prelude.{if◌then◌else◌}
use mathlib.Core.Path.{◌≡◌, refl, sym, ap, ap₂, subst}
use mathlib.Core.Logic.{◌⊎◌, inl, inr}
use mathlib.Core.Bool.{Bool, true, false, ◌&&◌, ◌||◌, not}
use mathlib.Core.Option.{Option, none, some}
use mathlib.Core.List.{List, [], ◌∷◌, ◌++◌}
use Prim.Native.Nat.{ℕ, zero, suc, ◌+◌, ◌-◌, ◌<◌, ◌≤◌}
use native.Mathlib.Omega.{arith}
use native.Mathlib.Decide.{ℕ_discrete}
use borrow.Author.Tests.{ltb-true, ltb-false, leb-true, leb-false, lt-ltb, le-ltb, le-leb, lt-leb}
use lib.Dec.{T, ltb, leb, eqb, leb→le, le→leb, eqb→eq, eqb_refl}
use lib.ListN.{length, get_or}
use Rattle.model.specs.declared.Refusal.{Refusal}
use Rattle.model.specs.Verdict.{refuse_if}
use Rattle.model.specs.Base.{all_below, first_from, every, any_below, same_list, ◌or_else◌}
use Rattle.model.specs.GrammarFile.{within}

pub none_some : {A B : Type 0} {a : A} → some a ≡ none → B
none_some e = let z : ◌≡◌ {A = ℕ} 0 1 = cc in absurd (omega arith)

pub some_one : {A : Type 0} {a b : A} → some a ≡ some b → a ≡ b
some_one {A} {a} e = ap (λ (o : Option A). elim o [ none ↦ a | some x ↦ x ]) e

pub not_both : {A : Type 0} → true ≡ false → A
not_both e = let z : ◌≡◌ {A = ℕ} 0 1 = cc in absurd (omega arith)

pub no_refusal : (b : Bool) (r : Refusal) → refuse_if b r ≡ none → b ≡ false
no_refusal true r e = none_some e
no_refusal false r e = refl

pub first_of : (a b : Option Refusal) → a or_else b ≡ none → a ≡ none
first_of none b e = refl
first_of (some r) b e = none_some e

pub rest_of : (a b : Option Refusal) → a or_else b ≡ none → b ≡ none
rest_of none b e = e
rest_of (some r) b e = none_some e

pub both_none : (a b : Option Refusal) → a or_else b ≡ none → (a ≡ none) × (b ≡ none)
both_none a b e = (first_of a b e, rest_of a b e)

pub three_none : (a b c : Option Refusal) → a or_else b or_else c ≡ none → (a ≡ none) × (b ≡ none) × (c ≡ none)
three_none a b c e = let r = rest_of a (b or_else c) e in (first_of a (b or_else c) e, first_of b c r, rest_of b c r)

pub first_none : (f : ℕ → Option Refusal) (from n : ℕ) → first_from f from n ≡ none → (k : ℕ) → k < n → f (from + k) ≡ none
first_none f from zero e k h = let z : ⊥ = omega arith in absurd z
first_none f from (suc n) e zero h = let a : from + 0 ≡ from = omega arith in rw a (first_of (f from) (first_from f (suc from) n) e)
first_none f from (suc n) e (suc k) h =
    let a : suc from + k ≡ from + suc k = omega arith in
    subst (λ (x : ℕ). f x ≡ none) a (first_none f (suc from) n (rest_of (f from) (first_from f (suc from) n) e) k (omega arith))

-- tests
pub passes : (b : Bool) → T b → b ≡ true
passes true t = refl
passes false t = absurd t

pub not_off : (b : Bool) → not b ≡ false → T b
not_off true e = tt
not_off false e = let z : ◌≡◌ {A = ℕ} 0 1 = cc in absurd (omega arith)

pub and_l : (a b : Bool) → T (a && b) → T a
and_l true b t = tt
and_l false b t = absurd t

pub and_r : (a b : Bool) → T (a && b) → T b
and_r true b t = t
and_r false b t = absurd t

pub or_l : (a b : Bool) → a || b ≡ false → a ≡ false
or_l true b e = e
or_l false b e = refl

pub or_r : (a b : Bool) → a || b ≡ false → b ≡ false
or_r true b e = let z : ◌≡◌ {A = ℕ} 0 1 = cc in absurd (omega arith)
or_r false b e = e

pub or_left : (a b : Bool) → T a → T (a || b)
or_left true b t = tt
or_left false b t = absurd t

pub or_right : (a b : Bool) → T b → T (a || b)
or_right true b t = tt
or_right false b t = t

pub or_cases : (a b : Bool) → T (a || b) → T a ⊎ T b
or_cases true b t = inl tt
or_cases false b t = inr t

pub and_false : (a b : Bool) → a && b ≡ false → (a ≡ false) ⊎ (b ≡ false)
and_false true b e = inr e
and_false false b e = inl refl

pub any_none : (test : ℕ → Bool) (n : ℕ) → any_below test n ≡ false → (k : ℕ) → k < n → test k ≡ false
any_none test zero e k h = let z : ⊥ = omega arith in absurd z
any_none test (suc n) e k h = go (ℕ_discrete k n) (λ l. any_none test n (or_l (any_below test n) (test n) e) k l)
  where
    go : Dec (k ≡ n) → (k < n → test k ≡ false) → test k ≡ false
    go (yes f) ih = rw f (or_r (any_below test n) (test n) e)
    go (no f) ih = ih (omega arith)

pub all_true : (test : ℕ → Bool) (n : ℕ) → T (all_below test n) → (k : ℕ) → k < n → T (test k)
all_true test zero t k h = let z : ⊥ = omega arith in absurd z
all_true test (suc n) t k h = go (ℕ_discrete k n) (λ l. all_true test n (and_l (all_below test n) (test n) t) k l)
  where
    go : Dec (k ≡ n) → (k < n → T (test k)) → T (test k)
    go (yes f) ih = rw f (and_r (all_below test n) (test n) t)
    go (no f) ih = ih (omega arith)

pub every_get_d : (test : ℕ → Bool) (l : List ℕ) → T (every test l) → (k : ℕ) → k < length l → T (test (get_or l k 0))
every_get_d test [] t k h = let z : ⊥ = omega arith in absurd z
every_get_d test (x ∷ l) t zero h = and_l (test x) (every test l) t
every_get_d test (x ∷ l) t (suc k) h = every_get_d test l (and_r (test x) (every test l) t) k (omega arith)

pub within_low : (a b x : ℕ) → T (within a b x) → (a ≤ x) × (x ≤ b)
within_low a b x t = (leb→le a x (and_l (leb a x) (leb x b) t), leb→le x b (and_r (leb a x) (leb x b) t))

-- a number that is not at most b is above b, and one that is not below a is at least a
pub not_leb : (a b : ℕ) → not (leb a b) ≡ ltb b a
not_leb a b = go (leb a b) refl
  where
    go : (t : Bool) → leb a b ≡ t → not t ≡ ltb b a
    go true e = sym (le-ltb b a (leb-true a b e))
    go false e = sym (lt-ltb b a (leb-false a b e))

pub not_ltb : (a b : ℕ) → not (ltb b a) ≡ leb a b
not_ltb a b = go (ltb b a) refl
  where
    go : (t : Bool) → ltb b a ≡ t → not t ≡ leb a b
    go true e = sym (lt-leb a b (ltb-true b a e))
    go false e = sym (le-leb a b (ltb-false b a e))

pub and_both : (a b : Bool) → T a → T b → T (a && b)
and_both true b t u = u
and_both false b t u = absurd t

pub within_bounds : (a b x : ℕ) → a ≤ x → x ≤ b → T (within a b x)
within_bounds a b x lo hi = and_both (leb a x) (leb x b) (le→leb a x lo) (le→leb x b hi)

pub both_true : (a b : Bool) → a && b ≡ true → (a ≡ true) × (b ≡ true)
both_true true b e = (refl, e)
both_true false b e = let z : ◌≡◌ {A = ℕ} 0 1 = cc in absurd (omega arith)

-- tests below a number, number by number
pub all_by : (test : ℕ → Bool) (n : ℕ) → ((k : ℕ) → k < n → T (test k)) → T (all_below test n)
all_by test zero h = tt
all_by test (suc n) h = and_both (all_below test n) (test n) (all_by test n (λ k l. h k (omega arith))) (h n (omega arith))

pub or_off : (a b : Bool) → a ≡ false → b ≡ false → a || b ≡ false
or_off true b e f = e
or_off false b e f = f

pub none_by : (test : ℕ → Bool) (n : ℕ) → ((k : ℕ) → k < n → test k ≡ false) → any_below test n ≡ false
none_by test zero h = refl
none_by test (suc n) h = or_off (any_below test n) (test n) (none_by test n (λ k l. h k (omega arith))) (h n (omega arith))

pub fails : (b : Bool) → (T b → ⊥) → b ≡ false
fails true h = absurd (h tt)
fails false h = refl

-- two lists compared
pub list_same : (a : List ℕ) → T (same_list a a)
list_same [] = tt
list_same (x ∷ a) = and_both (eqb x x) (same_list a a) (eqb_refl x) (list_same a)

pub same_list_lem : (a b : List ℕ) → T (same_list a b) → a ≡ b
same_list_lem [] [] t = refl
same_list_lem [] (y ∷ b) t = absurd t
same_list_lem (x ∷ a) [] t = absurd t
same_list_lem (x ∷ a) (y ∷ b) t = ap₂ (λ (z : ℕ) (l : List ℕ). z ∷ l) (eqb→eq x y (and_l (eqb x y) (same_list a b) t)) (same_list_lem a b (and_r (eqb x y) (same_list a b) t))

-- tests that pass for the same
pub same_test : (a b : Bool) → (T a → T b) → (T b → T a) → a ≡ b
same_test true true f g = refl
same_test true false f g = absurd (f tt)
same_test false true f g = absurd (g tt)
same_test false false f g = refl

-- what holds after either outcome of a test
pub after_test : {A : Type 0} (P : A → Type 0) (b : Bool) {x y : A} → (T b → P x) → ((T b → ⊥) → P y) → P (if b then x else y)
after_test P true pass fail = pass tt
after_test P false pass fail = fail (λ t. t)

pub every_by : (test : ℕ → Bool) (l : List ℕ) → ((k : ℕ) → k < length l → T (test (get_or l k 0))) → T (every test l)
every_by test [] h = tt
every_by test (x ∷ l) h = and_both (test x) (every test l) (h 0 (omega arith)) (every_by test l (λ k b. h (suc k) (omega arith)))

-- a test of all elements of two lists, one after the other
pub every_append : (test : ℕ → Bool) (a b : List ℕ) → every test (a ++ b) ≡ every test a && every test b
every_append test [] b = refl
every_append test (x ∷ a) b = go (test x) (every_append test a b)
  where
    go : (t : Bool) → every test (a ++ b) ≡ every test a && every test b → t && every test (a ++ b) ≡ t && every test a && every test b
    go true e = e
    go false e = refl

pub every_left : (test : ℕ → Bool) (a b : List ℕ) → T (every test (a ++ b)) → T (every test a)
every_left test a b t = and_l (every test a) (every test b) (subst T (every_append test a b) t)

pub every_right : (test : ℕ → Bool) (a b : List ℕ) → T (every test (a ++ b)) → T (every test b)
every_right test a b t = and_r (every test a) (every test b) (subst T (every_append test a b) t)

pub every_both : (test : ℕ → Bool) (a b : List ℕ) → T (every test a) → T (every test b) → T (every test (a ++ b))
every_both test a b t u = subst T (sym (every_append test a b)) (and_both (every test a) (every test b) t u)

pub none_at : (f : ℕ → Option Refusal) (from n : ℕ) → first_from f from n ≡ none → (k : ℕ) → from ≤ k → k < from + n → f k ≡ none
none_at f from n e k lo hi =
    let a : from + (k - from) ≡ k = omega arith in
    subst (λ (x : ℕ). f x ≡ none) a (first_none f from n e (k - from) (omega arith))

-- tests below a number, and first refusals, of functions that agree there
pub any_same : (f g : ℕ → Bool) (n : ℕ) → ((k : ℕ) → k < n → f k ≡ g k) → any_below f n ≡ any_below g n
any_same f g zero same = refl
any_same f g (suc n) same = ap₂ ◌||◌ (any_same f g n (λ k h. same k (omega arith))) (same n (omega arith))

pub first_same : (f g : ℕ → Option Refusal) (from n : ℕ) → ((k : ℕ) → from ≤ k → k < from + n → f k ≡ g k) → first_from f from n ≡ first_from g from n
first_same f g from zero same = refl
first_same f g from (suc n) same = ap₂ ◌or_else◌ (same from (omega arith) (omega arith)) (first_same f g (suc from) n (λ k lo hi. same k (omega arith) (omega arith)))

pub no_first : (test : ℕ → Bool) (r : ℕ → Refusal) (from n : ℕ) → ((k : ℕ) → from ≤ k → k < from + n → test k ≡ false) → first_from (λ k. refuse_if (test k) (r k)) from n ≡ none
no_first test r from zero h = refl
no_first test r from (suc n) h = rw (h from (omega arith) (omega arith)) (no_first test r (suc from) n (λ k lo hi. h k (omega arith) (omega arith)))

-- a refusal that is not met is passed over, and one that is met is the answer
pub skip : {a : Option Refusal} (b : Option Refusal) → a ≡ none → a or_else b ≡ b
skip b e = ap (λ (x : Option Refusal). x or_else b) e

pub stop : (b : Bool) (r : Refusal) (rest : Option Refusal) → b ≡ true → refuse_if b r or_else rest ≡ some r
stop b r rest e = ap (λ (x : Bool). refuse_if x r or_else rest) e

pub on_not : (b : Bool) → T b → not b ≡ false
on_not true t = refl
on_not false t = absurd t

pub or_none : (a : Option Refusal) → a or_else none ≡ a
or_none none = refl
or_none (some r) = refl

-- what comes after a test counts only where the test is not met
pub after : (b : Bool) (r : Refusal) {x y : Option Refusal} → (b ≡ false → x ≡ y) → refuse_if b r or_else x ≡ refuse_if b r or_else y
after true r same = refl
after false r same = same refl

-- the first three of four tests, and the fourth
pub last_apart : (a b c d : Option Refusal) → (a or_else b or_else c or_else d) ≡ ((a or_else b or_else c) or_else d)
last_apart none none none d = refl
last_apart none none (some x) d = refl
last_apart none (some x) c d = refl
last_apart (some x) b c d = refl
