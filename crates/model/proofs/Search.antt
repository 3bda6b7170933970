-- What a search that keeps only what leads to the end has to do with the live prefixes.
-- Assumes nothing.
use Rattle.std.specs.Prelude.{if◌then◌else◌}
use mathlib.Core.Path.{◌≡◌, refl, ap, ap₂, ◌∙◌}
use mathlib.Core.Bool.{Bool, true, false}
use mathlib.Core.Option.{Option, none, some}
use mathlib.Core.List.{List, [], ◌∷◌, ◌++◌, map}
use Prim.Native.Nat.{ℕ, ◌≤◌}
use native.Mathlib.Omega.{arith}
use lib.ListN.{length}
use Rattle.model.specs.Base.{each, keep}
use Rattle.model.specs.Grammar.{Grammar}
use Rattle.model.specs.Step.{State, Outcome, fails, leads, step}
use Rattle.model.specs.Trace.{no_node, run}
use Rattle.model.specs.Counting.{finished}

module _ {A B : Type 0} where
  pub each_same : (f h : A → List B) (xs : List A) → ((x : A) → f x ≡ h x) → each f xs ≡ each h xs
  each_same f h [] e = refl
  each_same f h (x ∷ xs) e = ap₂ (λ (a b : List B). a ++ b) (e x) (each_same f h xs e)

pub keep_same : {A : Type 0} (f h : A → Bool) (xs : List A) → ((x : A) → f x ≡ h x) → keep f xs ≡ keep h xs
keep_same f h [] e = refl
keep_same {A} f h (x ∷ xs) e = ap₂ (λ (b : Bool) (l : List A). if b then x ∷ l else l) (e x) (keep_same f h xs e)

pub keep_map : (f : List ℕ → Bool) (r : ℕ) (xs : List (List ℕ)) → keep f (map (λ p. r ∷ p) xs) ≡ map (λ p. r ∷ p) (keep (λ p. f (r ∷ p)) xs)
keep_map f r [] = refl
keep_map f r (x ∷ xs) = go (f (r ∷ x)) (keep_map f r xs)
  where
    go : (b : Bool) → keep f (map (λ p. r ∷ p) xs) ≡ map (λ p. r ∷ p) (keep (λ p. f (r ∷ p)) xs)
        → (if b then (r ∷ x) ∷ keep f (map (λ p. r ∷ p) xs) else keep f (map (λ p. r ∷ p) xs)) ≡ map (λ p. r ∷ p) (if b then x ∷ keep (λ p. f (r ∷ p)) xs else keep (λ p. f (r ∷ p)) xs)
    go true e = ap (λ (l : List (List ℕ)). (r ∷ x) ∷ l) e
    go false e = e

pub keep_append : {A : Type 0} (f : A → Bool) (xs ys : List A) → keep f (xs ++ ys) ≡ keep f xs ++ keep f ys
keep_append f [] ys = refl
keep_append {A} f (x ∷ xs) ys = go (f x) (keep_append f xs ys)
  where
    go : (b : Bool) → keep f (xs ++ ys) ≡ keep f xs ++ keep f ys → (if b then x ∷ keep f (xs ++ ys) else keep f (xs ++ ys)) ≡ (if b then x ∷ keep f xs else keep f xs) ++ keep f ys
    go true e = ap (λ (l : List A). x ∷ l) e
    go false e = e

pub keep_each : {A B : Type 0} (f : B → Bool) (h : A → List B) (xs : List A) → keep f (each h xs) ≡ each (λ x. keep f (h x)) xs
keep_each f h [] = refl
keep_each {A} {B} f h (x ∷ xs) = keep_append f (h x) (each h xs) ∙ ap (λ (l : List B). keep f (h x) ++ l) (keep_each f h xs)

pub keep_short : {A : Type 0} (f : A → Bool) (xs : List A) → length (keep f xs) ≤ length xs
keep_short f [] = omega arith
keep_short f (x ∷ xs) = go (f x) (keep_short f xs)
  where
    go : (b : Bool) → length (keep f xs) ≤ length xs → length (if b then x ∷ keep f xs else keep f xs) ≤ length (x ∷ xs)
    go true h = omega arith
    go false h = omega arith

pub keep_first : (b : Bool) (l : List (List ℕ)) → (if b then [] ∷ [] else []) ++ l ≡ (if b then [] ∷ l else l)
keep_first true l = refl
keep_first false l = refl

-- the steps of the trace lead from s to the end
abbrev pub ends : Grammar → State (Unit {0}) → List ℕ → Bool
ends g s trace = elim (run no_node g s trace) [ none ↦ false | some s' ↦ finished s' ]

pub after : (g : Grammar) (s : State (Unit {0})) (r : ℕ) (s' : State (Unit {0})) → step no_node g s r ≡ leads s' → (p : List ℕ) → ends g s (r ∷ p) ≡ ends g s' p
after g s r s' e p = go (step no_node g s r) e
  where
    go : (o : Outcome (Unit {0})) → o ≡ leads s'
        → ◌≡◌ {A = Bool} (elim (elim o as (λ o. Option (State (Unit {0}))) [ fails n ↦ none | leads s'' ↦ run no_node g s'' p ]) [ none ↦ false | some s'' ↦ finished s'' ]) (ends g s' p)
    go (fails n) f = let z : ◌≡◌ {A = ℕ} 0 1 = cc in absurd (omega arith)
    go (leads s'') f = let k : s'' ≡ s' = cc in ap (λ (x : State (Unit {0})). ends g x p) k
