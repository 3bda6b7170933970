-- Arrays made by a function of the place, and what chains over places give of the first bytes of the moving chains.
-- Assumes nothing.
use Rattle.std.specs.Prelude.{if◌then◌else◌, Option, Some, None, MatchOption}
use mathlib.Core.Path.{◌≡◌, refl, sym, ap, ap₂, subst, ◌∙◌}
use mathlib.Core.Bool.{Bool, true, false, ◌||◌, not, cond}
use mathlib.Core.List.{List, ◌∷◌, map}
use Prim.Native.Nat.{ℕ, zero, suc, ◌+◌, ◌-◌, ◌*◌, ◌<◌, ◌≤◌}
use native.Mathlib.Omega.{arith}
use native.Mathlib.Numerals.{add-one}
use denote.Param.Members.{Mut, Called}
use lib.Dec.{eqb, ltb}
use lib.ListN.{get_or}
use Rattle.std.specs.Array.{IsFromFnResult, IsFromFnResultFrom}
use Rattle.std.specs.List.{range_with_len, list_any, count_by, position_or_len}
use Rattle.std.proofs.lemmas.List.Recursion.{is_count_by, is_position_or_len}
use Rattle.model.specs.Base.{numbers_from, occurrences}
use Rattle.minimalist.specs.Lexicon.{is_licensee, is_licensor, licenses}
use Rattle.lexicon.proofs.FeatureKinds.{licensed_byte, other_byte}
use borrow.Author.Tests.{eq-eqb, ne_eqb, ltb-true, ltb-false}
use Rattle.forms.specs.Rows.{FilledBy, firsts_in, any_same, wrong_firsts, place_in}

-- an array whose element at each place is what the closure gave there
module _ {F : Type 0} (g : Mut F (ℕ × Unit {0}) ℕ) (f : F) (ys : List ℕ) (h : ℕ → ℕ) (law : (i y : ℕ) (q : F) → Called g f (i, tt) y q → (q ≡ f) × (y ≡ h i)) where
  gives_from : (k n : ℕ) → IsFromFnResultFrom g f ys k n → (i : ℕ) → i < n → get_or ys (k + i) 0 ≡ h (k + i)
  gives_from k zero r i l = let z : ⊥ = omega arith in absurd z
  gives_from k (suc n) (q, y, here, call, rest) zero l =
      let e : k + 0 ≡ k = omega arith in
      ap (λ (p : ℕ). get_or ys p 0) e ∙ here.1 0 ∙ (law k y q call).1 ∙ ap h (sym e)
  gives_from k (suc n) (q, y, here, call, rest) (suc i) l =
      let e : k + 1 + i ≡ k + suc i = omega arith in
      let more : IsFromFnResultFrom g f ys (k + 1) n = subst (λ (p : F). IsFromFnResultFrom g p ys (k + 1) n) (law k y q call).0 rest in
      ap (λ (p : ℕ). get_or ys p 0) (sym e) ∙ gives_from (k + 1) n more i (omega arith) ∙ ap h e

pub gives_each : {F : Type 0} {g : Mut F (ℕ × Unit {0}) ℕ} {f : F} {ys : List ℕ} {n : ℕ} (h : ℕ → ℕ) → IsFromFnResult g f ys n
    → ((i y : ℕ) (q : F) → Called g f (i, tt) y q → (q ≡ f) × (y ≡ h i)) → (p : ℕ) → p < n → get_or ys p 0 ≡ h p
gives_each {F} {g} {f} {ys} {n} h r law p l =
    let e : 0 + p ≡ p = omega arith in
    ap (λ (k : ℕ). get_or ys k 0) (sym e) ∙ gives_from g f ys h law 0 n r.each p l ∙ ap h e

pub filled_from : {F : Type 0} {g : Mut F (ℕ × Unit {0}) ℕ} {f : F} {ys : List ℕ} (h : ℕ → ℕ) → IsFromFnResult g f ys 64
    → ((i y : ℕ) (q : F) → Called g f (i, tt) y q → (q ≡ f) × (y ≡ h i)) → FilledBy h ys
filled_from h r law = (r.long, gives_each h r law)

range_is : (k n : ℕ) → range_with_len k n ≡ numbers_from k n
range_is k zero = refl
range_is k (suc n) = ap (λ (js : List ℕ). k ∷ js) (rw add-one (range_is (suc k) n))

-- the place that a search gives
pub place_found : {r : Option ℕ} (p q l n : ℕ) → r ≡ cond (ltb p l) (Some p) None → p ≡ q → l ≡ n → MatchOption r (n ≤ q) (λ t. (t < n) × (t ≡ q))
place_found {r} p q l n e same long = go (ltb p l) refl e
  where
    go : (t : Bool) → ltb p l ≡ t → r ≡ cond t (Some p) None → MatchOption r (n ≤ q) (λ t. (t < n) × (t ≡ q))
    go true w e = let z : p < l = ltb-true p l w in subst (λ (o : Option ℕ). MatchOption o (n ≤ q) (λ t. (t < n) × (t ≡ q))) (sym e) (omega arith, same)
    go false w e = let z : l ≤ p = ltb-false p l w in subst (λ (o : Option ℕ). MatchOption o (n ≤ q) (λ t. (t < n) × (t ≡ q))) (sym e) (omega arith)

-- a licensee told by its byte
licenses_is : (p m : ℕ) → is_licensor p ≡ true → licenses p m ≡ eqb (p + 16) m
licenses_is p m l = go (licenses p m) refl
  where
    go : (t : Bool) → licenses p m ≡ t → t ≡ eqb (p + 16) m
    go true e = sym (eq-eqb (p + 16) m (licensed_byte p m l e))
    go false e = sym (ne_eqb (p + 16) m (other_byte p m l e))

pub by_partner : {Q : Type 0} {q f : Q} {b : Bool} (p m : ℕ) → is_licensor p ≡ true → (q ≡ f) × (b ≡ licenses p m) → (q ≡ f) × (b ≡ eqb (p + 16) m)
by_partner p m l h = (h.0, h.1 ∙ licenses_is p m l)

-- by the numbers of the chains
module _ (row : List ℕ) where
  abbrev pub first_at : ℕ → ℕ
  first_at j = get_or row (8 * (j + 1)) 0

  pub any_is : (m k n : ℕ) → list_any (λ j. eqb m (first_at j)) (range_with_len k n) ≡ any_same m (firsts_in row k n)
  any_is m k zero = refl
  any_is m k (suc n) = ap (λ (t : Bool). eqb m (first_at k) || t) (rw add-one (any_is m (suc k) n))

  -- one begins with no licensee, or with what one after it begins with
  pub wrong_is : (n k c : ℕ) → k + c ≡ n
      → list_any (λ j. not (is_licensee (first_at j)) || any_same (first_at j) (firsts_in row (j + 1) (n - (j + 1)))) (range_with_len k c) ≡ wrong_firsts (firsts_in row k c)
  wrong_is n k zero e = refl
  wrong_is n k (suc c) e =
      let z : n - (k + 1) ≡ c = omega arith in
      ap₂ (λ (s t : Bool). (not (is_licensee (first_at k)) || s) || t)
      (ap₂ (λ (u v : ℕ). any_same (first_at k) (firsts_in row u v)) (add-one k) z)
      (ap (λ (u : ℕ). list_any (λ j. not (is_licensee (first_at j)) || any_same (first_at j) (firsts_in row (j + 1) (n - (j + 1)))) (range_with_len u c)) (add-one k) ∙ wrong_is n (suc k) c (omega arith))
      ∙ assoc (not (is_licensee (first_at k))) (any_same (first_at k) (firsts_in row (suc k) c)) (wrong_firsts (firsts_in row (suc k) c))
    where
      assoc : (a b d : Bool) → ((a || b) || d) ≡ (a || (b || d))
      assoc true b d = refl
      assoc false b d = refl

  pub many_is : (m k n : ℕ) → count_by (λ j. eqb m (first_at j)) (range_with_len k n) ≡ occurrences m (firsts_in row k n)
  many_is m k n = sym (is_count_by (λ js. occurrences m (map first_at js)) (λ j. eqb m (first_at j)) refl step (range_with_len k n)) ∙ ap (λ (js : List ℕ). occurrences m (map first_at js)) (range_is k n)
    where
      go : (t : Bool) (x : ℕ) → (if t then 1 else 0) + x ≡ cond t (1 + x) x
      go true x = refl
      go false x = omega arith

      step : (j : ℕ) (js : List ℕ) → (if eqb m (first_at j) then 1 else 0) + occurrences m (map first_at js) ≡ cond (eqb m (first_at j)) (1 + occurrences m (map first_at js)) (occurrences m (map first_at js))
      step j js = go (eqb m (first_at j)) (occurrences m (map first_at js))

  pub place_is : (m k n : ℕ) → position_or_len (λ j. eqb m (first_at j)) (range_with_len k n) ≡ place_in m (firsts_in row k n)
  place_is m k n = sym (is_position_or_len (λ js. place_in m (map first_at js)) (λ j. eqb m (first_at j)) refl step (range_with_len k n)) ∙ ap (λ (js : List ℕ). place_in m (map first_at js)) (range_is k n)
    where
      step : (j : ℕ) (js : List ℕ) → (if eqb m (first_at j) then 0 else suc (place_in m (map first_at js))) ≡ (if eqb m (first_at j) then 0 else (1 + place_in m (map first_at js)))
      step j js = let e : suc (place_in m (map first_at js)) ≡ 1 + place_in m (map first_at js) = omega arith in rw e
