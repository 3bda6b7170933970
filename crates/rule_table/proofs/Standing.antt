-- Which variable is the first that is x, and in which component a variable stands.
-- Assumes nothing.
use Rattle.std.specs.Prelude.{if◌then◌else◌}
use mathlib.Core.Path.{◌≡◌, refl, sym, ap, ◌∙◌}
use mathlib.Core.Bool.{Bool, true, false}
use mathlib.Core.List.{List}
use Prim.Native.Nat.{ℕ, zero, suc, ◌+◌, ◌-◌, ◌<◌, ◌≤◌}
use native.Mathlib.Omega.{arith}
use native.Mathlib.Decide.{dec_lt}
use borrow.Author.Tests.{ltb-true, ltb-false, lt-ltb, le-ltb, eq-eqb, ne_eqb}
use lib.Dec.{ltb, eqb, eqb→eq}
use Rattle.model.specs.Base.{sum_below}
use Rattle.model.specs.GrammarFile.{field}
use Rattle.rule_table.specs.declared.places.Stand.{Stand}
use Rattle.rule_table.specs.Places.{first_of, stand_at, stand_of, stand_in}

-- the search, variable by variable
module _ (e : List ℕ) (x v : ℕ) (within : v < 12) where
  more : 12 - v ≡ suc (12 - (v + 1))
  more = omega arith

  pub first_here : field e (11 + v) ≡ x → first_of e x v (12 - v) ≡ v
  first_here h = rw more (rw (eq-eqb (field e (11 + v)) x h))

  pub first_next : (field e (11 + v) ≡ x → ⊥) → first_of e x v (12 - v) ≡ first_of e x (v + 1) (12 - (v + 1))
  first_next h =
      let z : v + 1 ≡ suc v = omega arith in
      rw (more, z) (rw (ne_eqb (field e (11 + v)) x h))

-- the component of a variable, by how many variables stand before it
module _ (e : List ℕ) (v one : ℕ) (first : one ≡ field e 7) where
  pub stand_first : v < one → stand_at e v ≡ record { component = 0; position = v }
  stand_first h = rw (lt-ltb v (field e 7) (omega arith))

  module _ (more : ℕ) (second : more ≡ field e 8) where
    pub stand_second : one ≤ v → v < one + more → stand_at e v ≡ record { component = 1; position = v - one }
    stand_second h k =
        rw (le-ltb v (field e 7) (omega arith), lt-ltb v (field e 7 + field e 8) (omega arith))
        (ap (λ (a : ℕ). record { component = 1; position = v - a }) (sym first))

    module _ (last : ℕ) (third : last ≡ field e 9) (h : one + more ≤ v) where
      pub stand_third : v < one + more + last → stand_at e v ≡ record { component = 2; position = v - (one + more) }
      stand_third k =
          let f : field e 7 + field e 8 ≡ one + more = omega arith in
          rw (le-ltb v (field e 7) (omega arith), le-ltb v (field e 7 + field e 8) (omega arith), lt-ltb v (field e 7 + field e 8 + field e 9) (omega arith))
          (ap (λ (a : ℕ). record { component = 2; position = v - a }) f)

      pub stand_fourth : one + more + last ≤ v → stand_at e v ≡ record { component = 3; position = v - (one + more + last) }
      stand_fourth k =
          let f : field e 7 + field e 8 + field e 9 ≡ one + more + last = omega arith in
          rw (le-ltb v (field e 7) (omega arith), le-ltb v (field e 7 + field e 8) (omega arith), le-ltb v (field e 7 + field e 8 + field e 9) (omega arith))
          (ap (λ (a : ℕ). record { component = 3; position = v - a }) f)

-- component 0 stands where it stands, however many components the daughter has
pub stand_zero : (e : List ℕ) (n j : ℕ) → stand_in e n j 0 ≡ stand_of e j 0
stand_zero e n j = go (ltb 0 n)
  where
    go : (b : Bool) → (if b then stand_of e j 0 else stand_of e j 0) ≡ stand_of e j 0
    go true = refl
    go false = refl

-- none before the first is x, and the first is
pub first_before : (e : List ℕ) (x v n w : ℕ) → v ≤ w → w < first_of e x v n → field e (11 + w) ≡ x → ⊥
first_before e x v zero w h l q = omega arith
first_before e x v (suc n) w h l q = go (eqb (field e (11 + v)) x) refl l (λ a b. first_before e x (suc v) n w a b q)
  where
    go : (b : Bool) → eqb (field e (11 + v)) x ≡ b → w < (if b then v else first_of e x (suc v) n) → (suc v ≤ w → w < first_of e x (suc v) n → ⊥) → ⊥
    go true f l ih = omega arith
    go false f l ih = other (dec_lt v w)
      where
        other : Dec (v < w) → ⊥
        other (yes a) = ih a l
        other (no a) =
            let z : w ≡ v = omega arith in
            let t : ◌≡◌ {A = Bool} true false = sym (eq-eqb (field e (11 + v)) x (sym (ap (λ (i : ℕ). field e (11 + i)) z) ∙ q)) ∙ f in
            let y : ◌≡◌ {A = ℕ} 0 1 = cc in
            omega arith

pub first_is : (e : List ℕ) (x v n : ℕ) → first_of e x v n < v + n → field e (11 + first_of e x v n) ≡ x
first_is e x v zero h = absurd (omega arith)
first_is e x v (suc n) h = go (eqb (field e (11 + v)) x) refl h (λ l. first_is e x (suc v) n l)
  where
    go : (b : Bool) → eqb (field e (11 + v)) x ≡ b → (if b then v else first_of e x (suc v) n) < v + suc n
        → (first_of e x (suc v) n < suc v + n → field e (11 + first_of e x (suc v) n) ≡ x) → field e (11 + (if b then v else first_of e x (suc v) n)) ≡ x
    go true f l ih = eqb→eq (field e (11 + v)) x (rw f tt)
    go false f l ih = ih (omega arith)

-- the variables before component k
abbrev pub before : List ℕ → ℕ → ℕ
before e k = sum_below (λ j. field e (7 + j)) k

-- variable v stands at position p of component k
pub record Stands (e : List ℕ) (v : ℕ) (s : Stand) : Type 0 where
  pub four : s.component < 4
  pub number : before e s.component + s.position ≡ v
  pub inside : v < before e 4 → s.position < field e (7 + s.component)

pub stands_at : (e : List ℕ) (v : ℕ) → Stands e v (stand_at e v)
stands_at e v = go (ltb v (field e 7)) refl (ltb v (field e 7 + field e 8)) refl (ltb v (field e 7 + field e 8 + field e 9)) refl
  where
    go : (a : Bool) → ltb v (field e 7) ≡ a → (b : Bool) → ltb v (field e 7 + field e 8) ≡ b → (c : Bool) → ltb v (field e 7 + field e 8 + field e 9) ≡ c
        → Stands e v
        (if a then record { component = 0; position = v }
        else if b then record { component = 1; position = v - field e 7 }
        else if c then record { component = 2; position = v - (field e 7 + field e 8) }
        else record { component = 3; position = v - (field e 7 + field e 8 + field e 9) })
    go true f b g c h = let p = ltb-true v (field e 7) f in record { four = omega arith; number = omega arith; inside = λ l. omega arith }
    go false f true g c h =
        let p = ltb-false v (field e 7) f in
        let q = ltb-true v (field e 7 + field e 8) g in
        record { four = omega arith; number = omega arith; inside = λ l. omega arith }
    go false f false g true h =
        let p = ltb-false v (field e 7 + field e 8) g in
        let q = ltb-true v (field e 7 + field e 8 + field e 9) h in
        record { four = omega arith; number = omega arith; inside = λ l. omega arith }
    go false f false g false h = let p = ltb-false v (field e 7 + field e 8 + field e 9) h in record { four = omega arith; number = omega arith; inside = λ l. omega arith }
