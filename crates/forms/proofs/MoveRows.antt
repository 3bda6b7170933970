-- The row of a move, byte by byte.
-- Assumes nothing.
use Rattle.std.specs.Prelude.{if◌then◌else◌}
use mathlib.Core.Path.{◌≡◌, refl, sym, ap, ap₂, ◌∙◌}
use mathlib.Core.Bool.{Bool, true, false}
use mathlib.Core.List.{List, [], ◌∷◌, ◌++◌, map}
use Prim.Native.Nat.{ℕ, zero, suc, ◌+◌, ◌-◌, ◌<◌}
use native.Mathlib.Omega.{arith}
use native.Mathlib.Decide.{dec_lt, ℕ_discrete}
use lib.Dec.{ltb, eqb}
use lib.ListN.{length, get_or}
use borrow.Author.Tests.{lt-ltb, le-ltb, eq-eqb, ne_eqb}
use Rattle.model.specs.Base.{occurrences}
use Rattle.minimalist.specs.Derivations.{begins}
use Rattle.minimalist.specs.Schemes.{how_many_begin, left_over, moving_after}
use Rattle.forms.specs.Rows.{place_in}

abbrev first : List ℕ → ℕ
first c = get_or c 0 0

abbrev firsts : List (List ℕ) → List ℕ
firsts cs = map first cs

module _ (m : ℕ) (set : m ≡ 0 → ⊥) where
  pub begins_first : (c : List ℕ) → begins m c ≡ eqb m (first c)
  begins_first [] = sym (ne_eqb m 0 set)
  begins_first (x ∷ xs) = refl

  pub how_many : (cs : List (List ℕ)) → how_many_begin m cs ≡ occurrences m (firsts cs)
  how_many [] = refl
  how_many (c ∷ cs) = ap₂ (λ (t : Bool) (n : ℕ). (if t then 1 else 0) + n) (begins_first c) (how_many cs)

  -- one of them: its place is among them
  pub placed : (l : List ℕ) → occurrences m l ≡ 1 → place_in m l < length l
  placed [] e = let z : ⊥ = omega arith in absurd z
  placed (x ∷ xs) e = go (eqb m x) e (λ k. placed xs k)
    where
      go : (t : Bool) → (if t then 1 else 0) + occurrences m xs ≡ 1 → (occurrences m xs ≡ 1 → place_in m xs < length xs) → (if t then 0 else suc (place_in m xs)) < suc (length xs)
      go true e ih = omega arith
      go false e ih = omega (arith, ih (omega arith))

  abbrev at : List (List ℕ) → ℕ
  at cs = place_in m (firsts cs)

  -- the chains after the move, by their places
  pub landed : (cs : List (List ℕ)) → at cs < length cs → left_over (get_or cs (at cs) []) ≡ [] → (k : ℕ)
      → get_or (moving_after m cs) k [] ≡ (if ltb k (at cs) then get_or cs k [] else get_or cs (k + 1) [])
  landed [] h e k = let z : ⊥ = omega arith in absurd z
  landed (c ∷ cs) h e k = go (eqb m (first c)) (begins_first c) h e k (λ h e k. landed cs h e k)
    where
      go : (t : Bool) → begins m c ≡ t → (if t then 0 else suc (at cs)) < suc (length cs) → left_over (get_or (c ∷ cs) (if t then 0 else suc (at cs)) []) ≡ [] → (k : ℕ)
          → (at cs < length cs → left_over (get_or cs (at cs) []) ≡ [] → (k : ℕ) → get_or (moving_after m cs) k [] ≡ (if ltb k (at cs) then get_or cs k [] else get_or cs (k + 1) []))
          → get_or (if begins m c then left_over c ++ cs else c ∷ moving_after m cs) k [] ≡ (if ltb k (if t then 0 else suc (at cs)) then get_or (c ∷ cs) k [] else get_or (c ∷ cs) (k + 1) [])
      go true w h e k ih =
          let z : k + 1 ≡ suc k = omega arith in
          rw (w, le-ltb k 0 (omega arith)) (ap (λ (l : List (List ℕ)). get_or (l ++ cs) k []) e ∙ ap (λ (n : ℕ). get_or (c ∷ cs) n []) (sym z))
      go false w h e zero ih = rw (w, lt-ltb 0 (suc (at cs)) (omega arith))
      go false w h e (suc k) ih = rw w (ih (omega arith) e k ∙ pick (dec_lt k (at cs)))
        where
          pick : Dec (k < at cs) → (if ltb k (at cs) then get_or cs k [] else get_or cs (k + 1) []) ≡ (if ltb (suc k) (suc (at cs)) then get_or cs k [] else get_or (c ∷ cs) (suc k + 1) [])
          pick (yes l) = rw (lt-ltb k (at cs) l, lt-ltb (suc k) (suc (at cs)) (omega arith))
          pick (no l) = let z : suc k + 1 ≡ suc (k + 1) = omega arith in rw (le-ltb k (at cs) (omega arith), le-ltb (suc k) (suc (at cs)) (omega arith)) (ap (λ (n : ℕ). get_or (c ∷ cs) n []) (sym z))

  pub landed_long : (cs : List (List ℕ)) → at cs < length cs → left_over (get_or cs (at cs) []) ≡ [] → length (moving_after m cs) ≡ length cs - 1
  landed_long [] h e = refl
  landed_long (c ∷ cs) h e = go (eqb m (first c)) (begins_first c) h e (λ h e. landed_long cs h e)
    where
      go : (t : Bool) → begins m c ≡ t → (if t then 0 else suc (at cs)) < suc (length cs) → left_over (get_or (c ∷ cs) (if t then 0 else suc (at cs)) []) ≡ []
          → (at cs < length cs → left_over (get_or cs (at cs) []) ≡ [] → length (moving_after m cs) ≡ length cs - 1)
          → length (if begins m c then left_over c ++ cs else c ∷ moving_after m cs) ≡ suc (length cs) - 1
      go true w h e ih = rw w (ap (λ (l : List (List ℕ)). length (l ++ cs)) e ∙ (let z : length cs ≡ suc (length cs) - 1 = omega arith in z))
      go false w h e ih = rw w (omega (arith, ih (omega arith) e))

  pub stayed : (cs : List (List ℕ)) (d : List ℕ) → at cs < length cs → left_over (get_or cs (at cs) []) ≡ d ∷ [] → (k : ℕ)
      → get_or (moving_after m cs) k [] ≡ (if eqb k (at cs) then d else get_or cs k [])
  stayed [] d h e k = let z : ⊥ = omega arith in absurd z
  stayed (c ∷ cs) d h e k = go (eqb m (first c)) (begins_first c) h e k (λ h e k. stayed cs d h e k)
    where
      go : (t : Bool) → begins m c ≡ t → (if t then 0 else suc (at cs)) < suc (length cs) → left_over (get_or (c ∷ cs) (if t then 0 else suc (at cs)) []) ≡ d ∷ [] → (k : ℕ)
          → (at cs < length cs → left_over (get_or cs (at cs) []) ≡ d ∷ [] → (k : ℕ) → get_or (moving_after m cs) k [] ≡ (if eqb k (at cs) then d else get_or cs k []))
          → get_or (if begins m c then left_over c ++ cs else c ∷ moving_after m cs) k [] ≡ (if eqb k (if t then 0 else suc (at cs)) then d else get_or (c ∷ cs) k [])
      go true w h e zero ih = rw w (ap (λ (l : List (List ℕ)). get_or (l ++ cs) 0 []) e)
      go true w h e (suc k) ih = rw (w, ne_eqb (suc k) 0 (λ q. omega arith)) (ap (λ (l : List (List ℕ)). get_or (l ++ cs) (suc k) []) e)
      go false w h e zero ih = rw (w, ne_eqb 0 (suc (at cs)) (λ q. omega arith))
      go false w h e (suc k) ih = rw w (ih (omega arith) e k ∙ pick (ℕ_discrete k (at cs)))
        where
          pick : Dec (k ≡ at cs) → (if eqb k (at cs) then d else get_or cs k []) ≡ (if eqb (suc k) (suc (at cs)) then d else get_or cs k [])
          pick (yes l) = rw (eq-eqb k (at cs) l, eq-eqb (suc k) (suc (at cs)) (omega arith))
          pick (no l) = rw (ne_eqb k (at cs) l, ne_eqb (suc k) (suc (at cs)) (λ q. l (omega arith)))

  pub stayed_long : (cs : List (List ℕ)) (d : List ℕ) → at cs < length cs → left_over (get_or cs (at cs) []) ≡ d ∷ [] → length (moving_after m cs) ≡ length cs
  stayed_long [] d h e = refl
  stayed_long (c ∷ cs) d h e = go (eqb m (first c)) (begins_first c) h e (λ h e. stayed_long cs d h e)
    where
      go : (t : Bool) → begins m c ≡ t → (if t then 0 else suc (at cs)) < suc (length cs) → left_over (get_or (c ∷ cs) (if t then 0 else suc (at cs)) []) ≡ d ∷ []
          → (at cs < length cs → left_over (get_or cs (at cs) []) ≡ d ∷ [] → length (moving_after m cs) ≡ length cs)
          → length (if begins m c then left_over c ++ cs else c ∷ moving_after m cs) ≡ suc (length cs)
      go true w h e ih = rw w (ap (λ (l : List (List ℕ)). length (l ++ cs)) e)
      go false w h e ih = rw w (omega (arith, ih (omega arith) e))
