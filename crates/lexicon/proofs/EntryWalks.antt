-- The features of an entry by the library's words for a search and for what stands before; and how many entries a lexicon has.
-- Assumes nothing.
use mathlib.Core.Path.{◌≡◌, refl, sym, ap, ◌∙◌}
use Rattle.std.specs.Prelude.{if◌then◌else◌, Option, Some, None, unwrap_or}
use mathlib.Core.Bool.{Bool, true, false, ◌&&◌, not, cond}
use mathlib.Core.List.{List, [], ◌∷◌}
use Prim.Native.Nat.{ℕ, ◌+◌, ◌/◌, ◌%◌, ◌≤◌}
use native.Mathlib.Omega.{arith}
use lib.Dec.{eqb, ltb}
use lib.ListN.{length, drop, length-take}
use borrow.Author.Tests.{ltb-false}
use Rattle.std.specs.List.{position, position_or_len, take_while, list_all}
use Rattle.std.proofs.lemmas.List.Recursion.{is_position_or_len}
use Rattle.std.proofs.lemmas.List.Sums.{take_while-cons}
use Rattle.grammar.proofs.FromStd.{every_is}
use Rattle.model.specs.Base.{every}
use Rattle.model.specs.GrammarFile.{fields, within}
use Rattle.minimalist.specs.Lexicon.{is_feature, before_zero, entries, wrong_lexicon}
use Rattle.lexicon.proofs.FeatureKinds.{bounds}

-- the features by the library's words: the place of the first 0, and what stands before it
before_length : (l : List ℕ) → length (before_zero l) ≡ position_or_len (λ b. eqb b 0) l
before_length l = is_position_or_len (λ l. length (before_zero l)) (λ b. eqb b 0) refl (λ x l. step (eqb x 0) x l) l
  where
    step : (t : Bool) (x : ℕ) (l : List ℕ) → length (if t then [] else x ∷ before_zero l) ≡ cond t 0 (1 + length (before_zero l))
    step true x l = refl
    step false x l = omega arith

before_most : (l : List ℕ) → length (before_zero l) ≤ length l
before_most [] = omega arith
before_most (x ∷ l) = go (eqb x 0) (before_most l)
  where
    go : (t : Bool) → length (before_zero l) ≤ length l → length (if t then [] else x ∷ before_zero l) ≤ length (x ∷ l)
    go true h = omega arith
    go false h = omega (arith, h)

pub before_found : (l : List ℕ) (r : Option ℕ) → r ≡ position (λ b. eqb b 0) l → unwrap_or r (length l) ≡ length (before_zero l)
before_found l r e = go (ltb (position_or_len (λ b. eqb b 0) l) (length l)) refl e
  where
    go : (t : Bool) → ltb (position_or_len (λ b. eqb b 0) l) (length l) ≡ t → r ≡ cond t (Some (position_or_len (λ b. eqb b 0) l)) None → unwrap_or r (length l) ≡ length (before_zero l)
    go true w e = rw e (sym (before_length l))
    go false w e = rw e (omega (arith, ltb-false (position_or_len (λ b. eqb b 0) l) (length l) w, before_length l, before_most l))

before_is : (l : List ℕ) → take_while (λ b. not (eqb b 0)) l ≡ before_zero l
before_is [] = refl
before_is (x ∷ l) = take_while-cons (λ b. not (eqb b 0)) x l ∙ go (eqb x 0) (before_is l)
  where
    go : (t : Bool) → take_while (λ b. not (eqb b 0)) l ≡ before_zero l → cond (not t) (x ∷ take_while (λ b. not (eqb b 0)) l) [] ≡ (if t then [] else x ∷ before_zero l)
    go true e = refl
    go false e = ap (λ (k : List ℕ). x ∷ k) e

pub features_are : (l : List ℕ) → list_all is_feature (take_while (λ b. not (eqb b 0)) l) ≡ every is_feature (before_zero l)
features_are l = every_is is_feature (take_while (λ b. not (eqb b 0)) l) ∙ ap (every is_feature) (before_is l)

-- a lexicon's numbers
abbrev right_numbers : List ℕ → ℕ → ℕ → Bool
right_numbers bytes words start = eqb (length bytes % 8) 0 && within 1 32 (entries bytes) && within 1 4096 words && within 1 15 start

module _ (bytes : List ℕ) (words start : ℕ) where
  wrong_if : right_numbers bytes words start ≡ false → wrong_lexicon bytes words start ≡ true
  wrong_if e = rw e

  one_off : (a c d : Bool) → a && false && c && d ≡ false
  one_off true c d = refl
  one_off false c d = refl

  wrong_entries : within 1 32 (entries bytes) ≡ false → wrong_lexicon bytes words start ≡ true
  wrong_entries e = wrong_if (rw e (one_off (eqb (length bytes % 8) 0) (within 1 4096 words) (within 1 15 start)))

  -- a lexicon that 30 does not meet is short
  pub few_entries : wrong_lexicon bytes words start ≡ false → length bytes / 8 ≤ 32
  few_entries e = go (within 1 32 (entries bytes)) refl
    where
      go : (t : Bool) → within 1 32 (entries bytes) ≡ t → length bytes / 8 ≤ 32
      go true w = (bounds 1 32 (entries bytes) w).1
      go false w = let z : ◌≡◌ {A = Bool} true false = sym (wrong_entries w) ∙ e in let n : ◌≡◌ {A = ℕ} 0 1 = cc in absurd (omega arith)

-- the six bytes of an entry's features
pub six_long : (e : List ℕ) → length (fields e 2 6) ≤ 6
six_long e = omega (arith, length-take 6 (drop 2 e))
