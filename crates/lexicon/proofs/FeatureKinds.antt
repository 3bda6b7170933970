-- The features by their kinds: what each range of bytes is, and the tests of features by the kind.
-- Assumes nothing.
use mathlib.Core.Path.{◌≡◌, refl, sym, ◌∙◌}
use mathlib.Core.Bool.{Bool, true, false, ◌&&◌}
use Prim.Native.Nat.{ℕ, ◌+◌, ◌%◌, ◌<◌, ◌≤◌}
use native.Mathlib.Omega.{arith}
use lib.Dec.{leb, eqb}
use borrow.Author.Tests.{le-leb, lt-leb, ne_eqb, eqb-true, eqb-false}
use Rattle.model.specs.GrammarFile.{within}
use Rattle.model.proofs.Tests.{within_low, not_both}
use Rattle.minimalist.proofs.Meaning.{kind_by}
use Rattle.minimalist.specs.Lexicon.{Feature, category, selector, licensor, licensee, refusal30, feature_of, selects, licenses, is_licensor}

pub and_off : (a : Bool) → a && false ≡ false
and_off true = refl
and_off false = refl

module _ (l h x : ℕ) where
  pub inside : l ≤ x → x ≤ h → within l h x ≡ true
  inside a b = rw (le-leb l x a, le-leb x h b)

  pub under : x < l → within l h x ≡ false
  under a = rw (lt-leb l x a)

  pub over : h < x → within l h x ≡ false
  over a = rw (lt-leb x h a) (and_off (leb l x))

  pub bounds : within l h x ≡ true → (l ≤ x) × (x ≤ h)
  bounds e = within_low l h x (rw e tt)

module _ (b : ℕ) where
  pub is_category_lem : 1 ≤ b → b ≤ 15 → category b ≡ feature_of b
  is_category_lem h k = rw (inside 1 15 b h k)

  pub is_selector : 17 ≤ b → b ≤ 31 → selector (b % 16) ≡ feature_of b
  is_selector h k = rw (over 1 15 b (omega arith), inside 17 31 b h k)

  pub is_licensor_lem : 33 ≤ b → b ≤ 35 → licensor (b % 16) ≡ feature_of b
  is_licensor_lem h k = rw (over 1 15 b (omega arith), over 17 31 b (omega arith), inside 33 35 b h k)

  pub is_licensee_lem : 49 ≤ b → b ≤ 51 → licensee (b % 16) ≡ feature_of b
  is_licensee_lem h k = rw (over 1 15 b (omega arith), over 17 31 b (omega arith), over 33 35 b (omega arith), inside 49 51 b h k)

  pub is_none : within 1 15 b ≡ false → within 17 31 b ≡ false → within 33 35 b ≡ false → within 49 51 b ≡ false → refusal30 ≡ feature_of b
  is_none p q r s = rw (p, q, r, s)

-- whether a feature is a category
abbrev pub category_kind : Feature → Bool
category_kind (category n) = true
category_kind (selector n) = false
category_kind (licensor n) = false
category_kind (licensee n) = false
category_kind refusal30 = false

module _ (b : ℕ) where
  pub category_kind_lem : category_kind (feature_of b) ≡ within 1 15 b
  category_kind_lem = go (within 1 15 b) (within 17 31 b) (within 33 35 b) (within 49 51 b)
    where
      go : (p q r s : Bool) → category_kind (kind_by b p q r s) ≡ p
      go true q r s = refl
      go false true r s = refl
      go false false true s = refl
      go false false false true = refl
      go false false false false = refl

-- the selector of a category
module _ (s f : ℕ) where
  pub no_category : category_kind (feature_of f) ≡ false → selects s f ≡ false
  no_category e = go (within 17 31 s) refl
    where
      go : (t : Bool) → within 17 31 s ≡ t → t && eqb s (f + 16) ≡ false
      go false w = refl
      go true w =
          let sb = bounds 17 31 s w in
          ne_eqb s (f + 16) (λ q. not_both (sym (inside 1 15 f (omega (arith, sb.0)) (omega (arith, sb.1))) ∙ sym (category_kind_lem f) ∙ e))

-- the licensee of a licensor
module _ (p m : ℕ) where
  -- of a licensor: the byte 16 above it, and no other
  pub licensed_byte : is_licensor p ≡ true → licenses p m ≡ true → p + 16 ≡ m
  licensed_byte l e = sym (eqb-true m (p + 16) (sym (rw l refl) ∙ e))

  pub other_byte : is_licensor p ≡ true → licenses p m ≡ false → p + 16 ≡ m → ⊥
  other_byte l e q = eqb-false m (p + 16) (sym (rw l refl) ∙ e) (sym q)
