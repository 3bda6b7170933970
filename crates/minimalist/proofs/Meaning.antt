-- The computed tests of a lexicon are what the paper says of it: feature bytes, refusals 30 and 10, and the categories that are left out.
-- Assumes nothing.
use Rattle.std.specs.Prelude.{if◌then◌else◌}
use mathlib.Core.Path.{◌≡◌, refl, ap, ap₂, sym, subst, ◌∙◌}
use mathlib.Core.Logic.{◌⊎◌, inl, inr, ⊎_elim}
use mathlib.Core.Bool.{Bool, true, false, ◌&&◌, ◌||◌, not}
use mathlib.Core.List.Memᴰ
use mathlib.Core.List.{List, [], ◌∷◌, ◌++◌, Memᴰ}
use Prim.Native.Nat.{ℕ, zero, suc, ◌+◌, ◌-◌, ◌*◌, ◌%◌, ◌<◌, ◌≤◌}
use native.Mathlib.Omega.{arith}
use native.Mathlib.Decide.{dec_lt}
use lib.Dec.{T, leb, eqb, eqb→eq, eqb_refl}
use lib.ListN.{length, get_or, drop, replicate}
use lib.Seq.{drop-append_seam}
use borrow.Author.Tests.{leb-false, lt-leb, eq-eqb, ne_eqb, eqb-false}
use Rattle.model.specs.Base.{every, any_below, same_list}
use Rattle.model.specs.Grammar.{empty_word}
use Rattle.model.specs.GrammarFile.{within, all_zero, fields}
use Rattle.model.specs.Demands.{◌⇔◌}
use Rattle.model.proofs.Tests.{passes, fails, not_both, or_l, or_r, or_off, or_left, or_right, or_cases, and_l, and_r, and_both, and_false, not_off, on_not, within_low, within_bounds, any_none, none_by, list_same, same_list_lem}
use Rattle.minimalist.specs.Lexicon.{Feature, category, selector, licensor, licensee, refusal30, feature_of, is_feature, selects, licenses, is_licensor, is_licensee, entries, entry_bytes, word_in, before_zero, features_in, wrong_entry, wrong_lexicon, repeated_entry}
use Rattle.minimalist.specs.Derivations.{begins}
use Rattle.minimalist.specs.Schemes.{Form, no_features, begins_licensee, any_same_first, wrong_moving, left_out}
use Rattle.minimalist.specs.Meaning.{Means, a_category, its_selector, a_licensor, its_licensee, FeatureByte, RightEntry, RightLexicon, LeftOut, featureless, unlicensed, same_licensee, LexiconsMean}

-- a feature byte by its bounds
abbrev Bounds : ℕ → Feature → Type 0
Bounds b (category n) = (b ≡ n) × (1 ≤ n) × (n ≤ 15)
Bounds b (selector n) = (b ≡ n + 16) × (1 ≤ n) × (n ≤ 15)
Bounds b (licensor n) = (b ≡ n + 32) × (1 ≤ n) × (n ≤ 3)
Bounds b (licensee n) = (b ≡ n + 48) × (1 ≤ n) × (n ≤ 3)
Bounds b refusal30 = ⊥

bounds_of : (b : ℕ) (f : Feature) → Means b f → Bounds b f
bounds_of b f (a_category c h k) = (refl, h, k)
bounds_of b f (its_selector c n m) = let (e, h, k) = bounds_of c (category n) m in (omega arith, h, k)
bounds_of b f (a_licensor c h k) = (omega arith, omega arith, omega arith)
bounds_of b f (its_licensee c n m) = let (e, h, k) = bounds_of c (licensor n) m in (omega arith, h, k)

licensor_at : (n : ℕ) → 1 ≤ n → n ≤ 3 → Means (n + 32) (licensor n)
licensor_at n h k =
    let q : n + 32 - 32 ≡ n = omega arith in
    subst (λ (x : ℕ). Means (n + 32) (licensor x)) q (a_licensor (n + 32) (omega arith) (omega arith))

means_by : (b : ℕ) (f : Feature) → Bounds b f → Means b f
means_by b (category n) (e, h, k) = subst (λ (x : ℕ). Means x (category n)) (sym e) (a_category n h k)
means_by b (selector n) (e, h, k) = subst (λ (x : ℕ). Means x (selector n)) (sym e) (its_selector n n (a_category n h k))
means_by b (licensor n) (e, h, k) = subst (λ (x : ℕ). Means x (licensor n)) (sym e) (licensor_at n h k)
means_by b (licensee n) (e, h, k) =
    let q : n + 32 + 16 ≡ b = omega arith in subst (λ (x : ℕ). Means x (licensee n)) q (its_licensee (n + 32) n (licensor_at n h k))
means_by b refusal30 e = absurd e

module _ (low high b : ℕ) where
  inside : low ≤ b → b ≤ high → within low high b ≡ true
  inside h k = passes (within low high b) (within_bounds low high b h k)

  outside : ((low ≤ b) × (b ≤ high) → ⊥) → within low high b ≡ false
  outside d = fails (within low high b) (λ t. d (within_low low high b t))

  bounds_in : within low high b ≡ true → (low ≤ b) × (b ≤ high)
  bounds_in e = within_low low high b (rw e tt)

feature_by : (b : ℕ) (f : Feature) → Bounds b f → feature_of b ≡ f
feature_by b (category n) (e, h, k) = rw (inside 1 15 b (omega arith) (omega arith)) (ap category e)
feature_by b (selector n) (e, h, k) =
    let z : b % 16 ≡ n = omega arith in
    rw (outside 1 15 b (λ q. omega (arith, q.1)), inside 17 31 b (omega arith) (omega arith)) (ap selector z)
feature_by b (licensor n) (e, h, k) =
    let z : b % 16 ≡ n = omega arith in
    rw (outside 1 15 b (λ q. omega (arith, q.1)), outside 17 31 b (λ q. omega (arith, q.1)), inside 33 35 b (omega arith) (omega arith)) (ap licensor z)
feature_by b (licensee n) (e, h, k) =
    let z : b % 16 ≡ n = omega arith in
    rw (outside 1 15 b (λ q. omega (arith, q.1)), outside 17 31 b (λ q. omega (arith, q.1)), outside 33 35 b (λ q. omega (arith, q.1)), inside 49 51 b (omega arith) (omega arith)) (ap licensee z)
feature_by b refusal30 e = absurd e

-- the feature of a byte by the four ranges
abbrev pub kind_by : ℕ → Bool → Bool → Bool → Bool → Feature
kind_by b p q r s = if p then category b else (if q then selector (b % 16) else (if r then licensor (b % 16) else (if s then licensee (b % 16) else refusal30)))

abbrev is_other : Feature → Bool
is_other (category n) = false
is_other (selector n) = false
is_other (licensor n) = false
is_other (licensee n) = false
is_other refusal30 = true

no_other_of : (b : ℕ) (f : Feature) → Bounds b f → is_other f ≡ false
no_other_of b (category n) h = refl
no_other_of b (selector n) h = refl
no_other_of b (licensor n) h = refl
no_other_of b (licensee n) h = refl
no_other_of b refusal30 h = absurd h

module _ (b : ℕ) where
  found : is_other (feature_of b) ≡ false → Bounds b (feature_of b)
  found = go (within 1 15 b) (within 17 31 b) (within 33 35 b) (within 49 51 b) refl refl refl refl
    where
      go : (p q r s : Bool) → within 1 15 b ≡ p → within 17 31 b ≡ q → within 33 35 b ≡ r → within 49 51 b ≡ s → is_other (kind_by b p q r s) ≡ false → Bounds b (kind_by b p q r s)
      go true q r s e f g h d = (refl, (bounds_in 1 15 b e).0, (bounds_in 1 15 b e).1)
      go false true r s e f g h d = let w = bounds_in 17 31 b f in (omega (arith, w.0, w.1), omega (arith, w.0, w.1), omega (arith, w.0, w.1))
      go false false true s e f g h d = let w = bounds_in 33 35 b g in (omega (arith, w.0, w.1), omega (arith, w.0, w.1), omega (arith, w.0, w.1))
      go false false false true e f g h d = let w = bounds_in 49 51 b h in (omega (arith, w.0, w.1), omega (arith, w.0, w.1), omega (arith, w.0, w.1))
      go false false false false e f g h d = not_both d

  tested : is_feature b ≡ not (is_other (feature_of b))
  tested = go (within 1 15 b) (within 17 31 b) (within 33 35 b) (within 49 51 b)
    where
      go : (p q r s : Bool) → (p || q || r || s) ≡ not (is_other (kind_by b p q r s))
      go true q r s = refl
      go false true r s = refl
      go false false true s = refl
      go false false false true = refl
      go false false false false = refl

  meant : is_other (feature_of b) ≡ false → FeatureByte b
  meant d = (feature_of b, means_by b (feature_of b) (found d))

  features_met : (f : Feature) → Means b f ⇔ ((feature_of b ≡ f) × (f ≡ refusal30 → ⊥))
  features_met f = (
    λ m. let h = bounds_of b f m in (feature_by b f h, λ q. subst (Bounds b) q h),
    λ w. means_by b f (subst (Bounds b) w.0 (found (other f w.1 w.0))),
  )
    where
      other : (f : Feature) → (f ≡ refusal30 → ⊥) → feature_of b ≡ f → is_other (feature_of b) ≡ false
      other (category n) d e = ap is_other e
      other (selector n) d e = ap is_other e
      other (licensor n) d e = ap is_other e
      other (licensee n) d e = ap is_other e
      other refusal30 d e = absurd (d refl)

  other_off : FeatureByte b → is_other (feature_of b) ≡ false
  other_off (f, m) = let h = bounds_of b f m in ap is_other (feature_by b f h) ∙ no_other_of b f h

  others_met : (feature_of b ≡ refusal30) ⇔ (FeatureByte b → ⊥)
  others_met = (λ e w. not_both (sym (ap is_other e) ∙ other_off w), λ d. go (feature_of b) refl (λ e. d (meant e)))
    where
      go : (f : Feature) → feature_of b ≡ f → (is_other (feature_of b) ≡ false → ⊥) → feature_of b ≡ refusal30
      go (category n) e d = absurd (d (ap is_other e))
      go (selector n) e d = absurd (d (ap is_other e))
      go (licensor n) e d = absurd (d (ap is_other e))
      go (licensee n) e d = absurd (d (ap is_other e))
      go refusal30 e d = e

  bytes_met : T (is_feature b) ⇔ FeatureByte b
  bytes_met = (λ t. meant (fails (is_other (feature_of b)) (λ s. subst (λ (x : Bool). T (not x)) (passes (is_other (feature_of b)) s) (subst T tested t))), λ w. subst T (sym tested) (rw (other_off w) tt))

  licensors_met : T (is_licensor b) ⇔ ((n : ℕ) × Means b (licensor n))
  licensors_met = (
    λ t. let w = within_low 33 35 b t in (b - 32, means_by b (licensor (b - 32)) (omega (arith, w.0), omega (arith, w.0), omega (arith, w.1))),
    λ m. let (e, h, k) = bounds_of b (licensor m.0) m.1 in within_bounds 33 35 b (omega arith) (omega arith),
  )

  licensees_met : T (is_licensee b) ⇔ ((n : ℕ) × Means b (licensee n))
  licensees_met = (
    λ t. let w = within_low 49 51 b t in (b - 48, means_by b (licensee (b - 48)) (omega (arith, w.0), omega (arith, w.0), omega (arith, w.1))),
    λ m. let (e, h, k) = bounds_of b (licensee m.0) m.1 in within_bounds 49 51 b (omega arith) (omega arith),
  )

-- partners
same_numbers : (x y : ℕ) → x ≡ y → T (eqb x y)
same_numbers x y e = rw (eq-eqb x y e) tt

selects_met : (s f : ℕ) → T (selects s f) ⇔ ((n : ℕ) × Means s (selector n) × Means f (category n))
selects_met s f = (
  λ t. let w = within_low 17 31 s (and_l (within 17 31 s) (eqb s (f + 16)) t) in
      let q = eqb→eq s (f + 16) (and_r (within 17 31 s) (eqb s (f + 16)) t) in
      (f, means_by s (selector f) (q, omega (arith, w.0, q), omega (arith, w.1, q)), means_by f (category f) (refl, omega (arith, w.0, q), omega (arith, w.1, q))),
  λ m. let (e, h, k) = bounds_of s (selector m.0) m.1 in
      let (g, i, j) = bounds_of f (category m.0) m.2 in
      and_both (within 17 31 s) (eqb s (f + 16)) (within_bounds 17 31 s (omega arith) (omega arith)) (same_numbers s (f + 16) (omega arith)),
)

licenses_met : (p m : ℕ) → T (licenses p m) ⇔ ((n : ℕ) × Means p (licensor n) × Means m (licensee n))
licenses_met p m = (
  λ t. let w = within_low 33 35 p (and_l (within 33 35 p) (eqb m (p + 16)) t) in
      let q = eqb→eq m (p + 16) (and_r (within 33 35 p) (eqb m (p + 16)) t) in
      (p - 32, means_by p (licensor (p - 32)) (omega (arith, w.0), omega (arith, w.0), omega (arith, w.1)), means_by m (licensee (p - 32)) (omega (arith, w.0, q), omega (arith, w.0), omega (arith, w.1))),
  λ l. let (e, h, k) = bounds_of p (licensor l.0) l.1 in
      let (g, i, j) = bounds_of m (licensee l.0) l.2 in
      and_both (within 33 35 p) (eqb m (p + 16)) (within_bounds 33 35 p (omega arith) (omega arith)) (same_numbers m (p + 16) (omega arith)),
)

-- lists of features, and what is after them
every_mem : (test : ℕ → Bool) (l : List ℕ) → T (every test l) → (b : ℕ) → Memᴰ b l → T (test b)
every_mem test [] t b m = elim m [ ]
every_mem test (x ∷ l) t b m = go (Memᴰ.cases_cons m) (λ n. every_mem test l (and_r (test x) (every test l) t) b n)
  where
    go : (b ≡ x) ⊎ Memᴰ b l → (Memᴰ b l → T (test b)) → T (test b)
    go (inl e) ih = subst (λ (y : ℕ). T (test y)) (sym e) (and_l (test x) (every test l) t)
    go (inr n) ih = ih n

mem_every : (test : ℕ → Bool) (l : List ℕ) → ((b : ℕ) → Memᴰ b l → T (test b)) → T (every test l)
mem_every test [] h = tt
mem_every test (x ∷ l) h = and_both (test x) (every test l) (h x (Memᴰ.head refl)) (mem_every test l (λ b m. h b (Memᴰ.tail m)))

zeros_are : (l : List ℕ) → T (all_zero l) → l ≡ replicate (length l) 0
zeros_are [] t = refl
zeros_are (x ∷ l) t =
    let e : x ≡ 0 = sym (eqb→eq 0 x (and_l (eqb 0 x) (all_zero l) t)) in
    ap₂ (λ (y : ℕ) (ys : List ℕ). y ∷ ys) e (zeros_are l (and_r (eqb 0 x) (all_zero l) t))

are_zeros : (n : ℕ) → T (all_zero (replicate n 0))
are_zeros zero = tt
are_zeros (suc n) = and_both (eqb 0 0) (all_zero (replicate n 0)) tt (are_zeros n)

split_zeros : (l : List ℕ) → T (all_zero (drop (length (before_zero l)) l)) → (n : ℕ) × (l ≡ before_zero l ++ replicate n 0)
split_zeros [] t = (0, refl)
split_zeros (x ∷ l) t = go (eqb x 0) t (λ s. split_zeros l s)
  where
    go : (b : Bool) → T (all_zero (drop (length (if b then [] else x ∷ before_zero l)) (x ∷ l))) → (T (all_zero (drop (length (before_zero l)) l)) → (n : ℕ) × (l ≡ before_zero l ++ replicate n 0))
        → (n : ℕ) × (x ∷ l ≡ (if b then [] else x ∷ before_zero l) ++ replicate n 0)
    go true s ih = (length (x ∷ l), zeros_are (x ∷ l) s)
    go false s ih = let (n, e) = ih s in (n, ap (λ (ys : List ℕ). x ∷ ys) e)

read_back : (fs : List ℕ) (n : ℕ) → ((b : ℕ) → Memᴰ b fs → b ≡ 0 → ⊥) → before_zero (fs ++ replicate n 0) ≡ fs
read_back [] zero d = refl
read_back [] (suc n) d = refl
read_back (f ∷ fs) n d = rw (ne_eqb f 0 (d f (Memᴰ.head refl))) (ap (λ (l : List ℕ). f ∷ l) (read_back fs n (λ b m. d b (Memᴰ.tail m))))

not_zero : (b : ℕ) → FeatureByte b → b ≡ 0 → ⊥
not_zero b w e = not_both (sym (ap (λ (x : ℕ). is_other (feature_of x)) e) ∙ other_off b w)

-- four tests at once
four_off : (a b c d : Bool) → a ≡ false → b ≡ false → c ≡ false → d ≡ false → a || b || c || d ≡ false
four_off a b c d p q r s = or_off (a || b || c) d (or_off (a || b) c (or_off a b p q) r) s

four_on : (a b c d : Bool) → T a → T b → T c → T d → T (a && b && c && d)
four_on a b c d p q r s = and_both (a && b && c) d (and_both (a && b) c (and_both a b p q) r) s

-- 30 of an entry
abbrev wrong_by : ℕ → ℕ → List ℕ → List ℕ → Bool
wrong_by words w fs six =
    eqb (length fs) 0 || not (every is_feature fs) || not (all_zero (drop (length fs) six)) || (leb words w && not (eqb w empty_word))

module _ (words : ℕ) (e : List ℕ) where
  read_right : (r : RightEntry words e) → features_in e ≡ r.features
  read_right r = ap before_zero r.six_bytes ∙ read_back r.features r.zeros (λ b m. not_zero b (r.no_other b m))

  pub entry_meant : wrong_entry words e ≡ false → RightEntry words e
  entry_meant h =
      record {
        features = fs;
        zeros = (split_zeros six zero_rest).0;
        six_bytes = (split_zeros six zero_rest).1;
        not_without = some (dec_lt 0 (length fs));
        no_other = λ b m. (bytes_met b).0 (every_mem is_feature fs all b m);
        word_exists =
            ⊎_elim (λ f. inl (leb-false words (word_in e) f)) (λ f. inr (eqb→eq (word_in e) empty_word (not_off (eqb (word_in e) empty_word) f)))
            (and_false (leb words (word_in e)) (not (eqb (word_in e) empty_word)) (or_r (A || not B || not C) D h));
      }
    where
      fs : List ℕ
      fs = features_in e

      six : List ℕ
      six = fields e 2 6

      A : Bool
      A = eqb (length (features_in e)) 0

      B : Bool
      B = every is_feature (features_in e)

      C : Bool
      C = all_zero (drop (length (features_in e)) (fields e 2 6))

      D : Bool
      D = leb words (word_in e) && not (eqb (word_in e) empty_word)

      three : A || not B || not C ≡ false
      three = or_l (A || not B || not C) D h

      two : A || not B ≡ false
      two = or_l (A || not B) (not C) three

      zero_rest : T (all_zero (drop (length (features_in e)) (fields e 2 6)))
      zero_rest = not_off C (or_r (A || not B) (not C) three)

      all : T (every is_feature (features_in e))
      all = not_off B (or_r A (not B) two)

      some : Dec (0 < length (features_in e)) → 1 ≤ length (features_in e)
      some (yes k) = omega arith
      some (no k) = absurd (eqb-false (length (features_in e)) 0 (or_l A (not B) two) (omega arith))

  zeros_after : (r : RightEntry words e) → T (all_zero (drop (length r.features) (r.features ++ replicate r.zeros 0)))
  zeros_after r = subst (λ (l : List ℕ). T (all_zero l)) (sym (drop-append_seam r.features (replicate r.zeros 0))) (are_zeros r.zeros)

  pub rest_zero : RightEntry words e → T (all_zero (drop (length (features_in e)) (fields e 2 6)))
  rest_zero r =
      subst T (sym (ap₂ (λ (fs six : List ℕ). all_zero (drop (length fs) six)) (read_right r) r.six_bytes)) (zeros_after r)

  right_entry : RightEntry words e → wrong_entry words e ≡ false
  right_entry r = ap₂ (wrong_by words (word_in e)) (read_right r) r.six_bytes ∙ off
    where
      word_off : (word_in e < words) ⊎ (word_in e ≡ empty_word) → (leb words (word_in e) && not (eqb (word_in e) empty_word)) ≡ false
      word_off (inl h) = rw (lt-leb words (word_in e) h)
      word_off (inr q) = go (leb words (word_in e))
        where
          go : (b : Bool) → b && not (eqb (word_in e) empty_word) ≡ false
          go true = rw (eq-eqb (word_in e) empty_word q)
          go false = refl

      off : wrong_by words (word_in e) r.features (r.features ++ replicate r.zeros 0) ≡ false
      off =
          let fs = r.features in
          let six = r.features ++ replicate r.zeros 0 in
          four_off (eqb (length fs) 0) (not (every is_feature fs)) (not (all_zero (drop (length fs) six))) (leb words (word_in e) && not (eqb (word_in e) empty_word))
          (ne_eqb (length fs) 0 (λ z. omega (arith, r.not_without)))
          (on_not (every is_feature fs) (mem_every is_feature fs (λ b m. (bytes_met b).1 (r.no_other b m))))
          (on_not (all_zero (drop (length fs) six)) (zeros_after r))
          (word_off r.word_exists)

-- 30 of a lexicon
module _ (bytes : List ℕ) (words start : ℕ) where
  abbrev n : ℕ
  n = entries bytes

  abbrev L : Bool
  L = eqb (length bytes % 8) 0

  abbrev W : ℕ → Bool
  W i = wrong_entry words (entry_bytes bytes i)

  pub lexicon_meant : wrong_lexicon bytes words start ≡ false → RightLexicon bytes words start
  lexicon_meant h =
      record {
        count = entries bytes;
        bytes_each = whole;
        count_range = within_low 1 32 n (and_r L (within 1 32 n) two);
        words_range = within_low 1 4096 words (and_r (L && within 1 32 n) (within 1 4096 words) three);
        start_range = within_low 1 15 start (and_r (L && within 1 32 n && within 1 4096 words) (within 1 15 start) four);
        entries_right = λ i k. entry_meant words (entry_bytes bytes i) (any_none W n (or_r (not (L && within 1 32 n && within 1 4096 words && within 1 15 start)) (any_below W n) h) i k);
      }
    where
      four : T (L && within 1 32 n && within 1 4096 words && within 1 15 start)
      four = not_off (L && within 1 32 n && within 1 4096 words && within 1 15 start) (or_l (not (L && within 1 32 n && within 1 4096 words && within 1 15 start)) (any_below W n) h)

      three : T (L && within 1 32 n && within 1 4096 words)
      three = and_l (L && within 1 32 n && within 1 4096 words) (within 1 15 start) four

      two : T (L && within 1 32 n)
      two = and_l (L && within 1 32 n) (within 1 4096 words) three

      whole : length bytes ≡ 8 * entries bytes
      whole = let r = eqb→eq (length bytes % 8) 0 (and_l L (within 1 32 n) two) in omega arith

  right_lexicon : RightLexicon bytes words start → wrong_lexicon bytes words start ≡ false
  right_lexicon r =
      or_off (not (L && within 1 32 n && within 1 4096 words && within 1 15 start)) (any_below W n) (on_not (L && within 1 32 n && within 1 4096 words && within 1 15 start) numbers)
      (none_by W n (λ i k. right_entry words (entry_bytes bytes i) (r.entries_right i (omega (arith, count_is)))))
    where
      count_is : entries bytes ≡ r.count
      count_is = omega (arith, r.bytes_each)

      numbers : T (L && within 1 32 n && within 1 4096 words && within 1 15 start)
      numbers =
          four_on L (within 1 32 n) (within 1 4096 words) (within 1 15 start) (same_numbers (length bytes % 8) 0 (omega (arith, r.bytes_each)))
          (within_bounds 1 32 n (omega (arith, count_is, r.count_range.0)) (omega (arith, count_is, r.count_range.1)))
          (within_bounds 1 4096 words r.words_range.0 r.words_range.1)
          (within_bounds 1 15 start r.start_range.0 r.start_range.1)

-- 10
any_some : (test : ℕ → Bool) (n : ℕ) → T (any_below test n) → (k : ℕ) × (k < n) × T (test k)
any_some test zero t = absurd t
any_some test (suc n) t = go (or_cases (any_below test n) (test n) t) (λ s. any_some test n s)
  where
    go : T (any_below test n) ⊎ T (test n) → (T (any_below test n) → (k : ℕ) × (k < n) × T (test k)) → (k : ℕ) × (k < suc n) × T (test k)
    go (inl s) ih = let (k, h, u) = ih s in (k, omega arith, u)
    go (inr s) ih = (n, omega arith, s)

some_any : (test : ℕ → Bool) (n k : ℕ) → k < n → T (test k) → T (any_below test n)
some_any test n k h t = go (any_below test n) refl
  where
    go : (b : Bool) → any_below test n ≡ b → T b
    go true e = tt
    go false e = subst T (any_none test n e k h) t

repeated_met : (bytes : List ℕ) (i : ℕ) → T (repeated_entry bytes i) ⇔ ((j : ℕ) × (j < i) × (entry_bytes bytes j ≡ entry_bytes bytes i))
repeated_met bytes i = (
  λ t. let (j, h, s) = any_some (λ j. same_list (entry_bytes bytes j) (entry_bytes bytes i)) i t in (j, h, same_list_lem (entry_bytes bytes j) (entry_bytes bytes i) s),
  λ r. some_any (λ j. same_list (entry_bytes bytes j) (entry_bytes bytes i)) i r.0 r.1 (subst (λ (l : List ℕ). T (same_list (entry_bytes bytes r.0) l)) r.2 (list_same (entry_bytes bytes r.0))),
)

-- what is left out: by the tests to the three cases
abbrev form : Bool → List ℕ → List (List ℕ) → Form
form x h cs = record { lexical = x; head = h; moving = cs }

module _ (x : Bool) (h : List ℕ) where
  one_more : (c : List ℕ) (cs : List (List ℕ)) → LeftOut (form x h cs) → LeftOut (form x h (c ∷ cs))
  one_more c cs (featureless m) = featureless (go (Memᴰ.cases_cons m))
    where
      go : ([] ≡ h) ⊎ Memᴰ [] cs → Memᴰ [] (h ∷ c ∷ cs)
      go (inl e) = Memᴰ.head e
      go (inr k) = Memᴰ.tail (Memᴰ.tail k)
  one_more c cs (unlicensed f α m d) = unlicensed f α (Memᴰ.tail m) d
  one_more c cs (same_licensee i j m n α β l k p q w) = same_licensee (suc i) (suc j) m n α β (omega arith) (omega arith) p q w

  first_of_two : (m : ℕ) (ms : List ℕ) (cs : List (List ℕ)) → T (any_same_first (m ∷ ms) cs) → (j : ℕ) × (β : List ℕ) × (j < length cs) × (get_or cs j [] ≡ m ∷ β)
  first_of_two m ms [] t = absurd t
  first_of_two m ms (d ∷ ds) t = go d (or_cases (begins m d) (any_same_first (m ∷ ms) ds) t) (λ s. first_of_two m ms ds s)
    where
      go : (d : List ℕ) → T (begins m d) ⊎ T (any_same_first (m ∷ ms) ds) → (T (any_same_first (m ∷ ms) ds) → (j : ℕ) × (β : List ℕ) × (j < length ds) × (get_or ds j [] ≡ m ∷ β))
          → (j : ℕ) × (β : List ℕ) × (j < length (d ∷ ds)) × (get_or (d ∷ ds) j [] ≡ m ∷ β)
      go [] (inl s) ih = absurd s
      go (y ∷ ys) (inl s) ih = (0, ys, omega arith, ap (λ (z : ℕ). z ∷ ys) (sym (eqb→eq m y s)))
      go d (inr s) ih = let (j, β, k, e) = ih s in (suc j, β, omega arith, e)

  moving_met : (cs : List (List ℕ)) → T (wrong_moving cs) → LeftOut (form x h cs)
  moving_met [] t = absurd t
  moving_met (c ∷ cs) t = go c (begins_licensee c) refl (or_cases (any_same_first c cs) (wrong_moving cs)) t (λ s. moving_met cs s)
    where
      go : (c : List ℕ) (b : Bool) → begins_licensee c ≡ b → (T (any_same_first c cs || wrong_moving cs) → T (any_same_first c cs) ⊎ T (wrong_moving cs)) → T (not b || (any_same_first c cs || wrong_moving cs))
          → (T (wrong_moving cs) → LeftOut (form x h cs)) → LeftOut (form x h (c ∷ cs))
      go [] b e cases t ih = featureless (Memᴰ.tail (Memᴰ.head refl))
      go (m ∷ ms) false e cases t ih = unlicensed m ms (Memᴰ.head refl) (λ n w. subst T e ((licensees_met m).1 (n, w)))
      go (m ∷ ms) true e cases t ih = ⊎_elim twice (λ s. one_more (m ∷ ms) cs (ih s)) (cases t)
        where
          twice : T (any_same_first (m ∷ ms) cs) → LeftOut (form x h ((m ∷ ms) ∷ cs))
          twice s =
              let (j, β, k, q) = first_of_two m ms cs s in
              let (n, w) = (licensees_met m).0 (rw e tt) in
              same_licensee 0 (suc j) m n ms β (omega arith) (omega arith) refl q w

left_met : (a : Form) → T (left_out a) → LeftOut a
left_met a t = go a.head refl t
  where
    go : (h : List ℕ) → a.head ≡ h → T (no_features h || wrong_moving a.moving) → LeftOut a
    go [] e s = featureless (Memᴰ.head (sym e))
    go (f ∷ fs) e s = moving_met a.lexical a.head a.moving s

-- and back
chain_wrong : (cs : List (List ℕ)) (d : List ℕ) → begins_licensee d ≡ false → Memᴰ d cs → T (wrong_moving cs)
chain_wrong [] d e m = elim m [ ]
chain_wrong (c ∷ cs) d e m = go (Memᴰ.cases_cons m) (chain_wrong cs d e)
  where
    go : (d ≡ c) ⊎ Memᴰ d cs → (Memᴰ d cs → T (wrong_moving cs)) → T (wrong_moving (c ∷ cs))
    go (inl q) ih = or_left (not (begins_licensee c)) (any_same_first c cs || wrong_moving cs) (rw (sym (ap begins_licensee q) ∙ e) tt)
    go (inr k) ih = or_right (not (begins_licensee c)) (any_same_first c cs || wrong_moving cs) (or_right (any_same_first c cs) (wrong_moving cs) (ih k))

same_later : (m : ℕ) (α β : List ℕ) (cs : List (List ℕ)) (j : ℕ) → j < length cs → get_or cs j [] ≡ m ∷ β → T (any_same_first (m ∷ α) cs)
same_later m α β [] j h e = let z : ⊥ = omega arith in absurd z
same_later m α β (d ∷ ds) zero h e = or_left (begins m d) (any_same_first (m ∷ α) ds) (subst (λ (l : List ℕ). T (begins m l)) (sym e) (eqb_refl m))
same_later m α β (d ∷ ds) (suc j) h e = or_right (begins m d) (any_same_first (m ∷ α) ds) (same_later m α β ds j (omega arith) e)

two_wrong : (m : ℕ) (α β : List ℕ) (cs : List (List ℕ)) (i j : ℕ) → i < j → j < length cs → get_or cs i [] ≡ m ∷ α → get_or cs j [] ≡ m ∷ β → T (wrong_moving cs)
two_wrong m α β [] i j l k p q = let z : ⊥ = omega arith in absurd z
two_wrong m α β (c ∷ cs) i zero l k p q = let z : ⊥ = omega arith in absurd z
two_wrong m α β (c ∷ cs) zero (suc j) l k p q =
    or_right (not (begins_licensee c)) (any_same_first c cs || wrong_moving cs)
    (or_left (any_same_first c cs) (wrong_moving cs) (subst (λ (d : List ℕ). T (any_same_first d cs)) (sym p) (same_later m α β cs j (omega arith) q)))
two_wrong m α β (c ∷ cs) (suc i) (suc j) l k p q =
    or_right (not (begins_licensee c)) (any_same_first c cs || wrong_moving cs)
    (or_right (any_same_first c cs) (wrong_moving cs) (two_wrong m α β cs i j (omega arith) (omega arith) p q))

met_left : (a : Form) → LeftOut a → T (left_out a)
met_left a (featureless m) = go (Memᴰ.cases_cons m)
  where
    go : ([] ≡ a.head) ⊎ Memᴰ [] a.moving → T (no_features a.head || wrong_moving a.moving)
    go (inl e) = or_left (no_features a.head) (wrong_moving a.moving) (subst (λ (l : List ℕ). T (no_features l)) e tt)
    go (inr k) = or_right (no_features a.head) (wrong_moving a.moving) (chain_wrong a.moving [] refl k)
met_left a (unlicensed f α m d) =
    or_right (no_features a.head) (wrong_moving a.moving)
    (chain_wrong a.moving (f ∷ α) (fails (is_licensee f) (λ t. let (n, w) = (licensees_met f).0 t in d n w)) m)
met_left a (same_licensee i j m n α β l k p q w) =
    or_right (no_features a.head) (wrong_moving a.moving) (two_wrong m α β a.moving i j l k p q)

pub lexicons_mean : LexiconsMean
lexicons_mean =
    record {
      features_are = features_met;
      others_are = others_met;
      feature_bytes = bytes_met;
      licensors = licensors_met;
      licensees = licensees_met;
      selecting = selects_met;
      licensing = licenses_met;
      entries = λ words e. (entry_meant words e, right_entry words e);
      features_read = read_right;
      lexicons = λ bytes words start. (lexicon_meant bytes words start, right_lexicon bytes words start);
      repeated = repeated_met;
      is_left_out = λ a. (left_met a, met_left a);
    }
