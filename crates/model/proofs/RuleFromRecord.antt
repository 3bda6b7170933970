-- A record that the reader has tested holds a right rule, with every number in range.
-- Assumes nothing.
use mathlib.Core.Path.{◌≡◌, refl, sym, ap, subst, ◌∙◌}
use mathlib.Core.Logic.{◌⊎◌, inl, inr}
use mathlib.Core.Bool.{Bool, true, false, ◌&&◌, ◌||◌, not}
use mathlib.Core.List.{List, [], ◌∷◌, map, Memᴰ}
use Prim.Native.Nat.{ℕ, suc, ◌+◌, ◌*◌, ◌<◌, ◌≤◌}
use native.Mathlib.Omega.{arith}
use borrow.Author.Tests.{leb-false, ltb-false, lt-ltb, le-ltb}
use lib.Dec.{T, leb, ltb, eqb, eqb→eq}
use lib.ListN.{length, get_or, take, drop, length-take, length-drop}
use lib.Seq.{take-take, get_or-take, get_or-drop}
use Rattle.model.specs.Base.{any_below, all_below, occurrences, total}
use Rattle.model.specs.Grammar.{Grammar, Rule, is_lexical, empty_word}
use Rattle.model.specs.GrammarFile.{field, fields, dimension_in, daughters_of, word_of, lengths_of, variables, wrong_category, wrong_word, each_once, wrong_variables, sequences, rule_of}
use Rattle.model.specs.WellFormed.{Perm, same, chain, RightRule, InRange, named, daughter_variables}
use Rattle.model.proofs.Variables.{all_variables, parts_named, parts_length, decode}
use Rattle.model.proofs.Tests.{not_off, and_l, and_r, and_false, or_l, or_r, any_none, all_true}

-- what the reader has tested of record e in a grammar with the dimensions and words of g: it is whole, and none of 6, 7 and 8 meets it
pub record Tested (g : Grammar) (e : List ℕ) : Type 0 where
  pub long : length e ≡ 24
  pub category : wrong_category g.dimensions e ≡ false
  pub word : wrong_word g.dimensions e g.words ≡ false
  pub variables : wrong_variables g.dimensions e ≡ false

-- every category has 1 to 4 components
abbrev pub DimensionsIn : Grammar → Type 0
DimensionsIn g = (c : ℕ) → c < length g.dimensions → (1 ≤ get_or g.dimensions c 0) × (get_or g.dimensions c 0 ≤ 4)

module _ (g : Grammar) (e : List ℕ) (tested : Tested g e) where
  abbrev dimensions : List ℕ
  dimensions = g.dimensions

  abbrev n : ℕ
  n = field e 1

  abbrev rule : Rule
  rule = rule_of dimensions e

  -- refusal 6
  abbrev category_out : Bool
  category_out = leb (length dimensions) (field e 0)

  abbrev daughter_out : ℕ → Bool
  daughter_out j = leb (length dimensions) (field e (2 + j))

  pub category_in : field e 0 < length dimensions
  category_in = leb-false (length dimensions) (field e 0) (or_l category_out (ltb 3 n) (or_l (category_out || ltb 3 n) (any_below daughter_out n) tested.category))

  pub three : n ≤ 3
  three = ltb-false 3 n (or_r category_out (ltb 3 n) (or_l (category_out || ltb 3 n) (any_below daughter_out n) tested.category))

  pub daughter_in : (j : ℕ) → j < n → field e (2 + j) < length dimensions
  daughter_in j h = leb-false (length dimensions) (field e (2 + j)) (any_none daughter_out n (or_r (category_out || ltb 3 n) (any_below daughter_out n) tested.category) j h)

  -- parts of the record
  pub field_length : (i k : ℕ) → i + k ≤ 24 → length (fields e i k) ≡ k
  field_length i k h = simp (length-take, length-drop) (omega (arith, tested.long))

  pub field_at : (i k j : ℕ) → j < k → get_or (fields e i k) j 0 ≡ field e (i + j)
  field_at i k j h = rw (get_or-take, get_or-drop)

  pub daughters_length : length (daughters_of e) ≡ n
  daughters_length = field_length 2 n (omega (arith, three))

  daughter_mem : (d : ℕ) → Memᴰ d (daughters_of e) → d < length dimensions
  daughter_mem d m =
      let (k, h, f) = place_in m in
      omega (arith, daughter_in k (omega (arith, daughters_length)), f, field_at 2 n k (omega (arith, daughters_length)))
    where
      place_in : {x : ℕ} {l : List ℕ} → Memᴰ x l → (k : ℕ) × (k < length l) × (x ≡ get_or l k 0)
      place_in (Memᴰ.head f) = (0, omega arith, f)
      place_in (Memᴰ.tail i) = let (k, h, f) = place_in i in (suc k, omega arith, f)

  -- with or without daughters
  lexical_none : is_lexical rule ≡ true → n ≡ 0
  lexical_none l = go (daughters_of e) daughters_length l
    where
      go : (ds : List ℕ) → length ds ≡ n → (elim ds [ [] ↦ true | d ∷ es ↦ false ]) ≡ true → n ≡ 0
      go [] k m = sym k
      go (d ∷ ds) k m = let z : ◌≡◌ {A = ℕ} 0 1 = cc in absurd (omega arith)

  not_lexical_some : is_lexical rule ≡ false → 0 < n
  not_lexical_some l = go (daughters_of e) daughters_length l
    where
      go : (ds : List ℕ) → length ds ≡ n → (elim ds [ [] ↦ true | d ∷ es ↦ false ]) ≡ false → 0 < n
      go [] k m = let z : ◌≡◌ {A = ℕ} 0 1 = cc in absurd (omega arith)
      go (d ∷ ds) k m = omega arith

  pub not_lexical : 0 < n → is_lexical rule ≡ false
  not_lexical h = go (daughters_of e) daughters_length
    where
      go : (ds : List ℕ) → length ds ≡ n → (elim ds [ [] ↦ true | d ∷ es ↦ false ]) ≡ false
      go [] k = let z : ⊥ = omega arith in absurd z
      go (d ∷ ds) k = refl

  -- refusal 7
  abbrev one_string : Bool
  one_string = eqb (get_or dimensions (field e 0) 0) 1

  abbrev no_word : Bool
  no_word = leb g.words (word_of e) && not (eqb (word_of e) empty_word)

  word_right : is_lexical rule ≡ true → not one_string || no_word ≡ false
  word_right l = rw (le-ltb 0 n (omega (arith, lexical_none l))) at tested.word

  word_alone : is_lexical rule ≡ true → get_or dimensions (field e 0) 0 ≡ 1
  word_alone l = eqb→eq (get_or dimensions (field e 0) 0) 1 (not_off one_string (or_l (not one_string) no_word (word_right l)))

  word_in : is_lexical rule ≡ true → (word_of e < g.words) ⊎ (word_of e ≡ empty_word)
  word_in l = go (and_false (leb g.words (word_of e)) (not (eqb (word_of e) empty_word)) (or_r (not one_string) no_word (word_right l)))
    where
      go : (leb g.words (word_of e) ≡ false) ⊎ (not (eqb (word_of e) empty_word) ≡ false) → (word_of e < g.words) ⊎ (word_of e ≡ empty_word)
      go (inl f) = inl (leb-false g.words (word_of e) f)
      go (inr f) = inr (eqb→eq (word_of e) empty_word (not_off (eqb (word_of e) empty_word) f))

  pub rule_in_range : InRange g rule
  rule_in_range =
      record {
        category_is = category_in;
        daughters_few = omega (arith, daughters_length, three);
        daughters_are = daughter_mem;
        word_is = word_in;
      }

  -- refusal 8
  module _ (dimensions_in : DimensionsIn g) where
    total_four : (ds : List ℕ) → ((d : ℕ) → Memᴰ d ds → d < length dimensions) → total (map (λ c. get_or dimensions c 0) ds) ≤ 4 * length ds
    total_four [] h = omega arith
    total_four (d ∷ ds) h = omega (arith, dimensions_in d (h d (Memᴰ.head refl)), total_four ds (λ c m. h c (Memᴰ.tail m)))

    pub twelve : variables dimensions e ≤ 12
    twelve = omega (arith, total_four (daughters_of e) daughter_mem, daughters_length, three)

    abbrev add_up : Bool
    add_up = eqb (total (lengths_of dimensions e)) (variables dimensions e)

    variables_right : 0 < n → T (add_up && each_once dimensions e)
    variables_right h = not_off (add_up && each_once dimensions e) (rw (lt-ltb 0 n h) at tested.variables)

    pub lengths_total : 0 < n → total (lengths_of dimensions e) ≡ variables dimensions e
    lengths_total h = eqb→eq (total (lengths_of dimensions e)) (variables dimensions e) (and_l add_up (each_once dimensions e) (variables_right h))

    components_are : is_lexical rule ≡ false → rule.components ≡ sequences (lengths_of dimensions e) (fields e 11 12)
    components_are l = rw (lt-ltb 0 n (not_lexical_some l))

    pub named_are : is_lexical rule ≡ false → named rule.components ≡ map decode (fields e 11 (variables dimensions e))
    named_are l =
        ap named (components_are l) ∙ parts_named (lengths_of dimensions e) (fields e 11 12)
        ∙ ap (λ (k : ℕ). map decode (take k (fields e 11 12))) (lengths_total (not_lexical_some l))
        ∙ ap (map decode) (take-take (variables dimensions e) 12 (drop 11 e) twelve)

    abbrev once_in : ℕ → ℕ → Bool
    once_in j c = eqb (occurrences (4 * j + c) (fields e 11 (variables dimensions e))) 1

    once_each : is_lexical rule ≡ false → (j c : ℕ) → j < n → c < get_or dimensions (field e (2 + j)) 0 → occurrences (4 * j + c) (fields e 11 (variables dimensions e)) ≡ 1
    once_each l j c h k =
        eqb→eq (occurrences (4 * j + c) (fields e 11 (variables dimensions e))) 1
        (all_true (once_in j) (dimension_in dimensions (field e (2 + j)))
        (all_true (λ j. all_below (once_in j) (dimension_in dimensions (field e (2 + j)))) n (and_r add_up (each_once dimensions e) (variables_right (not_lexical_some l))) j h) c k)

    complete : is_lexical rule ≡ false → Perm (named rule.components) (daughter_variables g 0 rule.daughters)
    complete l =
        chain (same (named_are l))
        (all_variables g (daughters_of e) (fields e 11 (variables dimensions e)) (λ d m. (dimensions_in d (daughter_mem d m)).1)
        (field_length 11 (variables dimensions e) (omega (arith, twelve)))
        (λ j c h k. once_each l j c (omega (arith, daughters_length)) (subst (λ (x : ℕ). c < get_or dimensions x 0) (field_at 2 n j (omega (arith, daughters_length))) k)))

    pub rule_right : RightRule g rule
    rule_right =
        record {
          word_alone = word_alone;
          components = λ l. ap length (components_are l) ∙ parts_length (lengths_of dimensions e) (fields e 11 12) ∙ field_length 7 (get_or dimensions (field e 0) 0) (omega (arith, dimensions_in (field e 0) category_in));
          complete = complete;
          inhabited = λ d m. (dimensions_in d (daughter_mem d m)).0;
        }
