-- The record of a rule: how long it is, what stands in each of its fields, and which bytes are 0.
-- Assumes nothing.
use mathlib.Core.Path.{◌≡◌, refl, ap, ap₂, sym, ◌∙◌}
use mathlib.Core.List.{List, [], ◌∷◌, ◌++◌, map}
use Prim.Native.Nat.{ℕ, ◌+◌, ◌-◌, ◌*◌, ◌<◌, ◌≤◌}
use native.Mathlib.Omega.{arith}
use native.Mathlib.Decide.{ℕ_discrete, dec_lt}
use lib.Dec.{T}
use lib.ListN.{length, get_or, length-append, length-map, get_or-append, get_or-eq_default}
use lib.Seq.{ext_get_or}
use Rattle.model.specs.Grammar.{Variable, Rule}
use Rattle.model.specs.WellFormed.{named}
use Rattle.model.specs.GrammarFile.{all_zero, fields, daughters_of, word_of}
use Rattle.model.specs.Writer.{little2, padded}
use Rattle.model.proofs.ByteLists.{fields_length, fields_at, after_front, padded_length, padded_at, zeros_by, two_back}
use Rattle.grammar_to_file.specs.FileFor.{code_of, bytes_before_weight, record_for}

-- where the bytes stand
module _ (rule : Rule) where
  abbrev pub ds : List ℕ
  ds = rule.daughters

  abbrev pub lens : List ℕ
  lens = map length rule.components

  abbrev pub codes : List ℕ
  codes = map code_of (named rule.components)

  abbrev e : List ℕ
  e = record_for rule

  abbrev pub from_variables : List ℕ
  from_variables = padded 12 codes

  abbrev pub from_lengths : List ℕ
  from_lengths = padded 4 lens ++ from_variables

  abbrev pub from_word : List ℕ
  from_word = little2 rule.word ++ from_lengths

  abbrev pub from_daughters : List ℕ
  from_daughters = padded 3 ds ++ from_word

  front_long : length (bytes_before_weight rule) ≡ 23
  front_long =
      omega (
        arith,
        length-append (padded 3 ds) from_word,
        padded_length 3 ds,
        length-append (little2 rule.word) from_lengths,
        length-append (padded 4 lens) from_variables,
        padded_length 4 lens,
        padded_length 12 codes,
      )

  pub long : length e ≡ 24
  long = omega (arith, length-append (bytes_before_weight rule) (rule.weight ∷ []), front_long)

  from_2 : (p j : ℕ) → p ≡ 2 + j → p < 23 → get_or e p 0 ≡ get_or from_daughters j 0
  from_2 p j q h =
      get_or-append (bytes_before_weight rule) (rule.weight ∷ []) 0 p (omega (arith, front_long))
      ∙ after_front (rule.category ∷ length ds ∷ []) from_daughters 2 p j refl q

  pub from_5 : (p j : ℕ) → p ≡ 5 + j → p < 23 → get_or e p 0 ≡ get_or from_word j 0
  from_5 p j q h = from_2 p (3 + j) (omega arith) h ∙ after_front (padded 3 ds) from_word 3 (3 + j) j (padded_length 3 ds) refl

  from_7 : (p j : ℕ) → p ≡ 7 + j → p < 23 → get_or e p 0 ≡ get_or from_lengths j 0
  from_7 p j q h = from_5 p (2 + j) (omega arith) h ∙ after_front (little2 rule.word) from_lengths 2 (2 + j) j refl refl

  from_11 : (p j : ℕ) → p ≡ 11 + j → p < 23 → get_or e p 0 ≡ get_or from_variables j 0
  from_11 p j q h = from_7 p (4 + j) (omega arith) h ∙ after_front (padded 4 lens) from_variables 4 (4 + j) j (padded_length 4 lens) refl

  pub at_daughter : (p j : ℕ) → p ≡ 2 + j → j < 3 → get_or e p 0 ≡ get_or ds j 0
  at_daughter p j q h = from_2 p j q (omega arith) ∙ get_or-append (padded 3 ds) from_word 0 j (omega (arith, padded_length 3 ds)) ∙ padded_at 3 ds j h

  pub at_length : (p j : ℕ) → p ≡ 7 + j → j < 4 → get_or e p 0 ≡ get_or lens j 0
  at_length p j q h = from_7 p j q (omega arith) ∙ get_or-append (padded 4 lens) from_variables 0 j (omega (arith, padded_length 4 lens)) ∙ padded_at 4 lens j h

  pub at_variable : (p j : ℕ) → p ≡ 11 + j → j < 12 → get_or e p 0 ≡ get_or codes j 0
  at_variable p j q h = from_11 p j q (omega arith) ∙ padded_at 12 codes j h

  pub at_weight : (p : ℕ) → p ≡ 23 → get_or e p 0 ≡ rule.weight
  at_weight p q = after_front (bytes_before_weight rule) (rule.weight ∷ []) 23 p 0 front_long (omega arith)

  -- a field that holds a whole list
  whole : (l : List ℕ) (i n : ℕ) → length l ≡ n → i + n ≤ 24 → ((j : ℕ) → j < n → get_or e (i + j) 0 ≡ get_or l j 0) → fields e i n ≡ l
  whole l i n q h at =
      ext_get_or 0 (fields e i n) l (fields_length e i n (omega (arith, long)) ∙ sym q)
      (λ j k. let k' : j < n = omega (arith, fields_length e i n (omega (arith, long))) in fields_at e i n j k' ∙ at j k')

  pub daughters_are : length ds ≤ 3 → daughters_of e ≡ ds
  daughters_are h = whole ds 2 (length ds) refl (omega arith) (λ j k. at_daughter (2 + j) j refl (omega arith))

  pub word_is : rule.word < 65536 → word_of e ≡ rule.word
  word_is h = ap₂ (λ (a b : ℕ). a + 256 * b) (from_5 5 0 refl (omega arith)) (from_5 6 1 refl (omega arith)) ∙ two_back rule.word h

  pub lengths_are : (n : ℕ) → length rule.components ≡ n → n ≤ 4 → fields e 7 n ≡ lens
  lengths_are n q h = whole lens 7 n (length-map rule.components length ∙ q) (omega arith) (λ j k. at_length (7 + j) j refl (omega arith))

  pub variables_are : (n : ℕ) → length codes ≡ n → n ≤ 12 → fields e 11 n ≡ codes
  variables_are n q h = whole codes 11 n q (omega arith) (λ j k. at_variable (11 + j) j refl (omega arith))

  -- bytes past the end of what stands there
  zeros : (i n : ℕ) → i + n ≤ 24 → ((j : ℕ) → j < n → get_or e (i + j) 0 ≡ 0) → T (all_zero (fields e i n))
  zeros i n h at = zeros_by (fields e i n) (λ j k. let k' : j < n = omega (arith, fields_length e i n (omega (arith, long))) in fields_at e i n j k' ∙ at j k')

  pub past_daughters : length ds ≤ 3 → T (all_zero (fields e (2 + length ds) (3 - length ds)))
  past_daughters h = zeros (2 + length ds) (3 - length ds) (omega arith) (λ j k. at_daughter (2 + length ds + j) (length ds + j) (omega arith) (omega arith) ∙ get_or-eq_default ds 0 (omega arith))

  pub past_lengths : (n : ℕ) → length rule.components ≡ n → n ≤ 4 → T (all_zero (fields e (7 + n) (4 - n)))
  past_lengths n q h = zeros (7 + n) (4 - n) (omega arith) (λ j k. at_length (7 + n + j) (n + j) (omega arith) (omega arith) ∙ get_or-eq_default lens 0 (omega (arith, length-map rule.components length)))

  pub past_variables : (n : ℕ) → length codes ≡ n → n ≤ 12 → T (all_zero (fields e (11 + n) (12 - n)))
  past_variables n q h = zeros (11 + n) (12 - n) (omega arith) (λ j k. at_variable (11 + n + j) (n + j) (omega arith) (omega arith) ∙ get_or-eq_default codes 0 (omega arith))

  pub word_zero : rule.word ≡ 0 → T (all_zero (fields e 5 2))
  word_zero z = zeros 5 2 (omega arith) (λ j k. go j (ℕ_discrete j 0) k)
    where
      go : (j : ℕ) → Dec (j ≡ 0) → j < 2 → get_or e (5 + j) 0 ≡ 0
      go j (yes f) k = from_5 (5 + j) 0 (omega arith) (omega arith) ∙ omega arith
      go j (no f) k = from_5 (5 + j) 1 (omega arith) (omega arith) ∙ omega arith

  pub lexical_rest : rule.components ≡ [] → T (all_zero (fields e 7 16))
  lexical_rest z = zeros 7 16 (omega arith) (λ j k. go j (dec_lt j 4) k)
    where
      go : (j : ℕ) → Dec (j < 4) → j < 16 → get_or e (7 + j) 0 ≡ 0
      go j (yes h) k = at_length (7 + j) j refl h ∙ ap (λ (c : List (List Variable)). get_or (map length c) j 0) z
      go j (no h) k = at_variable (7 + j) (j - 4) (omega arith) (omega arith) ∙ ap (λ (c : List (List Variable)). get_or (map code_of (named c)) (j - 4) 0) z
