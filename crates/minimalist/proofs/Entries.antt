-- What a lexicon that 30 and 10 do not meet has: entries, none twice, whose words exist. So refusal 31 decides whether there is a file as promised.
-- Assumes nothing.
use Rattle.std.specs.Prelude.{if◌then◌else◌}
use mathlib.Core.Path.{◌≡◌, refl, ap, sym, subst, ◌∙◌}
use mathlib.Core.Logic.{◌⊎◌}
use mathlib.Core.Bool.{Bool, true, false}
use mathlib.Core.Option.{Option, none}
use mathlib.Core.List.{List, [], ◌∷◌, ◌++◌, map, Memᴰ}
use Prim.Native.Nat.{ℕ, zero, suc, ◌+◌, ◌-◌, ◌*◌, ◌/◌, ◌%◌, ◌<◌, ◌≤◌}
use native.Mathlib.Omega.{arith}
use native.Mathlib.Decide.{ℕ_discrete, dec_lt}
use lib.Dec.{T, eqb}
use lib.ListN.{length, get_or, drop, length-append, get_or-eq_default}
use lib.Seq.{ext_get_or, get_or-drop}
use Rattle.model.specs.declared.Refusal.{Refusal}
use Rattle.model.specs.Base.{first_from, numbers_from, same_list}
use Rattle.model.specs.Verdict.{refuse_if}
use Rattle.model.specs.Grammar.{empty_word}
use Rattle.model.specs.WellFormed.{WellFormed}
use Rattle.model.specs.GrammarFile.{all_zero, fields}
use Rattle.model.specs.Writer.{all_bytes, little2, padded}
use Rattle.model.proofs.Tests.{no_refusal, first_of, rest_of, first_none, any_none, list_same}
use Rattle.model.proofs.Lists.{map_out}
use Rattle.model.proofs.Once.{numbers_low}
use Rattle.model.proofs.ByteLists.{fields_length, fields_at, after_front, padded_length, padded_at, zeros_at, Bytes, bytes_at, bytes_fields, two_again}
use Rattle.model.specs.Demands.{◌⇔◌}
use Rattle.minimalist.specs.Once.{Once}
use Rattle.minimalist.specs.Lexicon.{Entry, entry_bytes, word_in, before_zero, features_in, entry_of, entries, lexicon_of, wrong_lexicon, repeated_entry, entries_refusal}
use Rattle.minimalist.specs.Meaning.{RightEntry, RightLexicon}
use Rattle.minimalist.specs.Made.{MadeFrom, TooLarge}
use Rattle.minimalist.specs.Closure.{forms_of, too_large}
use Rattle.minimalist.specs.Numbering.{made_grammar}
use Rattle.minimalist.proofs.Meaning.{rest_zero, lexicon_meant}
use Rattle.minimalist.proofs.Size.{size_tested, fits}

-- the features are the bytes before the first 0
pub features_at : (l : List ℕ) (j : ℕ) → j < length (before_zero l) → get_or (before_zero l) j 0 ≡ get_or l j 0
features_at [] j h = let z : ⊥ = omega arith in absurd z
features_at (x ∷ l) j h = go (eqb x 0) j h (λ i k. features_at l i k)
  where
    go : (b : Bool) (j : ℕ) → j < length (if b then [] else x ∷ before_zero l) → ((i : ℕ) → i < length (before_zero l) → get_or (before_zero l) i 0 ≡ get_or l i 0)
        → get_or (if b then [] else x ∷ before_zero l) j 0 ≡ get_or (x ∷ l) j 0
    go true j h ih = let z : ⊥ = omega arith in absurd z
    go false zero h ih = refl
    go false (suc j) h ih = ih j (omega arith)

-- an entry's bytes from its word and features
abbrev entry_for : Entry → List ℕ
entry_for x = little2 x.word ++ padded 6 x.features

entry_again : (e : List ℕ) → length e ≡ 8 → Bytes e → T (all_zero (drop (length (features_in e)) (fields e 2 6))) → entry_for (entry_of e) ≡ e
entry_again e q bytes z = ext_get_or 0 (entry_for (entry_of e)) e (long ∙ sym q) (λ p h. at p (omega (arith, long)) (ℕ_discrete p 0) (ℕ_discrete p 1))
  where
    long : length (entry_for (entry_of e)) ≡ 8
    long = omega (arith, length-append (little2 (word_in e)) (padded 6 (features_in e)), padded_length 6 (features_in e))

    two : (word_in e % 256 ≡ get_or e 0 0) × (word_in e / 256 % 256 ≡ get_or e 1 0)
    two = two_again (get_or e 0 0) (get_or e 1 0) (word_in e) (bytes 0) (bytes 1) refl

    move : {x p : ℕ} → p ≡ x → get_or (entry_for (entry_of e)) x 0 ≡ get_or e x 0 → get_or (entry_for (entry_of e)) p 0 ≡ get_or e p 0
    move q h = subst (λ (y : ℕ). get_or (entry_for (entry_of e)) y 0 ≡ get_or e y 0) (sym q) h

    feature : (j : ℕ) → j < 6 → Dec (j < length (features_in e)) → get_or (features_in e) j 0 ≡ get_or (fields e 2 6) j 0
    feature j h (yes k) = features_at (fields e 2 6) j k
    feature j h (no k) =
        let i = j - length (features_in e) in
        let s : length (features_in e) + i ≡ j = omega arith in
        get_or-eq_default (features_in e) 0 (omega arith) ∙ sym (zeros_at (drop (length (features_in e)) (fields e 2 6)) z i) ∙ get_or-drop (length (features_in e)) (fields e 2 6) i 0 ∙ ap (λ (y : ℕ). get_or (fields e 2 6) y 0) s

    at : (p : ℕ) → p < 8 → Dec (p ≡ 0) → Dec (p ≡ 1) → get_or (entry_for (entry_of e)) p 0 ≡ get_or e p 0
    at p h (yes a) b = move a two.0
    at p h (no a) (yes b) = move b two.1
    at p h (no a) (no b) =
        let j = p - 2 in
        let s : 2 + j ≡ p = omega arith in
        after_front (little2 (word_in e)) (padded 6 (features_in e)) 2 p j refl (sym s) ∙ padded_at 6 (features_in e) j (omega arith) ∙ feature j (omega arith) (dec_lt j (length (features_in e)))
        ∙ fields_at e 2 6 j (omega arith) ∙ ap (λ (y : ℕ). get_or e y 0) s

once_numbers : (F : ℕ → Entry) (a n : ℕ) → ((i j : ℕ) → a ≤ i → i < j → j < a + n → F i ≡ F j → ⊥) → Once (map F (numbers_from a n))
once_numbers F a zero h = tt
once_numbers F a (suc n) h = (
  λ m. let (j, i, q) = map_out F (numbers_from (suc a) n) m in let l = numbers_low (suc a) n i in h a j (omega arith) l.0 (omega (arith, l.1)) q,
  once_numbers F (suc a) n (λ i j lo k hi. h i j (omega arith) k (omega arith)),
)

module _ (bytes : List ℕ) (words start : ℕ) (all : T (all_bytes bytes)) (accepted : entries_refusal bytes words start ≡ none) where
  abbrev n : ℕ
  n = entries bytes

  abbrev repeats : Option Refusal
  repeats = first_from (λ i. refuse_if (repeated_entry bytes i) (Refusal.Grammar 10 i)) 0 n

  right : wrong_lexicon bytes words start ≡ false
  right = no_refusal (wrong_lexicon bytes words start) (Refusal.Grammar 30 0) (first_of (refuse_if (wrong_lexicon bytes words start) (Refusal.Grammar 30 0)) repeats accepted)

  lex : RightLexicon bytes words start
  lex = lexicon_meant bytes words start right

  pub words_in : (1 ≤ words) × (words ≤ 4096)
  words_in = lex.words_range

  pub start_in : (1 ≤ start) × (start ≤ 15)
  start_in = lex.start_range

  count_is : n ≡ lex.count
  count_is = omega (arith, lex.bytes_each)

  pub entries_in : (1 ≤ n) × (n ≤ 32)
  entries_in = (omega (arith, count_is, lex.count_range.0), omega (arith, count_is, lex.count_range.1))

  whole : length bytes ≡ 8 * n
  whole = omega (arith, lex.bytes_each)

  entry_right : (i : ℕ) → i < n → RightEntry words (entry_bytes bytes i)
  entry_right i h = lex.entries_right i (omega (arith, count_is))

  back : (i : ℕ) → i < n → entry_for (entry_of (entry_bytes bytes i)) ≡ entry_bytes bytes i
  back i h =
      let e = entry_bytes bytes i in
      entry_again e (fields_length bytes (8 * i) 8 (omega (arith, whole))) (bytes_fields bytes (8 * i) 8 (bytes_at bytes all)) (rest_zero words e (entry_right i h))

  word_known : (i : ℕ) → i < n → ((entry_of (entry_bytes bytes i)).word < words) ⊎ ((entry_of (entry_bytes bytes i)).word ≡ empty_word)
  word_known i h = (entry_right i h).word_exists

  no_repeat : (i j : ℕ) → 0 ≤ i → i < j → j < 0 + n → entry_of (entry_bytes bytes i) ≡ entry_of (entry_bytes bytes j) → ⊥
  no_repeat i j lo h k e =
      let same : entry_bytes bytes i ≡ entry_bytes bytes j = sym (back i (omega arith)) ∙ ap entry_for e ∙ back j (omega arith) in
      let t : T (same_list (entry_bytes bytes i) (entry_bytes bytes j)) = subst (λ (x : List ℕ). T (same_list (entry_bytes bytes i) x)) same (list_same (entry_bytes bytes i)) in
      let s : 0 + j ≡ j = omega arith in
      let f = first_none (λ i. refuse_if (repeated_entry bytes i) (Refusal.Grammar 10 i)) 0 n (rest_of (refuse_if (wrong_lexicon bytes words start) (Refusal.Grammar 30 0)) repeats accepted) j (omega arith) in
      let u : repeated_entry bytes j ≡ false = no_refusal (repeated_entry bytes j) (Refusal.Grammar 10 j) (subst (λ (x : ℕ). refuse_if (repeated_entry bytes x) (Refusal.Grammar 10 x) ≡ none) s f) in
      subst T (any_none (λ i. same_list (entry_bytes bytes i) (entry_bytes bytes j)) j u i h) t

  pub once : Once (lexicon_of bytes)
  once = once_numbers (λ i. entry_of (entry_bytes bytes i)) 0 n no_repeat

  pub words_known : (x : Entry) → Memᴰ x (lexicon_of bytes) → (x.word < words) ⊎ (x.word ≡ empty_word)
  words_known x m =
      let (i, k, q) = map_out (λ i. entry_of (entry_bytes bytes i)) (numbers_from 0 n) m in
      subst (λ (y : Entry). (y.word < words) ⊎ (y.word ≡ empty_word)) (sym q) (word_known i (omega (arith, (numbers_low 0 n k).1)))

  first_entry : (e : Entry) × (l : List Entry) × (lexicon_of bytes ≡ e ∷ l)
  first_entry = go n entries_in.0
    where
      go : (k : ℕ) → 1 ≤ k → (e : Entry) × (l : List Entry) × (map (λ i. entry_of (entry_bytes bytes i)) (numbers_from 0 k) ≡ e ∷ l)
      go zero h = let z : ⊥ = omega arith in absurd z
      go (suc k) h = (entry_of (entry_bytes bytes 0), map (λ i. entry_of (entry_bytes bytes i)) (numbers_from 1 k), refl)

  -- 31 is what the paper says of it
  pub size_met : T (too_large (lexicon_of bytes) start (forms_of (lexicon_of bytes))) ⇔ TooLarge (lexicon_of bytes) start
  size_met = let (e, l, q) = first_entry in size_tested (lexicon_of bytes) words start e l q once

  -- where it is not met, the grammar in that one numbering is well-formed and made from the lexicon
  pub well_made_from : too_large (lexicon_of bytes) start (forms_of (lexicon_of bytes)) ≡ false
      → WellFormed (made_grammar (lexicon_of bytes) words start) × MadeFrom (lexicon_of bytes) words start (made_grammar (lexicon_of bytes) words start)
  well_made_from small = let (e, l, q) = first_entry in let f = fits (lexicon_of bytes) words start e l q once small words_in words_known in (f.well, f.made)
