-- What a feature byte is, what refusals 30 and 10 meet and which categories are left out, said a second time, by the words of paper 6 of document 02 and
-- without the computed tests; where an entry's bytes and its word stand is as `Lexicon` has it. That the computed tests agree is `LexiconsMean`.
-- Assumes nothing.
use Rattle.std.specs.Prelude.{◌≡◌, ◌⊎◌, false, ℕ, ◌+◌, ◌-◌, ◌*◌, ◌<◌, ◌≤◌, T, length, get_or, replicate}
use mathlib.Core.List.{List, [], ◌∷◌, ◌++◌, Memᴰ}
use Rattle.model.specs.Grammar.{empty_word}
use Rattle.model.specs.GrammarFile.{fields}
use Rattle.model.specs.Demands.{◌⇔◌}
use Rattle.minimalist.specs.Lexicon.{Feature, category, selector, licensor, licensee, refusal30, feature_of, is_feature, selects, licenses, is_licensor, is_licensee, entry_bytes, word_in, features_in, wrong_entry, wrong_lexicon, repeated_entry}
use Rattle.minimalist.specs.Schemes.{Form, left_out}

-- "1 to 15 a category, 17 to 31 its selector, 33 to 35 a licensor, 49 to 51 its licensee; a selector or licensee is 16 above its partner": what a byte is,
-- with a number that it shares with its partner
pub data Means : ℕ → Feature → Type 0 where
  a_category : (b : ℕ) → 1 ≤ b → b ≤ 15 → Means b (category b)
  its_selector : (b n : ℕ) → Means b (category n) → Means (b + 16) (selector n)
  a_licensor : (b : ℕ) → 33 ≤ b → b ≤ 35 → Means b (licensor (b - 32))
  its_licensee : (b n : ℕ) → Means b (licensor n) → Means (b + 16) (licensee n)

-- a feature byte
abbrev pub FeatureByte : ℕ → Type 0
FeatureByte b = (f : Feature) × Means b f

-- an entry that 30 does not meet: up to 6 feature bytes, "ended by 0 or by the sixth", where "Bytes after the 0 are 0", and a word that exists: one of the word
-- count, or 65,535, which "is the empty word"
pub record RightEntry (words : ℕ) (e : List ℕ) : Type 0 where
  pub features : List ℕ
  pub zeros : ℕ
  pub six_bytes : fields e 2 6 ≡ features ++ replicate zeros 0
  pub not_without : 1 ≤ length features
  pub no_other : (b : ℕ) → Memᴰ b features → FeatureByte b
  pub word_exists : (word_in e < words) ⊎ (word_in e ≡ empty_word)

-- "A lexicon has 1 to 32 entries, a word count from 1 to 4,096 and a start category from 1 to 15", each entry 8 bytes
pub record RightLexicon (bytes : List ℕ) (words start : ℕ) : Type 0 where
  pub count : ℕ
  pub bytes_each : length bytes ≡ 8 * count
  pub count_range : (1 ≤ count) × (count ≤ 32)
  pub words_range : (1 ≤ words) × (words ≤ 4096)
  pub start_range : (1 ≤ start) × (start ≤ 15)
  pub entries_right : (i : ℕ) → i < count → RightEntry words (entry_bytes bytes i)

-- the three cases of a category that is left out
pub data LeftOut (a : Form) : Type 0 where
  -- "if a chain of it has no features"
  featureless : Memᴰ [] (a.head ∷ a.moving) → LeftOut a
  -- "if a moving chain begins with anything but a licensee"
  unlicensed : (f : ℕ) (α : List ℕ) → Memᴰ (f ∷ α) a.moving → ((n : ℕ) → Means f (licensee n) → ⊥) → LeftOut a
  -- "if two moving chains begin with the same licensee": the chains at places i and j
  same_licensee : (i j m n : ℕ) (α β : List ℕ) → i < j → j < length a.moving → get_or a.moving i [] ≡ m ∷ α → get_or a.moving j [] ≡ m ∷ β
      → Means m (licensee n) → LeftOut a

pub record LexiconsMean : Type 0 where
  -- the kind and number of a byte, and "another byte", which 30 meets
  pub features_are : (b : ℕ) (f : Feature) → Means b f ⇔ ((feature_of b ≡ f) × (f ≡ refusal30 → ⊥))
  pub others_are : (b : ℕ) → (feature_of b ≡ refusal30) ⇔ (FeatureByte b → ⊥)
  pub feature_bytes : (b : ℕ) → T (is_feature b) ⇔ FeatureByte b
  pub licensors : (b : ℕ) → T (is_licensor b) ⇔ ((n : ℕ) × Means b (licensor n))
  pub licensees : (b : ℕ) → T (is_licensee b) ⇔ ((n : ℕ) × Means b (licensee n))
  -- partners have the same number
  pub selecting : (s f : ℕ) → T (selects s f) ⇔ ((n : ℕ) × Means s (selector n) × Means f (category n))
  pub licensing : (p m : ℕ) → T (licenses p m) ⇔ ((n : ℕ) × Means p (licensor n) × Means m (licensee n))
  -- 30 of an entry, what its features are, and 30 of a lexicon
  pub entries : (words : ℕ) (e : List ℕ) → (wrong_entry words e ≡ false) ⇔ RightEntry words e
  pub features_read : (words : ℕ) (e : List ℕ) (r : RightEntry words e) → features_in e ≡ r.features
  pub lexicons : (bytes : List ℕ) (words start : ℕ) → (wrong_lexicon bytes words start ≡ false) ⇔ RightLexicon bytes words start
  -- 10: "a repeated entry (the later one's number)"
  pub repeated : (bytes : List ℕ) (i : ℕ) → T (repeated_entry bytes i) ⇔ ((j : ℕ) × (j < i) × (entry_bytes bytes j ≡ entry_bytes bytes i))
  -- what is left out is left out for one of the three, and nothing else is
  pub is_left_out : (a : Form) → T (left_out a) ⇔ LeftOut a
