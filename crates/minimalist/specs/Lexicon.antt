-- Lexicons of features (document 02, paper 6): the bytes of an entry, and refusals 30 and 10.
-- Assumes nothing.
use Rattle.std.specs.Prelude.{Bool, ◌&&◌, ◌||◌, not, List, [], ◌∷◌, map, ℕ, ◌+◌, ◌*◌, ◌/◌, ◌%◌, leb, eqb, length, get_or, drop, if◌then◌else◌}
use Rattle.std.proofs.Math.Option.{Option}
use Rattle.model.specs.declared.Refusal.{Refusal}
use Rattle.model.specs.Base.{◌or_else◌, first_from, every, numbers_from, any_below, same_list}
use Rattle.model.specs.Verdict.{refuse_if}
use Rattle.model.specs.Grammar.{empty_word}
use Rattle.model.specs.GrammarFile.{within, all_zero, fields}

-- "1 to 15 a category, 17 to 31 its selector, 33 to 35 a licensor, 49 to 51 its licensee": the kind of a feature byte, and a number that partners share;
-- refusal 30 meets an entry "with another byte"
pub data Feature : Type 0 where
  category selector licensor licensee : ℕ → Feature
  refusal30 : Feature

abbrev pub feature_of : ℕ → Feature
feature_of b =
    if within 1 15 b then category b
    else (if within 17 31 b then selector (b % 16) else (if within 33 35 b then licensor (b % 16) else (if within 49 51 b then licensee (b % 16) else refusal30)))

abbrev pub is_feature : ℕ → Bool
is_feature b = within 1 15 b || within 17 31 b || within 33 35 b || within 49 51 b

-- "a selector or licensee is 16 above its partner": s is the selector of category f; m is the licensee of licensor p
abbrev pub selects : ℕ → ℕ → Bool
selects s f = within 17 31 s && eqb s (f + 16)

abbrev pub licenses : ℕ → ℕ → Bool
licenses p m = within 33 35 p && eqb m (p + 16)

abbrev pub is_licensor : ℕ → Bool
is_licensor p = within 33 35 p

abbrev pub is_licensee : ℕ → Bool
is_licensee m = within 49 51 m

-- an entry: its word (65,535 is the empty word), and its features
pub record Entry : Type 0 where
  pub word : ℕ
  pub features : List ℕ

-- "An entry is 8 bytes": those of entry i
abbrev pub entry_bytes : List ℕ → ℕ → List ℕ
entry_bytes bytes i = fields bytes (8 * i) 8

-- "a word, little-endian"
abbrev pub word_in : List ℕ → ℕ
word_in e = get_or e 0 0 + 256 * get_or e 1 0

-- "up to 6 feature bytes, ended by 0 or by the sixth"
abbrev pub before_zero : List ℕ → List ℕ
before_zero [] = []
before_zero (b ∷ bs) = if eqb b 0 then [] else b ∷ before_zero bs

abbrev pub features_in : List ℕ → List ℕ
features_in e = before_zero (fields e 2 6)

abbrev pub entry_of : List ℕ → Entry
entry_of e = record { word = word_in e; features = features_in e }

abbrev pub entries : List ℕ → ℕ
entries bytes = length bytes / 8

abbrev pub lexicon_of : List ℕ → List Entry
lexicon_of bytes = map (λ i. entry_of (entry_bytes bytes i)) (numbers_from 0 (entries bytes))

-- "an entry without features, with another byte, with one after the 0 that is not 0 or with a word that doesn't exist"
abbrev pub wrong_entry : ℕ → List ℕ → Bool
wrong_entry words e =
    eqb (length (features_in e)) 0 || not (every is_feature (features_in e)) || not (all_zero (drop (length (features_in e)) (fields e 2 6)))
    || (leb words (word_in e) && not (eqb (word_in e) empty_word))

-- refusal 30: those, "or a length not 8 times 1 to 32, or a word count or a start outside its range"
abbrev pub wrong_lexicon : List ℕ → ℕ → ℕ → Bool
wrong_lexicon bytes words start =
    not (eqb (length bytes % 8) 0 && within 1 32 (entries bytes) && within 1 4096 words && within 1 15 start)
    || any_below (λ i. wrong_entry words (entry_bytes bytes i)) (entries bytes)

-- refusal 10: "a repeated entry (the later one's number)"
abbrev pub repeated_entry : List ℕ → ℕ → Bool
repeated_entry bytes i = any_below (λ j. same_list (entry_bytes bytes j) (entry_bytes bytes i)) i

-- 30, then 10: "Refusal 10 meets a repeated entry (the later one's number) after 30 and before 31."
abbrev pub entries_refusal : List ℕ → ℕ → ℕ → Option Refusal
entries_refusal bytes words start =
    refuse_if (wrong_lexicon bytes words start) (Refusal.Grammar 30 0)
    or_else first_from (λ i. refuse_if (repeated_entry bytes i) (Refusal.Grammar 10 i)) 0 (entries bytes)
