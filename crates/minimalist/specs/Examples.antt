-- Example 2 of W11-0605 (section 3.1) as bytes and as a derivation, and an entry that moves twice; computed in proofs/Examples.antt. Categories D, V, C are 1, 2, 3,
-- so that =D, =V, =C are 17, 18, 19; +wh, -wh are 33, 49; another licensor and its licensee are 34, 50.
-- Assumes nothing.
use Rattle.std.specs.Prelude.{◌≡◌, false, List, [], ◌∷◌, ◌++◌, ℕ}
use Rattle.std.proofs.Math.Option.{none, some}
use Rattle.model.specs.declared.Refusal.{Refusal}
use Rattle.model.specs.Grammar.{empty_word}
use Rattle.model.specs.Writer.{little2, padded}
use Rattle.minimalist.specs.Lexicon.{Entry, lexicon_of, entries_refusal}
use Rattle.minimalist.specs.Derivations.{Chain, Expression, Derivation, leaf, merge, move, nodes, derived}

abbrev entry : ℕ → List ℕ → Entry
entry word features = record { word = word; features = features }

abbrev chain : List ℕ → List ℕ → Chain
chain features string = record { features = features; string = string }

abbrev derived_as : Chain → List Chain → Expression
derived_as head moving = record { lexical = false; head = head; moving = moving }

-- an entry's 8 bytes
abbrev bytes_of : ℕ → List ℕ → List ℕ
bytes_of word features = little2 word ++ padded 6 features

-- the words are likes 0, knows 1, Mary 2, John 3, who 4
abbrev likes : Entry
likes = entry 0 (17 ∷ 17 ∷ 2 ∷ [])

abbrev knows : Entry
knows = entry 1 (19 ∷ 17 ∷ 2 ∷ [])

abbrev declarative : Entry
declarative = entry empty_word (18 ∷ 3 ∷ [])

abbrev interrogative : Entry
interrogative = entry empty_word (18 ∷ 33 ∷ 3 ∷ [])

abbrev mary : Entry
mary = entry 2 (1 ∷ [])

abbrev john : Entry
john = entry 3 (1 ∷ [])

abbrev who : Entry
who = entry 4 (1 ∷ 49 ∷ [])

abbrev pub lexicon : List Entry
lexicon = likes ∷ knows ∷ declarative ∷ interrogative ∷ mary ∷ john ∷ who ∷ []

abbrev pub lexicon_bytes : List ℕ
lexicon_bytes =
    bytes_of 0 (17 ∷ 17 ∷ 2 ∷ []) ++ (bytes_of 1 (19 ∷ 17 ∷ 2 ∷ []) ++ (bytes_of empty_word (18 ∷ 3 ∷ []) ++ (bytes_of empty_word (18 ∷ 33 ∷ 3 ∷ [])
    ++ (bytes_of 2 (1 ∷ []) ++ (bytes_of 3 (1 ∷ []) ++ bytes_of 4 (1 ∷ 49 ∷ []))))))

-- John likes, with who moving
abbrev john_likes : Derivation
john_likes = merge (merge (leaf likes) (leaf who)) (leaf john)

-- who John likes
abbrev who_john_likes : Derivation
who_john_likes = move (merge (leaf interrogative) john_likes)

-- Mary knows who John likes
abbrev mary_knows : Derivation
mary_knows = merge (leaf declarative) (merge (merge (leaf knows) who_john_likes) (leaf mary))

-- an entry with two licensees, and one with their licensors
abbrev twice : List Entry
twice = entry 0 (17 ∷ 33 ∷ 34 ∷ 3 ∷ []) ∷ entry 1 (1 ∷ 49 ∷ 50 ∷ []) ∷ []

abbrev merged_twice : Derivation
merged_twice = merge (leaf (entry 0 (17 ∷ 33 ∷ 34 ∷ 3 ∷ []))) (leaf (entry 1 (1 ∷ 49 ∷ 50 ∷ [])))

pub record Examples : Type 0 where
  -- the bytes are those of the lexicon, and neither 30 nor 10 meets them
  pub read : lexicon_of lexicon_bytes ≡ lexicon
  pub accepted : entries_refusal lexicon_bytes 5 3 ≡ none
  -- with one word less, "who" is no word; with the last entry once more, that one is repeated
  pub no_word : entries_refusal lexicon_bytes 4 3 ≡ some (Refusal.Grammar 30 0)
  pub repeated : entries_refusal (lexicon_bytes ++ bytes_of 4 (1 ∷ 49 ∷ [])) 5 3 ≡ some (Refusal.Grammar 10 7)
  -- ⟨0, V, -wh⟩(John likes, who), ⟨0, C⟩(who John likes), ⟨0, C⟩(Mary knows who John likes), with 14 nodes
  pub moving : derived lexicon john_likes ≡ some (derived_as (chain (2 ∷ []) (3 ∷ 0 ∷ [])) (chain (49 ∷ []) (4 ∷ []) ∷ []))
  pub landed : derived lexicon who_john_likes ≡ some (derived_as (chain (3 ∷ []) (4 ∷ 3 ∷ 0 ∷ [])) [])
  pub sentence : derived lexicon mary_knows ≡ some (derived_as (chain (3 ∷ []) (2 ∷ 1 ∷ 4 ∷ 3 ∷ 0 ∷ [])) [])
  pub nodes_are : nodes mary_knows ≡ 14
  -- the fifth scheme: the chain stays where it is; the fourth: it lands
  pub stays : derived twice (move merged_twice) ≡ some (derived_as (chain (34 ∷ 3 ∷ []) (0 ∷ [])) (chain (50 ∷ []) (1 ∷ []) ∷ []))
  pub lands : derived twice (move (move merged_twice)) ≡ some (derived_as (chain (3 ∷ []) (1 ∷ 0 ∷ [])) [])
