-- Where a definition looks at a place of a sentence, it says of a single word what document 01 says of the word.
-- Assumes nothing.
use Rattle.std.specs.Prelude.{if◌then◌else◌}
use mathlib.Core.Path.{◌≡◌, refl, ap, ap₂, ◌∙◌}
use mathlib.Core.Bool.{Bool, true, false, not, ◌&&◌, ◌||◌}
use mathlib.Core.List.{List, [], ◌∷◌}
use mathlib.Core.Option.{Option, some}
use Prim.Native.Nat.{ℕ, suc, ◌<◌, ◌≤◌}
use native.Mathlib.Omega.{arith}
use native.Mathlib.Decide.{ℕ_discrete, dec_le}
use borrow.Author.Tests.{le-leb, lt-leb, eq-eqb, ne_eqb, le-ltb}
use lib.Dec.{ltb, leb, eqb}
use lib.ListN.{length-map}
use Rattle.model.specs.declared.Refusal.{Refusal}
use Rattle.model.specs.Base.{◌or_else◌, same_list}
use Rattle.model.specs.Verdict.{refuse_if}
use Rattle.model.specs.Grammar.{Grammar}
use Rattle.model.specs.Step.{lowest, highest, single, singles, word_fits}
use Rattle.model.specs.Trace.{place_refusal, places_refusal, sentence_refusal}
use Rattle.model.specs.Tree.{string_fits}
use Rattle.singles.specs.OldSentences.{first_unknown, sentence_refusal as words_refusal}
use Rattle.sentences.proofs.Places.{one_number}
use Rattle.singles.specs.AsBefore.{Words}

low_single : (x : ℕ) → x < 65536 → lowest (single x) ≡ x
low_single x h = (one_number.ends x x h).0

high_single : (x : ℕ) → x < 65536 → highest (single x) ≡ x
high_single x h = (one_number.ends x x h).1

-- a word takes the place of a single word just if it is that word
pub single_fits : (w x : ℕ) → x < 65536 → word_fits w (single x) ≡ eqb w x
single_fits w x h = ap₂ (λ (a b : ℕ). leb a w && leb w b) (low_single x h) (high_single x h) ∙ go (ℕ_discrete w x) (dec_le x w)
  where
    go : Dec (w ≡ x) → Dec (x ≤ w) → leb x w && leb w x ≡ eqb w x
    go (yes e) d = rw (le-leb x w (omega arith), le-leb w x (omega arith), eq-eqb w x e)
    go (no n) (yes l) = rw (le-leb x w l, lt-leb w x (omega arith), ne_eqb w x n)
    go (no n) (no l) = rw (lt-leb x w (omega arith), ne_eqb w x n)

single_refusal : (words k x : ℕ) → x < 65536 → (rest : Option Refusal)
    → place_refusal words k (single x) or_else rest ≡ (if ltb x words then rest else some (Refusal.Analysis 11 k))
single_refusal words k x h rest =
    ap₂ (λ (a b : ℕ). (refuse_if (not (ltb a words) || not (ltb b words)) (Refusal.Analysis 11 k) or_else refuse_if (ltb b a) (Refusal.Analysis 29 k)) or_else rest) (low_single x h) (high_single x h)
    ∙ ap (λ (c : Bool). (refuse_if (not (ltb x words) || not (ltb x words)) (Refusal.Analysis 11 k) or_else refuse_if c (Refusal.Analysis 29 k)) or_else rest) (le-ltb x x (omega arith))
    ∙ go (ltb x words)
  where
    go : (b : Bool) → (refuse_if (not b || not b) (Refusal.Analysis 11 k) or_else refuse_if false (Refusal.Analysis 29 k)) or_else rest ≡ (if b then rest else some (Refusal.Analysis 11 k))
    go true = refl
    go false = refl

places_same : (words k : ℕ) (ws : List ℕ) → Words ws → places_refusal words k (singles ws) ≡ first_unknown words k ws
places_same words k [] h = refl
places_same words k (w ∷ ws) h =
    ap (λ (o : Option Refusal). place_refusal words k (single w) or_else o) (places_same words (suc k) ws (λ j. h (suc j)))
    ∙ single_refusal words k w (h 0) (first_unknown words (suc k) ws)

-- 11 is that of document 01, and 29 is never met
pub sentence_same : (g : Grammar) (ws : List ℕ) → Words ws → sentence_refusal g (singles ws) ≡ words_refusal g ws
sentence_same g ws h = ap₂ (λ (n : ℕ) (o : Option Refusal). refuse_if (ltb 96 n) (Refusal.Analysis 11 96) or_else o) (length-map ws single) (places_same g.words 0 ws h)

-- "the root's yield is the sentence"
pub string_same : (xs ws : List ℕ) → Words ws → string_fits xs (singles ws) ≡ same_list xs ws
string_same [] [] h = refl
string_same [] (w ∷ ws) h = refl
string_same (x ∷ xs) [] h = refl
string_same (x ∷ xs) (w ∷ ws) h = ap₂ ◌&&◌ (single_fits x w (h 0)) (string_same xs ws (λ j. h (suc j)))
