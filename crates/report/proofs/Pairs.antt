-- The words of a sentence file, two bytes each.
-- Assumes nothing.
use mathlib.Core.Path.{◌≡◌, refl, sym, ap, ◌∙◌}
use mathlib.Core.List.{List, [], ◌∷◌, ◌++◌, append-nil}
use Prim.Native.Nat.{ℕ, suc, ◌+◌, ◌-◌, ◌*◌, ◌/◌, ◌<◌, ◌≤◌, min}
use native.Mathlib.Decide.{dec_le}
use native.Mathlib.Omega.{arith}
use lib.ListN.{length, get_or, take, drop, length-drop}
use lib.Seq.{drop-cons, take_at, length-take-le, take_all}
use Rattle.model.specs.Step.{single}
use Rattle.model.specs.Program.{pairs, sentence_in}

-- the pair of bytes at place j, and those after it
pairs_cons : (bytes : List ℕ) (j : ℕ) → suc j < length bytes → pairs (drop j bytes) ≡ single (get_or bytes j 0 + 256 * get_or bytes (suc j) 0) ∷ pairs (drop (suc (suc j)) bytes)
pairs_cons bytes j h =
    ap pairs (drop-cons bytes j 0 (omega arith) ∙ ap (λ (l : List ℕ). get_or bytes j 0 ∷ l) (drop-cons bytes (suc j) 0 h))

short_pairs : (l : List ℕ) → length l ≤ 1 → pairs l ≡ []
short_pairs [] h = refl
short_pairs (a ∷ []) h = refl
short_pairs (a ∷ b ∷ l) h = let z : ⊥ = omega arith in absurd z

-- k words are written at the front, and the sentence is these and what the bytes after them hold
pub record WordsTo (bytes words : List ℕ) (k : ℕ) : Type 0 where
  pub few : k ≤ 97
  pub room : length words ≡ 97
  pub so_far : sentence_in bytes ≡ take k words ++ pairs (drop (2 * k + 1) bytes)

-- the bytes end, or 97 words are read
pub words_end : (bytes words : List ℕ) (k : ℕ) → WordsTo bytes words k → length bytes ≤ 2 * k + 2 → take k words ≡ take 97 (sentence_in bytes)
words_end bytes words k w h =
    let e : sentence_in bytes ≡ take k words
    = w.so_far ∙ ap (λ (v : List ℕ). take k words ++ v) (short_pairs (drop (2 * k + 1) bytes) (omega (arith, length-drop (2 * k + 1) bytes))) ∙ append-nil (take k words) in
    let l : length (take k words) ≡ k = length-take-le k words (omega (arith, w.room, w.few)) in
    sym (ap (take 97) e ∙ take_all 97 (take k words) (omega (arith, l, w.few)))

pub words_full : (bytes words : List ℕ) (k : ℕ) → WordsTo bytes words k → 97 ≤ k → take k words ≡ take 97 (sentence_in bytes)
words_full bytes words k w h =
    let e : k ≡ 97 = omega (arith, w.few) in
    let l : length (take k words) ≡ 97 = length-take-le k words (omega (arith, w.room, w.few)) ∙ e in
    sym (ap (take 97) w.so_far ∙ take_at (take k words) (pairs (drop (2 * k + 1) bytes)) 97 l)

-- as many words as there are pairs of bytes after the first byte, or 97
pub words_read : (bytes words : List ℕ) (k spoken : ℕ) → WordsTo bytes words k → spoken ≤ k → k ≤ spoken → spoken ≡ min ((length bytes - 1) / 2) 97
    → take spoken words ≡ take 97 (sentence_in bytes)
words_read bytes words k spoken w h l e = go (dec_le 97 k)
  where
    same : k ≡ spoken
    same = omega arith

    go : Dec (97 ≤ k) → take spoken words ≡ take 97 (sentence_in bytes)
    go (yes m) = ap (λ (i : ℕ). take i words) (sym same) ∙ words_full bytes words k w m
    go (no m) = ap (λ (i : ℕ). take i words) (sym same) ∙ words_end bytes words k w (omega arith)
