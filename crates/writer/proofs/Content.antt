-- What stands in each block before its check, byte by byte: the numbers at the front, and the given bytes after them.
-- Assumes nothing.
use mathlib.Core.Path.{◌≡◌, refl, sym, ap, ◌∙◌}
use mathlib.Core.List.{List, [], ◌∷◌, ◌++◌}
use Prim.Native.Nat.{ℕ, zero, suc, ◌+◌, ◌-◌, ◌<◌, ◌≤◌}
use native.Mathlib.Omega.{arith}
use native.Mathlib.Decide.{dec_lt}
use lib.ListN.{get_or, replicate, get_or-eq_default}
use Rattle.model.specs.GrammarFile.{fields}
use Rattle.model.specs.Writer.{Heading, little2, padded}
use Rattle.model.proofs.ByteLists.{fields_at, after_front, padded_length, padded_at}
use Rattle.grammar.proofs.Parts.{part_past}
use Rattle.writer.specs.Writing.{rule_content, content_at}

-- byte j of the first n bytes, with zeros up to n bytes or without: past their end it is 0 either way
padded_byte : (d : List ℕ) (n j : ℕ) → get_or (fields d 0 n) j 0 ≡ get_or (padded n d) j 0
padded_byte d n j = go (dec_lt j n)
  where
    go : Dec (j < n) → get_or (fields d 0 n) j 0 ≡ get_or (padded n d) j 0
    go (yes l) =
        let e : 0 + j ≡ j = omega arith in
        fields_at d 0 n j l ∙ ap (λ (p : ℕ). get_or d p 0) e ∙ sym (padded_at n d j l)
    go (no l) =
        part_past d 0 n j (omega arith) ∙ sym (get_or-eq_default (padded n d) 0 {n = j} (omega (arith, padded_length n d)))

module _ (h : Heading) (i : ℕ) where
  -- bytes 0 to 15 of the heading
  abbrev pub heading_numbers : List ℕ
  heading_numbers = 0 ∷ 0 ∷ 1 ∷ h.categories ∷ h.start ∷ little2 h.words ++ little2 h.rules ++ replicate 7 0

  pub heading_dimension : 16 ≤ i → get_or (fields h.dimensions 0 64) (i - 16) 0 ≡ content_at h [] 0 i
  heading_dimension l =
      padded_byte h.dimensions 64 (i - 16)
      ∙ sym (after_front heading_numbers (padded 64 h.dimensions) 16 i (i - 16) refl (omega arith))

-- a block with another number than 0 is a rule block
pub rule_content_lem : (h : Heading) (records : List ℕ) (k i : ℕ) → (k ≡ 0 → ⊥) → get_or (rule_content h.rules records k) i 0 ≡ content_at h records k i
rule_content_lem h records zero i d = absurd (d refl)
rule_content_lem h records (suc k) i d = refl
