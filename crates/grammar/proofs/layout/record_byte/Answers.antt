-- `grammar::record_byte` meets its contract: where the place is none that a `usize` has, the record has no byte there.
-- Assumes nothing.
use Rattle.std.proofs.Common.{◌≡◌, ℕ, ◌+◌, ◌<◌, List, min, arith, ap, sym, ◌∙◌, get_or}
use native.Mathlib.Decide.{dec_lt}
use Rattle.model.specs.GrammarFile.{fields, record_place}
use Rattle.grammar.proofs.Parts.{part_past}
use Rattle.grammar.proofs.layout.record_byte.Goals as goal

-- a part of few bytes, at a place that is as good as i
at_most : (l : List ℕ) (p i j : ℕ) → j ≡ min i 18446744073709551615 → get_or (fields l p 24) j 0 ≡ get_or (fields l p 24) i 0
at_most l p i j e = go (dec_lt i 24)
  where
    go : Dec (i < 24) → get_or (fields l p 24) j 0 ≡ get_or (fields l p 24) i 0
    go (yes h) = ap (λ (k : ℕ). get_or (fields l p 24) k 0) (let same : j ≡ i = omega arith in same)
    go (no h) = part_past l p 24 j (omega arith) ∙ sym (part_past l p 24 i (omega arith))

pub returns : goal.returns
returns c =
    c.byte.ensures ∙ ap (λ (l : List ℕ). get_or l c.saturating_add.result 0) c.record_of.ensures
    ∙ at_most c.args.file.now (record_place c.args.r.0) (c.args.start + c.args.k) c.saturating_add.result (omega arith)
