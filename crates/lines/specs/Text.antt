-- What code says of text that it writes into a buffer, and the first line of what the program prints.
-- Assumes nothing.
use Rattle.std.specs.Prelude.{◌≡◌, Bool, List, [], ◌∷◌, ℕ, ◌+◌, ◌≤◌, length, if◌then◌else◌, Err, Ok}
use Rattle.std.proofs.Math.Option.{some}
use Rattle.std.proofs.lemmas.List.Edits.{sets}
use Rattle.model.specs.Program.{blank, newline, line, printed}
use Rattle.model.specs.Verdict.{CountVerdict}

-- l is written at a place of the buffer and nothing else is; r is the place after it, and the buffer goes at least so far
pub record Put (before after : List ℕ) (at : ℕ) (l : List ℕ) (r : ℕ) : Type 0 where
  pub written : after ≡ sets before at l
  pub place : r ≡ at + length l
  pub within : r ≤ length after

-- "numbers parted by one blank", a newline after the last
abbrev pub ending : Bool → ℕ
ending last = if last then newline else blank

-- "prints count and effort, then one trace a line, numbers parted by one blank; or `R`, number, place": the line of the verdict
abbrev pub verdict_line : CountVerdict → List ℕ
verdict_line (Ok c) = line (c.count ∷ c.effort ∷ [])
verdict_line (Err r) = printed (some r) []
