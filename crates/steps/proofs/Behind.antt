-- How many words a step reads, and where the recognizer stood before it.
-- Assumes nothing.
use Rattle.std.specs.Prelude.{if◌then◌else◌}
use mathlib.Core.Path.{◌≡◌}
use mathlib.Core.Bool.{Bool, true, false}
use mathlib.Core.List.{List}
use Prim.Native.Nat.{ℕ, ◌*◌, ◌<◌, ◌≤◌}
use native.Mathlib.Omega.{arith}
use lib.Dec.{eqb}
use Rattle.model.specs.Grammar.{empty_word}
use Rattle.ranks.specs.Table.{daughters_in, word_in}
use Rattle.steps.specs.declared.Standing.{Standing}
use Rattle.steps.specs.Steps.{read_by, ahead, behind}

-- at least none and at most one
pub reads_few : (t : List ℕ) (r : ℕ) → read_by t r ≤ 1
reads_few t r = go (eqb (daughters_in t (8 * r)) 0) (eqb (word_in t (8 * r)) empty_word)
  where
    go : (b c : Bool) → (if b then (if c then 0 else 1) else 0) ≤ 1
    go true true = omega arith
    go true false = omega arith
    go false c = omega arith

-- before the step of rule r
module _ (t : List ℕ) (at : Standing) (r : ℕ) (predicted : at.from < at.to) (left : 1 ≤ at.left) where
  abbrev d : ℕ
  d = daughters_in t (8 * r)

  standing_is : (a b : Standing) → a.from ≡ b.from → a.to ≡ b.to → a.read ≡ b.read → a.steps ≡ b.steps → a.left ≡ b.left → a ≡ b
  standing_is a b p q u v w = λ i. record { from = p i; to = q i; read = u i; steps = v i; left = w i }

  pub behind_ahead : behind t (ahead t at r) r ≡ at
  behind_ahead = standing_is (behind t (ahead t at r) r) at (omega arith) (omega arith) (omega arith) (omega arith) (omega arith)
