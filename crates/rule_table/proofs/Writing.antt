-- The cells of the rules, written one rule behind the other.
-- Assumes nothing.
use mathlib.Core.Path.{◌≡◌, sym, ap, ◌∙◌}
use mathlib.Core.Logic.{⊎_elim}
use mathlib.Core.List.{List}
use Prim.Native.Nat.{ℕ, ◌+◌, ◌*◌, ◌<◌, ◌≤◌}
use native.Mathlib.Nat.{eq-or-lt_of_le}
use native.Mathlib.Omega.{arith}
use lib.ListN.{get_or}
use Rattle.rule_table.specs.Cells.{Put}

-- one rule further: `of r` are the cells of rule r
pub rules_next : (of : ℕ → List ℕ) (before after cells : List ℕ) (r : ℕ) → Put cells before after (8 * r) → cells ≡ of r
    → ((q : ℕ) → q < r → (i : ℕ) → i < 8 → get_or before (8 * q + i) 0 ≡ get_or (of q) i 0)
    → (q : ℕ) → q < r + 1 → (i : ℕ) → i < 8 → get_or after (8 * q + i) 0 ≡ get_or (of q) i 0
rules_next of before after cells r p e h q k i l =
    ⊎_elim
    (λ (z : q ≡ r). ap (λ (n : ℕ). get_or after (8 * n + i) 0) z ∙ p.written i l ∙ ap (λ (c : List ℕ). get_or c i 0) e ∙ sym (ap (λ (n : ℕ). get_or (of n) i 0) z))
    (λ (z : q < r). p.below (8 * q + i) (omega arith) ∙ h q z i l)
    (eq-or-lt_of_le (low k))
  where
    low : q < r + 1 → q ≤ r
    low k = omega arith
