-- `record_tests::each_once` meets its contract. The loops keep: each variable of the daughters before j occurs once, and of daughter j those before c.
-- Assumes nothing.
use mathlib.Core.Path.{◌≡◌}
use mathlib.Core.Bool.{Bool, true}
use mathlib.Core.List.{List}
use Prim.Native.Nat.{ℕ, ◌≤◌, ◌-◌, ◌+◌, ◌*◌}
use lib.Dec.{eqb}
use Rattle.model.specs.Base.{all_below, occurrences}
use Rattle.model.specs.GrammarFile.{field, dimension_in}
use Rattle.record_tests.proofs.each_once.Given as goal

-- component i of the daughter at position j occurs once
abbrev pub once_at : List ℕ → ℕ → ℕ → Bool
once_at named j i = eqb (occurrences (4 * j + i) named) 1

-- and so does every component of that daughter
abbrev pub daughter_once : List ℕ → List ℕ → List ℕ → ℕ → Bool
daughter_once dimensions e named j = all_below (once_at named j) (dimension_in dimensions (field e (2 + j)))

abbrev pub invariant-loop-c : goal.invariant-loop-c
invariant-loop-c l = (l.c ≤ l.d) × (l.once ≡ true) × (all_below (once_at l.named l.j) l.c ≡ true)

abbrev pub decreases-loop-c : goal.decreases-loop-c
decreases-loop-c l = l.d - l.c

abbrev pub invariant-daughters : goal.invariant-daughters
invariant-daughters l = (l.j ≤ l.n) × (l.once ≡ true) × (all_below (daughter_once l.dimensions l.e l.named) l.j ≡ true)

abbrev pub decreases-daughters : goal.decreases-daughters
decreases-daughters l = l.n - l.j
