-- Live prefixes and dictionary order as document 01 says them ("Counting and listing"), without computing them.
-- Assumes nothing.
use Rattle.std.specs.Prelude.{ℕ, ◌+◌, ◌≤◌, T, length, take}
use mathlib.Core.List.{List, [], ◌∷◌, Memᴰ}
use Rattle.std.proofs.Math.Option.{Option, none, some}
use Rattle.model.specs.Grammar.{Grammar}
use Rattle.model.specs.Step.{State, before}
use Rattle.model.specs.Trace.{no_node, run}
use Rattle.model.specs.Counting.{start}

-- the k steps apply, and "k plus the queue's length is at most N"
abbrev pub Fits : ℕ → ℕ → Option (State (Unit {0})) → Type 0
Fits n k none = ⊥
Fits n k (some s) = k + length s.queue ≤ n

-- "after each k steps (0 included)", from state s
abbrev pub LiveFrom : Grammar → ℕ → State (Unit {0}) → List ℕ → Type 0
LiveFrom g n s prefix = (k : ℕ) → k ≤ length prefix → Fits n k (run no_node g s (take k prefix))

-- "A live prefix is a list of rule numbers all of whose steps apply and for which, after each k steps (0 included), k plus the queue's length is at
-- most N."
abbrev pub Live : Grammar → List ℕ → ℕ → List ℕ → Type 0
Live g sentence n prefix = LiveFrom g n (start g sentence) prefix

-- "In dictionary order the trace with the smaller number at the first difference goes first, and a proper prefix goes before what it begins": each list
-- goes before each that follows
abbrev pub InOrder : List (List ℕ) → Type 0
InOrder [] = Unit {0}
InOrder (p ∷ ps) = ((q : List ℕ) → Memᴰ q ps → T (before p q)) × InOrder ps

-- no list stands twice
abbrev pub Different : List (List ℕ) → Type 0
Different [] = Unit {0}
Different (p ∷ ps) = (Memᴰ p ps → ⊥) × Different ps

-- the list has just those of which P holds, in dictionary order
pub record Lists (P : List ℕ → Type 0) (list : List (List ℕ)) : Type 0 where
  pub sound : (p : List ℕ) → Memᴰ p list → P p
  pub whole : (p : List ℕ) → P p → Memᴰ p list
  pub ordered : InOrder list
