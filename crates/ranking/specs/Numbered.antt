-- Numbers for what predictions stand for, as code holds them, and the trace of a tree with them: daughter j of step k has number 4 * (k + 1) + j, the root number 0.
-- So a number tells the step that predicted, and the daughter position there. `names` is what each number stands for.
-- Assumes nothing.
use Rattle.std.specs.Prelude.{ℕ, zero, suc, ◌+◌, ◌-◌, ◌*◌, List, [], ◌∷◌, map, ltb, length, if◌then◌else◌}
use Rattle.model.specs.Grammar.{Grammar}
use Rattle.model.specs.Tree.{Tree, tree_of_list}
use Rattle.model.specs.Conversions.{label, subtree}
use Rattle.ranking.specs.Recognizer.{Moved, stops, goes}
use Rattle.ranking.specs.Ranks.{RankedState, step_ranked, begin_ranked}

-- the first number that step k gives
abbrev pub made_at : ℕ → ℕ
made_at k = 4 * suc k

-- what daughter j stands for, at step k
abbrev pub number_at : ℕ → ℕ → ℕ → ℕ
number_at k n j = made_at k + j

module _ {A : Type 0} where
  -- numbers from `made` on get new names
  abbrev pub extended : ℕ → (ℕ → A) → (ℕ → A) → ℕ → A
  extended made new names n = if ltb n made then names n else new (n - made)

  -- the names after step k, whose front has number n
  abbrev pub names_after : (A → ℕ → A) → ℕ → (ℕ → A) → ℕ → ℕ → A
  names_after child k names n = extended (made_at k) (child (names n)) names

-- a state without its numbers, which no step looks at
abbrev pub plain : RankedState ℕ → RankedState (Unit {0})
plain t = record { queue = map (λ p. record { category = p.category; ranks = p.ranks; node = tt }) t.queue; words = t.words }

abbrev pub plain_moved : Moved (RankedState ℕ) → Moved (RankedState (Unit {0}))
plain_moved (stops n) = stops n
plain_moved (goes t) = goes (plain t)

module _ (g : Grammar) where
  abbrev pub begin_numbered : List ℕ → RankedState ℕ
  begin_numbered sentence = begin_ranked (number_at 0) g 0 sentence

  abbrev pub trace_numbered : ℕ → ℕ → (ℕ → Tree) → RankedState ℕ → List ℕ
  trace_numbered zero k names t = []
  trace_numbered (suc n) k names t =
      elim t.queue [
        | [] ↦ []
        | p ∷ q ↦
            label (names p.node)
            ∷ elim (step_ranked (number_at k) g t (label (names p.node))) [ stops m ↦ [] | goes t' ↦ trace_numbered n (suc k) (names_after subtree k names p.node) t' ]
      ]

  abbrev pub trace_of_numbered : List ℕ → List ℕ → List ℕ
  trace_of_numbered sentence tree = trace_numbered (length tree) 0 (λ n. tree_of_list g tree) (begin_numbered sentence)
