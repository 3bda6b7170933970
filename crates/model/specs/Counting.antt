-- Live prefixes, effort, count, listing and entry (document 01, "Counting and listing", and refusals 24 to 26).
-- Assumes nothing.
use Rattle.std.specs.Prelude.{ℕ, zero, suc, Bool, true, false, not, ◌&&◌, List, [], ◌∷◌, map, ltb, leb, length, get_or}
use Rattle.std.proofs.Math.Option.{Option, none, some}
use Rattle.model.specs.declared.Refusal.{Refusal}
use Rattle.model.specs.Base.{each, keep, numbers_from}
use Rattle.model.specs.Verdict.{refuse_if}
use Rattle.model.specs.Grammar.{Grammar}
use Rattle.model.specs.Step.{State, Outcome, fails, leads, step, begin}
use Rattle.model.specs.Trace.{no_node, run}

-- no words and no predictions left
abbrev pub finished : State (Unit {0}) → Bool
finished s = elim s.queue [ [] ↦ elim s.words [ [] ↦ true | w ∷ ws ↦ false ] | p ∷ q ↦ false ]

-- rule r before each of the live prefixes of the state that it leads to, if it applies and that state's queue is no longer than the steps left
abbrev pub extend_if : Bool → (State (Unit {0}) → List (List ℕ)) → ℕ → State (Unit {0}) → List (List ℕ)
extend_if true next r s = map (λ p. r ∷ p) (next s)
extend_if false next r s = []

abbrev pub extend_by : (State (Unit {0}) → List (List ℕ)) → ℕ → ℕ → Outcome (Unit {0}) → List (List ℕ)
extend_by next left r (fails n) = []
extend_by next left r (leads s) = extend_if (leb (length s.queue) left) next r s

module _ (g : Grammar) where
  abbrev pub extend : (State (Unit {0}) → List (List ℕ)) → ℕ → State (Unit {0}) → ℕ → List (List ℕ)
  extend next left s r = extend_by next left r (step no_node g s r)

  -- The live prefixes from a state whose queue is no longer than `left`, which is N less the steps taken: the empty one, and then rule by rule, so that
  -- they come in dictionary order.
  abbrev pub live_from : ℕ → State (Unit {0}) → List (List ℕ)
  live_from zero s = [] ∷ []
  live_from (suc left) s = [] ∷ each (extend (λ s'. live_from left s') left s) (numbers_from 0 (length g.rules))

module _ (g : Grammar) (sentence : List ℕ) where
  -- the state before the first step
  abbrev pub start : State (Unit {0})
  start = begin no_node g tt sentence

  -- all live prefixes under node limit n ("The empty list is one.")
  abbrev pub live : ℕ → List (List ℕ)
  live zero = []
  live (suc n) = live_from g (suc n) start

  -- "Effort is the number of live prefixes for the grammar, sentence and N given"
  abbrev pub effort : ℕ → ℕ
  effort n = length (live n)

  -- all steps of the trace apply and leave no words and no predictions
  abbrev pub complete : List ℕ → Bool
  complete trace = elim (run no_node g start trace) [ none ↦ false | some s ↦ finished s ]

  -- the listing: the live prefixes that are complete
  abbrev pub listing : ℕ → List (List ℕ)
  listing n = keep complete (live n)

  abbrev pub count : ℕ → ℕ
  count n = length (listing n)

  -- "Entry m of the listing, m from 0 to one below the count, is a trace"
  abbrev pub entry : ℕ → ℕ → List ℕ
  entry n m = get_or (listing n) m []

-- refusal 24: "N not 1 to 96, or effort limit not 1 to 1,000,000,000"
abbrev pub limits_refusal : ℕ → ℕ → Option Refusal
limits_refusal n limit =
    refuse_if (not (leb 1 n && leb n 96 && leb 1 limit && leb limit 1000000000)) (Refusal.Desk 24 0)

-- refusal 25: "effort above the limit"
abbrev pub effort_refusal : Grammar → List ℕ → ℕ → ℕ → Option Refusal
effort_refusal g sentence n limit = refuse_if (ltb limit (effort g sentence n)) (Refusal.Desk 25 0)

-- refusal 26: "entry m not below the count"
abbrev pub entry_refusal : Grammar → List ℕ → ℕ → ℕ → Option Refusal
entry_refusal g sentence n m = refuse_if (leb (count g sentence n) m) (Refusal.Desk 26 0)
