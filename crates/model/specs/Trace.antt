-- Sentences and the trace checker (document 01, "One step", "Trace and tree", and refusals 11 to 18; document 02, paper 5, refusals 11 and 29).
-- Assumes nothing.
use Rattle.std.specs.Prelude.{ℕ, suc, ◌-◌, Bool, not, ◌||◌, List, [], ◌∷◌, ltb, eqb, length, if◌then◌else◌}
use Rattle.std.proofs.Math.Option.{Option, none, some}
use Rattle.model.specs.declared.Refusal.{Refusal}
use Rattle.model.specs.Base.{◌or_else◌}
use Rattle.model.specs.Verdict.{refuse_if}
use Rattle.model.specs.Grammar.{Grammar}
use Rattle.model.specs.Step.{State, fails, leads, lowest, highest, step, begin}

-- what predictions stand for where it does not matter
abbrev pub no_node : Unit {0} → ℕ → Unit {0}
no_node n j = n

-- "either end that is no word" of a grammar with this many words, which are numbered from 0
abbrev pub end_no_word : ℕ → ℕ → Bool
end_no_word words place = not (ltb (lowest place) words) || not (ltb (highest place) words)

-- "lowest above highest"
abbrev pub lowest_above : ℕ → Bool
lowest_above place = ltb (highest place) (lowest place)

-- place k: "Refusal 11 meets either end that is no word"; "29 lowest above highest (its place), tested after 11 at the same place"
abbrev pub place_refusal : ℕ → ℕ → ℕ → Option Refusal
place_refusal words k place = refuse_if (end_no_word words place) (Refusal.Analysis 11 k) or_else refuse_if (lowest_above place) (Refusal.Analysis 29 k)

-- place k and those after it
abbrev pub places_refusal : ℕ → ℕ → List ℕ → Option Refusal
places_refusal words k [] = none
places_refusal words k (p ∷ ps) = place_refusal words k p or_else places_refusal words (suc k) ps

-- "11 sentence over 96 words (place 96, tested first)", and then place by place
abbrev pub sentence_refusal : Grammar → List ℕ → Option Refusal
sentence_refusal g sentence =
    refuse_if (ltb 96 (length sentence)) (Refusal.Analysis 11 96)
    or_else places_refusal g.words 0 sentence

-- refusal 12: "trace or tree over 96"
abbrev pub length_refusal : List ℕ → Option Refusal
length_refusal list = refuse_if (ltb 96 (length list)) (Refusal.Analysis 12 0)

module _ (g : Grammar) (sentence : List ℕ) where
  -- "Step k from 0": step k and those after it, from state s. 13 to 16 by the step; "17 queue longer than n-k-1 (place k+1)", where n-k-1 is how many
  -- steps follow; "At the end 18 words left (words read)"
  abbrev pub steps_refusal : ℕ → State (Unit {0}) → List ℕ → Option Refusal
  steps_refusal k s [] = refuse_if (ltb 0 (length s.words)) (Refusal.Analysis 18 (length sentence - length s.words))
  steps_refusal k s (r ∷ rs) =
      elim (step no_node g s r) [
        | fails n ↦ some (Refusal.Analysis n k)
        | leads s' ↦
            if ltb (length rs) (length s'.queue) then some (Refusal.Analysis 17 (suc k)) else steps_refusal (suc k) s' rs
      ]

  -- "Trace of n steps: 17 at place 0 if n is 0", and then step by step
  abbrev pub trace_refusal : List ℕ → Option Refusal
  trace_refusal trace =
      length_refusal trace
      or_else refuse_if (eqb (length trace) 0) (Refusal.Analysis 17 0)
      or_else steps_refusal 0 (begin no_node g tt sentence) trace

-- the state after the steps of a trace, from state s; none where a step does not apply
module _ {A : Type 0} (child : A → ℕ → A) (g : Grammar) where
  abbrev pub run : State A → List ℕ → Option (State A)
  run s [] = some s
  run s (r ∷ rs) = elim (step child g s r) [ fails n ↦ none | leads s' ↦ run s' rs ]
