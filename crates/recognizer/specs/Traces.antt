-- What code says of the run along a trace, and the numbers of the predictions that its steps take.
-- Assumes nothing.
use Rattle.std.specs.Prelude.{◌≡◌, List, [], ◌∷◌, ℕ, suc, ◌+◌, length, take, drop}
use Rattle.std.proofs.Math.Option.{Option, none}
use Rattle.std.proofs.lemmas.List.Edits.{sets}
use Rattle.model.specs.declared.Refusal.{Refusal}
use Rattle.model.specs.Verdict.{verdict, Verdict}
use Rattle.model.specs.Grammar.{Grammar}
use Rattle.model.specs.Trace.{no_node, trace_refusal}
use Rattle.ranking.specs.Recognizer.{stops, goes, refusal_from}
use Rattle.ranking.specs.Ranks.{Ranked, RankedState, step_ranked, rank_recognizer}
use Rattle.ranking.specs.Numbered.{number_at, plain, begin_numbered}
use Rattle.steps.specs.declared.Standing.{Standing}
use Rattle.steps.specs.Steps.{Ready}

-- a run of n steps stands at one of them, or at its end
pub record Runs (g : Grammar) (t sentence w : List ℕ) (at : Standing) (n : ℕ) : Type 0 where
  pub ready : Ready g t sentence w at
  pub whole : at.steps + at.left ≡ n

-- the refusal of steps k and after, from state s
abbrev pub refusal_numbered : Grammar → List ℕ → ℕ → RankedState ℕ → List ℕ → Option Refusal
refusal_numbered g sentence k s steps = refusal_from (rank_recognizer no_node g) (length sentence) k (plain s) steps

-- the number of the front prediction
abbrev pub front_number : List (Ranked ℕ) → ℕ
front_number [] = 0
front_number (p ∷ q) = p.node

-- the number of the prediction that each of steps k and after takes, as far as the steps go
abbrev pub taken_numbered : Grammar → ℕ → RankedState ℕ → List ℕ → List ℕ
taken_numbered g k s [] = []
taken_numbered g k s (r ∷ rs) = elim (step_ranked (number_at k) g s r) [ stops n ↦ [] | goes s' ↦ front_number s.queue ∷ taken_numbered g (suc k) s' rs ]

-- steps k and after of the trace, from state s: v is the trace's verdict, and for an accepted trace the numbers are stored from place k on
pub record RunSays (g : Grammar) (sentence trace : List ℕ) (k : ℕ) (s : RankedState ℕ) (before after : List ℕ) (v : Verdict) : Type 0 where
  pub answer : v ≡ verdict (refusal_numbered g sentence k s (drop k trace)) (length trace)
  pub taken : refusal_numbered g sentence k s (drop k trace) ≡ none → after ≡ sets before k (taken_numbered g k s (drop k trace))

-- the whole trace: v is its verdict, and for an accepted trace the numbers are stored, one for each step
pub record TraceSays (g : Grammar) (sentence trace after : List ℕ) (v : Verdict) : Type 0 where
  pub answer : v ≡ verdict (trace_refusal g sentence trace) (length trace)
  pub taken : trace_refusal g sentence trace ≡ none → take (length trace) after ≡ taken_numbered g 0 (begin_numbered g sentence) trace
