-- A whole trace: its refusals in order, and the predictions that its steps take.
-- Assumes nothing.
use Rattle.std.specs.Prelude.{if◌then◌else◌}
use mathlib.Core.Path.{◌≡◌, refl, sym, ap, ap₂, subst, ◌∙◌}
use mathlib.Core.Bool.{Bool, true, false}
use mathlib.Core.Option.{Option, none, some}
use mathlib.Core.List.{List, [], ◌∷◌}
use Prim.Native.Nat.{ℕ, suc, ◌+◌, ◌<◌, ◌≤◌}
use native.Mathlib.Omega.{arith}
use borrow.Author.Tests.{lt-ltb, le-ltb, eq-eqb, ne_eqb}
use lib.Dec.{ltb}
use lib.ListN.{length, take, drop}
use lib.Seq.{sets, sets-eq, take_at}
use Rattle.model.specs.declared.Refusal.{Refusal}
use Rattle.model.specs.Base.{◌or_else◌}
use Rattle.model.specs.Verdict.{refuse_if, verdict, Verdict}
use Rattle.model.specs.Grammar.{Grammar}
use Rattle.model.specs.GrammarFile.{start_of, grammar_refusal, grammar_of}
use Rattle.model.specs.Trace.{trace_refusal}
use Rattle.model.proofs.Tests.{none_some}
use Rattle.model.proofs.FromFile.{start_in, categories_in}
use Rattle.model.proofs.WellFormed.{accepted_well}
use Rattle.ranking.specs.Recognizer.{Moved, stops, goes}
use Rattle.ranking.specs.Ranks.{RankedState, step_ranked}
use Rattle.ranking.specs.Numbered.{number_at, plain, plain_moved, begin_numbered}
use Rattle.ranking.proofs.RanksAgree.{ranks_agree}
use Rattle.ranking.proofs.Numbered.{step_plain}
use Rattle.ranks.specs.Held.{FirstQueue}
use Rattle.ranks.specs.Table.{Compiled}
use Rattle.steps.specs.declared.Standing.{Standing}
use Rattle.steps.specs.Steps.{state_in, begin}
use Rattle.steps.proofs.Begin.{state_begin, ready_begin}
use Rattle.recognizer.specs.Traces.{Runs, refusal_numbered, front_number, taken_numbered, RunSays, TraceSays}
use Rattle.recognizer.proofs.Running.{refusal_after}

module _ (g : Grammar) (sentence : List ℕ) where
  -- every step of an accepted trace takes a prediction
  pub taken_length : (k : ℕ) (s : RankedState ℕ) (rs : List ℕ) → refusal_numbered g sentence k s rs ≡ none → length (taken_numbered g k s rs) ≡ length rs
  taken_length k s [] h = refl
  taken_length k s (r ∷ rs) h =
      go (step_ranked (number_at k) g s r) (ap (refusal_after g sentence k rs) (step_plain g k s r) ∙ h) (λ s' e. taken_length (suc k) s' rs e)
    where
      test : (b : Bool) (s' : RankedState ℕ) → ◌≡◌ {A = Option Refusal} (if b then some (Refusal.Analysis 17 (suc k)) else refusal_numbered g sentence (suc k) s' rs) none → refusal_numbered g sentence (suc k) s' rs ≡ none
      test true s' e = none_some e
      test false s' e = e

      go : (o : Moved (RankedState ℕ)) → refusal_after g sentence k rs (plain_moved o) ≡ none
          → ((s' : RankedState ℕ) → refusal_numbered g sentence (suc k) s' rs ≡ none → length (taken_numbered g (suc k) s' rs) ≡ length rs)
          → ◌≡◌ {A = ℕ} (length {A = ℕ} (elim o [ stops n ↦ [] | goes s' ↦ front_number s.queue ∷ taken_numbered g (suc k) s' rs ])) (suc (length rs))
      go (stops n) e ih = none_some e
      go (goes s') e ih = ap suc (ih s' (test (ltb (length rs) (length (plain s').queue)) s' e))

stored_front : (l vs : List ℕ) (n : ℕ) → length vs ≡ n → n ≤ length l → take n (sets l 0 vs) ≡ vs
stored_front l vs n e h = ap (take n) (sets-eq vs l 0 (omega arith)) ∙ take_at vs (drop (0 + length vs) l) n e

module _ (file sentence trace : List ℕ) (accepted : grammar_refusal file ≡ none) where
  abbrev g : Grammar
  g = grammar_of file

  pub start_small : start_of file < 64
  start_small = omega (arith, start_in file accepted, categories_in file accepted)

  pub trace_long : 96 < length trace → trace_refusal g sentence trace ≡ some (Refusal.Analysis 12 0)
  trace_long h = rw (lt-ltb 96 (length trace) h)

  pub trace_empty : length trace ≡ 0 → trace_refusal g sentence trace ≡ some (Refusal.Analysis 17 0)
  trace_empty h = rw (le-ltb 96 (length trace) (omega arith), eq-eqb (length trace) 0 h)

  -- by ranks
  module _ (few : length trace ≤ 96) (some_steps : length trace ≡ 0 → ⊥) where
    pub trace_by_ranks : trace_refusal g sentence trace ≡ refusal_numbered g sentence 0 (begin_numbered g sentence) trace
    trace_by_ranks =
        sym ((ranks_agree file accepted sentence).refusals trace)
        ∙ ap₂ (λ (a b : Bool). refuse_if a (Refusal.Analysis 12 0) or_else refuse_if b (Refusal.Analysis 17 0) or_else refusal_numbered g sentence 0 (begin_numbered g sentence) trace)
        (le-ltb 96 (length trace) few) (ne_eqb (length trace) 0 some_steps)

    -- from the first queue
    module _ {c : ℕ} {w : List ℕ} (start : c ≡ start_of file) (first : FirstQueue c w) {at : Standing} (standing : at ≡ begin (length trace)) where
      first_of_grammar : FirstQueue g.start w
      first_of_grammar = subst (λ (a : ℕ). FirstQueue a w) start first

      -- the run of the trace begins there
      pub begin_runs : (t : List ℕ) → Compiled (grammar_of file) t → Runs (grammar_of file) t sentence w at (length trace)
      begin_runs t compiled =
          subst (λ (x : Standing). Runs g t sentence w x (length trace)) (sym standing)
          (record { ready = ready_begin g (accepted_well file accepted) w first_of_grammar t sentence (length trace) compiled (omega arith) few; whole = omega arith })

      -- with the first state
      pub begin_state : state_in (grammar_of file) sentence w at ≡ begin_numbered (grammar_of file) sentence
      begin_state = ap (state_in g sentence w) standing ∙ state_begin g (accepted_well file accepted) w first_of_grammar sentence (length trace)

      -- and what it says is so of the whole trace
      pub begin_says : (before last : List ℕ) → length before ≡ 96 → (v : Verdict) → RunSays (grammar_of file) sentence trace at.steps (state_in (grammar_of file) sentence w at) before last v → TraceSays (grammar_of file) sentence trace last v
      begin_says before last l v says = from_begin (subst (λ (s : RankedState ℕ). RunSays g sentence trace 0 s before last v) begin_state (subst (λ (k : ℕ). RunSays g sentence trace k (state_in g sentence w at) before last v) (ap (λ (x : Standing). x.steps) standing) says))
        where
          from_begin : RunSays g sentence trace 0 (begin_numbered g sentence) before last v → TraceSays g sentence trace last v
          from_begin h =
              record {
                answer = h.answer ∙ ap (λ (o : Option Refusal). verdict o (length trace)) (sym trace_by_ranks);
                taken = λ a.
                    let e = sym trace_by_ranks ∙ a in
                    let s = begin_numbered g sentence in
                    ap (take (length trace)) (h.taken e) ∙ stored_front before (taken_numbered g 0 s trace) (length trace) (taken_length g sentence 0 s trace e) (omega arith);
              }
