-- The run along a trace, step by step: what its verdict is, and which predictions it takes.
-- Assumes nothing.
use Rattle.std.specs.Prelude.{if◌then◌else◌}
use mathlib.Core.Path.{◌≡◌, refl, sym, ap, ap₂, ◌∙◌}
use mathlib.Core.Bool.{Bool}
use mathlib.Core.Option.{Option, none, some}
use mathlib.Core.List.{List, [], ◌∷◌}
use Prim.Native.Nat.{ℕ, suc, ◌+◌, ◌-◌, ◌<◌, ◌≤◌}
use native.Mathlib.Omega.{arith}
use native.Mathlib.Numerals.{add-one}
use borrow.Author.Tests.{lt-ltb, le-ltb}
use lib.Dec.{ltb}
use lib.ListN.{length, get_or, drop, set, length-drop, drop_of_length-le, length-map}
use lib.Seq.{drop-cons, sets}
use Rattle.model.specs.declared.Refusal.{Refusal}
use Rattle.model.specs.Verdict.{refuse_if, verdict, Verdict}
use Rattle.model.specs.Grammar.{Grammar}
use Rattle.model.specs.Trace.{no_node}
use Rattle.ranking.specs.Recognizer.{Moved, stops, goes, refusal_from}
use Rattle.ranking.specs.Ranks.{Ranked, RankedState, step_ranked, rank_recognizer}
use Rattle.ranking.specs.Numbered.{number_at, plain, plain_moved}
use Rattle.ranking.proofs.Limits.{step_counts}
use Rattle.ranking.proofs.Numbered.{step_plain}
use Rattle.ranks.specs.Prediction.{unpacked}
use Rattle.steps.specs.declared.Standing.{Standing}
use Rattle.steps.specs.Steps.{state_in, LeadsTo}
use Rattle.steps.proofs.Front.{queue_front, queue_length}
use Rattle.recognizer.specs.Traces.{Runs, refusal_numbered, front_number, taken_numbered}

-- what a trace's refusal is after its first step, number k, where the steps `rest` follow
abbrev pub refusal_after : Grammar → List ℕ → ℕ → List ℕ → Moved (RankedState (Unit {0})) → Option Refusal
refusal_after g sentence k rest o =
    elim o [
      | stops n ↦ some (Refusal.Analysis n k)
      | goes s ↦ if ltb (length rest) (length s.queue) then some (Refusal.Analysis 17 (suc k)) else refusal_from (rank_recognizer no_node g) (length sentence) (suc k) s rest
    ]

-- a step from state S, and the steps after it
module _ (g : Grammar) (sentence : List ℕ) (k : ℕ) (S : RankedState ℕ) (r : ℕ) (rest : List ℕ) where
  by_step : (o : Moved (RankedState ℕ)) → step_ranked (number_at k) g S r ≡ o → refusal_numbered g sentence k S (r ∷ rest) ≡ refusal_after g sentence k rest (plain_moved o)
  by_step o e = ap (refusal_after g sentence k rest) (sym (step_plain g k S r) ∙ ap plain_moved e)

  pub step_halted : (n : ℕ) → step_ranked (number_at k) g S r ≡ stops n → refusal_numbered g sentence k S (r ∷ rest) ≡ some (Refusal.Analysis n k)
  step_halted n e = by_step (stops n) e

  module _ (s : RankedState ℕ) (leads : step_ranked (number_at k) g S r ≡ goes s) where
    as_many : length (plain s).queue ≡ length s.queue
    as_many = length-map s.queue (λ (p : Ranked ℕ). record { category = p.category; ranks = p.ranks; node = tt })

    pub step_long : length rest < length s.queue → refusal_numbered g sentence k S (r ∷ rest) ≡ some (Refusal.Analysis 17 (suc k))
    step_long h =
        by_step (goes s) leads
        ∙ ap (λ (b : Bool). if b then some (Refusal.Analysis 17 (suc k)) else refusal_numbered g sentence (suc k) s rest) (lt-ltb (length rest) (length (plain s).queue) (omega (arith, as_many)))

    pub step_short : length s.queue ≤ length rest → refusal_numbered g sentence k S (r ∷ rest) ≡ refusal_numbered g sentence (suc k) s rest
    step_short h =
        by_step (goes s) leads
        ∙ ap (λ (b : Bool). if b then some (Refusal.Analysis 17 (suc k)) else refusal_numbered g sentence (suc k) s rest) (le-ltb (length rest) (length (plain s).queue) (omega (arith, as_many)))

-- the end: 18 where words are left
module _ (g : Grammar) (sentence : List ℕ) (k : ℕ) (S : RankedState ℕ) (read : ℕ) (words : S.words ≡ drop read sentence) where
  left_over : length S.words ≡ length sentence - read
  left_over = ap length words ∙ length-drop read sentence

  pub end_left : read < length sentence → refusal_numbered g sentence k S [] ≡ some (Refusal.Analysis 18 read)
  end_left h =
      let e : length sentence - length S.words ≡ read = omega (arith, left_over) in
      ap₂ (λ (b : Bool) (p : ℕ). refuse_if b (Refusal.Analysis 18 p)) (lt-ltb 0 (length S.words) (omega (arith, left_over))) e

  pub end_read : length sentence ≤ read → refusal_numbered g sentence k S [] ≡ none
  end_read h = ap (λ (b : Bool). refuse_if b (Refusal.Analysis 18 (length sentence - length S.words))) (le-ltb 0 (length S.words) (omega (arith, left_over)))

-- a step of a run of n steps leads on
module _ {g : Grammar} {t sentence w : List ℕ} {at : Standing} (n : ℕ) (runs : Runs g t sentence w at n) (more : at.steps < n) (r : ℕ) {w' : List ℕ} {next : Standing} (leads : LeadsTo g t sentence w w' at r next) where
  pub next_steps : next.steps ≡ at.steps + 1
  next_steps = ap (λ (x : Standing). x.steps) leads.place

  next_left : next.left + 1 ≡ at.left
  next_left = let e = ap (λ (x : Standing). x.left) leads.place in omega (arith, runs.whole)

  pub left_falls : next.left < at.left
  left_falls = omega (arith, next_left)

  pub next_short : length (state_in g sentence w' next).queue < at.left
  next_short = omega (arith, queue_length g w' next.from next.to leads.ready.held, leads.ready.fits, next_left)

  pub runs_further : Runs g t sentence w' next n
  runs_further = record { ready = leads.ready; whole = omega (arith, next_steps, next_left, runs.whole) }

-- a run that stands somewhere
module _ {g : Grammar} {t sentence w : List ℕ} {at : Standing} (trace : List ℕ) (runs : Runs g t sentence w at (length trace)) where
  abbrev k : ℕ
  k = at.steps

  abbrev S : RankedState ℕ
  S = state_in g sentence w at

  abbrev refusal : Option Refusal
  refusal = refusal_numbered g sentence at.steps (state_in g sentence w at) (drop at.steps trace)

  pub from_small : at.from < 6272
  from_small = omega (arith, runs.ready.held.ordered, runs.ready.room, runs.ready.few)

  module _ (ended : length trace ≤ at.steps) where
    no_steps : drop k trace ≡ []
    no_steps = drop_of_length-le trace {i = k} ended

    pub words_left : at.read < length sentence → refusal ≡ some (Refusal.Analysis 18 at.read)
    words_left h = ap (refusal_numbered g sentence k S) no_steps ∙ end_left g sentence k S at.read refl h

    pub all_read : length sentence ≤ at.read → refusal ≡ none
    all_read h = ap (refusal_numbered g sentence k S) no_steps ∙ end_read g sentence k S at.read refl h

    pub none_taken : taken_numbered g at.steps (state_in g sentence w at) (drop at.steps trace) ≡ []
    none_taken = ap (taken_numbered g k S) no_steps

  -- one step further
  module _ (more : at.steps < length trace) where
    abbrev r : ℕ
    r = get_or trace k 0

    abbrev rest : List ℕ
    rest = drop (k + 1) trace

    steps : drop k trace ≡ r ∷ rest
    steps = drop-cons trace k 0 more ∙ ap (λ (i : ℕ). r ∷ drop i trace) (sym (add-one k))

    rest_length : length rest + 1 ≡ at.left
    rest_length = omega (arith, length-drop (k + 1) trace, runs.whole)

    pub halted : (n : ℕ) → step_ranked (number_at k) g S r ≡ stops n → refusal ≡ some (Refusal.Analysis n k)
    halted n e = ap (refusal_numbered g sentence k S) steps ∙ step_halted g sentence k S r rest n e

    pub longer : (s : RankedState ℕ) → step_ranked (number_at k) g S r ≡ goes s → at.left ≤ length s.queue → refusal ≡ some (Refusal.Analysis 17 (k + 1))
    longer s e h =
        ap (refusal_numbered g sentence k S) steps ∙ step_long g sentence k S r rest s e (omega (arith, rest_length))
        ∙ ap (λ (p : ℕ). some (Refusal.Analysis 17 p)) (sym (add-one k))

    module _ {w' : List ℕ} {next : Standing} (leads : LeadsTo g t sentence w w' at r next) where
      abbrev s : RankedState ℕ
      s = state_in g sentence w' next

      steps_are : next.steps ≡ k + 1
      steps_are = next_steps (length trace) runs more r leads

      further : refusal ≡ refusal_numbered g sentence next.steps s (drop next.steps trace)
      further =
          ap (refusal_numbered g sentence k S) steps
          ∙ step_short g sentence k S r rest s leads.leads_to (omega (arith, next_short (length trace) runs more r leads, rest_length))
          ∙ ap₂ (λ (i j : ℕ). refusal_numbered g sentence i s (drop j trace)) (sym (steps_are ∙ add-one k)) (sym steps_are)

      taken_first : taken_numbered g k S (drop k trace) ≡ front_number S.queue ∷ taken_numbered g next.steps s (drop next.steps trace)
      taken_first =
          ap (taken_numbered g k S) steps
          ∙ ap (λ (o : Moved (RankedState ℕ)). elim o [ stops n ↦ [] | goes s' ↦ front_number S.queue ∷ taken_numbered g (suc k) s' rest ]) leads.leads_to
          ∙ ap₂ (λ (i j : ℕ). front_number S.queue ∷ taken_numbered g i s (drop j trace)) (sym (steps_are ∙ add-one k)) (sym steps_are)

      pub verdict_further : (v : Verdict) → v ≡ verdict (refusal_numbered g sentence next.steps (state_in g sentence w' next) (drop next.steps trace)) (length trace) → v ≡ verdict refusal (length trace)
      verdict_further v e = e ∙ ap (λ (o : Option Refusal). verdict o (length trace)) (sym further)

      front_is : front_number S.queue ≡ (unpacked (get_or w at.from 0)).number
      front_is =
          let held = runs.ready.held in
          let c = step_counts (number_at k) g runs.ready.well S s r leads.leads_to in
          ap front_number (queue_front g w at.from at.to held (omega (arith, c.some_left, queue_length g w at.from at.to held)))

      pub taken_further : (before last : List ℕ) (x : ℕ)
          → (refusal_numbered g sentence next.steps (state_in g sentence w' next) (drop next.steps trace) ≡ none → last ≡ sets (set before at.steps x) next.steps (taken_numbered g next.steps (state_in g sentence w' next) (drop next.steps trace)))
          → x ≡ (unpacked (get_or w at.from 0)).number → refusal ≡ none → last ≡ sets before at.steps (taken_numbered g at.steps (state_in g sentence w at) (drop at.steps trace))
      taken_further before last x h e a =
          h (sym further ∙ a)
          ∙ ap₂ (λ (i y : ℕ). sets (set before k y) i (taken_numbered g next.steps s (drop next.steps trace))) (steps_are ∙ add-one k) (e ∙ sym front_is)
          ∙ sym (ap (sets before k) taken_first)
