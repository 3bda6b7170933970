-- The run along a tree, step by step: its trace, and whether that is accepted.
-- Assumes nothing.
use mathlib.Core.Path.{◌≡◌, refl, sym, ap, subst, ◌∙◌}
use mathlib.Core.Bool.{Bool, true, false}
use mathlib.Core.Option.{none}
use mathlib.Core.List.{List, [], ◌∷◌}
use Prim.Native.Nat.{ℕ, suc, ◌-◌, ◌<◌, ◌≤◌}
use native.Mathlib.Omega.{arith}
use lib.ListN.{length, drop, set}
use lib.Seq.{sets}
use Rattle.model.specs.Grammar.{Grammar}
use Rattle.model.specs.Tree.{Tree}
use Rattle.model.specs.Conversions.{label, subtree}
use Rattle.model.proofs.Tests.{none_some}
use Rattle.ranking.specs.Recognizer.{Moved, stops, goes}
use Rattle.ranking.specs.Ranks.{Ranked, RankedState, step_ranked}
use Rattle.ranking.specs.Numbered.{number_at, names_after, trace_numbered}
use Rattle.recognizer.specs.Traces.{refusal_numbered}
use Rattle.recognizer.proofs.Running.{step_halted, step_long, step_short, end_left, end_read}
use Rattle.derivation.proofs.Names.{Named}

-- the trace of these trees from state s has n steps, and is accepted as steps k and after of a trace
pub record Traced (g : Grammar) (sentence : List ℕ) (k n : ℕ) (names : ℕ → Tree) (s : RankedState ℕ) : Type 0 where
  pub size : length (trace_numbered g n k names s) ≡ n
  pub accepted : refusal_numbered g sentence k s (trace_numbered g n k names s) ≡ none

-- what an answer says: the trace is accepted and stored from place k on; or it is not
abbrev pub RunSays : Grammar → List ℕ → ℕ → ℕ → (ℕ → Tree) → RankedState ℕ → List ℕ → List ℕ → Bool → Type 0
RunSays g sentence k n names s before after true = Traced g sentence k n names s × (after ≡ sets before k (trace_numbered g n k names s))
RunSays g sentence k n names s before after false = Traced g sentence k n names s → ⊥

-- for all trees that the predictions stand for
abbrev pub TreeRun : Grammar → List ℕ → List ℕ → ℕ → RankedState ℕ → List ℕ → List ℕ → List ℕ → Bool → Type 0
TreeRun g sentence list k s places before after answer =
    (names : ℕ → Tree) → Named g list places s.queue names → RunSays g sentence k (length list - k) names s before after answer

module _ (g : Grammar) (sentence : List ℕ) (k n : ℕ) (names : ℕ → Tree) (S : RankedState ℕ) (before : List ℕ) where
  -- the end: the trace is accepted where no words are left
  module _ (ended : n ≡ 0) (read : ℕ) (words : S.words ≡ drop read sentence) where
    pub run_ended : length sentence ≤ read → RunSays g sentence k n names S before before true
    run_ended h =
        subst (λ (m : ℕ). RunSays g sentence k m names S before before true) (sym ended)
        (record { size = refl; accepted = end_read g sentence k S read words h }, refl)

    pub run_words_left : read < length sentence → (after : List ℕ) → RunSays g sentence k n names S before after false
    run_words_left h after =
        subst (λ (m : ℕ). RunSays g sentence k m names S before after false) (sym ended)
        (λ t. none_some (sym (end_left g sentence k S read words h) ∙ t.accepted))

  -- steps are left
  module _ (left : ℕ) (more : n ≡ suc left) where
    abbrev rest : ℕ → ℕ → Moved (RankedState ℕ) → List ℕ
    rest left p o = elim o [ stops i ↦ [] | goes s ↦ trace_numbered g left (suc k) (names_after subtree k names p) s ]

    abbrev from_queue : List (Ranked ℕ) → List ℕ
    from_queue q = elim q [ [] ↦ [] | p ∷ q ↦ label (names p.node) ∷ rest left p.node (step_ranked (number_at k) g S (label (names p.node))) ]

    -- and no prediction
    pub run_empty : S.queue ≡ [] → (after : List ℕ) → RunSays g sentence k n names S before after false
    run_empty e after =
        subst (λ (m : ℕ). RunSays g sentence k m names S before after false) (sym more)
        (λ t. let z = ap (λ (q : List (Ranked ℕ)). length (from_queue q)) e in omega (arith, t.size))

    -- the front stands for a node of rule r
    module _ (x : Ranked ℕ) (q : List (Ranked ℕ)) (fronted : S.queue ≡ x ∷ q) (r : ℕ) (labelled : label (names x.node) ≡ r) where
      traced_by : (o : Moved (RankedState ℕ)) → step_ranked (number_at k) g S r ≡ o → trace_numbered g (suc left) k names S ≡ r ∷ rest left x.node o
      traced_by o e =
          ap from_queue fronted
          ∙ ap (λ (l : ℕ). l ∷ rest left x.node (step_ranked (number_at k) g S l)) labelled
          ∙ ap (λ (p : Moved (RankedState ℕ)). r ∷ rest left x.node p) e

      pub run_halted : (i : ℕ) → step_ranked (number_at k) g S r ≡ stops i → (after : List ℕ) → RunSays g sentence k n names S before after false
      run_halted i e after =
          subst (λ (m : ℕ). RunSays g sentence k m names S before after false) (sym more)
          (λ t. none_some (sym (ap (refusal_numbered g sentence k S) (traced_by (stops i) e) ∙ step_halted g sentence k S r [] i e) ∙ t.accepted))

      -- the step leads to state s
      module _ (s : RankedState ℕ) (leads : step_ranked (number_at k) g S r ≡ goes s) where
        abbrev T : List ℕ
        T = trace_numbered g left (suc k) (names_after subtree k names x.node) s

        traced : trace_numbered g (suc left) k names S ≡ r ∷ T
        traced = traced_by (goes s) leads

        rest_size : length (trace_numbered g (suc left) k names S) ≡ suc left → length T ≡ left
        rest_size e = omega (arith, ap length traced)

        pub run_long : left < length s.queue → (after : List ℕ) → RunSays g sentence k n names S before after false
        run_long h after =
            subst (λ (m : ℕ). RunSays g sentence k m names S before after false) (sym more)
            (λ t. none_some (sym (ap (refusal_numbered g sentence k S) traced ∙ step_long g sentence k S r T s leads (omega (arith, rest_size t.size))) ∙ t.accepted))

        pub run_further : length s.queue ≤ left → (after : List ℕ) (answer : Bool)
            → RunSays g sentence (suc k) left (names_after subtree k names x.node) s (set before k r) after answer → RunSays g sentence k n names S before after answer
        run_further h after answer says = subst (λ (m : ℕ). RunSays g sentence k m names S before after answer) (sym more) (go answer says)
          where
            passed : length T ≡ left → refusal_numbered g sentence k S (trace_numbered g (suc left) k names S) ≡ refusal_numbered g sentence (suc k) s T
            passed e = ap (refusal_numbered g sentence k S) traced ∙ step_short g sentence k S r T s leads (omega arith)

            go : (b : Bool) → RunSays g sentence (suc k) left (names_after subtree k names x.node) s (set before k r) after b → RunSays g sentence k (suc left) names S before after b
            go true f = (
              record { size = ap length traced ∙ ap suc f.0.size; accepted = passed f.0.size ∙ f.0.accepted },
              f.1 ∙ sym (ap (sets before k) traced),
            )
            go false f = λ t. f (record { size = rest_size t.size; accepted = sym (passed (rest_size t.size)) ∙ t.accepted })
