-- One step: what it leads to by the definition, and that the recognizer stands there.
-- Assumes nothing.
use Rattle.std.specs.Prelude.{if◌then◌else◌}
use mathlib.Core.Path.{◌≡◌, sym, ap, ap₂, subst, subst⁻¹, ◌∙◌}
use mathlib.Core.Bool.{Bool, true, false}
use mathlib.Core.Option.{Option}
use mathlib.Core.List.{List, ◌∷◌, map}
use Prim.Native.Nat.{ℕ, suc, ◌+◌, ◌-◌, ◌*◌, ◌<◌, ◌≤◌}
use native.Mathlib.Omega.{arith}
use borrow.Author.Tests.{eq-eqb}
use lib.ListN.{length, get_or, drop}
use lib.Seq.{slice}
use Rattle.model.specs.Grammar.{Rule, Grammar, is_lexical}
use Rattle.model.specs.WellFormed.{RightRule}
use Rattle.model.proofs.Apart.{Every, every_to}
use Rattle.ranking.specs.Recognizer.{stops, goes}
use Rattle.ranking.specs.Ranks.{Ranked, RankedState, scan_ranked, without_front, predict_ranked, apply_ranked, step_ranked}
use Rattle.ranking.specs.Numbered.{made_at, number_at}
use Rattle.ranking.proofs.Limits.{Reached, reached_step, Counts, step_counts}
use Rattle.ranking.proofs.Numbered.{Below, below_step}
use Rattle.ranks.specs.Held.{number_of, prediction_of, queue_in, Fits}
use Rattle.ranks.proofs.Fitting.{all_fit}
use Rattle.ranks.proofs.Holding.{queue_is, held, queue_length, queue_first}
use Rattle.steps.specs.declared.Standing.{Standing}
use Rattle.steps.specs.Steps.{state_in, Ready, Fronted}

module _ (g : Grammar) (t sentence w : List ℕ) (at : Standing) (ready : Ready g t sentence w at) where
  abbrev pub state : RankedState ℕ
  state = state_in g sentence w at

  pub pending : length state.queue ≡ at.to - at.from
  pending = queue_length g w at.from at.to ready.held

  -- a step that leads to the queue q, with so many words read, and its numbers written behind
  module _ (r read : ℕ) (q : List (Ranked ℕ)) (leads : step_ranked (number_at at.steps) g state r ≡ goes (record { queue = q; words = drop read sentence })) where
    counts : Counts 3 state (record { queue = q; words = drop read sentence })
    counts = step_counts (number_at at.steps) g ready.well state (record { queue = q; words = drop read sentence }) r leads

    module _ (fits : length q + 1 ≤ at.left) (known : read ≤ length sentence) (heard : read ≤ at.read + 1) (w' : List ℕ) (kept : length w' ≡ length w) (numbers : slice at.to (at.to + length q) w' ≡ map number_of q) where
      abbrev pub next : Standing
      next = record { from = at.to; to = at.to + length q; read = read; steps = at.steps + 1; left = at.left - 1 }

      reached : Reached g (record { queue = q; words = drop read sentence })
      reached = reached_step (number_at at.steps) g ready.well.right state (record { queue = q; words = drop read sentence }) r ready.reached leads

      grown : length q ≤ 1 + 2 * (at.steps + 1)
      grown = omega (arith, counts.pending, counts.few_new, counts.some_left, pending, ready.grown)

      below : Below (made_at (suc at.steps)) q
      below = below_step g at.steps ready.well state (record { queue = q; words = drop read sentence }) r ready.numbered leads

      all_fits : Every (Fits g) q
      all_fits =
          all_fit g ready.well (record { queue = q; words = drop read sentence }) reached (omega (arith, grown, fits, ready.few))
          (every_to (λ p. p.node < made_at (suc at.steps)) (λ p. p.node < 512) (λ p l. omega (arith, l, ready.few, fits)) q below)

      queue : queue_in g w' at.to (at.to + length q) ≡ q
      queue = queue_is g w' at.to (at.to + length q) q all_fits numbers

      state_is : state_in g sentence w' next ≡ record { queue = q; words = drop read sentence }
      state_is = ap (λ (l : List (Ranked ℕ)). record { queue = l; words = drop read sentence }) queue

      pub leads_there : step_ranked (number_at at.steps) g state r ≡ goes (state_in g sentence w' next)
      leads_there = leads ∙ ap goes (sym state_is)

      pub stands_there : Ready g t sentence w' next
      stands_there =
          record {
            well = ready.well;
            compiled = ready.compiled;
            held = held g w' at.to (at.to + length q) q all_fits numbers (kept ∙ ready.held.long) (omega arith) (omega (arith, ready.room, grown, fits, ready.few));
            known = known;
            heard = omega (arith, heard, ready.heard);
            reached = subst⁻¹ (Reached g) state_is reached;
            numbered = let z : suc at.steps ≡ at.steps + 1 = omega arith in subst (λ (n : ℕ). Below (made_at n) (queue_in g w' at.to (at.to + length q))) z (subst⁻¹ (Below (made_at (suc at.steps))) queue below);
            grown = omega (arith, grown);
            fits = omega (arith, fits);
            few = omega (arith, fits, ready.few);
            room = omega (arith, ready.room, grown, fits, ready.few);
          }

  -- the front, and a rule of its category
  module _ (r : ℕ) (front : Fronted g w at r) where
    abbrev pub rule : Rule
    rule = front.rule

    abbrev pub x : Ranked ℕ
    x = prediction_of g (get_or w at.from 0)

    abbrev pub R : List (Ranked ℕ)
    R = queue_in g w (at.from + 1) at.to

    pub split : state.queue ≡ x ∷ R
    split = queue_first g w at.from at.to ready.held front.predicted

    pub right : RightRule g rule
    right = ready.well.right.rules r rule front.rule_is

    pub reached_front : Reached g (record { queue = x ∷ R; words = drop at.read sentence })
    reached_front = subst (λ (q : List (Ranked ℕ)). Reached g (record { queue = q; words = drop at.read sentence })) split ready.reached

    pub fit_front : Every (Fits g) (x ∷ R)
    fit_front = subst (Every (Fits g)) split ready.held.fit

    pub others_length : length R ≡ at.to - at.from - 1
    others_length = omega (arith, ap length split, pending)

    applied : step_ranked (number_at at.steps) g state r
        ≡ (if is_lexical rule then scan_ranked rule.word (without_front x R) (drop at.read sentence) else goes (record { queue = predict_ranked (number_at at.steps) g rule x R; words = drop at.read sentence }))
    applied =
        ap₂ (λ (o : Option Rule) (q : List (Ranked ℕ)). apply_ranked (number_at at.steps) g o q (drop at.read sentence)) front.rule_is split
        ∙ ap (λ (b : Bool). if b then (if is_lexical rule then scan_ranked rule.word (without_front x R) (drop at.read sentence) else goes (record { queue = predict_ranked (number_at at.steps) g rule x R; words = drop at.read sentence })) else stops 15)
        (eq-eqb rule.category x.category front.of_front)

    pub scans : is_lexical rule ≡ true → step_ranked (number_at at.steps) g state r ≡ scan_ranked rule.word (without_front x R) (drop at.read sentence)
    scans e = applied ∙ ap (λ (b : Bool). if b then scan_ranked rule.word (without_front x R) (drop at.read sentence) else goes (record { queue = predict_ranked (number_at at.steps) g rule x R; words = drop at.read sentence })) e

    pub predicts : is_lexical rule ≡ false → step_ranked (number_at at.steps) g state r ≡ goes (record { queue = predict_ranked (number_at at.steps) g rule x R; words = drop at.read sentence })
    predicts e = applied ∙ ap (λ (b : Bool). if b then scan_ranked rule.word (without_front x R) (drop at.read sentence) else goes (record { queue = predict_ranked (number_at at.steps) g rule x R; words = drop at.read sentence })) e
