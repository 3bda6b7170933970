-- The start: the queue is the start category alone, and the recognizer is ready for the first step.
-- Assumes nothing.
use mathlib.Core.Path.{◌≡◌, refl, sym, ap, subst, ◌∙◌}
use mathlib.Core.List.{List, [], ◌∷◌}
use Prim.Native.Nat.{ℕ, zero, suc, ◌≤◌}
use native.Mathlib.Omega.{arith}
use lib.ListN.{get_or}
use lib.Seq.{slice, slice_empty, slice-cons}
use Rattle.model.specs.Grammar.{Grammar}
use Rattle.model.specs.WellFormed.{WellFormed}
use Rattle.ranking.specs.Ranks.{Ranked}
use Rattle.ranking.specs.Numbered.{made_at, number_at, begin_numbered}
use Rattle.ranking.proofs.Limits.{Reached, reached_begin}
use Rattle.ranking.proofs.Numbered.{Below}
use Rattle.ranks.specs.Held.{lane_of, number_of, queue_in, Fits, FirstQueue}
use Rattle.ranks.specs.Table.{Compiled}
use Rattle.ranks.proofs.Holding.{queue_is, held}
use Rattle.steps.specs.Steps.{state_in, Ready, begin}

-- the only component of the start category has rank 0
lanes_of_root : (c : ℕ) → lane_of (0 ∷ []) c ≡ 0
lanes_of_root zero = refl
lanes_of_root (suc c) = refl

module _ (g : Grammar) (well : WellFormed g) where
  abbrev root : Ranked ℕ
  root = record { category = g.start; ranks = 0 ∷ []; node = 0 }

  root_fits : Fits g root
  root_fits =
      record {
        sized = sym well.right.start_alone;
        some_ranks = omega arith;
        few_ranks = omega arith;
        small = λ c. omega (arith, lanes_of_root c);
        least_small = omega arith;
        category_small = omega (arith, well.start_is, well.categories);
        node_small = omega arith;
      }

  module _ (w : List ℕ) (first : FirstQueue g.start w) where
    first_numbers : slice 0 1 w ≡ number_of root ∷ []
    first_numbers = slice-cons 0 1 w 0 (omega arith) (omega (arith, first.long)) ∙ ap (λ (l : List ℕ). get_or w 0 0 ∷ l) (slice_empty 1 w) ∙ ap (λ (x : ℕ). x ∷ []) first.first

    first_queue : queue_in g w 0 1 ≡ root ∷ []
    first_queue = queue_is g w 0 1 (root ∷ []) (root_fits, tt) first_numbers

    -- the state is the first one
    pub state_begin : (sentence : List ℕ) (n : ℕ) → state_in g sentence w (begin n) ≡ begin_numbered g sentence
    state_begin sentence n = ap (λ (q : List (Ranked ℕ)). record { queue = q; words = sentence }) first_queue

    pub ready_begin : (t sentence : List ℕ) (n : ℕ) → Compiled g t → 1 ≤ n → n ≤ 96 → Ready g t sentence w (begin n)
    ready_begin t sentence n compiled some few =
        record {
          well = well;
          compiled = compiled;
          held = held g w 0 1 (root ∷ []) (root_fits, tt) first_numbers first.long (omega arith) (omega arith);
          known = omega arith;
          heard = omega arith;
          reached = subst (Reached g) (sym (state_begin sentence n)) (reached_begin (number_at 0) g well.right 0 sentence);
          numbered = subst (Below (made_at 0)) (sym first_queue) (omega arith, tt);
          grown = omega arith;
          fits = omega arith;
          few = omega arith;
          room = omega arith;
        }
