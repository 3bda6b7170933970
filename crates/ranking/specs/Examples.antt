-- K3 by ranks, and the ranks of a queue whose predictions interleave.
-- Assumes nothing.
use Rattle.std.specs.Prelude.{refl, ℕ, List, [], ◌∷◌, map}
use Rattle.std.proofs.Math.Option.{Option, none, some}
use Rattle.model.specs.Step.{singles}
use Rattle.model.specs.Trace.{no_node}
use Rattle.model.specs.Examples.{Claim, ◌is◌, AllHold, copy}
use Rattle.ranking.specs.Recognizer.{run_by}
use Rattle.ranking.specs.Ranks.{RankedState, rank_recognizer, start_ranked, trace_refusal_ranked, tree_of_ranked, trace_of_ranked}

-- the queue after the steps of a trace, as categories with their ranks
abbrev pub shown_ranks : Option (RankedState (Unit {0})) → List (ℕ × List ℕ)
shown_ranks none = []
shown_ranks (some t) = map (λ p. (p.category, p.ranks)) t.queue

abbrev pub ranks_after : List ℕ → List (ℕ × List ℕ)
ranks_after trace = shown_ranks (run_by (rank_recognizer no_node copy) (start_ranked copy (singles (0 ∷ 1 ∷ 0 ∷ 1 ∷ []))) trace)

-- copy, 0 1 0 1: trace 0 1 5 4 6 5 6
abbrev pub by_ranks : List Claim
by_ranks =
    ranks_after [] is ((0, 0 ∷ []) ∷ [])
    ∷ ranks_after (0 ∷ []) is ((1, 0 ∷ 1 ∷ []) ∷ [])
    ∷ ranks_after (0 ∷ 1 ∷ []) is ((2, 0 ∷ []) ∷ (1, 1 ∷ 3 ∷ []) ∷ (2, 2 ∷ []) ∷ [])
    ∷ ranks_after (0 ∷ 1 ∷ 5 ∷ []) is ((1, 0 ∷ 2 ∷ []) ∷ (2, 1 ∷ []) ∷ [])
    ∷ ranks_after (0 ∷ 1 ∷ 5 ∷ 4 ∷ []) is ((3, 0 ∷ []) ∷ (2, 1 ∷ []) ∷ (3, 2 ∷ []) ∷ [])
    ∷ ranks_after (0 ∷ 1 ∷ 5 ∷ 4 ∷ 6 ∷ 5 ∷ 6 ∷ []) is []
    ∷ trace_refusal_ranked copy (singles (0 ∷ 1 ∷ 0 ∷ 1 ∷ [])) (0 ∷ 1 ∷ 5 ∷ 4 ∷ 6 ∷ 5 ∷ 6 ∷ []) is none
    ∷ tree_of_ranked copy (singles (0 ∷ 1 ∷ 0 ∷ 1 ∷ [])) (0 ∷ 1 ∷ 5 ∷ 4 ∷ 6 ∷ 5 ∷ 6 ∷ []) is (0 ∷ 1 ∷ 5 ∷ 4 ∷ 6 ∷ 6 ∷ 5 ∷ [])
    ∷ trace_of_ranked copy (singles (0 ∷ 1 ∷ 0 ∷ 1 ∷ [])) (0 ∷ 1 ∷ 5 ∷ 4 ∷ 6 ∷ 6 ∷ 5 ∷ []) is (0 ∷ 1 ∷ 5 ∷ 4 ∷ 6 ∷ 5 ∷ 6 ∷ [])
    ∷ []

pub by_ranks_lem : AllHold by_ranks
by_ranks_lem = (refl, (refl, (refl, (refl, (refl, (refl, (refl, (refl, (refl, tt)))))))))
