-- The tables of an accepted file and its first queue: there the walk over its live prefixes starts.
-- Assumes nothing.
use mathlib.Core.Path.{◌≡◌, subst}
use mathlib.Core.Option.{none}
use mathlib.Core.List.{List}
use Prim.Native.Nat.{ℕ, ◌<◌, ◌≤◌}
use native.Mathlib.Omega.{arith}
use lib.ListN.{length}
use Rattle.model.specs.GrammarFile.{grammar_refusal, grammar_of, start_of}
use Rattle.model.specs.Counting.{limits_refusal}
use Rattle.model.proofs.FromFile.{start_in, categories_in}
use Rattle.model.proofs.WellFormed.{accepted_well}
use Rattle.ranks.specs.Held.{FirstQueue}
use Rattle.ranks.specs.Table.{Compiled}
use Rattle.steps.proofs.Begin.{ready_begin}
use Rattle.walk.specs.Chain.{Chained}
use Rattle.tally.specs.Tallies.{Starts}
use Rattle.tally.specs.Answers.{MayCount, MayEnter}
use Rattle.analyses.proofs.Limits.{ranges}

module _ (file : List ℕ) (accepted : grammar_refusal file ≡ none) where
  pub start_small : (a : ℕ) → a ≡ start_of file → a < 64
  start_small a e = omega (arith, start_in file accepted, categories_in file accepted)

  module _ (t chain sentence w : List ℕ) (n limit a : ℕ) (compiled : Compiled (grammar_of file) t) (chained : Chained (grammar_of file) chain) (start : a ≡ start_of file)
      (first : FirstQueue a w) (limits : limits_refusal n limit ≡ none) where
    pub file_starts : Starts (grammar_of file) t chain sentence w n
    file_starts =
        let r = ranges n limit limits in
        let f : FirstQueue (grammar_of file).start w = subst (λ (x : ℕ). FirstQueue x w) start first in
        record {
          ready = ready_begin (grammar_of file) (accepted_well file accepted) w f t sentence n compiled r.nodes_some r.nodes_few;
          chained = chained;
          first = f;
          some_steps = r.nodes_some;
        }

    pub file_counts : MayCount t chain sentence w n limit
    file_counts = record { grammar = grammar_of file; starts = file_starts; limited = (ranges n limit limits).limit_few }

    pub file_enters : (out : List ℕ) → 96 ≤ length out → MayEnter t chain sentence w n limit out
    file_enters out room = record { grammar = grammar_of file; starts = file_starts; limited = (ranges n limit limits).limit_few; room = room }
