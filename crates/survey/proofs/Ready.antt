-- The daughters are ready where each of them passes the test.
-- Assumes nothing.
use mathlib.Core.Path.{◌≡◌, refl, sym, ap, ◌∙◌}
use mathlib.Core.Bool.{Bool, ◌&&◌}
use mathlib.Core.Option.{none}
use mathlib.Core.List.{List, [], ◌∷◌}
use Prim.Native.Nat.{ℕ, ◌+◌, ◌<◌}
use native.Mathlib.Omega.{arith}
use lib.Dec.{ltb}
use lib.ListN.{length, get_or}
use Rattle.std.specs.List.{list_all, range_with_len}
use Rattle.std.proofs.lemmas.List.Folds.{list_all-map}
use Rattle.std.proofs.lemmas.List.FromFn.{fill_by_all}
use Rattle.model.specs.GrammarFile.{grammar_refusal, grammar_of, rules_of, record_of, field, daughters_of}
use Rattle.model.specs.Survey.{ready}
use Rattle.model.proofs.ByteLists.{fields_at}
use Rattle.model.proofs.FromFile.{record_tested}
use Rattle.model.proofs.RuleFromRecord.{daughters_length}

pub all_ready : (round : ℕ) (figures ds : List ℕ) → list_all (λ d. ltb 0 (get_or figures d 0) && ltb (get_or figures d 0) round) ds ≡ ready round figures ds
all_ready round figures [] = refl
all_ready round figures (d ∷ ds) = rw (all_ready round figures ds)

-- the daughters of a rule of an accepted file, by their positions
module _ (file : List ℕ) (accepted : grammar_refusal file ≡ none) (r : ℕ) (below : r < rules_of file) where
  pub daughter_number : length (daughters_of (record_of file r)) ≡ field (record_of file r) 1
  daughter_number = daughters_length (grammar_of file) (record_of file r) (record_tested file accepted r below)

  pub ready_places : (round : ℕ) (figures : List ℕ) (n : ℕ) → n ≡ field (record_of file r) 1
      → list_all (λ j. ltb 0 (get_or figures (field (record_of file r) (2 + j)) 0) && ltb (get_or figures (field (record_of file r) (2 + j)) 0) round) (range_with_len 0 n)
      ≡ ready round figures (daughters_of (record_of file r))
  ready_places round figures n e =
      sym (ap (list_all test) (fill_by_all at ds n 0 (daughter_number ∙ sym e) (λ k l. fields_at (record_of file r) 2 (field (record_of file r) 1) k (omega (arith, e)))) ∙ list_all-map test at (range_with_len 0 n))
      ∙ all_ready round figures ds
    where
      ds : List ℕ
      ds = daughters_of (record_of file r)

      at : ℕ → ℕ
      at j = field (record_of file r) (2 + j)

      test : ℕ → Bool
      test d = ltb 0 (get_or figures d 0) && ltb (get_or figures d 0) round
