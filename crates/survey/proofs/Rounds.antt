-- Round after round: the figures before a round and after it, and where the rounds may stop.
-- Assumes nothing.
use mathlib.Core.Path.{◌≡◌, sym, ap, ◌∙◌}
use mathlib.Core.Option.{none}
use mathlib.Core.List.{List}
use Prim.Native.Nat.{ℕ, zero, suc, ◌+◌, ◌-◌, ◌≤◌}
use native.Mathlib.Omega.{arith}
use lib.ListN.{length, replicate}
use Rattle.model.specs.GrammarFile.{grammar_refusal, grammar_of, categories_of}
use Rattle.model.specs.Survey.{survey_round, rounds, survey}
use Rattle.model.proofs.FromFile.{dimensions_length}
use Rattle.model.proofs.WellFormed.{accepted_well}
use Rattle.model.proofs.SurveyRounds.{settled}

module _ (file : List ℕ) (accepted : grammar_refusal file ≡ none) where
  pub first_round : replicate (categories_of file) 0 ≡ rounds (grammar_of file) 0
  first_round = ap (λ (n : ℕ). replicate n 0) (sym (dimensions_length file accepted))

  pub next_round : (round : ℕ) (before after : List ℕ) → 1 ≤ round → before ≡ rounds (grammar_of file) (round - 1)
      → after ≡ survey_round (grammar_of file) round before → after ≡ rounds (grammar_of file) (round + 1 - 1)
  next_round zero before after h b a = let z : ⊥ = omega arith in absurd z
  next_round (suc n) before after h b a =
      let m : suc n - 1 ≡ n = omega arith in
      let k : suc n + 1 - 1 ≡ suc n = omega arith in
      a ∙ ap (survey_round (grammar_of file) (suc n)) (b ∙ ap (rounds (grammar_of file)) m) ∙ ap (rounds (grammar_of file)) (sym k)

  pub last_round : (round : ℕ) (figures : List ℕ) → round ≡ categories_of file + 1 → figures ≡ rounds (grammar_of file) (round - 1)
      → figures ≡ survey (grammar_of file)
  last_round round figures e f =
      let m : round - 1 ≡ length (grammar_of file).dimensions = omega (arith, dimensions_length file accepted) in
      f ∙ ap (rounds (grammar_of file)) m

  -- a round that changes nothing is the last
  pub idle_round : (round : ℕ) (before after : List ℕ) → 1 ≤ round → round ≤ categories_of file → before ≡ rounds (grammar_of file) (round - 1)
      → after ≡ survey_round (grammar_of file) round before → after ≡ before → after ≡ survey (grammar_of file)
  idle_round zero before after h l b a s = let z : ⊥ = omega arith in absurd z
  idle_round (suc n) before after h l b a s =
      let m : suc n - 1 ≡ n = omega arith in
      let f : before ≡ rounds (grammar_of file) n = b ∙ ap (rounds (grammar_of file)) m in
      let still : survey_round (grammar_of file) (suc n) (rounds (grammar_of file) n) ≡ rounds (grammar_of file) n
      = ap (survey_round (grammar_of file) (suc n)) (sym f) ∙ sym a ∙ s ∙ f in
      s ∙ f
      ∙ sym (settled (grammar_of file) (accepted_well file accepted) n (length (grammar_of file).dimensions) still (omega (arith, dimensions_length file accepted)))
