-- A lexical step on numbers is the step on predictions: the front has one component, of rank 0, and every other rank is one less.
-- Assumes nothing.
use mathlib.Core.Path.{◌≡◌, refl, sym, ap, subst, ◌∙◌}
use mathlib.Core.Bool.{true}
use mathlib.Core.List.{List, [], ◌∷◌, map}
use Prim.Native.Nat.{ℕ, zero, suc, ◌-◌}
use native.Mathlib.Omega.{arith}
use lib.ListN.{length}
use Rattle.model.specs.Grammar.{Rule, Grammar, is_lexical, dimension}
use Rattle.model.specs.WellFormed.{RightRule}
use Rattle.model.proofs.Apart.{Every}
use Rattle.ranking.specs.Ranks.{Ranked, least_rank, lowered, rerank, without_front}
use Rattle.ranking.proofs.Limits.{Reached}
use Rattle.ranking.proofs.Moving.{LeastGoes, lowered_least}
use Rattle.ranks.specs.Prediction.{remade}
use Rattle.ranks.specs.Held.{number_of, Fits}
use Rattle.ranks.proofs.Moved.{above_zero}
use Rattle.ranks.proofs.Fronts.{front_least}
use Rattle.ranks.proofs.Predicting.{moved_numbers}

-- the front alone holds rank 0
pub front_alone : (g : Grammar) (x : Ranked ℕ) (R : List (Ranked ℕ)) (ws : List ℕ) → Reached g (record { queue = x ∷ R; words = ws }) → Fits g x → dimension g x.category ≡ 1 → x.ranks ≡ 0 ∷ []
front_alone g x R ws reached fit one = go x.ranks (fit.sized ∙ one) (front_least g x R ws reached)
  where
    go : (rs : List ℕ) → length rs ≡ 1 → least_rank rs ≡ 0 → rs ≡ 0 ∷ []
    go [] e z = absurd (omega arith)
    go (a ∷ []) e z = ap (λ (n : ℕ). n ∷ []) z
    go (a ∷ b ∷ rs) e z = absurd (omega arith)

lowered_one : (r : ℕ) → lowered (0 ∷ []) r ≡ r - 1
lowered_one zero = refl
lowered_one (suc r) = omega (arith, above_zero 1 (suc r) (omega arith))

module _ (g : Grammar) (rule : Rule) (right : RightRule g rule) (lex : is_lexical rule ≡ true) (x : Ranked ℕ) (R : List (Ranked ℕ)) (ws : List ℕ)
    (reached : Reached g (record { queue = x ∷ R; words = ws })) (fit : Every (Fits g) (x ∷ R)) (of_front : rule.category ≡ x.category) where
  less : (r : ℕ) → lowered x.ranks r ≡ r - 1
  less r = ap (λ (ks : List ℕ). lowered ks r) (front_alone g x R ws reached fit.0 (ap (dimension g) (sym of_front) ∙ right.word_alone lex)) ∙ lowered_one r

  pub scanned_numbers : map (remade (λ n. n - 1)) (map number_of R) ≡ map number_of (without_front x R)
  scanned_numbers =
      moved_numbers g (λ n. n - 1) R fit.1
      (subst (λ (f : ℕ → ℕ). Every (LeastGoes f) R) (λ i r. less r i) (lowered_least (λ m k. 0) g reached.0 (record { queue = x ∷ R; words = ws }) reached.1 x R refl))
      ∙ ap (λ (f : ℕ → ℕ). map number_of (map (rerank f) R)) (λ i r. sym (less r) i)
