-- The figures of the survey after n rounds: a figure stays, a round that changes nothing is followed by no other change, and as many rounds as there
-- are categories are enough. Below, F are figures, k is the round and c a category.
-- Assumes nothing.
use Rattle.std.specs.Prelude.{if◌then◌else◌}
use mathlib.Core.Path.{◌≡◌, refl, sym, ap, subst, ◌∙◌}
use mathlib.Core.Logic.{◌⊎◌, inl, inr, ⊎_elim}
use mathlib.Core.Option.{some}
use mathlib.Core.List.{List, [], ◌∷◌}
use Prim.Native.Nat.{ℕ, zero, suc, ◌+◌, ◌<◌, ◌≤◌}
use native.Mathlib.Omega.{arith}
use native.Mathlib.Decide.{ℕ_discrete}
use lib.Dec.{eqb}
use lib.ListN.{length, get_or, set, length-set, length-replicate}
use borrow.Author.Tests.{eq-eqb, ne_eqb}
use Rattle.model.specs.Grammar.{Rule, Grammar, rule_at}
use Rattle.model.specs.WellFormed.{WellFormed}
use Rattle.model.specs.Survey.{survey_round, rounds, survey}
use Rattle.model.proofs.Lists.{number_below}
use Rattle.model.proofs.Tests.{after_test}
use Rattle.model.proofs.ByteLists.{zero_at}
use Rattle.model.proofs.SurveyVisits.{Found, Bounded, Keeps, Round, ready_found, found_ready, visits_keep, round, gives}

-- how many figures there are
figured : List ℕ → ℕ
figured [] = 0
figured (x ∷ F) = (if eqb x 0 then 0 else 1) + figured F

figured_most : (F : List ℕ) → figured F ≤ length F
unfolding figured
figured_most [] = omega arith
figured_most (x ∷ F) = after_test (λ (k : ℕ). k + figured F ≤ suc (length F)) (eqb x 0) (λ t. omega (arith, figured_most F)) (λ t. omega (arith, figured_most F))

figured_full : (F : List ℕ) → length F ≤ figured F → (c : ℕ) → c < length F → 0 < get_or F c 0
unfolding figured
figured_full [] h c l = let z : ⊥ = omega arith in absurd z
figured_full (x ∷ F) h c l = go (ℕ_discrete x 0) c l (λ h c l. figured_full F h c l)
  where
    go : Dec (x ≡ 0) → (c : ℕ) → c < suc (length F) → (length F ≤ figured F → (c : ℕ) → c < length F → 0 < get_or F c 0) → 0 < get_or (x ∷ F) c 0
    go (yes e) c l ih = absurd (omega (arith, figured_most F, rw (eq-eqb x 0 e) at h))
    go (no e) zero l ih = omega arith
    go (no e) (suc c) l ih = ih (omega (arith, rw (ne_eqb x 0 e) at h)) c (omega arith)

figured_set : (F : List ℕ) (c k : ℕ) → get_or F c 0 ≡ 0 → c < length F → 1 ≤ k → figured (set F c k) ≡ suc (figured F)
unfolding figured
figured_set [] c k e l i = let z : ⊥ = omega arith in absurd z
figured_set (x ∷ F) zero k e l i = rw (eq-eqb x 0 e, ne_eqb k 0 (λ q. omega arith)) (omega arith)
figured_set (x ∷ F) (suc c) k e l i = omega (arith, figured_set F c k e (omega arith) i)

-- what holds of n, and of the next where it holds of one, holds from n on
from : (n : ℕ) (P : ℕ → Type 0) → P n → ((m : ℕ) → P m → P (suc m)) → (m : ℕ) → n ≤ m → P m
from n P p step zero h = let z : n ≡ 0 = omega arith in subst P z p
from n P p step (suc m) h = go (ℕ_discrete n (suc m)) (λ h. from n P p step m h)
  where
    go : Dec (n ≡ suc m) → (n ≤ m → P m) → P (suc m)
    go (yes e) ih = subst P e p
    go (no e) ih = step m (ih (omega arith))

module _ (g : Grammar) where
  -- no figure is missing: every rule whose daughters have figures has a category with one
  abbrev Closed : List ℕ → Type 0
  Closed F = (r : ℕ) (rule : Rule) → rule_at g r ≡ some rule → Found F rule.daughters → 0 < get_or F rule.category 0

  -- where no figure is missing, no round changes anything
  closed_still : (k : ℕ) (F : List ℕ) → Closed F → survey_round g k F ≡ F
  closed_still k F c = visits_keep g k (λ G. G ≡ F) step F (length g.rules) refl
    where
      step : Keeps g k (λ G. G ≡ F)
      step G r rule e z t p =
          absurd (omega (arith, c r rule e (ready_found k F rule.daughters (rw p at t)), ap (λ (H : List ℕ). get_or H rule.category 0) p))

module _ (g : Grammar) (well : WellFormed g) where
  -- a round adds a figure, or changes nothing
  more_figures : (k : ℕ) (F : List ℕ) → 1 ≤ k → length F ≡ length g.dimensions → (figured F < figured (survey_round g k F)) ⊎ (survey_round g k F ≡ F)
  more_figures k F i l = (visits_keep g k More step F (length g.rules) (l, inr refl)).1
    where
      More : List ℕ → Type 0
      More G = (length G ≡ length g.dimensions) × ((figured F < figured G) ⊎ (G ≡ F))

      step : Keeps g k More
      step G r rule e z t p =
          let f = figured_set G rule.category k z (omega (arith, p.0, (well.ranges r rule e).category_is)) i in
          (length-set G rule.category k ∙ p.0, inl (⊎_elim (λ h. omega arith) (λ h. omega (arith, ap figured h)) p.1))

  -- the figures after n rounds
  pub rounds_long : (n : ℕ) → length (rounds g n) ≡ length g.dimensions
  rounds_long zero = length-replicate (length g.dimensions) 0
  rounds_long (suc n) = (round g well (suc n) (length g.rules) (rounds g n) (rounds_long n)).long ∙ rounds_long n

  pub next_round : (n : ℕ) → Round g (suc n) (rounds g n) (rounds g (suc n))
  next_round n = round g well (suc n) (length g.rules) (rounds g n) (rounds_long n)

  pub rounds_bounded : (n : ℕ) → Bounded n (rounds g n)
  rounds_bounded zero c = omega (arith, zero_at (length g.dimensions) c)
  rounds_bounded (suc n) c = ⊎_elim (λ q. omega (arith, rounds_bounded n c)) (λ q. omega (arith, q.1)) ((next_round n).each c)

  -- a rule whose daughters have figures after n rounds has a category with one after n + 1
  pub round_gives : (n r : ℕ) (rule : Rule) → rule_at g r ≡ some rule → Found (rounds g n) rule.daughters → 0 < get_or (rounds g (suc n)) rule.category 0
  round_gives n r rule e f =
      gives g well (suc n) (rounds g n) (omega arith) (rounds_long n) r rule e (found_ready n (rounds g n) rule.daughters (rounds_bounded n) f)
      (length g.rules) (number_below g.rules r e)

  -- after a round that changes nothing no figure is missing
  still_closed : (n : ℕ) → survey_round g (suc n) (rounds g n) ≡ rounds g n → Closed g (rounds g n)
  still_closed n s r rule e f = subst (λ (F : List ℕ). 0 < get_or F rule.category 0) s (round_gives n r rule e f)

  -- and no later round changes anything
  pub settled : (n m : ℕ) → survey_round g (suc n) (rounds g n) ≡ rounds g n → n ≤ m → rounds g m ≡ rounds g n
  settled n m s h =
      from n (λ (m : ℕ). rounds g m ≡ rounds g n) refl (λ m i. ap (survey_round g (suc m)) i ∙ closed_still g (suc m) (rounds g n) (still_closed n s)) m h

  -- a figure once given stays
  pub kept : (n m c : ℕ) → n ≤ m → 0 < get_or (rounds g n) c 0 → get_or (rounds g m) c 0 ≡ get_or (rounds g n) c 0
  kept n m c h p =
      from n (λ (m : ℕ). get_or (rounds g m) c 0 ≡ get_or (rounds g n) c 0) refl
      (λ m i. ⊎_elim (λ q. q ∙ i) (λ q. absurd (omega (arith, q.0))) ((next_round m).each c)) m h

  -- n rounds give n figures, or as many as there can be
  progress : (n : ℕ) → (n ≤ figured (rounds g n)) ⊎ Closed g (rounds g n)
  progress zero = inl (omega arith)
  progress (suc n) = go (progress n) (more_figures (suc n) (rounds g n) (omega arith) (rounds_long n))
    where
      go : (n ≤ figured (rounds g n)) ⊎ Closed g (rounds g n) → (figured (rounds g n) < figured (rounds g (suc n))) ⊎ (rounds g (suc n) ≡ rounds g n)
          → (suc n ≤ figured (rounds g (suc n))) ⊎ Closed g (rounds g (suc n))
      go (inl a) (inl h) = inl (omega arith)
      go (inl a) (inr e) = inr (subst (Closed g) (sym e) (still_closed n e))
      go (inr c) h = inr (subst (Closed g) (sym (closed_still g (suc n) (rounds g n) c)) c)

  -- the survey lacks no figure: more rounds change nothing
  survey_closed : Closed g (survey g)
  survey_closed r rule e h = ⊎_elim full (λ c. c r rule e h) (progress (length g.dimensions))
    where
      full : length g.dimensions ≤ figured (survey g) → 0 < get_or (survey g) rule.category 0
      full f =
          let l = rounds_long (length g.dimensions) in
          figured_full (survey g) (omega arith) rule.category (omega (arith, (well.ranges r rule e).category_is))

  pub survey_last : (m : ℕ) → length g.dimensions ≤ m → rounds g m ≡ survey g
  survey_last m = settled (length g.dimensions) m (closed_still g (suc (length g.dimensions)) (survey g) survey_closed)
