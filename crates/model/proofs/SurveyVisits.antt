-- What visits to the rules in one round of the survey do to the figures: a category keeps its figure, and gets that of the round if it has none and
-- a rule of it is ready. Below, F and G are figures, k is the round and c a category.
-- Assumes nothing.
use mathlib.Core.Path.{◌≡◌, refl, sym, ap, subst, ◌∙◌}
use mathlib.Core.Logic.{◌⊎◌, inl, inr, ⊎_elim}
use mathlib.Core.Bool.{◌&&◌}
use mathlib.Core.Option.{Option, none, some}
use mathlib.Core.List.{List, [], ◌∷◌}
use Prim.Native.Nat.{ℕ, zero, suc, ◌<◌, ◌≤◌}
use native.Mathlib.Omega.{arith}
use native.Mathlib.Decide.{ℕ_discrete}
use lib.Dec.{T, ltb, eqb, ltb→lt, lt→ltb, eqb→eq}
use lib.ListN.{length, get_or, set, length-set}
use lib.Seq.{get_or-set_same, get_or-set_other}
use borrow.Author.Tests.{eq-eqb}
use Rattle.model.specs.Grammar.{Rule, Grammar, rule_at}
use Rattle.model.specs.WellFormed.{WellFormed}
use Rattle.model.specs.Survey.{ready, due, visit_by, visit, visits}
use Rattle.model.proofs.Tests.{and_l, and_r, and_both, after_test}

-- every daughter has a figure
abbrev pub Found : List ℕ → List ℕ → Type 0
Found figures [] = Unit {0}
Found figures (d ∷ ds) = (0 < get_or figures d 0) × Found figures ds

-- no figure is above n
abbrev pub Bounded : ℕ → List ℕ → Type 0
Bounded n figures = (category : ℕ) → get_or figures category 0 ≤ n

module _ (k : ℕ) (F : List ℕ) where
  -- the tests of the first daughter, and of the others
  pub ready_first : (d : ℕ) (ds : List ℕ) → T (ready k F (d ∷ ds)) → (0 < get_or F d 0) × (get_or F d 0 < k)
  ready_first d ds t =
      let u = and_l (ltb 0 (get_or F d 0) && ltb (get_or F d 0) k) (ready k F ds) t in
      (ltb→lt 0 (get_or F d 0) (and_l (ltb 0 (get_or F d 0)) (ltb (get_or F d 0) k) u), ltb→lt (get_or F d 0) k (and_r (ltb 0 (get_or F d 0)) (ltb (get_or F d 0) k) u))

  pub ready_rest : (d : ℕ) (ds : List ℕ) → T (ready k F (d ∷ ds)) → T (ready k F ds)
  ready_rest d ds = and_r (ltb 0 (get_or F d 0) && ltb (get_or F d 0) k) (ready k F ds)

  ready_both : (d : ℕ) (ds : List ℕ) → 0 < get_or F d 0 → get_or F d 0 < k → T (ready k F ds) → T (ready k F (d ∷ ds))
  ready_both d ds a b t =
      and_both (ltb 0 (get_or F d 0) && ltb (get_or F d 0) k) (ready k F ds)
      (and_both (ltb 0 (get_or F d 0)) (ltb (get_or F d 0) k) (lt→ltb 0 (get_or F d 0) a) (lt→ltb (get_or F d 0) k b)) t

  pub ready_found : (ds : List ℕ) → T (ready k F ds) → Found F ds
  ready_found [] t = tt
  ready_found (d ∷ ds) t = ((ready_first d ds t).0, ready_found ds (ready_rest d ds t))

-- daughters with figures are ready in the next round
pub found_ready : (n : ℕ) (F ds : List ℕ) → Bounded n F → Found F ds → T (ready (suc n) F ds)
found_ready n F [] b f = tt
found_ready n F (d ∷ ds) b f = ready_both (suc n) F d ds f.0 (omega (arith, b d)) (found_ready n F ds b f.1)

-- daughters that are ready stay so where figures from 1 to k - 1 stay
ready_moved : (k : ℕ) (F G ds : List ℕ) → ((d : ℕ) → 0 < get_or F d 0 → get_or F d 0 < k → get_or G d 0 ≡ get_or F d 0) → T (ready k F ds) → T (ready k G ds)
ready_moved k F G [] h t = tt
ready_moved k F G (d ∷ ds) h t =
    let (a, b) = ready_first k F d ds t in
    let e = h d a b in
    ready_both k G d ds (omega arith) (omega arith) (ready_moved k F G ds h (ready_rest k F d ds t))

-- a visit to a rule whose daughters are ready leaves its category with a figure
visit_gives : (k : ℕ) (F : List ℕ) (rule : Rule) → 1 ≤ k → rule.category < length F → T (ready k F rule.daughters) → 0 < get_or (visit_by k F (some rule)) rule.category 0
visit_gives k F rule i l t =
    after_test (λ (G : List ℕ). 0 < get_or G rule.category 0) (due k F rule)
    (λ d. omega (arith, get_or-set_same F rule.category k 0 l)) (λ f. has_figure f (ℕ_discrete (get_or F rule.category 0) 0))
  where
    has_figure : (T (due k F rule) → ⊥) → Dec (get_or F rule.category 0 ≡ 0) → 0 < get_or F rule.category 0
    has_figure f (yes z) =
        absurd (f (and_both (eqb (get_or F rule.category 0) 0) (ready k F rule.daughters) (rw (eq-eqb (get_or F rule.category 0) 0 z) tt) t))
    has_figure f (no z) = omega arith

module _ (g : Grammar) where
  -- a rule that gives the category figure k
  pub record Given (k : ℕ) (F : List ℕ) (category : ℕ) : Type 0 where
    pub number : ℕ
    pub rule : Rule
    pub is_rule : rule_at g number ≡ some rule
    pub of_category : rule.category ≡ category
    pub ready_daughters : T (ready k F rule.daughters)

  -- P is so after a rule that is due gives its category figure k, if it was before
  abbrev pub Keeps : ℕ → (List ℕ → Type 0) → Type 0
  Keeps k P =
      (F : List ℕ) (r : ℕ) (rule : Rule) → rule_at g r ≡ some rule → get_or F rule.category 0 ≡ 0 → T (ready k F rule.daughters) → P F → P (set F rule.category k)

  visit_keeps : (k : ℕ) (P : List ℕ → Type 0) → Keeps k P → (F : List ℕ) (r : ℕ) → P F → P (visit g k F r)
  visit_keeps k P step F r p = go (rule_at g r) refl
    where
      go : (o : Option Rule) → rule_at g r ≡ o → P (visit_by k F o)
      go none e = p
      go (some rule) e =
          after_test P (due k F rule)
          (λ t.
          step F r rule e
          (eqb→eq (get_or F rule.category 0) 0 (and_l (eqb (get_or F rule.category 0) 0) (ready k F rule.daughters) t))
          (and_r (eqb (get_or F rule.category 0) 0) (ready k F rule.daughters) t)
          p)
          (λ f. p)

  -- then it is so after any visits, if it was before
  pub visits_keep : (k : ℕ) (P : List ℕ → Type 0) → Keeps k P → (F : List ℕ) (n : ℕ) → P F → P (visits g k F n)
  visits_keep k P step F zero p = p
  visits_keep k P step F (suc n) p = visit_keeps k P step (visits g k F n) n (visits_keep k P step F n p)

  -- from figures F to figures G in round k: each figure is as it was, or it was 0 and is k, given by a rule
  pub record Round (k : ℕ) (F G : List ℕ) : Type 0 where
    pub long : length G ≡ length F
    pub each : (category : ℕ) → (get_or G category 0 ≡ get_or F category 0) ⊎ ((get_or F category 0 ≡ 0) × (get_or G category 0 ≡ k) × Given k F category)

module _ (g : Grammar) (well : WellFormed g) where
  round_keeps : (k : ℕ) (F : List ℕ) → length F ≡ length g.dimensions → Keeps g k (Round g k F)
  round_keeps k F n G r rule e z t h =
      record { long = length-set G rule.category k ∙ h.long; each = λ c. at c (ℕ_discrete c rule.category) }
    where
      same : (d : ℕ) → 0 < get_or G d 0 → get_or G d 0 < k → get_or F d 0 ≡ get_or G d 0
      same d a b = ⊎_elim (λ q. sym q) (λ q. absurd (omega (arith, q.1))) (h.each d)

      before : get_or F rule.category 0 ≡ 0
      before = ⊎_elim (λ q. omega arith) (λ q. q.0) (h.each rule.category)

      at : (c : ℕ) → Dec (c ≡ rule.category)
          → (get_or (set G rule.category k) c 0 ≡ get_or F c 0) ⊎ ((get_or F c 0 ≡ 0) × (get_or (set G rule.category k) c 0 ≡ k) × Given g k F c)
      at c (yes q) =
          rw q
          (inr (
            before,
            get_or-set_same G rule.category k 0 (omega (arith, h.long, (well.ranges r rule e).category_is)),
            record { number = r; rule = rule; is_rule = e; of_category = refl; ready_daughters = ready_moved k G F rule.daughters same t },
          ))
      at c (no q) = rw (get_or-set_other G rule.category c k 0 q) (h.each c)

  -- visits in round k, as a change of the figures
  pub round : (k n : ℕ) (F : List ℕ) → length F ≡ length g.dimensions → Round g k F (visits g k F n)
  round k n F l = visits_keep g k (Round g k F) (round_keeps k F l) F n record { long = refl; each = λ c. inl refl }

  -- a figure stays
  figure_stays : (k c : ℕ) → Keeps g k (λ F. 0 < get_or F c 0)
  figure_stays k c F r rule e z t p = rw (get_or-set_other F rule.category c k 0 (λ q. omega (arith, ap (λ (x : ℕ). get_or F x 0) q))) p

  -- a rule whose daughters are ready gives its category a figure, once it is visited
  pub gives : (k : ℕ) (F : List ℕ) → 1 ≤ k → length F ≡ length g.dimensions
      → (r : ℕ) (rule : Rule) → rule_at g r ≡ some rule → T (ready k F rule.daughters) → (n : ℕ) → r < n → 0 < get_or (visits g k F n) rule.category 0
  gives k F i l r rule e t zero h = let z : ⊥ = omega arith in absurd z
  gives k F i l r rule e t (suc n) h = go (ℕ_discrete r n) (round k n F l) (λ h. gives k F i l r rule e t n h)
    where
      go : Dec (r ≡ n) → Round g k F (visits g k F n) → (r < n → 0 < get_or (visits g k F n) rule.category 0) → 0 < get_or (visits g k F (suc n)) rule.category 0
      go (yes q) c ih =
          subst (λ (o : Option Rule). 0 < get_or (visit_by k (visits g k F n) o) rule.category 0) (sym e ∙ ap (rule_at g) q)
          (visit_gives k (visits g k F n) rule i (omega (arith, c.long, (well.ranges r rule e).category_is))
          (ready_moved k F (visits g k F n) rule.daughters (λ d a b. ⊎_elim (λ q. q) (λ q. absurd (omega (arith, q.0))) (c.each d)) t))
      go (no q) c ih = visit_keeps g k (λ H. 0 < get_or H rule.category 0) (figure_stays k rule.category) (visits g k F n) n (ih (omega arith))
