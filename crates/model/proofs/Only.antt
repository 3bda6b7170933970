-- A trace is that of one tree only.
-- Assumes nothing.
use mathlib.Core.Path.{◌≡◌, refl, sym, ap, subst, ◌∙◌}
use mathlib.Core.Bool.{Bool, true, false}
use mathlib.Core.Option.{some}
use mathlib.Core.List.Memᴰ
use mathlib.Core.List.{List, [], ◌∷◌, ◌++◌, map, head-eq_of_cons-eq, tail-eq_of_cons-eq, nil≢cons, cons≢nil}
use Prim.Native.Nat.{ℕ, suc, ◌+◌, ◌<◌}
use native.Mathlib.Omega.{arith}
use lib.Dec.{T}
use lib.ListN.{length}
use Rattle.model.specs.Grammar.{Rule, Grammar, Variable, rule_at, is_lexical}
use Rattle.model.specs.Step.{Index, Prediction, State, sort, trim, variable_indices, daughters_from, expand, step}
use Rattle.model.specs.Trace.{no_node}
use Rattle.model.specs.Tree.{Tree, Forest, node, nil, cons, has_root, has_roots}
use Rattle.model.specs.WellFormed.{Right}
use Rattle.model.specs.Conversions.{label, child_at, subtree, Step, Traces}
use Rattle.model.proofs.Marks.{Bare, bare, bare_state, bare_outcome, sort_bare, append_bare, daughters_bare, step_bare}
use Rattle.model.proofs.Unmark.{same_prediction, trim_one, sort_one}
use Rattle.model.proofs.Forward.{Good, no_trees}
use Rattle.model.proofs.Traces.{Root, root, step_nonlexical, step_lexical, scan_to, leads_one, advance}
use Rattle.model.proofs.Lifting.{marks}
use Rattle.model.proofs.Tests.{and_r}

append_one : (a a' b b' : List (Prediction Tree)) → map bare a ≡ map bare a' → a ++ b ≡ a' ++ b' → (a ≡ a') × (b ≡ b')
append_one [] [] b b' e f = (refl, f)
append_one [] (x' ∷ a') b b' e f = absurd (nil≢cons e)
append_one (x ∷ a) [] b b' e f = absurd (cons≢nil e)
append_one (x ∷ a) (x' ∷ a') b b' e f =
    let r = append_one a a' b b' (tail-eq_of_cons-eq e) (tail-eq_of_cons-eq f) in
    (cc (head-eq_of_cons-eq f, r.0), r.1)

module _ (g : Grammar) where
  marks_expand : (n : Tree) (ss : List (Variable × Index)) (j : ℕ) (ds : List ℕ) (us : Forest) → T (has_roots g us ds)
      → ((k : ℕ) → k < length ds → subtree n (j + k) ≡ child_at us k) → marks (daughters_from subtree g n ss j ds) ≡ us
  marks_expand n ss j [] nil h hc = refl
  marks_expand n ss j [] (cons u us) h hc = absurd h
  marks_expand n ss j (d ∷ ds) nil h hc = absurd h
  marks_expand n ss j (d ∷ ds) (cons u us) h hc =
      let k₀ : j + 0 ≡ j = omega arith in
      let c₀ : subtree n j ≡ u = ap (subtree n) (sym k₀) ∙ hc 0 (omega arith) in
      let ih = marks_expand n ss (suc j) ds us (and_r (has_root g u d) (has_roots g us ds) h)
      (λ k l. let e : suc j + k ≡ j + suc k = omega arith in rw e (hc (suc k) (omega arith))) in
      cc (c₀, ih)

  trees_of : (rule : Rule) (p : Prediction Tree) (r : ℕ) (ts : Forest) → p.node ≡ node r ts → T (has_roots g ts rule.daughters) → marks (expand subtree g rule p) ≡ ts
  trees_of rule p r ts e h = marks_expand p.node (variable_indices p.indices rule.components) 0 rule.daughters ts h (λ k l. let m : 0 + k ≡ k = omega arith in rw (m, e))

  bare_expand : (rule : Rule) (p p' : Prediction Tree) → bare p ≡ bare p' → map bare (expand subtree g rule p) ≡ map bare (expand subtree g rule p')
  bare_expand rule p p' e =
      daughters_bare subtree g p.node (variable_indices p.indices rule.components) 0 rule.daughters
      ∙ ap (λ (x : Bare). daughters_from no_node g tt (variable_indices x.indices rule.components) 0 rule.daughters) e
      ∙ sym (daughters_bare subtree g p'.node (variable_indices p'.indices rule.components) 0 rule.daughters)

  -- one step back: same bare fronts, and the same queue after the step
  pub record Fronts (r : ℕ) (rule : Rule) (p : Prediction Tree) : Type 0 where
    pub trees : Forest
    pub is_node : p.node ≡ node r trees
    pub below : T (has_roots g trees rule.daughters)

  same_front : (r : ℕ) (rule : Rule) (p p' : Prediction Tree) (x : Fronts r rule p) (x' : Fronts r rule p') → bare p ≡ bare p' → x.trees ≡ x'.trees → p ≡ p'
  same_front r rule p p' x x' e f = same_prediction p p' e (x.is_node ∙ ap (node r) f ∙ sym x'.is_node)

  back_nonlexical : (r : ℕ) (rule : Rule) (p p' : Prediction Tree) (q q' : List (Prediction Tree)) → Fronts r rule p → Fronts r rule p'
      → bare p ≡ bare p' → map bare q ≡ map bare q' → trim (sort (expand subtree g rule p ++ q)) ≡ trim (sort (expand subtree g rule p' ++ q'))
      → ◌≡◌ {A = List (Prediction Tree)} (p ∷ q) (p' ∷ q')
  back_nonlexical r rule p p' q q' x x' e f h =
      let m = expand subtree g rule p ++ q in
      let m' = expand subtree g rule p' ++ q' in
      let b : map bare m ≡ map bare m' =
      append_bare (expand subtree g rule p) q ∙ ap (λ (l : List Bare). l ++ map bare q) (bare_expand rule p p' e)
      ∙ ap (λ (l : List Bare). map bare (expand subtree g rule p') ++ l) f ∙ sym (append_bare (expand subtree g rule p') q') in
      let t : sort m ≡ sort m' = trim_one (sort m) (sort m') (sort_bare m ∙ ap sort b ∙ sym (sort_bare m')) h in
      let s : m ≡ m' = sort_one m m' b t in
      let a = append_one (expand subtree g rule p) (expand subtree g rule p') q q' (bare_expand rule p p' e) s in
      let ts : x.trees ≡ x'.trees = sym (trees_of rule p r x.trees x.is_node x.below) ∙ ap marks a.0 ∙ trees_of rule p' r x'.trees x'.is_node x'.below in
      cc (same_front r rule p p' x x' e ts, a.1)

  back_lexical : (r : ℕ) (rule : Rule) (p p' : Prediction Tree) (q q' : List (Prediction Tree)) → Fronts r rule p → Fronts r rule p' → is_lexical rule ≡ true
      → bare p ≡ bare p' → q ≡ q' → ◌≡◌ {A = List (Prediction Tree)} (p ∷ q) (p' ∷ q')
  back_lexical r rule p p' q q' x x' l e f =
      let ts : x.trees ≡ x'.trees = no_trees g rule.daughters x.trees l x.below ∙ sym (no_trees g rule.daughters x'.trees l x'.below) in
      cc (same_front r rule p p' x x' e ts, f)

module _ (g : Grammar) (right : Right g) where
  -- what a step says of its front
  pub record Seen (r : ℕ) (rule : Rule) (p : Prediction Tree) : Type 0 where
    pub fronts : Fronts g r rule p
    pub is_rule : rule_at g r ≡ some rule
    pub of_cat : rule.category ≡ p.category

  seen_as : (r : ℕ) (rule : Rule) (p : Prediction Tree) → rule_at g r ≡ some rule → label p.node ≡ r → T (has_root g p.node p.category) → Seen r rule p
  seen_as r rule p f l h =
      let t = root g p.node p.category h in
      let e : t.rule ≡ rule = cc (sym t.is_rule ∙ ap (rule_at g) l ∙ f) in
      record {
        fronts = record { trees = t.trees; is_node = t.is_node ∙ ap (λ (k : ℕ). node k t.trees) l; below = rw e at t.below };
        is_rule = f;
        of_cat = ap (λ (x : Rule). x.category) (sym e) ∙ t.of_cat;
      }

  front_rooted : (s s' : State Tree) (r : ℕ) (st : Step g s r s') → Good g s.queue → T (has_root g st.front.node st.front.category)
  front_rooted s s' r st h = ((subst (Good g) st.queue_is h).fit st.front (Memᴰ.head refl)).rooted

  next_bare : (s₁ s₁' s₂ s₂' : State Tree) (r : ℕ) → Step g s₁ r s₁' → Step g s₂ r s₂' → bare_state s₁ ≡ bare_state s₂ → bare_state s₁' ≡ bare_state s₂'
  next_bare s₁ s₁' s₂ s₂' r a b e =
      leads_one
      (ap bare_outcome (sym a.leads_to) ∙ step_bare subtree g s₁ r ∙ ap (λ (s : State (Unit {0})). step no_node g s r) e
      ∙ sym (step_bare subtree g s₂ r) ∙ ap bare_outcome b.leads_to)

  pub only : (p : List ℕ) (s₁ s₂ : State Tree) → bare_state s₁ ≡ bare_state s₂ → Good g s₁.queue → Good g s₂.queue → Traces g s₁ p → Traces g s₂ p → s₁.queue ≡ s₂.queue
  only [] s₁ s₂ e h₁ h₂ t₁ t₂ = t₁.0 ∙ sym t₂.0
  only (r ∷ p) s₁ s₂ e h₁ h₂ t₁ t₂ =
      go (only p t₁.0 t₂.0 (next_bare s₁ t₁.0 s₂ t₂.0 r t₁.1 t₂.1 e)
      (advance g right s₁ t₁.0 r h₁ t₁.1).good (advance g right s₂ t₂.0 r h₂ t₂.1).good t₁.2 t₂.2)
    where
      a : Step g s₁ r t₁.0
      a = t₁.1

      b : Step g s₂ r t₂.0
      b = t₂.1

      bares : ◌≡◌ {A = List Bare} (bare a.front ∷ map bare a.rest) (bare b.front ∷ map bare b.rest)
      bares = ap (map bare) (sym a.queue_is) ∙ ap (λ (s : State (Unit {0})). s.queue) e ∙ ap (map bare) b.queue_is

      r₁ : Root g a.front.node a.front.category
      r₁ = root g a.front.node a.front.category (front_rooted s₁ t₁.0 r a h₁)

      rule : Rule
      rule = r₁.rule

      f : rule_at g r ≡ some rule
      f = ap (rule_at g) (sym a.labelled) ∙ r₁.is_rule

      x : Seen r rule a.front
      x = seen_as r rule a.front f a.labelled (front_rooted s₁ t₁.0 r a h₁)

      y : Seen r rule b.front
      y = seen_as r rule b.front f b.labelled (front_rooted s₂ t₂.0 r b h₂)

      both : (l : Bool) → is_lexical rule ≡ l → t₁.0.queue ≡ t₂.0.queue → ◌≡◌ {A = List (Prediction Tree)} (a.front ∷ a.rest) (b.front ∷ b.rest)
      both false l k =
          let u = leads_one (sym (step_nonlexical g s₁ r rule a.front a.rest a.queue_is f x.of_cat l) ∙ a.leads_to) in
          let v = leads_one (sym (step_nonlexical g s₂ r rule b.front b.rest b.queue_is f y.of_cat l) ∙ b.leads_to) in
          back_nonlexical g r rule a.front b.front a.rest b.rest x.fronts y.fronts (head-eq_of_cons-eq bares) (tail-eq_of_cons-eq bares)
          (ap (λ (s : State Tree). s.queue) u ∙ k ∙ ap (λ (s : State Tree). s.queue) (sym v))
      both true l k =
          let u = scan_to rule.word a.rest s₁.words t₁.0 (sym (step_lexical g s₁ r rule a.front a.rest a.queue_is f x.of_cat l) ∙ a.leads_to) in
          let v = scan_to rule.word b.rest s₂.words t₂.0 (sym (step_lexical g s₂ r rule b.front b.rest b.queue_is f y.of_cat l) ∙ b.leads_to) in
          back_lexical g r rule a.front b.front a.rest b.rest x.fronts y.fronts l (head-eq_of_cons-eq bares)
          (sym u.queue_is ∙ k ∙ v.queue_is)

      go : t₁.0.queue ≡ t₂.0.queue → s₁.queue ≡ s₂.queue
      go k = a.queue_is ∙ both (is_lexical rule) refl k ∙ sym b.queue_is
