-- The places of the trees of a list: where a tree ends, and that the daughters of a node stand where `daughter_place` says.
-- Assumes nothing.
use Rattle.std.specs.Prelude.{if◌then◌else◌}
use mathlib.Core.Path.{◌≡◌, refl, sym, ap, subst, ◌∙◌}
use mathlib.Core.Bool.{Bool, true, false}
use mathlib.Core.Option.{Option, none, some}
use mathlib.Core.List.{List, [], ◌∷◌, ◌++◌, append_assoc}
use Prim.Native.Nat.{ℕ, zero, suc, ◌+◌, ◌<◌, ◌≤◌, ◌-◌}
use native.Mathlib.Omega.{arith}
use native.Mathlib.Decide.{dec_lt}
use lib.Dec.{T, eqb}
use lib.ListN.{length, get_or, drop, length-drop, drop_of_length-le}
use lib.Seq.{drop-cons, drop-drop}
use Rattle.model.specs.declared.Refusal.{Refusal}
use Rattle.model.specs.Grammar.{Rule, Grammar, rule_at}
use Rattle.model.specs.Tree.{Forest, node, nil, cons, preorder, preorders, has_root, has_roots, root_by, arity_by, arity, firsts, others, forest, tree_of_list, nodes_refusal}
use Rattle.model.specs.Conversions.{label, child_at, subtree}
use Rattle.model.proofs.Reading.{read}
use Rattle.model.proofs.Tests.{and_l, and_r, none_some}
use Rattle.trees.specs.Places.{end_of, daughter_place}

-- forests taken apart
pub others_next : (n : ℕ) (f : Forest) → others (suc n) f ≡ others n (others 1 f)
others_next zero nil = refl
others_next (suc n) nil = refl
others_next zero (cons t ts) = refl
others_next (suc n) (cons t ts) = refl

others_last : (n : ℕ) (f : Forest) → others 1 (others n f) ≡ others (suc n) f
others_last zero nil = refl
others_last zero (cons t ts) = refl
others_last (suc n) nil = refl
others_last (suc n) (cons t ts) = others_last n ts

others_none : (n : ℕ) → others n nil ≡ nil
others_none zero = refl
others_none (suc n) = refl

others_others : (a m : ℕ) (f : Forest) → (n : ℕ) × (others m (others a f) ≡ others n f)
others_others zero m f = (m, refl)
others_others (suc a) m nil = (m, refl)
others_others (suc a) m (cons t ts) = let x = others_others a m ts in (suc x.0, x.1)

parts_preorder : (n : ℕ) (f : Forest) → preorders (firsts n f) ++ preorders (others n f) ≡ preorders f
parts_preorder zero f = refl
parts_preorder (suc n) nil = refl
parts_preorder (suc n) (cons t ts) =
    append_assoc (preorder t) (preorders (firsts n ts)) (preorders (others n ts)) ∙ ap (λ (l : List ℕ). preorder t ++ l) (parts_preorder n ts)

child_others : (j : ℕ) (f : Forest) → child_at f j ≡ child_at (others j f) 0
child_others zero f = refl
child_others (suc j) nil = refl
child_others (suc j) (cons t ts) = child_others j ts

child_firsts : (n : ℕ) (f : Forest) (j : ℕ) → j < n → child_at (firsts n f) j ≡ child_at f j
child_firsts zero f j h = absurd (omega arith)
child_firsts (suc n) nil j h = refl
child_firsts (suc n) (cons t ts) zero h = refl
child_firsts (suc n) (cons t ts) (suc j) h = child_firsts n ts j (omega arith)

module _ (g : Grammar) where
  -- a list is that of the forest that it holds
  forest_list : (l : List ℕ) → preorders (forest g l) ≡ l
  forest_list [] = refl
  forest_list (r ∷ rs) = ap (λ (l : List ℕ). r ∷ l) (parts_preorder (arity g r) (forest g rs) ∙ forest_list rs)

  -- what is left after some trees is what a part at the end holds
  left_after : (l : List ℕ) (n : ℕ) → (d : ℕ) × (others n (forest g l) ≡ forest g (drop d l)) × (d ≤ length l)
  left_after [] n = (0, others_none n, omega arith)
  left_after (r ∷ rs) zero = (0, refl, omega arith)
  left_after (r ∷ rs) (suc m) =
      let x = others_others (arity g r) m (forest g rs) in
      let y = left_after rs x.0 in
      (suc y.0, x.1 ∙ y.1, omega (arith, y.2))

  tree_first : (l : List ℕ) → child_at (forest g l) 0 ≡ tree_of_list g l
  tree_first [] = refl
  tree_first (r ∷ rs) = refl

  module _ (list : List ℕ) where
    pub end_is : (i e : ℕ) → others 1 (forest g (drop i list)) ≡ forest g (drop e list) → e ≤ length list → end_of g list i ≡ e
    end_is i e h k =
        let n : length (preorders (others 1 (forest g (drop i list)))) ≡ length list - e = ap (λ (f : Forest). length (preorders f)) h ∙ ap length (forest_list (drop e list)) ∙ length-drop e list in
        omega arith

    end_rest : (i : ℕ) → i ≤ length list → forest g (drop (end_of g list i) list) ≡ others 1 (forest g (drop i list))
    end_rest i h =
        let x = left_after (drop i list) 1 in
        let f : others 1 (forest g (drop i list)) ≡ forest g (drop (i + x.0) list) = x.1 ∙ ap (forest g) (drop-drop x.0 i list) in
        ap (λ (e : ℕ). forest g (drop e list)) (end_is i (i + x.0) f (omega (arith, x.2, length-drop i list))) ∙ sym f

    module _ (i : ℕ) (here : i < length list) where
      abbrev r : ℕ
      r = get_or list i 0

      abbrev after : Forest
      after = forest g (drop (suc i) list)

      at_node : drop i list ≡ r ∷ drop (suc i) list
      at_node = drop-cons list i 0 here

      pub node_label : label (tree_of_list g (drop i list)) ≡ get_or list i 0
      node_label = ap (λ (l : List ℕ). label (tree_of_list g l)) at_node

      pub place_in : (j : ℕ) → daughter_place g list i j ≤ length list
      place_in zero = omega arith
      place_in (suc j) = omega arith

      daughters_forest : (j : ℕ) → forest g (drop (daughter_place g list i j) list) ≡ others j after
      daughters_forest zero = refl
      daughters_forest (suc j) = end_rest (daughter_place g list i j) (place_in j) ∙ ap (others 1) (daughters_forest j) ∙ others_last j after

      -- daughter j of the node at place i
      pub daughter_tree : (j : ℕ) → j < arity g (get_or list i 0) → subtree (tree_of_list g (drop i list)) j ≡ tree_of_list g (drop (daughter_place g list i j) list)
      daughter_tree j h =
          ap (λ (l : List ℕ). subtree (tree_of_list g l) j) at_node ∙ child_firsts (arity g r) after j h ∙ child_others j after
          ∙ ap (λ (f : Forest). child_at f 0) (sym (daughters_forest j)) ∙ tree_first (drop (daughter_place g list i j) list)

-- in a list whose nodes pass their tests, every daughter stands in the list
module _ (g : Grammar) where
  tests_at : (list : List ℕ) (k : ℕ) (wanted : List ℕ) → nodes_refusal g k wanted list ≡ none → (i : ℕ) → (n : ℕ) × (w : List ℕ) × (nodes_refusal g n w (drop i list) ≡ none)
  tests_at list k wanted e zero = (k, wanted, e)
  tests_at [] k wanted e (suc i) = (k, wanted, e)
  tests_at (r ∷ rs) k [] e (suc i) = none_some e
  tests_at (r ∷ rs) k (c ∷ wanted) e (suc i) = go (rule_at g r) e (λ w f. tests_at rs (suc k) w f i)
    where
      test : (b : Bool) (w : List ℕ) → ◌≡◌ {A = Option Refusal} (if b then nodes_refusal g (suc k) w rs else some (Refusal.Analysis 20 k)) none → nodes_refusal g (suc k) w rs ≡ none
      test true w f = f
      test false w f = none_some f

      go : (o : Option Rule)
          → ◌≡◌ {A = Option Refusal} (elim o [ none ↦ some (Refusal.Analysis 13 k) | some rule ↦ if eqb rule.category c then nodes_refusal g (suc k) (rule.daughters ++ wanted) rs else some (Refusal.Analysis 20 k) ]) none
          → ((w : List ℕ) → nodes_refusal g (suc k) w rs ≡ none → (n : ℕ) × (v : List ℕ) × (nodes_refusal g n v (drop i rs) ≡ none)) → (n : ℕ) × (v : List ℕ) × (nodes_refusal g n v (drop i rs) ≡ none)
      go none f ih = none_some f
      go (some rule) f ih = ih (rule.daughters ++ wanted) (test (eqb rule.category c) (rule.daughters ++ wanted) f)

  enough : (n : ℕ) (f : Forest) (ds : List ℕ) → T (has_roots g (firsts n f) ds) → (j : ℕ) → j < length ds → others j f ≡ nil → ⊥
  enough n f [] t j h e = omega arith
  enough zero f (d ∷ ds) t j h e = absurd t
  enough (suc n) nil (d ∷ ds) t j h e = absurd t
  enough (suc n) (cons u us) (d ∷ ds) t zero h e = let z : ◌≡◌ {A = ℕ} 0 1 = cc in omega arith
  enough (suc n) (cons u us) (d ∷ ds) t (suc j) h e = enough n us ds (and_r (has_root g u d) (has_roots g (firsts n us) ds) t) j (omega arith) e

  enough_by : (o : Option Rule) (c n : ℕ) (f : Forest) → T (root_by o c (λ categories. has_roots g (firsts n f) categories)) → (j : ℕ) → j < arity_by o → others j f ≡ nil → ⊥
  enough_by none c n f t j h e = absurd t
  enough_by (some rule) c n f t j h e = enough n f rule.daughters (and_r (eqb rule.category c) (has_roots g (firsts n f) rule.daughters) t) j h e

  module _ (list wanted : List ℕ) (tested : nodes_refusal g 0 wanted list ≡ none) (i : ℕ) (here : i < length list) where
    first_rooted : (w : List ℕ) → T (has_roots g (forest g (get_or list i 0 ∷ drop (suc i) list)) w) → (j : ℕ) → j < arity g (get_or list i 0) → others j (forest g (drop (suc i) list)) ≡ nil → ⊥
    first_rooted [] t j h e = absurd t
    first_rooted (c ∷ w) t j h e =
        let r = get_or list i 0 in
        let f = forest g (drop (suc i) list) in
        enough_by (rule_at g r) c (arity g r) f (and_l (has_root g (node r (firsts (arity g r) f)) c) (has_roots g (others (arity g r) f) w) t) j h e

    pub daughter_within : (j : ℕ) → j < arity g (get_or list i 0) → daughter_place g list i j < length list
    daughter_within j h = go (dec_lt (daughter_place g list i j) (length list))
      where
        go : Dec (daughter_place g list i j < length list) → daughter_place g list i j < length list
        go (yes l) = l
        go (no l) =
            let x = tests_at list 0 wanted tested i in
            let t = subst (λ (l : List ℕ). T (has_roots g (forest g l) x.1)) (at_node g list i here) (read g x.0 x.1 (drop i list) x.2).roots in
            let e : drop (daughter_place g list i j) list ≡ [] = drop_of_length-le list {i = daughter_place g list i j} (omega arith) in
            absurd (first_rooted x.1 t j h (sym (daughters_forest g list i here j) ∙ ap (forest g) e))
