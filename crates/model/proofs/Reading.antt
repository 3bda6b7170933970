-- A list that the tree reader takes is the list of a tree, and of one only.
-- Assumes nothing.
use Rattle.std.specs.Prelude.{if◌then◌else◌}
use mathlib.Core.Path.{◌≡◌, refl, sym, ap, subst, ◌∙◌}
use mathlib.Core.Bool.{Bool, true, false, ◌&&◌, not}
use mathlib.Core.Option.{Option, none, some}
use mathlib.Core.List.{List, [], ◌∷◌, ◌++◌, append_assoc, append-nil}
use Prim.Native.Nat.{ℕ, zero, suc, ◌≤◌}
use borrow.Author.Tests.{le-ltb}
use native.Mathlib.Omega.{arith}
use lib.Dec.{T, eqb}
use lib.ListN.{length}
use Rattle.model.specs.declared.Refusal.{Refusal}
use Rattle.model.specs.Base.{◌or_else◌}
use Rattle.model.specs.Verdict.{refuse_if}
use Rattle.model.specs.Trace.{length_refusal}
use Rattle.model.specs.Grammar.{Grammar, Rule, rule_at}
use Rattle.model.specs.Tree.{Tree, Forest, node, nil, cons, preorder, preorders, has_root, has_roots, root_by, arity, firsts, others, forest, nodes_refusal, tree_refusal, tree_of_list, spells, derives}
use Rattle.model.specs.Demands.{Derivation}
use Rattle.model.proofs.Tests.{passes, and_l, and_r, and_both, no_refusal, both_none, not_off}

-- a forest, taken apart
parts_preorder : (n : ℕ) (f : Forest) → preorders f ≡ preorders (firsts n f) ++ preorders (others n f)
parts_preorder zero f = refl
parts_preorder (suc n) nil = refl
parts_preorder (suc n) (cons t ts) = ap (λ (l : List ℕ). preorder t ++ l) (parts_preorder n ts) ∙ sym (append_assoc (preorder t) (preorders (firsts n ts)) (preorders (others n ts)))

module _ (g : Grammar) where
  parts_roots : (ds ws : List ℕ) (f : Forest) → T (has_roots g f (ds ++ ws)) → T (has_roots g (firsts (length ds) f) ds) × T (has_roots g (others (length ds) f) ws)
  parts_roots [] ws f t = (tt, t)
  parts_roots (d ∷ ds) ws nil t = absurd t
  parts_roots (d ∷ ds) ws (cons u us) t =
      let (i, j) = parts_roots ds ws us (and_r (has_root g u d) (has_roots g us (ds ++ ws)) t) in
      (and_both (has_root g u d) (has_roots g (firsts (length ds) us) ds) (and_l (has_root g u d) (has_roots g us (ds ++ ws)) t) i, j)

  -- what the reader takes is the list of the forest that it holds
  pub record Read (wanted list : List ℕ) : Type 0 where
    pub roots : T (has_roots g (forest g list) wanted)
    pub same : preorders (forest g list) ≡ list

  pub read : (k : ℕ) (wanted list : List ℕ) → nodes_refusal g k wanted list ≡ none → Read wanted list
  read k [] [] e = record { roots = tt; same = refl }
  read k (c ∷ wanted) [] e = let z : ◌≡◌ {A = ℕ} 0 1 = cc in absurd (omega arith)
  read k [] (r ∷ rs) e = let z : ◌≡◌ {A = ℕ} 0 1 = cc in absurd (omega arith)
  read k (c ∷ wanted) (r ∷ rs) e = go (rule_at g r) refl (λ w e'. read (suc k) w rs e')
    where
      go : (o : Option Rule) → rule_at g r ≡ o → ((w : List ℕ) → nodes_refusal g (suc k) w rs ≡ none → Read w rs) → Read (c ∷ wanted) (r ∷ rs)
      go none f ih =
          let h : some (Refusal.Analysis 13 k) ≡ none = rw (f, nodes_refusal) at e in
          let z : ◌≡◌ {A = ℕ} 0 1 = cc in
          absurd (omega arith)
      go (some rule) f ih = test (eqb rule.category c) refl (rw (f, nodes_refusal) at e)
        where
          test : (b : Bool) → eqb rule.category c ≡ b
              → (if b then nodes_refusal g (suc k) (rule.daughters ++ wanted) rs else some (Refusal.Analysis 20 k)) ≡ none
              → Read (c ∷ wanted) (r ∷ rs)
          test false i h = let z : ◌≡◌ {A = ℕ} 0 1 = cc in absurd (omega arith)
          test true i h =
              let u = ih (rule.daughters ++ wanted) h in
              let (v, w) = parts_roots rule.daughters wanted (forest g rs) u.roots in
              record {
                roots =
                    rw f
                    (and_both (eqb rule.category c && has_roots g (firsts (length rule.daughters) (forest g rs)) rule.daughters) (has_roots g (others (length rule.daughters) (forest g rs)) wanted)
                    (and_both (eqb rule.category c) (has_roots g (firsts (length rule.daughters) (forest g rs)) rule.daughters) (rw i tt) v) w);
                same = rw f (ap (λ (l : List ℕ). r ∷ l) (sym (parts_preorder (length rule.daughters) (forest g rs)) ∙ u.same));
              }

  -- the reader takes the list of a tree that has the wanted root
  abbrev Ends : List ℕ → List ℕ → Type 0
  Ends wanted rest = (k : ℕ) → nodes_refusal g k wanted rest ≡ none

  taken_by : (r c : ℕ) (wanted rs : List ℕ) (o : Option Rule) (roots : List ℕ → Bool) → rule_at g r ≡ o → T (root_by o c roots)
      → ((ds : List ℕ) → T (roots ds) → Ends (ds ++ wanted) rs) → Ends (c ∷ wanted) (r ∷ rs)
  taken_by r c wanted rs none roots e t ih k = absurd t
  taken_by r c wanted rs (some rule) roots e t ih k =
      let i = passes (eqb rule.category c) (and_l (eqb rule.category c) (roots rule.daughters) t) in
      let h = ih rule.daughters (and_r (eqb rule.category c) (roots rule.daughters) t) (suc k) in
      rw (e, nodes_refusal) (rw i h)

  mutual
    taken : (t : Tree) (c : ℕ) (wanted rest : List ℕ) → T (has_root g t c) → Ends wanted rest → Ends (c ∷ wanted) (preorder t ++ rest)
    taken (node r ts) c wanted rest t h =
        taken_by r c wanted (preorders ts ++ rest) (rule_at g r) (λ categories. has_roots g ts categories) refl t (λ ds u. takens ts ds wanted rest u h)

    takens : (ts : Forest) (cs wanted rest : List ℕ) → T (has_roots g ts cs) → Ends wanted rest → Ends (cs ++ wanted) (preorders ts ++ rest)
    takens nil [] wanted rest t h = h
    takens nil (c ∷ cs) wanted rest t h = absurd t
    takens (cons u us) [] wanted rest t h = absurd t
    takens (cons u us) (c ∷ cs) wanted rest t h =
        rw append_assoc
        (taken u c (cs ++ wanted) (preorders us ++ rest) (and_l (has_root g u c) (has_roots g us cs) t)
        (takens us cs wanted rest (and_r (has_root g u c) (has_roots g us cs) t) h))

-- two forests, one after the other
joined : Forest → Forest → Forest
joined nil f = f
joined (cons t ts) f = cons t (joined ts f)

module _ (g : Grammar) where
  firsts_joined : (ts f : Forest) (cs : List ℕ) → T (has_roots g ts cs) → firsts (length cs) (joined ts f) ≡ ts
  unfolding joined
  firsts_joined nil f [] t = refl
  firsts_joined nil f (c ∷ cs) t = absurd t
  firsts_joined (cons u us) f [] t = absurd t
  firsts_joined (cons u us) f (c ∷ cs) t = ap (λ (x : Forest). cons u x) (firsts_joined us f cs (and_r (has_root g u c) (has_roots g us cs) t))

  others_joined : (ts f : Forest) (cs : List ℕ) → T (has_roots g ts cs) → others (length cs) (joined ts f) ≡ f
  unfolding joined
  others_joined nil f [] t = refl
  others_joined nil f (c ∷ cs) t = absurd t
  others_joined (cons u us) f [] t = absurd t
  others_joined (cons u us) f (c ∷ cs) t = others_joined us f cs (and_r (has_root g u c) (has_roots g us cs) t)

  back_by : (r c : ℕ) (ts f f' : Forest) (o : Option Rule) → rule_at g r ≡ o → T (root_by o c (λ categories. has_roots g ts categories))
      → ((cs : List ℕ) → T (has_roots g ts cs) → f' ≡ joined ts f)
      → cons (node r (firsts (arity g r) f')) (others (arity g r) f') ≡ cons (node r ts) f
  back_by r c ts f f' none e t ih = absurd t
  back_by r c ts f f' (some rule) e t ih =
      let u = and_r (eqb rule.category c) (has_roots g ts rule.daughters) t in
      rw (e, ih rule.daughters u) (rw (firsts_joined ts f rule.daughters u, others_joined ts f rule.daughters u))

  -- the forest of a tree's list is the tree
  mutual
    unfolding joined

    back : (t : Tree) (c : ℕ) (rest : List ℕ) → T (has_root g t c) → forest g (preorder t ++ rest) ≡ cons t (forest g rest)
    back (node r ts) c rest t =
        back_by r c ts (forest g rest) (forest g (preorders ts ++ rest)) (rule_at g r) refl t (λ cs u. backs ts cs rest u)

    backs : (ts : Forest) (cs rest : List ℕ) → T (has_roots g ts cs) → forest g (preorders ts ++ rest) ≡ joined ts (forest g rest)
    backs nil [] rest t = refl
    backs nil (c ∷ cs) rest t = absurd t
    backs (cons u us) [] rest t = absurd t
    backs (cons u us) (c ∷ cs) rest t =
        rw append_assoc
        (back u c (preorders us ++ rest) (and_l (has_root g u c) (has_roots g us cs) t)
        ∙ ap (λ (x : Forest). cons u x) (backs us cs rest (and_r (has_root g u c) (has_roots g us cs) t)))

module _ (g : Grammar) (sentence : List ℕ) where
  one_tree : (f : Forest) (c : ℕ) → T (has_roots g f (c ∷ [])) → (t : Tree) × (f ≡ cons t nil) × T (has_root g t c)
  one_tree nil c h = absurd h
  one_tree (cons t nil) c h = (t, refl, and_l (has_root g t c) true h)
  one_tree (cons t (cons u us)) c h = absurd (and_r (has_root g t c) false h)

  accepted_by : (list : List ℕ) → Read g (g.start ∷ []) list → not (spells g sentence (tree_of_list g list)) ≡ false
      → (t : Tree) × (forest g list ≡ cons t nil) × T (has_root g t g.start) → Derivation g sentence list
  accepted_by list u y x =
      let e : preorder x.0 ≡ list = sym (append-nil (preorder x.0)) ∙ (rw x.1 at u.same) in
      let s : T (spells g sentence x.0) = not_off (spells g sentence x.0) (rw (x.1, tree_of_list) at y) in
      record { tree = x.0; listed = e; derived = and_both (has_root g x.0 g.start) (spells g sentence x.0) x.2 s }

  -- what the tree checker accepts is the list of a tree that derives the sentence
  pub accepted_derives : (list : List ℕ) → tree_refusal g sentence list ≡ none → Derivation g sentence list
  accepted_derives list e =
      let b = both_none (length_refusal list) (nodes_refusal g 0 (g.start ∷ []) list or_else refuse_if (not (spells g sentence (tree_of_list g list))) (Refusal.Analysis 22 0)) e in
      let c = both_none (nodes_refusal g 0 (g.start ∷ []) list) (refuse_if (not (spells g sentence (tree_of_list g list))) (Refusal.Analysis 22 0)) b.1 in
      let u = read g 0 (g.start ∷ []) list c.0 in
      accepted_by list u (no_refusal (not (spells g sentence (tree_of_list g list))) (Refusal.Analysis 22 0) c.1) (one_tree (forest g list) g.start u.roots)

  pub forest_one : (t : Tree) → T (has_root g t g.start) → forest g (preorder t) ≡ cons t nil
  forest_one t h = ap (forest g) (sym (append-nil (preorder t))) ∙ back g t g.start [] h

  taken_one : (t : Tree) → T (has_root g t g.start) → nodes_refusal g 0 (g.start ∷ []) (preorder t) ≡ none
  taken_one t h = subst (λ (l : List ℕ). nodes_refusal g 0 (g.start ∷ []) l ≡ none) (append-nil (preorder t)) (taken g t g.start [] [] h (λ k. refl) 0)

  -- and the list of every such tree is accepted, if it is no longer than 96
  pub derives_accepted : (t : Tree) → T (derives g sentence t) → length (preorder t) ≤ 96 → tree_refusal g sentence (preorder t) ≡ none
  derives_accepted t h l =
      let r = and_l (has_root g t g.start) (spells g sentence t) h in
      let s = passes (spells g sentence t) (and_r (has_root g t g.start) (spells g sentence t) h) in
      rw (le-ltb 96 (length (preorder t)) l, taken_one t r, forest_one t r, tree_of_list, s)
