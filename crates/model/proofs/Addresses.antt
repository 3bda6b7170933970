-- The nodes of a tree with their addresses, in order: `tree_of` of a tree's trace is the tree.
-- Assumes nothing.
use Rattle.std.specs.Prelude.{if◌then◌else◌}
use mathlib.Core.Path.{◌≡◌, refl, sym, ap, subst, ◌∙◌}
use mathlib.Core.Logic.{◌⊎◌, inl, inr}
use mathlib.Core.Bool.{Bool, true, false}
use mathlib.Core.Option.{some}
use mathlib.Core.List.{List, [], ◌∷◌, ◌++◌, map, append_assoc, append-nil, head-eq_of_cons-eq, nil≢cons, cons≢nil, Memᴰ}
use Prim.Native.Nat.{ℕ, suc, ◌+◌, ◌<◌, ◌≤◌}
use native.Mathlib.Omega.{arith}
use borrow.Author.Tests.{eq-eqb}
use lib.Dec.{T}
use lib.ListN.{length}
use Rattle.model.specs.Base.{each}
use Rattle.model.specs.Grammar.{Rule, Grammar, Variable, rule_at, is_lexical}
use Rattle.model.specs.Step.{Index, before, Prediction, State, Outcome, fails, leads, sort, trim, shorten, same_first, variable_indices, daughters_from, expand, scan, step, begin}
use Rattle.model.specs.Tree.{Tree, Forest, node, nil, cons, preorder, preorders, has_root, has_roots}
use Rattle.model.specs.WellFormed.{Perm, same, more, swap, chain, Right}
use Rattle.model.specs.Conversions.{label, child_at, subtree, Address, below, insert_node, sort_nodes, placed, tree_of, Step, Traces}
use Rattle.model.proofs.Order.{before_irrefl, before_tail, before_head}
use Rattle.model.proofs.Digits.{before_asym, before_trans, Compared, compared, lex_less, lex_same}
use Rattle.model.proofs.Digits as digits
use Rattle.model.proofs.Perm.{perm_mem, perm_each, perm_sym}
use Rattle.model.proofs.Queue.{sort_perm}
use Rattle.model.proofs.Remark.{remark, renamed, renamed_outcome, step_remark}
use Rattle.model.proofs.Forward.{Good, no_trees}
use Rattle.model.proofs.Traces.{Root, root, scan_to, leads_one, advance}
use Rattle.model.proofs.Tests.{and_r}
use Rattle.model.proofs.Lists.{each_append}

-- the tree at an address
abbrev pub at : Tree → Address → Tree
at t [] = t
at t (j ∷ a) = at (subtree t j) a

at_below : (t : Tree) (a : Address) (j : ℕ) → at t (below a j) ≡ subtree (at t a) j
at_below t [] j = refl
at_below t (i ∷ a) j = at_below (subtree t i) a j

abbrev pub Spot : Type 0
Spot = Address × ℕ

abbrev mutual
  pub spots : Tree → Address → List Spot
  spots (node r ts) a = (a, r) ∷ spots_from ts a 0

  pub spots_from : Forest → Address → ℕ → List Spot
  spots_from nil a j = []
  spots_from (cons t ts) a j = spots t (below a j) ++ spots_from ts a (suc j)

abbrev rules : List Spot → List ℕ
rules l = map (λ x. x.1) l

rules_append : (a b : List Spot) → rules (a ++ b) ≡ rules a ++ rules b
rules_append [] b = refl
rules_append (x ∷ a) b = ap (λ (l : List ℕ). x.1 ∷ l) (rules_append a b)

mutual
  spots_rules : (t : Tree) (a : Address) → rules (spots t a) ≡ preorder t
  spots_rules (node r ts) a = ap (λ (l : List ℕ). r ∷ l) (spots_from_rules ts a 0)

  spots_from_rules : (ts : Forest) (a : Address) (j : ℕ) → rules (spots_from ts a j) ≡ preorders ts
  spots_from_rules nil a j = refl
  spots_from_rules (cons t ts) a j = rules_append (spots t (below a j)) (spots_from ts a (suc j)) ∙ cc (spots_rules t (below a j), spots_from_rules ts a (suc j))

-- each address goes before each that follows
abbrev pub Ascending : List Spot → Type 0
Ascending [] = Unit {0}
Ascending (x ∷ l) = ((y : Spot) → Memᴰ y l → T (before x.0 y.0)) × Ascending l

ascend_append : (a b : List Spot) → Ascending a → Ascending b → ((x y : Spot) → Memᴰ x a → Memᴰ y b → T (before x.0 y.0)) → Ascending (a ++ b)
ascend_append [] b r s h = s
ascend_append (x ∷ a) b r s h = (λ y m. go y (mathlib.Core.List.Memᴰ.append_cases a m), ascend_append a b r.1 s (λ u v i j. h u v (mathlib.Core.List.Memᴰ.tail i) j))
  where
    go : (y : Spot) → Memᴰ y a ⊎ Memᴰ y b → T (before x.0 y.0)
    go y (inl m) = r.0 y m
    go y (inr m) = h x y (mathlib.Core.List.Memᴰ.head refl) m

-- below an address: it, or longer
mutual
  spots_under : (t : Tree) (a : Address) (y : Spot) → Memᴰ y (spots t a) → (e : Address) × (y.0 ≡ a ++ e)
  spots_under (node r ts) a y m = go (mathlib.Core.List.Memᴰ.cases_cons m) (λ n. spots_from_under ts a 0 y n)
    where
      go : (y ≡ (a, r)) ⊎ Memᴰ y (spots_from ts a 0) → (Memᴰ y (spots_from ts a 0) → (k : ℕ) × (e : Address) × (0 ≤ k) × (y.0 ≡ a ++ (k ∷ e))) → (e : Address) × (y.0 ≡ a ++ e)
      go (inl f) ih = ([], ap (λ (x : Spot). x.0) f ∙ sym (append-nil a))
      go (inr n) ih = let (k, e, l, f) = ih n in (k ∷ e, f)

  spots_from_under : (ts : Forest) (a : Address) (j : ℕ) (y : Spot) → Memᴰ y (spots_from ts a j) → (k : ℕ) × (e : Address) × (j ≤ k) × (y.0 ≡ a ++ (k ∷ e))
  spots_from_under nil a j y m = elim m [ ]
  spots_from_under (cons t ts) a j y m =
      go (mathlib.Core.List.Memᴰ.append_cases (spots t (below a j)) m) (λ n. spots_under t (below a j) y n) (λ n. spots_from_under ts a (suc j) y n)
    where
      go : Memᴰ y (spots t (below a j)) ⊎ Memᴰ y (spots_from ts a (suc j))
          → (Memᴰ y (spots t (below a j)) → (e : Address) × (y.0 ≡ below a j ++ e))
          → (Memᴰ y (spots_from ts a (suc j)) → (k : ℕ) × (e : Address) × (suc j ≤ k) × (y.0 ≡ a ++ (k ∷ e)))
          → (k : ℕ) × (e : Address) × (j ≤ k) × (y.0 ≡ a ++ (k ∷ e))
      go (inl n) f h = let (e, p) = f n in (j, e, omega arith, p ∙ append_assoc a (j ∷ []) e)
      go (inr n) f h = let (k, e, l, p) = h n in (k, e, omega arith, p)

before_longer : (a : Address) (k : ℕ) (e : Address) → T (before a (a ++ (k ∷ e)))
before_longer [] k e = tt
before_longer (x ∷ a) k e = before_tail x a (a ++ (k ∷ e)) (before_longer a k e)

before_branch : (a : Address) (j k : ℕ) (d e : Address) → j < k → T (before (a ++ (j ∷ d)) (a ++ (k ∷ e)))
before_branch [] j k d e h = before_head j k d e h
before_branch (x ∷ a) j k d e h = before_tail x (a ++ (j ∷ d)) (a ++ (k ∷ e)) (before_branch a j k d e h)

mutual
  spots_ascend : (t : Tree) (a : Address) → Ascending (spots t a)
  spots_ascend (node r ts) a = (λ y m. let (k, e, l, p) = spots_from_under ts a 0 y m in rw p (before_longer a k e), spots_from_ascend ts a 0)

  spots_from_ascend : (ts : Forest) (a : Address) (j : ℕ) → Ascending (spots_from ts a j)
  spots_from_ascend nil a j = tt
  spots_from_ascend (cons t ts) a j =
      ascend_append (spots t (below a j)) (spots_from ts a (suc j)) (spots_ascend t (below a j)) (spots_from_ascend ts a (suc j))
      (λ x y m n.
      let (d, p) = spots_under t (below a j) x m in
      let (k, e, l, q) = spots_from_under ts a (suc j) y n in
      rw (p ∙ append_assoc a (j ∷ []) d, q) (before_branch a j k d e l))

-- sorting what has the elements of a list in order gives that list
insert_node_perm : (x : Spot) (l : List Spot) → Perm (insert_node x l) (x ∷ l)
insert_node_perm x [] = same refl
insert_node_perm x (y ∷ l) = go (before y.0 x.0) (insert_node_perm x l)
  where
    go : (b : Bool) → Perm (insert_node x l) (x ∷ l) → Perm (if b then y ∷ insert_node x l else x ∷ y ∷ l) (x ∷ y ∷ l)
    go true h = chain (more y h) (swap y x)
    go false h = same refl

sort_nodes_perm : (l : List Spot) → Perm (sort_nodes l) l
sort_nodes_perm [] = same refl
sort_nodes_perm (x ∷ l) = chain (insert_node_perm x (sort_nodes l)) (more x (sort_nodes_perm l))

-- addresses that differ are in one order or the other
before_or : (a b : Address) → (T (before a b) ⊎ T (before b a)) ⊎ (a ≡ b)
before_or [] [] = inr refl
before_or [] (y ∷ b) = inl (inl tt)
before_or (x ∷ a) [] = inl (inr tt)
before_or (x ∷ a) (y ∷ b) = go (compared x y) (before_or a b)
  where
    go : Compared x y → (T (before a b) ⊎ T (before b a)) ⊎ (a ≡ b) → (T (before (x ∷ a) (y ∷ b)) ⊎ T (before (y ∷ b) (x ∷ a))) ⊎ ((x ∷ a) ≡ (y ∷ b))
    go (digits.less h) r = inl (inl (lex_less x y (before a b) h))
    go (digits.more h) r = inl (inr (lex_less y x (before b a) h))
    go (digits.same e) (inl (inl t)) = inl (inl (lex_same x y (before a b) e t))
    go (digits.same e) (inl (inr t)) = inl (inr (lex_same y x (before b a) (sym e) t))
    go (digits.same e) (inr f) = inr (cc (e, f))

-- no address twice
abbrev Unlike : List Spot → Type 0
Unlike [] = Unit {0}
Unlike (x ∷ l) = ((y : Spot) → Memᴰ y l → x.0 ≡ y.0 → ⊥) × Unlike l

ascend_unlike : (l : List Spot) → Ascending l → Unlike l
ascend_unlike [] h = tt
ascend_unlike (x ∷ l) h = (λ y m e. before_irrefl y.0 (rw e at (h.0 y m)), ascend_unlike l h.1)

unlike_perm : {l m : List Spot} → Perm l m → Unlike l → Unlike m
unlike_perm (same e) o = subst Unlike e o
unlike_perm (more x p) o = (λ w i c. o.0 w (perm_mem (perm_sym p) i) c, unlike_perm p o.1)
unlike_perm (swap {l = l} x y) o = (λ w i c. go w c (mathlib.Core.List.Memᴰ.cases_cons i), (λ w i c. o.0 w (mathlib.Core.List.Memᴰ.tail i) c, o.1.1))
  where
    go : (w : Spot) → y.0 ≡ w.0 → (w ≡ x) ⊎ Memᴰ w l → ⊥
    go w c (inl e) = o.0 y (mathlib.Core.List.Memᴰ.head refl) (ap (λ (v : Spot). v.0) (sym e) ∙ sym c)
    go w c (inr i) = o.1.0 w i c
unlike_perm (chain p q) o = unlike_perm q (unlike_perm p o)

insert_ascends : (x : Spot) (l : List Spot) → Ascending l → ((y : Spot) → Memᴰ y l → x.0 ≡ y.0 → ⊥) → Ascending (insert_node x l)
insert_ascends x [] h u = (λ y m. elim m [ ], tt)
insert_ascends x (y ∷ l) h u = go (before y.0 x.0) refl (insert_ascends x l h.1 (λ z m. u z (mathlib.Core.List.Memᴰ.tail m)))
  where
    here : T (before y.0 x.0) → (z : Spot) → (z ≡ x) ⊎ Memᴰ z l → T (before y.0 z.0)
    here t z (inl e) = rw e t
    here t z (inr m) = h.0 z m

    first : (before y.0 x.0 ≡ false) → (T (before x.0 y.0) ⊎ T (before y.0 x.0)) ⊎ (x.0 ≡ y.0) → T (before x.0 y.0)
    first e (inl (inl t)) = t
    first e (inl (inr t)) = let z : ⊥ = rw e at t in absurd z
    first e (inr f) = absurd (u y (mathlib.Core.List.Memᴰ.head refl) f)

    all : T (before x.0 y.0) → (z : Spot) → (z ≡ y) ⊎ Memᴰ z l → T (before x.0 z.0)
    all t z (inl e) = rw e t
    all t z (inr m) = before_trans x.0 y.0 z.0 t (h.0 z m)

    go : (b : Bool) → before y.0 x.0 ≡ b → Ascending (insert_node x l) → Ascending (if b then y ∷ insert_node x l else x ∷ y ∷ l)
    go true e ih = (λ z m. here (rw e tt) z (mathlib.Core.List.Memᴰ.cases_cons (perm_mem (insert_node_perm x l) m)), ih)
    go false e ih = (λ z m. all (first e (before_or x.0 y.0)) z (mathlib.Core.List.Memᴰ.cases_cons m), h)

sort_ascends : (l : List Spot) → Unlike l → Ascending (sort_nodes l)
sort_ascends [] o = tt
sort_ascends (x ∷ l) o = insert_ascends x (sort_nodes l) (sort_ascends l o.1) (λ y m. o.0 y (perm_mem (sort_nodes_perm l) m))

ascending_same : (l m : List Spot) → Ascending l → Ascending m → ((x : Spot) → Memᴰ x l → Memᴰ x m) → ((x : Spot) → Memᴰ x m → Memᴰ x l) → l ≡ m
ascending_same [] [] h k f b = refl
ascending_same [] (y ∷ m) h k f b = let z : Memᴰ y [] = b y (mathlib.Core.List.Memᴰ.head refl) in elim z [ ]
ascending_same (x ∷ l) [] h k f b = let z : Memᴰ x [] = f x (mathlib.Core.List.Memᴰ.head refl) in elim z [ ]
ascending_same (x ∷ l) (y ∷ m) h k f b = go (λ e. ascending_same l m h.1 k.1 (λ z i. onto e z i (mathlib.Core.List.Memᴰ.cases_cons (f z (mathlib.Core.List.Memᴰ.tail i)))) (λ z i. into e z i (mathlib.Core.List.Memᴰ.cases_cons (b z (mathlib.Core.List.Memᴰ.tail i)))))
  where
    first : (x ≡ y) ⊎ Memᴰ x m → (y ≡ x) ⊎ Memᴰ y l → x ≡ y
    first (inl e) j = e
    first (inr i) (inl e) = sym e
    first (inr i) (inr j) = absurd (before_asym x.0 y.0 (h.0 y j) (k.0 x i))

    heads : x ≡ y
    heads = first (mathlib.Core.List.Memᴰ.cases_cons (f x (mathlib.Core.List.Memᴰ.head refl))) (mathlib.Core.List.Memᴰ.cases_cons (b y (mathlib.Core.List.Memᴰ.head refl)))

    onto : x ≡ y → (z : Spot) → Memᴰ z l → (z ≡ y) ⊎ Memᴰ z m → Memᴰ z m
    onto e z i (inr j) = j
    onto e z i (inl p) = absurd (before_irrefl x.0 (subst (λ (w : Spot). T (before x.0 w.0)) (p ∙ sym e) (h.0 z i)))

    into : x ≡ y → (z : Spot) → Memᴰ z m → (z ≡ x) ⊎ Memᴰ z l → Memᴰ z l
    into e z i (inr j) = j
    into e z i (inl p) = absurd (before_irrefl y.0 (subst (λ (w : Spot). T (before y.0 w.0)) (p ∙ e) (k.0 z i)))

    go : (x ≡ y → l ≡ m) → (x ∷ l) ≡ (y ∷ m)
    go r = cc (heads, r heads)

sort_of_perm : (l m : List Spot) → Perm l m → Ascending m → sort_nodes l ≡ m
sort_of_perm l m p h =
    ascending_same (sort_nodes l) m (sort_ascends l (unlike_perm (perm_sym p) (ascend_unlike m h))) h
    (λ x i. perm_mem p (perm_mem (sort_nodes_perm l) i)) (λ x i. perm_mem (perm_sym (sort_nodes_perm l)) (perm_mem (perm_sym p) i))

-- the step, with addresses
module _ (g : Grammar) where
  step_next : (s : State Address) (r : ℕ) (rule : Rule) (p : Prediction Address) (q : List (Prediction Address)) → s.queue ≡ p ∷ q
      → rule_at g r ≡ some rule → rule.category ≡ p.category → is_lexical rule ≡ false → step below g s r ≡ leads (record { queue = trim (sort (expand below g rule p ++ q)); words = s.words })
  step_next s r rule p q e f c l = rw (f, e) (rw (eq-eqb rule.category p.category c, l))

  step_word : (s : State Address) (r : ℕ) (rule : Rule) (p : Prediction Address) (q : List (Prediction Address)) → s.queue ≡ p ∷ q
      → rule_at g r ≡ some rule → rule.category ≡ p.category → is_lexical rule ≡ true → step below g s r ≡ scan rule.word q s.words
  step_word s r rule p q e f c l = rw (f, e) (rw (eq-eqb rule.category p.category c, l))

module _ (g : Grammar) (right : Right g) (t : Tree) where
  abbrev spots_of : Prediction Address → List Spot
  spots_of x = spots (at t x.node) x.node

  abbrev queue_spots : List (Prediction Address) → List Spot
  queue_spots q = each spots_of q

  trim_spots : (q : List (Prediction Address)) → queue_spots (trim q) ≡ queue_spots q
  trim_spots q = go (same_first (each (λ p. p.indices) q))
    where
      short : (l : List (Prediction Address)) → queue_spots (map shorten l) ≡ queue_spots l
      short [] = refl
      short (p ∷ l) = ap (λ (m : List Spot). spots_of p ++ m) (short l)

      go : (b : Bool) → queue_spots (if b then map shorten q else q) ≡ queue_spots q
      go true = short q
      go false = refl

  daughters_spots : (a : Address) (ss : List (Variable × Index)) (j : ℕ) (ds : List ℕ) (us : Forest) → T (has_roots g us ds)
      → ((k : ℕ) → k < length ds → subtree (at t a) (j + k) ≡ child_at us k) → queue_spots (daughters_from below g a ss j ds) ≡ spots_from us a j
  daughters_spots a ss j [] nil h hc = refl
  daughters_spots a ss j [] (cons u us) h hc = absurd h
  daughters_spots a ss j (d ∷ ds) nil h hc = absurd h
  daughters_spots a ss j (d ∷ ds) (cons u us) h hc =
      let k₀ : j + 0 ≡ j = omega arith in
      let c₀ : at t (below a j) ≡ u = at_below t a j ∙ ap (subtree (at t a)) (sym k₀) ∙ hc 0 (omega arith) in
      let ih = daughters_spots a ss (suc j) ds us (and_r (has_root g u d) (has_roots g us ds) h)
      (λ k l. let e : suc j + k ≡ j + suc k = omega arith in rw e (hc (suc k) (omega arith))) in
      let e : spots (at t (below a j)) (below a j) ≡ spots u (below a j) = ap (λ (x : Tree). spots x (below a j)) c₀ in
      cc (e, ih)

  -- the step from a queue of addresses, and the nodes that are left
  record Next (s : State Address) (r : ℕ) (x : Prediction Address) (q : List (Prediction Address)) : Type 0 where
    next : State Address
    leads_to : step below g s r ≡ leads next
    left : Perm (queue_spots (x ∷ q)) ((x.node, r) ∷ queue_spots next.queue)

  next_of : (s : State Address) (r : ℕ) (x : Prediction Address) (q : List (Prediction Address)) (s' : State Tree) → s.queue ≡ x ∷ q
      → T (has_root g (at t x.node) x.category) → label (at t x.node) ≡ r → step subtree g (renamed (at t) s) r ≡ leads s' → Next s r x q
  next_of s r x q s' e h l k = go (is_lexical R.rule) refl
    where
      R : Root g (at t x.node) x.category
      R = root g (at t x.node) x.category h

      f : rule_at g r ≡ some R.rule
      f = ap (rule_at g) (sym l) ∙ R.is_rule

      n : at t x.node ≡ node r R.trees
      n = R.is_node ∙ ap (λ (i : ℕ). node i R.trees) l

      children : (i : ℕ) → i < length R.rule.daughters → subtree (at t x.node) (0 + i) ≡ child_at R.trees i
      children i b = let m : 0 + i ≡ i = omega arith in ap (subtree (at t x.node)) m ∙ ap (λ (u : Tree). subtree u i) n

      go : (b : Bool) → is_lexical R.rule ≡ b → Next s r x q
      go false b =
          let new = expand below g R.rule x in
          let d : queue_spots new ≡ spots_from R.trees x.node 0 = daughters_spots x.node (variable_indices x.indices R.rule.components) 0 R.rule.daughters R.trees R.below children in
          let a : queue_spots (x ∷ q) ≡ (x.node, r) ∷ (spots_from R.trees x.node 0 ++ queue_spots q) = ap (λ (u : Tree). spots u x.node ++ queue_spots q) n in
          let c : queue_spots (new ++ q) ≡ spots_from R.trees x.node 0 ++ queue_spots q = each_append spots_of new q ∙ ap (λ (u : List Spot). u ++ queue_spots q) d in
          record {
            next = record { queue = trim (sort (new ++ q)); words = s.words };
            leads_to = step_next g s r R.rule x q e f R.of_cat b;
            left = chain (same a) (more (x.node, r) (chain (same (sym c)) (chain (perm_sym (perm_each spots_of (sort_perm (new ++ q)))) (same (sym (trim_spots (sort (new ++ q))))))));
          }
      go true b = scanned (step below g s r) refl
        where
          a : queue_spots (x ∷ q) ≡ (x.node, r) ∷ queue_spots q
          a = ap (λ (u : Tree). spots u x.node ++ queue_spots q) (n ∙ ap (node r) (no_trees g R.rule.daughters R.trees b R.below))

          outcome : renamed_outcome (at t) (step below g s r) ≡ leads s'
          outcome = step_remark (at t) below subtree (λ i j. at_below t i j) g s r ∙ k

          scanned : (o : Outcome Address) → step below g s r ≡ o → Next s r x q
          scanned (fails i) w = let z : ◌≡◌ {A = ℕ} 0 1 = cc (sym outcome ∙ ap (renamed_outcome (at t)) w) in absurd (omega arith)
          scanned (leads u) w =
              let c = scan_to R.rule.word q s.words u (sym (step_word g s r R.rule x q e f R.of_cat b) ∙ w) in
              record { next = u; leads_to = w; left = chain (same a) (more (x.node, r) (same (ap queue_spots (sym c.queue_is)))) }

  placed_perm : (p : List ℕ) (s : State Address) → Good g (renamed (at t) s).queue → Traces g (renamed (at t) s) p → Perm (placed g s p) (queue_spots s.queue)
  placed_perm [] s h tr = none_left s.queue tr.0
    where
      none_left : (q : List (Prediction Address)) → map (remark (at t)) q ≡ [] → Perm [] (queue_spots q)
      none_left [] e = same refl
      none_left (x ∷ q) e = absurd (cons≢nil e)
  placed_perm (r ∷ p) s h tr = go s.queue refl (λ s₁ h₁ tr₁. placed_perm p s₁ h₁ tr₁)
    where
      st : Step g (renamed (at t) s) r tr.0
      st = tr.1

      go : (q₀ : List (Prediction Address)) → s.queue ≡ q₀
          → ((s₁ : State Address) → Good g (renamed (at t) s₁).queue → Traces g (renamed (at t) s₁) p → Perm (placed g s₁ p) (queue_spots s₁.queue))
          → Perm (placed g s (r ∷ p)) (queue_spots s.queue)
      go [] e ih = absurd (nil≢cons (ap (map (remark (at t))) (sym e) ∙ st.queue_is))
      go (x ∷ q) e ih =
          let m : Memᴰ (remark (at t) x) (map (remark (at t)) s.queue) = rw e (mathlib.Core.List.Memᴰ.head refl) in
          let front : remark (at t) x ≡ st.front = head-eq_of_cons-eq (ap (map (remark (at t))) (sym e) ∙ st.queue_is) in
          let lab : label (at t x.node) ≡ r = ap (λ (y : Prediction Tree). label y.node) front ∙ st.labelled in
          finish (next_of s r x q tr.0 e (h.fit (remark (at t) x) m).rooted lab st.leads_to)
        where
          finish : Next s r x q → Perm (placed g s (r ∷ p)) (queue_spots s.queue)
          finish u =
              let k : renamed (at t) u.next ≡ tr.0
              = leads_one (ap (renamed_outcome (at t)) (sym u.leads_to) ∙ step_remark (at t) below subtree (λ i j. at_below t i j) g s r ∙ st.leads_to) in
              let a = advance g right (renamed (at t) s) tr.0 r h st in
              let i = ih u.next (subst (λ (z : State Tree). Good g z.queue) (sym k) a.good) (subst (λ (z : State Tree). Traces g z p) (sym k) tr.2) in
              rw (e, placed) (rw u.leads_to (chain (more (x.node, r) i) (perm_sym u.left)))

  -- the tree of the trace of a tree is the tree
  pub tree_of_lem : (sentence p : List ℕ) → Good g (begin subtree g t sentence).queue → Traces g (begin subtree g t sentence) p → tree_of g sentence p ≡ preorder t
  tree_of_lem sentence p h tr =
      let s = begin below g [] sentence in
      let q : Perm (placed g s p) (spots t []) = chain (placed_perm p s h tr) (same (append-nil (spots t []))) in
      ap rules (sort_of_perm (placed g s p) (spots t []) q (spots_ascend t [])) ∙ spots_rules t []
