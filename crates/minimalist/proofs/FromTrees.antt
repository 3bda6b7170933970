-- The minimalist derivation that a tree of a made grammar spells: what a tree is by its derivation, and that no other tree has it.
-- Assumes nothing.
use mathlib.Core.Path.{◌≡◌, refl, ap, ap₂, sym, subst, ◌∙◌}
use mathlib.Core.Bool.{Bool, true, false}
use mathlib.Core.Option.{Option, none, some}
use mathlib.Core.List.{List, [], ◌∷◌, map, Memᴰ}
use Prim.Native.Nat.{ℕ, ◌<◌}
use native.Mathlib.Omega.{arith}
use lib.Dec.{T}
use lib.ListN.{length}
use Rattle.model.specs.Grammar.{Rule, Grammar, rule_at}
use Rattle.model.specs.WellFormed.{WellFormed}
use Rattle.model.specs.Tree.{Tree, Forest, node, nil, cons, has_root, has_roots}
use Rattle.model.specs.Conversions.{label}
use Rattle.model.proofs.Tests.{and_l, and_r, some_one}
use Rattle.model.proofs.Traces.{Root, root}
use Rattle.minimalist.specs.Lexicon.{Entry}
use Rattle.minimalist.specs.Derivations.{Derivation, leaf, merge, move}
use Rattle.minimalist.specs.Schemes.{Form, Instance, merge_scheme, move_scheme}
use Rattle.minimalist.specs.Made.{Name, new_start, form, NamedRule, entry_rule, merge_rule, move_rule, Made, of_start, of_entry, of_merge, of_move, name_of, named_rule, MadeFrom}

-- names told apart
abbrev is_start : Name → Bool
is_start new_start = true
is_start (form a) = false

pub not_start : {A : Type 0} {a : Form} → new_start ≡ form a → A
not_start e = let z : true ≡ false = ap is_start e in let y : ◌≡◌ {A = ℕ} 0 1 = cc in absurd (omega arith)

pub form_one : {a b : Form} → form a ≡ form b → a ≡ b
form_one {a} e = ap (λ (n : Name). elim n [ new_start ↦ a | form x ↦ x ]) e

module _ {A : Type 0} where
  pub cons_head : {x y : A} {l m : List A} → x ∷ l ≡ y ∷ m → x ≡ y
  cons_head {x} e = ap (λ (k : List A). elim k [ [] ↦ x | z ∷ zs ↦ z ]) e

  pub cons_tail : {x y : A} {l m : List A} → x ∷ l ≡ y ∷ m → l ≡ m
  cons_tail {x} {y} {l} e = ap (λ (k : List A). elim k [ [] ↦ l | z ∷ zs ↦ zs ]) e

  pub nil_cons : {B : Type 0} {x : A} {l : List A} → [] ≡ x ∷ l → B
  nil_cons e = let z : ◌≡◌ {A = ℕ} 0 1 = ap (λ (k : List A). elim k [ [] ↦ 0 | z ∷ zs ↦ 1 ]) e in absurd (omega arith)

-- the head's features of a name, and the entry of a lexical rule
abbrev pub head_of : Name → List ℕ
head_of new_start = []
head_of (form a) = a.head

abbrev pub entry_by : List Name → Option Rule → Entry
entry_by N none = record { word = 0; features = [] }
entry_by N (some rule) = record { word = rule.word; features = head_of (name_of N rule.category) }

abbrev pub assemble : Grammar → List Name → ℕ → List Derivation → Derivation
assemble g N r [] = leaf (entry_by N (rule_at g r))
assemble g N r (a ∷ []) = move a
assemble g N r (a ∷ b ∷ ds) = merge a b

-- the derivation of a tree: a lexical rule is its entry, a rule of two daughters merge, of one move
abbrev mutual
  pub from_tree : Grammar → List Name → Tree → Derivation
  from_tree g N (node r ts) = assemble g N r (from_forest g N ts)

  pub from_forest : Grammar → List Name → Forest → List Derivation
  from_forest g N nil = []
  from_forest g N (cons t ts) = from_tree g N t ∷ from_forest g N ts

module _ (lexicon : List Entry) (words start : ℕ) (g : Grammar) (well : WellFormed g) (made : MadeFrom lexicon words start g) where
  abbrev pub N : List Name
  N = made.names

  -- a leaf
  pub record LeafShape (t : Tree) (c : ℕ) (e : Entry) : Type 0 where
    pub number : ℕ
    pub rule : Rule
    pub is_node : t ≡ node number nil
    pub is_rule : rule_at g number ≡ some rule
    pub of_cat : rule.category ≡ c
    pub named : named_rule N rule ≡ entry_rule e
    pub in_lexicon : Memᴰ e lexicon

  pub record MergeShape (t : Tree) (c : ℕ) (x y : Derivation) : Type 0 where
    pub number : ℕ
    pub rule : Rule
    pub left : Tree
    pub right : Tree
    pub c₁ : ℕ
    pub c₂ : ℕ
    pub a : Form
    pub b : Form
    pub s : Instance
    pub is_node : t ≡ node number (cons left (cons right nil))
    pub is_rule : rule_at g number ≡ some rule
    pub of_cat : rule.category ≡ c
    pub daughters : rule.daughters ≡ c₁ ∷ c₂ ∷ []
    pub left_rooted : T (has_root g left c₁)
    pub right_rooted : T (has_root g right c₂)
    pub left_name : name_of N c₁ ≡ form a
    pub right_name : name_of N c₂ ≡ form b
    pub named : named_rule N rule ≡ merge_rule a b s
    pub fits : merge_scheme a b ≡ some s
    pub left_is : from_tree g N left ≡ x
    pub right_is : from_tree g N right ≡ y

  pub record MoveShape (t : Tree) (c : ℕ) (x : Derivation) : Type 0 where
    pub number : ℕ
    pub rule : Rule
    pub below : Tree
    pub c₁ : ℕ
    pub a : Form
    pub s : Instance
    pub is_node : t ≡ node number (cons below nil)
    pub is_rule : rule_at g number ≡ some rule
    pub of_cat : rule.category ≡ c
    pub daughters : rule.daughters ≡ c₁ ∷ []
    pub rooted : T (has_root g below c₁)
    pub name : name_of N c₁ ≡ form a
    pub named : named_rule N rule ≡ move_rule a s
    pub fits : move_scheme a ≡ some s
    pub below_is : from_tree g N below ≡ x

  abbrev pub ShapeOf : Derivation → Tree → ℕ → Type 0
  ShapeOf (leaf e) t c = LeafShape t c e
  ShapeOf (merge x y) t c = MergeShape t c x y
  ShapeOf (move x) t c = MoveShape t c x

  -- lists of daughters by their names
  pub no_names : (ds : List ℕ) → map (name_of N) ds ≡ [] → ds ≡ []
  no_names [] e = refl
  no_names (d ∷ ds) e = nil_cons (sym e)

  pub record OneName (ds : List ℕ) (n : Name) : Type 0 where
    pub d : ℕ
    pub is : ds ≡ d ∷ []
    pub name : name_of N d ≡ n

  pub one_name : (ds : List ℕ) (n : Name) → map (name_of N) ds ≡ n ∷ [] → OneName ds n
  one_name [] n e = nil_cons e
  one_name (d ∷ ds) n e = record { d = d; is = ap (λ (l : List ℕ). d ∷ l) (no_names ds (cons_tail e)); name = cons_head e }

  pub record TwoNames (ds : List ℕ) (m n : Name) : Type 0 where
    pub d : ℕ
    pub k : ℕ
    pub is : ds ≡ d ∷ k ∷ []
    pub first : name_of N d ≡ m
    pub second : name_of N k ≡ n

  pub two_names : (ds : List ℕ) (m n : Name) → map (name_of N) ds ≡ m ∷ n ∷ [] → TwoNames ds m n
  two_names [] m n e = nil_cons e
  two_names (d ∷ ds) m n e =
      let o = one_name ds n (cons_tail e) in
      record { d = d; k = o.d; is = ap (λ (l : List ℕ). d ∷ l) o.is; first = cons_head e; second = o.name }

  -- trees below a node by its daughters
  no_trees : (ts : Forest) → T (has_roots g ts []) → ts ≡ nil
  no_trees nil t = refl
  no_trees (cons u us) t = absurd t

  pub record OneTree (ts : Forest) (c : ℕ) : Type 0 where
    pub tree : Tree
    pub is : ts ≡ cons tree nil
    pub rooted : T (has_root g tree c)

  pub one_tree : (ts : Forest) (c : ℕ) → T (has_roots g ts (c ∷ [])) → OneTree ts c
  one_tree nil c t = absurd t
  one_tree (cons u us) c t =
      record { tree = u; is = ap (cons u) (no_trees us (and_r (has_root g u c) (has_roots g us []) t)); rooted = and_l (has_root g u c) (has_roots g us []) t }

  record TwoTrees (ts : Forest) (c d : ℕ) : Type 0 where
    pub left : Tree
    pub right : Tree
    pub is : ts ≡ cons left (cons right nil)
    pub left_rooted : T (has_root g left c)
    pub right_rooted : T (has_root g right d)

  two_trees : (ts : Forest) (c d : ℕ) → T (has_roots g ts (c ∷ d ∷ [])) → TwoTrees ts c d
  two_trees nil c d t = absurd t
  two_trees (cons u us) c d t =
      let o = one_tree us d (and_r (has_root g u c) (has_roots g us (d ∷ [])) t) in
      record { left = u; right = o.tree; is = ap (cons u) o.is; left_rooted = and_l (has_root g u c) (has_roots g us (d ∷ [])) t; right_rooted = o.rooted }

  -- what a tree is by its derivation
  pub shape : (t : Tree) (c : ℕ) (a : Form) → T (has_root g t c) → name_of N c ≡ form a → ShapeOf (from_tree g N t) t c
  shape t c a h i = go (named_rule N x.rule) (made.rules_sound (label t) x.rule x.is_rule) refl
    where
      x : Root g t c
      x = root g t c h

      category_name : name_of N x.rule.category ≡ form a
      category_name = ap (name_of N) x.of_cat ∙ i

      go : (n : NamedRule) → Made lexicon start n → named_rule N x.rule ≡ n → ShapeOf (from_tree g N t) t c
      go n (of_start y d) q = not_start (sym (ap (λ (z : NamedRule). z.category) q) ∙ category_name)
      go n (of_entry e m) q =
          let ds = no_names x.rule.daughters (ap (λ (z : NamedRule). z.daughters) q) in
          let ts = no_trees x.trees (subst (λ (l : List ℕ). T (has_roots g x.trees l)) ds x.below) in
          let tn : t ≡ node (label t) nil = x.is_node ∙ ap (node (label t)) ts in
          let w = ap (λ (z : NamedRule). z.word) q in
          let f = ap (λ (z : NamedRule). head_of z.category) q in
          let en : entry_by N (some x.rule) ≡ e = λ i. record { word = w i; features = f i } in
          let d : from_tree g N t ≡ leaf e = ap (from_tree g N) tn ∙ ap (λ (o : Option Rule). leaf (entry_by N o)) x.is_rule ∙ ap leaf en in
          subst (λ (z : Derivation). ShapeOf z t c) (sym d)
          record { number = label t; rule = x.rule; is_node = tn; is_rule = x.is_rule; of_cat = x.of_cat; named = q; in_lexicon = m }
      go n (of_merge a b s da db e l) q =
          let two = two_names x.rule.daughters (form a) (form b) (ap (λ (z : NamedRule). z.daughters) q) in
          let ts = two_trees x.trees two.d two.k (subst (λ (l : List ℕ). T (has_roots g x.trees l)) two.is x.below) in
          let tn : t ≡ node (label t) (cons ts.left (cons ts.right nil)) = x.is_node ∙ ap (node (label t)) ts.is in
          subst (λ (z : Derivation). ShapeOf z t c) (sym (ap (from_tree g N) tn))
          record {
            number = label t;
            rule = x.rule;
            left = ts.left;
            right = ts.right;
            c₁ = two.d;
            c₂ = two.k;
            a = a;
            b = b;
            s = s;
            is_node = tn;
            is_rule = x.is_rule;
            of_cat = x.of_cat;
            daughters = two.is;
            left_rooted = ts.left_rooted;
            right_rooted = ts.right_rooted;
            left_name = two.first;
            right_name = two.second;
            named = q;
            fits = e;
            left_is = refl;
            right_is = refl;
          }
      go n (of_move a s da e l) q =
          let one = one_name x.rule.daughters (form a) (ap (λ (z : NamedRule). z.daughters) q) in
          let ts = one_tree x.trees one.d (subst (λ (l : List ℕ). T (has_roots g x.trees l)) one.is x.below) in
          let tn : t ≡ node (label t) (cons ts.tree nil) = x.is_node ∙ ap (node (label t)) ts.is in
          subst (λ (z : Derivation). ShapeOf z t c) (sym (ap (from_tree g N) tn))
          record {
            number = label t;
            rule = x.rule;
            below = ts.tree;
            c₁ = one.d;
            a = a;
            s = s;
            is_node = tn;
            is_rule = x.is_rule;
            of_cat = x.of_cat;
            daughters = one.is;
            rooted = ts.rooted;
            name = one.name;
            named = q;
            fits = e;
            below_is = refl;
          }

  -- rules with one name are one rule
  in_range : (c : ℕ) → c < length g.dimensions → c < length N
  in_range c h = omega (arith, made.one_each)

  lists_same : (ds es : List ℕ) → ((d : ℕ) → Memᴰ d ds → d < length N) → ((d : ℕ) → Memᴰ d es → d < length N) → map (name_of N) ds ≡ map (name_of N) es → ds ≡ es
  lists_same [] [] h k e = refl
  lists_same [] (y ∷ es) h k e = nil_cons e
  lists_same (x ∷ ds) [] h k e = nil_cons (sym e)
  lists_same (x ∷ ds) (y ∷ es) h k e =
      ap₂ (λ (a : ℕ) (l : List ℕ). a ∷ l) (made.names_differ x y (h x (Memᴰ.head refl)) (k y (Memᴰ.head refl)) (cons_head e))
      (lists_same ds es (λ d m. h d (Memᴰ.tail m)) (λ d m. k d (Memᴰ.tail m)) (cons_tail e))

  pub category_in : (r : ℕ) (rule : Rule) → rule_at g r ≡ some rule → rule.category < length N
  category_in r rule i = in_range rule.category (well.ranges r rule i).category_is

  pub daughters_in : (r : ℕ) (rule : Rule) → rule_at g r ≡ some rule → (d : ℕ) → Memᴰ d rule.daughters → d < length N
  daughters_in r rule i d m = in_range d ((well.ranges r rule i).daughters_are d m)

  pub record SameRule (r s : ℕ) (p q : Rule) : Type 0 where
    pub rules : p ≡ q
    pub numbers : r ≡ s

  pub same_rule_lem : (r s : ℕ) (p q : Rule) → rule_at g r ≡ some p → rule_at g s ≡ some q → named_rule N p ≡ named_rule N q → SameRule r s p q
  same_rule_lem r s p q i j e =
      let c = made.names_differ p.category q.category (category_in r p i) (category_in s q j) (ap (λ (z : NamedRule). z.category) e) in
      let d = lists_same p.daughters q.daughters (daughters_in r p i) (daughters_in s q j) (ap (λ (z : NamedRule). z.daughters) e) in
      let w : p.word ≡ q.word = ap (λ (z : NamedRule). z.word) e in
      let k : p.components ≡ q.components = ap (λ (z : NamedRule). z.components) e in
      let h : p.weight ≡ q.weight = made.weights_are_0 r p i ∙ sym (made.weights_are_0 s q j) in
      let same : p ≡ q = λ i. record { category = c i; daughters = d i; word = w i; components = k i; weight = h i } in
      record { rules = same; numbers = made.rules_differ r s p i (j ∙ ap some (sym same)) }

  -- a derivation has at most one tree
  pub unique : (d : Derivation) (t u : Tree) (c k : ℕ) → ShapeOf d t c → ShapeOf d u k → (t ≡ u) × (c ≡ k)
  unique (leaf e) t u c k p q =
      let s = same_rule_lem p.number q.number p.rule q.rule p.is_rule q.is_rule (p.named ∙ sym q.named) in
      (p.is_node ∙ ap (λ (n : ℕ). node n nil) s.numbers ∙ sym q.is_node, sym p.of_cat ∙ ap (λ (z : Rule). z.category) s.rules ∙ q.of_cat)
  unique (merge x y) t u c k p q =
      let l = unique x p.left q.left p.c₁ q.c₁
      (subst (λ (z : Derivation). ShapeOf z p.left p.c₁) p.left_is (shape p.left p.c₁ p.a p.left_rooted p.left_name))
      (subst (λ (z : Derivation). ShapeOf z q.left q.c₁) q.left_is (shape q.left q.c₁ q.a q.left_rooted q.left_name)) in
      let r = unique y p.right q.right p.c₂ q.c₂
      (subst (λ (z : Derivation). ShapeOf z p.right p.c₂) p.right_is (shape p.right p.c₂ p.b p.right_rooted p.right_name))
      (subst (λ (z : Derivation). ShapeOf z q.right q.c₂) q.right_is (shape q.right q.c₂ q.b q.right_rooted q.right_name)) in
      let a : p.a ≡ q.a = form_one (sym p.left_name ∙ ap (name_of N) l.1 ∙ q.left_name) in
      let b : p.b ≡ q.b = form_one (sym p.right_name ∙ ap (name_of N) r.1 ∙ q.right_name) in
      let i : p.s ≡ q.s = some_one (sym p.fits ∙ ap₂ merge_scheme a b ∙ q.fits) in
      let n : merge_rule p.a p.b p.s ≡ merge_rule q.a q.b q.s = λ j. merge_rule (a j) (b j) (i j) in
      let s = same_rule_lem p.number q.number p.rule q.rule p.is_rule q.is_rule (p.named ∙ n ∙ sym q.named) in
      let nodes : node p.number (cons p.left (cons p.right nil)) ≡ node q.number (cons q.left (cons q.right nil)) = λ j. node (s.numbers j) (cons (l.0 j) (cons (r.0 j) nil)) in
      (p.is_node ∙ nodes ∙ sym q.is_node, sym p.of_cat ∙ ap (λ (z : Rule). z.category) s.rules ∙ q.of_cat)
  unique (move x) t u c k p q =
      let l = unique x p.below q.below p.c₁ q.c₁
      (subst (λ (z : Derivation). ShapeOf z p.below p.c₁) p.below_is (shape p.below p.c₁ p.a p.rooted p.name))
      (subst (λ (z : Derivation). ShapeOf z q.below q.c₁) q.below_is (shape q.below q.c₁ q.a q.rooted q.name)) in
      let a : p.a ≡ q.a = form_one (sym p.name ∙ ap (name_of N) l.1 ∙ q.name) in
      let i : p.s ≡ q.s = some_one (sym p.fits ∙ ap move_scheme a ∙ q.fits) in
      let n : move_rule p.a p.s ≡ move_rule q.a q.s = λ j. move_rule (a j) (i j) in
      let s = same_rule_lem p.number q.number p.rule q.rule p.is_rule q.is_rule (p.named ∙ n ∙ sym q.named) in
      let nodes : node p.number (cons p.below nil) ≡ node q.number (cons q.below nil) = λ j. node (s.numbers j) (cons (l.0 j) nil) in
      (p.is_node ∙ nodes ∙ sym q.is_node, sym p.of_cat ∙ ap (λ (z : Rule). z.category) s.rules ∙ q.of_cat)
