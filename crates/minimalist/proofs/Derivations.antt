-- A tree of a made grammar derives what its derivation derives; and every derivation of a category that is not left out has a tree.
-- Assumes nothing.
use Rattle.std.specs.Prelude.{if◌then◌else◌}
use mathlib.Core.Path.{◌≡◌, refl, ap, ap₂, sym, subst, ◌∙◌}
use mathlib.Core.Logic.{⊎_elim}
use mathlib.Core.Bool.{Bool, true, false, ◌&&◌}
use mathlib.Core.Option.{Option, none, some}
use mathlib.Core.List.{List, [], ◌∷◌, ◌++◌, map, Memᴰ}
use Prim.Native.Nat.{ℕ, ◌+◌, ◌<◌}
use native.Mathlib.Omega.{arith}
use lib.Dec.{T, eqb, eqb→eq}
use lib.ListN.{length, length-append}
use borrow.Author.Tests.{eq-eqb}
use Rattle.model.specs.Base.{each, same_list}
use Rattle.model.specs.Grammar.{Rule, Grammar, rule_at}
use Rattle.model.specs.WellFormed.{WellFormed}
use Rattle.model.specs.Tree.{Tree, Forest, node, nil, cons, has_root, has_roots, preorder, yield, yields, yield_by, string_of, word_string}
use Rattle.model.proofs.Tests.{and_l, and_r, and_both, passes, none_some, same_list_lem, list_same, or_cases, or_left, or_right, some_one}
use Rattle.model.proofs.Traces.{root}
use Rattle.minimalist.specs.Lexicon.{Entry}
use Rattle.minimalist.specs.Derivations.{Expression, Derivation, leaf, merge, move, nodes, lexical_expression, merged, moved, same_entry, is_entry, both, one, derived}
use Rattle.minimalist.specs.Schemes.{form_of, Instance, merge_scheme, move_scheme, left_out, Derivable, by_entry, by_merge, by_move}
use Rattle.minimalist.specs.Made.{Name, form, NamedRule, entry_rule, merge_rule, move_rule, of_entry, of_merge, of_move, name_of, MadeFrom}
use Rattle.minimalist.proofs.Agree.{strings, valued, Agree, merge_agrees, move_agrees}
use Rattle.minimalist.proofs.Harmless.{merge_harmless, move_harmless}
use Rattle.minimalist.proofs.FromTrees.{form_one, from_tree, ShapeOf, shape, no_names, one_name, two_names, category_in, daughters_in, head_of, entry_by}

-- entries by test
same_entry_lem : (d e : Entry) → T (same_entry d e) → e ≡ d
same_entry_lem d e t =
    let w = sym (eqb→eq d.word e.word (and_l (eqb d.word e.word) (same_list d.features e.features) t)) in
    let f = sym (same_list_lem d.features e.features (and_r (eqb d.word e.word) (same_list d.features e.features) t)) in
    λ i. record { word = w i; features = f i }

pub entry_out : (l : List Entry) (e : Entry) → T (is_entry l e) → Memᴰ e l
entry_out [] e t = absurd t
entry_out (d ∷ l) e t = ⊎_elim (λ u. Memᴰ.head (same_entry_lem d e u)) (λ u. Memᴰ.tail (entry_out l e u)) (or_cases (same_entry d e) (is_entry l e) t)

pub entry_in : (l : List Entry) (e : Entry) → Memᴰ e l → T (is_entry l e)
entry_in [] e x' = elim x' [ ]
entry_in (d ∷ l) e (Memᴰ.head q) =
    or_left (same_entry d e) (is_entry l e)
    (and_both (eqb d.word e.word) (same_list d.features e.features) (rw (eq-eqb d.word e.word (ap (λ (z : Entry). z.word) (sym q))) tt)
    (subst (λ (z : Entry). T (same_list z.features e.features)) q (list_same e.features)))
entry_in (d ∷ l) e (Memᴰ.tail m) = or_right (same_entry d e) (is_entry l e) (entry_in l e m)

-- an instance that is there gives an expression, and the other way round
record Expressed (ys : List (List (List ℕ))) (o : Option Expression) (s : Instance) : Type 0 where
  pub expression : Expression
  pub is : o ≡ some expression
  pub category : s.result ≡ form_of expression
  pub value : valued ys s.components ≡ strings expression

expressed : (ys : List (List (List ℕ))) (o : Option Expression) (i : Option Instance) (s : Instance) → Agree ys o i → i ≡ some s → Expressed ys o s
expressed ys none none s a e = none_some (sym e)
expressed ys none (some t) s a e = absurd a
expressed ys (some x) none s a e = absurd a
expressed ys (some x) (some t) s a e =
    record { expression = x; is = refl; category = ap (λ (z : Instance). z.result) (sym (some_one e)) ∙ a.0; value = ap (λ (z : Instance). valued ys z.components) (sym (some_one e)) ∙ a.1 }

pub record Instanced (ys : List (List (List ℕ))) (i : Option Instance) (x : Expression) : Type 0 where
  pub s : Instance
  pub is : i ≡ some s
  pub category : s.result ≡ form_of x

pub instanced : (ys : List (List (List ℕ))) (o : Option Expression) (i : Option Instance) (x : Expression) → Agree ys o i → o ≡ some x → Instanced ys i x
instanced ys none i x a e = none_some (sym e)
instanced ys (some y) none x a e = absurd a
instanced ys (some y) (some t) x a e = record { s = t; is = refl; category = a.0 ∙ ap form_of (some_one e) }

-- the parts of a derivation that derives
pub record Both (f : Expression → Expression → Option Expression) (o p : Option Expression) (x : Expression) : Type 0 where
  pub left : Expression
  pub right : Expression
  pub left_is : o ≡ some left
  pub right_is : p ≡ some right
  pub is : f left right ≡ some x

pub both_out : (f : Expression → Expression → Option Expression) (o p : Option Expression) (x : Expression) → both f o p ≡ some x → Both f o p x
both_out f none p x e = none_some (sym e)
both_out f (some a) none x e = none_some (sym e)
both_out f (some a) (some b) x e = record { left = a; right = b; left_is = refl; right_is = refl; is = e }

pub record One (f : Expression → Option Expression) (o : Option Expression) (x : Expression) : Type 0 where
  pub below : Expression
  pub below_is : o ≡ some below
  pub is : f below ≡ some x

pub one_out : (f : Expression → Option Expression) (o : Option Expression) (x : Expression) → one f o ≡ some x → One f o x
one_out f none x e = none_some (sym e)
one_out f (some a) x e = record { below = a; below_is = refl; is = e }

lexical_test : (ds : List ℕ) → ds ≡ [] → ◌≡◌ {A = Bool} (elim ds [ [] ↦ true | d ∷ es ↦ false ]) true
lexical_test ds e = ap (λ (l : List ℕ). elim l as (λ l. Bool) [ [] ↦ true | d ∷ es ↦ false ]) e

nonlexical_test : (ds : List ℕ) (c : ℕ) (cs : List ℕ) → ds ≡ c ∷ cs → ◌≡◌ {A = Bool} (elim ds [ [] ↦ true | d ∷ es ↦ false ]) false
nonlexical_test ds c cs e = ap (λ (l : List ℕ). elim l as (λ l. Bool) [ [] ↦ true | d ∷ es ↦ false ]) e

-- the yield of a node by its rule
pub yield_nonlexical : (g : Grammar) (r : ℕ) (rule : Rule) (ts : Forest) (c : ℕ) (cs : List ℕ) → rule_at g r ≡ some rule → rule.daughters ≡ c ∷ cs
    → yield g (node r ts) ≡ valued (yields g ts) rule.components
yield_nonlexical g r rule ts c cs i d =
    ap (λ (o : Option Rule). yield_by o (yields g ts)) i
    ∙ ap (λ (b : Bool). if b then word_string rule.word ∷ [] else valued (yields g ts) rule.components) (nonlexical_test rule.daughters c cs d)

module _ (lexicon : List Entry) (words start : ℕ) (g : Grammar) (well : WellFormed g) (made : MadeFrom lexicon words start g) where
  abbrev N : List Name
  N = made.names

  abbrev Shape : Derivation → Tree → ℕ → Type 0
  Shape = ShapeOf lexicon words start g well made

  -- what a tree derives
  pub record Sound (d : Derivation) (t : Tree) (c : ℕ) : Type 0 where
    pub expression : Expression
    pub derives : derived lexicon d ≡ some expression
    pub form_is : name_of N c ≡ form (form_of expression)
    pub yields_are : yield g t ≡ strings expression
    pub size : length (preorder t) ≡ nodes d

  pub sound : (d : Derivation) (t : Tree) (c : ℕ) → Shape d t c → Sound d t c
  sound (leaf e) t c p =
      let ds = no_names lexicon words start g well made p.rule.daughters (ap (λ (z : NamedRule). z.daughters) p.named) in
      record {
        expression = lexical_expression e;
        derives = ap (λ (b : Bool). if b then some (lexical_expression e) else none) (passes (is_entry lexicon e) (entry_in lexicon e p.in_lexicon));
        form_is = ap (name_of N) (sym p.of_cat) ∙ ap (λ (z : NamedRule). z.category) p.named;
        yields_are =
            ap (yield g) p.is_node ∙ ap (λ (o : Option Rule). yield_by o []) p.is_rule
            ∙ ap (λ (b : Bool). if b then word_string p.rule.word ∷ [] else map (λ c. each (string_of []) c) p.rule.components) (lexical_test p.rule.daughters ds)
            ∙ ap (λ (w : ℕ). word_string w ∷ []) (ap (λ (z : NamedRule). z.word) p.named);
        size = ap (λ (u : Tree). length (preorder u)) p.is_node;
      }
  sound (merge x y) t c p =
      let l = sound x p.left p.c₁ (subst (λ (z : Derivation). Shape z p.left p.c₁) p.left_is (shape lexicon words start g well made p.left p.c₁ p.a p.left_rooted p.left_name)) in
      let r = sound y p.right p.c₂ (subst (λ (z : Derivation). Shape z p.right p.c₂) p.right_is (shape lexicon words start g well made p.right p.c₂ p.b p.right_rooted p.right_name)) in
      let a : form_of l.expression ≡ p.a = form_one (sym l.form_is ∙ p.left_name) in
      let b : form_of r.expression ≡ p.b = form_one (sym r.form_is ∙ p.right_name) in
      let ys = strings l.expression ∷ strings r.expression ∷ [] in
      let i = expressed ys (merged l.expression r.expression) (merge_scheme (form_of l.expression) (form_of r.expression)) p.s (merge_agrees l.expression r.expression) (ap₂ merge_scheme a b ∙ p.fits) in
      record {
        expression = i.expression;
        derives = ap₂ (both merged) l.derives r.derives ∙ i.is;
        form_is = ap (name_of N) (sym p.of_cat) ∙ ap (λ (z : NamedRule). z.category) p.named ∙ ap form i.category;
        yields_are =
            ap (yield g) p.is_node ∙ yield_nonlexical g p.number p.rule (cons p.left (cons p.right nil)) p.c₁ (p.c₂ ∷ []) p.is_rule p.daughters
            ∙ ap₂ (λ (u v : List (List ℕ)). valued (u ∷ v ∷ []) p.rule.components) l.yields_are r.yields_are
            ∙ ap (λ (z : NamedRule). valued ys z.components) p.named ∙ i.value;
        size = ap (λ (u : Tree). length (preorder u)) p.is_node ∙ joined (preorder p.left) (preorder p.right) (nodes x) (nodes y) l.size r.size;
      }
    where
      joined : (a b : List ℕ) (m n : ℕ) → length a ≡ m → length b ≡ n → ◌≡◌ {A = ℕ} (length (p.number ∷ (a ++ (b ++ [])))) (1 + m + n)
      joined a b m n e f = omega (arith, length-append a (b ++ []), length-append b [])
  sound (move x) t c p =
      let l = sound x p.below p.c₁ (subst (λ (z : Derivation). Shape z p.below p.c₁) p.below_is (shape lexicon words start g well made p.below p.c₁ p.a p.rooted p.name)) in
      let a : form_of l.expression ≡ p.a = form_one (sym l.form_is ∙ p.name) in
      let ys = strings l.expression ∷ [] in
      let i = expressed ys (moved l.expression) (move_scheme (form_of l.expression)) p.s (move_agrees l.expression) (ap move_scheme a ∙ p.fits) in
      record {
        expression = i.expression;
        derives = ap (one moved) l.derives ∙ i.is;
        form_is = ap (name_of N) (sym p.of_cat) ∙ ap (λ (z : NamedRule). z.category) p.named ∙ ap form i.category;
        yields_are =
            ap (yield g) p.is_node ∙ yield_nonlexical g p.number p.rule (cons p.below nil) p.c₁ [] p.is_rule p.daughters
            ∙ ap (λ (u : List (List ℕ)). valued (u ∷ []) p.rule.components) l.yields_are
            ∙ ap (λ (z : NamedRule). valued ys z.components) p.named ∙ i.value;
        size = ap (λ (u : Tree). length (preorder u)) p.is_node ∙ joined (preorder p.below) (nodes x) l.size;
      }
    where
      joined : (a : List ℕ) (m : ℕ) → length a ≡ m → ◌≡◌ {A = ℕ} (length (p.number ∷ (a ++ []))) (1 + m)
      joined a m e = omega (arith, length-append a [])

  -- every derivation of a category that is not left out has a tree
  pub record Grown (d : Derivation) (x : Expression) : Type 0 where
    pub tree : Tree
    pub category : ℕ
    pub rooted : T (has_root g tree category)
    pub named : name_of N category ≡ form (form_of x)
    pub is : from_tree g N tree ≡ d
    pub derivable : Derivable lexicon (form_of x)

  pub rooted_at : (r : ℕ) (rule : Rule) (ts : Forest) (ds : List ℕ) → rule_at g r ≡ some rule → rule.daughters ≡ ds → T (has_roots g ts ds) → T (has_root g (node r ts) rule.category)
  rooted_at r rule ts ds i e h =
      rw i (and_both (eqb rule.category rule.category) (has_roots g ts rule.daughters) (rw (eq-eqb rule.category rule.category refl) tt) (subst (λ (l : List ℕ). T (has_roots g ts l)) (sym e) h))

  category_below : (t : Tree) (c : ℕ) → T (has_root g t c) → c < length N
  category_below t c h = let x = root g t c h in subst (λ (k : ℕ). k < length N) x.of_cat (category_in lexicon words start g well made _ x.rule x.is_rule)

  -- a daughter with the name of a tree's category is that category
  pub moved_to : (t : Tree) (c d : ℕ) (n : Name) → T (has_root g t c) → name_of N c ≡ n → name_of N d ≡ n → d < length N → T (has_root g t d)
  moved_to t c d n h e f l = subst (λ (k : ℕ). T (has_root g t k)) (made.names_differ c d (category_below t c h) l (e ∙ sym f)) h

  pub grow : (d : Derivation) (x : Expression) → derived lexicon d ≡ some x → left_out (form_of x) ≡ false → Grown d x
  grow (leaf e) x h f = go (is_entry lexicon e) refl h
    where
      go : (b : Bool) → is_entry lexicon e ≡ b → (if b then some (lexical_expression e) else none) ≡ some x → Grown (leaf e) x
      go false i k = none_some (sym k)
      go true i k =
          let m = entry_out lexicon e (rw i tt) in
          let n = made.rules_whole (entry_rule e) (of_entry e m) in
          let ds = no_names lexicon words start g well made n.rule.daughters (ap (λ (z : NamedRule). z.daughters) n.named) in
          let w = ap (λ (z : NamedRule). z.word) n.named in
          let q = ap (λ (z : NamedRule). head_of z.category) n.named in
          let en : entry_by N (some n.rule) ≡ e = λ i. record { word = w i; features = q i } in
          record {
            tree = node n.number nil;
            category = n.rule.category;
            rooted = rooted_at n.number n.rule nil [] n.is_rule ds tt;
            named = ap (λ (z : NamedRule). z.category) n.named ∙ ap (λ (z : Expression). form (form_of z)) (some_one k);
            is = ap (λ (o : Option Rule). leaf (entry_by N o)) n.is_rule ∙ ap leaf en;
            derivable = subst (λ (z : Expression). Derivable lexicon (form_of z)) (some_one k) (by_entry e m);
          }
  grow (merge a b) x h f =
      let p = both_out merged (derived lexicon a) (derived lexicon b) x h in
      let ys = strings p.left ∷ strings p.right ∷ [] in
      let i = instanced ys (merged p.left p.right) (merge_scheme (form_of p.left) (form_of p.right)) x (merge_agrees p.left p.right) p.is in
      let good : left_out i.s.result ≡ false = ap left_out i.category ∙ f in
      let ok = merge_harmless (form_of p.left) (form_of p.right) i.s i.is good in
      let l = grow a p.left p.left_is ok.0 in
      let r = grow b p.right p.right_is ok.1 in
      let n = made.rules_whole (merge_rule (form_of p.left) (form_of p.right) i.s) (of_merge (form_of p.left) (form_of p.right) i.s l.derivable r.derivable i.is good) in
      let two = two_names lexicon words start g well made n.rule.daughters (form (form_of p.left)) (form (form_of p.right)) (ap (λ (z : NamedRule). z.daughters) n.named) in
      let in-rule : (c : ℕ) → Memᴰ c (two.d ∷ two.k ∷ []) → c < length N = λ c m. daughters_in lexicon words start g well made n.number n.rule n.is_rule c (subst (λ (l : List ℕ). Memᴰ c l) (sym two.is) m) in
      let hl = moved_to l.tree l.category two.d (form (form_of p.left)) l.rooted l.named two.first (in-rule two.d (Memᴰ.head refl)) in
      let hr = moved_to r.tree r.category two.k (form (form_of p.right)) r.rooted r.named two.second (in-rule two.k (Memᴰ.tail (Memᴰ.head refl))) in
      record {
        tree = node n.number (cons l.tree (cons r.tree nil));
        category = n.rule.category;
        rooted =
            rooted_at n.number n.rule (cons l.tree (cons r.tree nil)) (two.d ∷ two.k ∷ []) n.is_rule two.is
            (and_both (has_root g l.tree two.d) (has_root g r.tree two.k && true) hl (and_both (has_root g r.tree two.k) true hr tt));
        named = ap (λ (z : NamedRule). z.category) n.named ∙ ap form i.category;
        is = ap₂ merge l.is r.is;
        derivable = subst (Derivable lexicon) i.category (by_merge (form_of p.left) (form_of p.right) i.s l.derivable r.derivable i.is good);
      }
  grow (move a) x h f =
      let p = one_out moved (derived lexicon a) x h in
      let ys = strings p.below ∷ [] in
      let i = instanced ys (moved p.below) (move_scheme (form_of p.below)) x (move_agrees p.below) p.is in
      let good : left_out i.s.result ≡ false = ap left_out i.category ∙ f in
      let l = grow a p.below p.below_is (move_harmless (form_of p.below) i.s i.is good) in
      let n = made.rules_whole (move_rule (form_of p.below) i.s) (of_move (form_of p.below) i.s l.derivable i.is good) in
      let one = one_name lexicon words start g well made n.rule.daughters (form (form_of p.below)) (ap (λ (z : NamedRule). z.daughters) n.named) in
      let hl = moved_to l.tree l.category one.d (form (form_of p.below)) l.rooted l.named one.name
      (daughters_in lexicon words start g well made n.number n.rule n.is_rule one.d (subst (λ (l : List ℕ). Memᴰ one.d l) (sym one.is) (Memᴰ.head refl))) in
      record {
        tree = node n.number (cons l.tree nil);
        category = n.rule.category;
        rooted = rooted_at n.number n.rule (cons l.tree nil) (one.d ∷ []) n.is_rule one.is (and_both (has_root g l.tree one.d) true hl tt);
        named = ap (λ (z : NamedRule). z.category) n.named ∙ ap form i.category;
        is = ap move l.is;
        derivable = subst (Derivable lexicon) i.category (by_move (form_of p.below) i.s l.derivable i.is good);
      }
