-- The count of a made grammar is the number of minimalist derivations.
-- Assumes nothing.
use mathlib.Core.Path.{◌≡◌, refl, ap, sym, subst, ◌∙◌}
use mathlib.Core.Bool.{Bool, true, false}
use mathlib.Core.Option.{Option, none, some}
use mathlib.Core.List.{List, [], ◌∷◌, ◌++◌, map, append-nil, Memᴰ}
use Prim.Native.Nat.{ℕ, suc, ◌≤◌}
use native.Mathlib.Omega.{arith}
use lib.Dec.{T, ltb}
use lib.ListN.{length, get_or, length-append, length-map}
use borrow.Author.Tests.{le-ltb}
use Rattle.model.specs.Grammar.{Rule, Grammar, rule_at}
use Rattle.model.specs.WellFormed.{WellFormed}
use Rattle.model.specs.GrammarFile.{grammar_refusal, grammar_of}
use Rattle.model.specs.Tree.{Tree, node, nil, cons, has_root, has_roots, preorder, yield, string_fits, spells}
use Rattle.model.specs.Conversions.{label}
use Rattle.model.specs.Counting.{effort, count}
use Rattle.model.specs.LivePrefixes.{Different}
use Rattle.model.specs.Calls.{count_call}
use Rattle.model.specs.Demands.{Analysis}
use Rattle.model.proofs.Tests.{and_l, and_r, and_both}
use Rattle.model.proofs.Lists.{map_in, map_out}
use Rattle.model.proofs.Traces.{Root, root}
use Rattle.model.proofs.WellFormed.{accepted_well}
use Rattle.model.proofs.Analyses.{Analyses, analyses}
use Rattle.model.proofs.FromFile.{accepted_right}
use Rattle.minimalist.specs.Once.{Once}
use Rattle.minimalist.specs.Lexicon.{Entry}
use Rattle.minimalist.specs.Derivations.{Chain, Expression, Derivation, leaf, nodes, Counted}
use Rattle.minimalist.specs.Schemes.{form_of, features_of, Form, Derivable, left_out}
use Rattle.minimalist.specs.Made.{Name, new_start, form, NamedRule, start_form, start_rule, Made, of_start, of_entry, of_merge, of_move, name_of, named_rule, Numbered, MadeFrom}
use Rattle.minimalist.specs.MakeGrammar.{CountsAgree}
use Rattle.minimalist.proofs.Agree.{valued}
use Rattle.minimalist.proofs.FromTrees.{not_start, form_one, nil_cons, from_tree, from_forest, ShapeOf, shape, OneName, one_name, one_tree, same_rule_lem, category_in, daughters_in, unique}
use Rattle.minimalist.proofs.Derivations.{yield_nonlexical, Sound, sound, Grown, grow, rooted_at, moved_to}
use Rattle.model.specs.Verdict.{CountVerdict, counts}
use Rattle.std.specs.Prelude.{Ok}

-- the derivation below the new start
abbrev pub first_of : List Derivation → Derivation
first_of [] = leaf (record { word = 0; features = [] })
first_of (d ∷ ds) = d

abbrev pub top_of : Grammar → List Name → Tree → Derivation
top_of g N (node r ts) = first_of (from_forest g N ts)

no_chains : (cs : List Chain) → features_of cs ≡ [] → cs ≡ []
no_chains [] e = refl
no_chains (c ∷ cs) e = nil_cons (sym e)

module _ (lexicon : List Entry) (words start : ℕ) (g : Grammar) (well : WellFormed g) (made : MadeFrom lexicon words start g) where
  abbrev N : List Name
  N = made.names

  -- a tree from the new start
  pub record TopShape (t : Tree) (d : Derivation) : Type 0 where
    pub number : ℕ
    pub rule : Rule
    pub below : Tree
    pub c₁ : ℕ
    pub x : Bool
    pub is_node : t ≡ node number (cons below nil)
    pub is_rule : rule_at g number ≡ some rule
    pub daughters : rule.daughters ≡ c₁ ∷ []
    pub rooted : T (has_root g below c₁)
    pub name : name_of N c₁ ≡ form (start_form start x)
    pub named : named_rule N rule ≡ start_rule start x
    pub below_is : from_tree g N below ≡ d

  pub top_shape : (t : Tree) → T (has_root g t g.start) → TopShape t (top_of g N t)
  top_shape t h = go (named_rule N x.rule) (made.rules_sound (label t) x.rule x.is_rule) refl
    where
      x : Root g t g.start
      x = root g t g.start h

      category_name : name_of N x.rule.category ≡ new_start
      category_name = ap (name_of N) x.of_cat ∙ made.start_is

      go : (n : NamedRule) → Made lexicon start n → named_rule N x.rule ≡ n → TopShape t (top_of g N t)
      go n (of_start y d) q =
          let one = one_name lexicon words start g well made x.rule.daughters (form (start_form start y)) (ap (λ (z : NamedRule). z.daughters) q) in
          let ts = one_tree lexicon words start g well made x.trees one.d (subst (λ (l : List ℕ). T (has_roots g x.trees l)) one.is x.below) in
          let tn : t ≡ node (label t) (cons ts.tree nil) = x.is_node ∙ ap (node (label t)) ts.is in
          record {
            number = label t;
            rule = x.rule;
            below = ts.tree;
            c₁ = one.d;
            x = y;
            is_node = tn;
            is_rule = x.is_rule;
            daughters = one.is;
            rooted = ts.rooted;
            name = one.name;
            named = q;
            below_is = sym (ap (top_of g N) tn);
          }
      go n (of_entry e m) q = not_start (sym category_name ∙ ap (λ (z : NamedRule). z.category) q)
      go n (of_merge a b s da db e l) q = not_start (sym category_name ∙ ap (λ (z : NamedRule). z.category) q)
      go n (of_move a s da e l) q = not_start (sym category_name ∙ ap (λ (z : NamedRule). z.category) q)

  below_sound : (t : Tree) (d : Derivation) → (p : TopShape t d) → Sound lexicon words start g well made d p.below p.c₁
  below_sound t d p =
      sound lexicon words start g well made d p.below p.c₁
      (subst (λ (z : Derivation). ShapeOf lexicon words start g well made z p.below p.c₁) p.below_is (shape lexicon words start g well made p.below p.c₁ (start_form start p.x) p.rooted p.name))

  top_size : (t : Tree) (d : Derivation) (p : TopShape t d) → length (preorder t) ≡ suc (nodes d)
  top_size t d p = ap (λ (u : Tree). length (preorder u)) p.is_node ∙ joined (preorder p.below) (nodes d) (below_sound t d p).size
    where
      joined : (a : List ℕ) (m : ℕ) → length a ≡ m → ◌≡◌ {A = ℕ} (length (p.number ∷ (a ++ []))) (suc m)
      joined a m e = omega (arith, length-append a [])

  -- the yield of the tree is the string of the expression
  top_yield : (t : Tree) (d : Derivation) (p : TopShape t d) → get_or (yield g t) 0 [] ≡ (below_sound t d p).expression.head.string
  top_yield t d p =
      let s = below_sound t d p in
      ap (λ (u : Tree). get_or (yield g u) 0 []) p.is_node
      ∙ ap (λ (l : List (List ℕ)). get_or l 0 []) (yield_nonlexical g p.number p.rule (cons p.below nil) p.c₁ [] p.is_rule p.daughters
      ∙ ap (λ (z : NamedRule). valued (yield g p.below ∷ []) z.components) p.named)
      ∙ append-nil (get_or (yield g p.below) 0 []) ∙ ap (λ (l : List (List ℕ)). get_or l 0 []) s.yields_are

  module _ (sentence : List ℕ) (n : ℕ) where
    -- a tree that is counted has a derivation that is counted
    pub tree_counted : (t : Tree) → Analysis g sentence n t → Counted lexicon start sentence n (top_of g N t)
    tree_counted t a =
        let p = top_shape t (and_l (has_root g t g.start) (spells g sentence t) a.derived) in
        let s = below_sound t (top_of g N t) p in
        let f : form_of s.expression ≡ start_form start p.x = form_one (sym s.form_is ∙ p.name) in
        record {
          expression = s.expression;
          derives = s.derives;
          wanted = ap (λ (z : Form). z.head) f;
          none_moving = no_chains s.expression.moving (ap (λ (z : Form). z.moving) f);
          fits = subst (λ (w : List ℕ). T (string_fits w sentence)) (top_yield t (top_of g N t) p) (and_r (has_root g t g.start) (spells g sentence t) a.derived);
          small = omega (arith, top_size t (top_of g N t) p, a.small);
        }

    -- a derivation that is counted has a tree that is counted
    pub record Top (d : Derivation) : Type 0 where
      pub tree : Tree
      pub analysis : Analysis g sentence n tree
      pub is : top_of g N tree ≡ d

    pub counted_tree : (d : Derivation) → Counted lexicon start sentence n d → Top d
    counted_tree d k = record { tree = t; analysis = record { derived = and_both (has_root g t g.start) (spells g sentence t) rooted fit; small = omega (arith, top_size t d p, k.small) }; is = b.is }
      where
        x : Bool
        x = k.expression.lexical

        f : form_of k.expression ≡ start_form start x
        f = λ i. record { lexical = x; head = k.wanted i; moving = features_of (k.none_moving i) }

        b : Grown lexicon words start g well made d k.expression
        b = grow lexicon words start g well made d k.expression k.derives (ap left_out f)

        m : Numbered g N (start_rule start x)
        m = made.rules_whole (start_rule start x) (of_start x (subst (Derivable lexicon) f b.derivable))

        one : OneName lexicon words start g well made m.rule.daughters (form (start_form start x))
        one = one_name lexicon words start g well made m.rule.daughters (form (start_form start x)) (ap (λ (z : NamedRule). z.daughters) m.named)

        here : T (has_root g b.tree one.d)
        here =
            moved_to lexicon words start g well made b.tree b.category one.d (form (start_form start x)) b.rooted (b.named ∙ ap form f) one.name
            (daughters_in lexicon words start g well made m.number m.rule m.is_rule one.d (subst (λ (l : List ℕ). Memᴰ one.d l) (sym one.is) (Memᴰ.head refl)))

        t : Tree
        t = node m.number (cons b.tree nil)

        at_start : m.rule.category ≡ g.start
        at_start =
            made.names_differ m.rule.category g.start (category_in lexicon words start g well made m.number m.rule m.is_rule) (omega (arith, made.one_each, well.start_is))
            (ap (λ (z : NamedRule). z.category) m.named ∙ sym made.start_is)

        rooted : T (has_root g t g.start)
        rooted =
            subst (λ (c : ℕ). T (has_root g t c)) at_start
            (rooted_at lexicon words start g well made m.number m.rule (cons b.tree nil) (one.d ∷ []) m.is_rule one.is (and_both (has_root g b.tree one.d) true here tt))

        p : TopShape t d
        p = subst (TopShape t) b.is (top_shape t rooted)

        same : (below_sound t d p).expression ≡ k.expression
        same = ap (λ (o : Option Expression). elim o as (λ o. Expression) [ none ↦ k.expression | some z ↦ z ]) (sym (below_sound t d p).derives ∙ k.derives)

        fit : T (spells g sentence t)
        fit = subst (λ (w : List ℕ). T (string_fits w sentence)) (sym (top_yield t d p ∙ ap (λ (z : Expression). z.head.string) same)) k.fits

  -- trees with one derivation are one tree
  pub top_unique : (t u : Tree) → T (has_root g t g.start) → T (has_root g u g.start) → top_of g N t ≡ top_of g N u → t ≡ u
  top_unique t u h k e =
      let p = subst (TopShape t) e (top_shape t h) in
      let q = top_shape u k in
      let d = top_of g N u in
      let l = unique lexicon words start g well made d p.below q.below p.c₁ q.c₁
      (subst (λ (z : Derivation). ShapeOf lexicon words start g well made z p.below p.c₁) p.below_is (shape lexicon words start g well made p.below p.c₁ (start_form start p.x) p.rooted p.name))
      (subst (λ (z : Derivation). ShapeOf lexicon words start g well made z q.below q.c₁) q.below_is (shape lexicon words start g well made q.below q.c₁ (start_form start q.x) q.rooted q.name)) in
      let f : start_form start p.x ≡ start_form start q.x = form_one (sym p.name ∙ ap (name_of N) l.1 ∙ q.name) in
      let x : p.x ≡ q.x = ap (λ (z : Form). z.lexical) f in
      let s = same_rule_lem lexicon words start g well made p.number q.number p.rule q.rule p.is_rule q.is_rule (p.named ∙ ap (start_rule start) x ∙ sym q.named) in
      let nodes : node p.number (cons p.below nil) ≡ node q.number (cons q.below nil) = λ j. node (s.numbers j) (cons (l.0 j) nil) in
      p.is_node ∙ nodes ∙ sym q.is_node

  all_different : (ts : List Tree) → ((t : Tree) → Memᴰ t ts → T (has_root g t g.start)) → Different (map preorder ts) → Once (map (top_of g N) ts)
  all_different [] h d = tt
  all_different (t ∷ ts) h d = (
    λ m. let (u, i, e) = map_out (top_of g N) ts m in
        d.0 (subst (λ (z : Tree). Memᴰ (preorder z) (map preorder ts)) (sym (top_unique t u (h t (Memᴰ.head refl)) (h u (Memᴰ.tail i)) e)) (map_in preorder i)),
    all_different ts (λ u m. h u (Memᴰ.tail m)) d.1,
  )

-- paper 6's promise about counts
pub counts_agree : CountsAgree
counts_agree lexicon words start file made sentence spoken n limit ranges =
    record {
      derivations = map (top_of g N₁) d.trees;
      derivations_are = λ x. (
        λ m. let (t, i, e) = map_out (top_of g N₁) d.trees m in
            subst (Counted lexicon start sentence n) (sym e) (tree_counted lexicon words start g well made.made sentence n t (d.sound t i)),
        λ k. let z = counted_tree lexicon words start g well made.made sentence n x k in
            subst (λ (y : Derivation). Memᴰ y (map (top_of g N₁) d.trees)) z.is (map_in (top_of g N₁) (d.whole z.tree z.analysis)),
      );
      derivations_differ = all_different lexicon words start g well made.made d.trees (λ t m. and_l (has_root g t g.start) (spells g sentence t) (d.sound t m).derived) d.different;
      counted = λ h. called h ∙ ap (λ (c : ℕ). Ok (counts c (effort g sentence n))) (d.counted ∙ sym (length-map d.trees (top_of g N₁)));
    }
  where
    g : Grammar
    g = grammar_of file

    well : WellFormed g
    well = accepted_well file made.accepted

    N₁ : List Name
    N₁ = made.made.names

    d : Analyses g (accepted_right file made.accepted) sentence n
    d = analyses g (accepted_right file made.accepted) sentence n

    accepted : grammar_refusal file ≡ none
    accepted = made.accepted

    called : effort g sentence n ≤ limit → count_call file sentence n limit ≡ Ok (counts (count g sentence n) (effort g sentence n))
    called h = let k : ltb limit (effort g sentence n) ≡ false = le-ltb limit (effort g sentence n) h in rw (accepted, ranges, spoken, k)
