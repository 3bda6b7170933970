-- A step by the rule of the front prediction's node keeps the queue right, and keeps what is spelled, but for the word that it reads.
-- Assumes nothing.
use Rattle.std.specs.Prelude.{if◌then◌else◌}
use mathlib.Core.Path.{◌≡◌, refl, sym, ap, subst, ◌∙◌}
use mathlib.Core.Logic.{◌⊎◌, inl, inr}
use mathlib.Core.Bool.{Bool, true, false}
use mathlib.Core.Option.{some}
use mathlib.Core.List.Memᴰ
use mathlib.Core.List.{List, [], ◌∷◌, ◌++◌, map, tail, Memᴰ}
use Prim.Native.Nat.{ℕ, suc, ◌+◌, ◌<◌, ◌≤◌}
use native.Mathlib.Omega.{arith}
use lib.Dec.{T}
use lib.ListN.{length, length-map}
use Rattle.model.specs.Base.{each, numbers_from}
use Rattle.model.specs.Grammar.{Variable, Rule, Grammar, rule_at, is_lexical, dimension}
use Rattle.model.specs.Step.{Index, Prediction, sort, trim, shorten, same_first, variable_indices, index_of, daughters_from, expand}
use Rattle.model.specs.Tree.{Tree, Forest, node, nil, cons, yield, yields, string_of, word_string, has_root, has_roots, preorder, preorders}
use Rattle.model.specs.WellFormed.{Perm, same, more, chain, RightRule, Right}
use Rattle.model.specs.Conversions.{child_at, subtree}
use Rattle.model.proofs.Lists.{map_out, length_numbers, map_append, each_append}
use Rattle.model.proofs.Marks.{indices_of}
use Rattle.model.proofs.Sorting.{Sorted, sort_sorted, sort_out}
use Rattle.model.proofs.Perm.{perm_each, perm_right, perm_sym}
use Rattle.model.proofs.Slots.{Slot, Row, row_perm, change_row, Change, Fine, AllFine, olds, news}
use Rattle.model.proofs.Expand.{zipped, slots_of, queue_slots, stay, stay_olds, stay_news, stay_fine, slot_of_var, changes, changes_olds, changes_news, changes_fine}
use Rattle.model.proofs.Daughters.{expand_slots}
use Rattle.model.proofs.Queue.{sort_perm, trim_row, trim_sorted, front_first}
use Rattle.model.proofs.Scan.{scan_row}
use Rattle.model.proofs.Tests.{and_l, and_r}

-- a prediction stands for a tree of its category, with an index for each component
pub record Fit (g : Grammar) (p : Prediction Tree) : Type 0 where
  pub rooted : T (has_root g p.node p.category)
  pub sized : length p.indices ≡ dimension g p.category
  pub inhabited : 1 ≤ length p.indices

pub record Good (g : Grammar) (q : List (Prediction Tree)) : Type 0 where
  pub fit : (p : Prediction Tree) → Memᴰ p q → Fit g p
  pub sorted : Sorted q

-- the nodes that the queue stands for, with those below them
abbrev pub nodes : List (Prediction Tree) → List ℕ
nodes q = each (λ p. preorder p.node) q

-- a rule without daughters has no trees below it
pub no_trees : (g : Grammar) (ds : List ℕ) (us : Forest) → (elim ds [ [] ↦ true | d ∷ es ↦ false ]) ≡ true → T (has_roots g us ds) → us ≡ nil
no_trees g [] nil e t = refl
no_trees g [] (cons u us) e t = absurd t
no_trees g (d ∷ ds) us e t = let z : ◌≡◌ {A = ℕ} 0 1 = cc in absurd (omega arith)

module _ (g : Grammar) (right : Right g) where
  daughters_fit : (n : Tree) (ss : List (Variable × Index)) (j : ℕ) (ds : List ℕ) (us : Forest) → T (has_roots g us ds)
      → ((d : ℕ) → Memᴰ d ds → 1 ≤ dimension g d)
      → ((k : ℕ) → k < length ds → subtree n (j + k) ≡ child_at us k)
      → (p : Prediction Tree) → Memᴰ p (daughters_from subtree g n ss j ds) → Fit g p
  daughters_fit n ss j [] us h pos hc p m = elim m [ ]
  daughters_fit n ss j (d ∷ ds) nil h pos hc p m = absurd h
  daughters_fit n ss j (d ∷ ds) (cons u us) h pos hc p m =
      go (Memᴰ.cases_cons m)
      (λ i. daughters_fit n ss (suc j) ds us (and_r (has_root g u d) (has_roots g us ds) h) (λ e k. pos e (Memᴰ.tail k))
      (λ k l. let e : suc j + k ≡ j + suc k = omega arith in rw e (hc (suc k) (omega arith))) p i)
    where
      first : Prediction Tree
      first = record { category = d; indices = map (index_of ss j) (numbers_from 0 (dimension g d)); node = subtree n j }

      len : length (map (index_of ss j) (numbers_from 0 (dimension g d))) ≡ dimension g d
      len = length-map (numbers_from 0 (dimension g d)) (index_of ss j) ∙ length_numbers 0 (dimension g d)

      fit : Fit g first
      fit =
          let k₀ : j + 0 ≡ j = omega arith in
          let c₀ : subtree n j ≡ u = ap (subtree n) (sym k₀) ∙ hc 0 (omega arith) in
          record {
            rooted = rw c₀ (and_l (has_root g u d) (has_roots g us ds) h);
            sized = len;
            inhabited = omega (arith, len, pos d (Memᴰ.head refl));
          }

      go : (p ≡ first) ⊎ Memᴰ p (daughters_from subtree g n ss (suc j) ds) → (Memᴰ p (daughters_from subtree g n ss (suc j) ds) → Fit g p) → Fit g p
      go (inl e) ih = subst (Fit g) (sym e) fit
      go (inr i) ih = ih i

  daughters_nodes : (n : Tree) (ss : List (Variable × Index)) (j : ℕ) (ds : List ℕ) (us : Forest) → T (has_roots g us ds)
      → ((k : ℕ) → k < length ds → subtree n (j + k) ≡ child_at us k)
      → nodes (daughters_from subtree g n ss j ds) ≡ preorders us
  daughters_nodes n ss j [] nil h hc = refl
  daughters_nodes n ss j [] (cons u us) h hc = absurd h
  daughters_nodes n ss j (d ∷ ds) nil h hc = absurd h
  daughters_nodes n ss j (d ∷ ds) (cons u us) h hc =
      let k₀ : j + 0 ≡ j = omega arith in
      let c₀ : subtree n j ≡ u = ap (subtree n) (sym k₀) ∙ hc 0 (omega arith) in
      let ih = daughters_nodes n ss (suc j) ds us (and_r (has_root g u d) (has_roots g us ds) h)
      (λ k l. let e : suc j + k ≡ j + suc k = omega arith in rw e (hc (suc k) (omega arith))) in
      cc (ap preorder c₀, ih)

  trim_fit : (q : List (Prediction Tree)) → ((p : Prediction Tree) → Memᴰ p q → Fit g p) → (p : Prediction Tree) → Memᴰ p (trim q) → Fit g p
  trim_fit q h p m = go (same_first (indices_of q)) m
    where
      short : (y : Prediction Tree) → Fit g y → Fit g (shorten y)
      short y f =
          record {
            rooted = f.rooted;
            sized = length-map y.indices tail ∙ f.sized;
            inhabited = omega (arith, length-map y.indices tail, f.inhabited);
          }

      go : (b : Bool) → Memᴰ p (if b then map shorten q else q) → Fit g p
      go false n = h p n
      go true n = let (y, i, e) = map_out shorten q n in subst (Fit g) (sym e) (short y (h y i))

  trim_nodes : (q : List (Prediction Tree)) → nodes (trim q) ≡ nodes q
  trim_nodes q = go (same_first (indices_of q))
    where
      short : (l : List (Prediction Tree)) → nodes (map shorten l) ≡ nodes l
      short [] = refl
      short (p ∷ l) = ap (λ (m : List ℕ). preorder p.node ++ m) (short l)

      go : (b : Bool) → nodes (if b then map shorten q else q) ≡ nodes q
      go true = short q
      go false = refl

  -- a nonlexical step
  module _ (rule : Rule) (p : Prediction Tree) (q : List (Prediction Tree)) (r : ℕ) (ts : Forest)
      (is_node : p.node ≡ node r ts) (is_rule : rule_at g r ≡ some rule) (of_cat : rule.category ≡ p.category)
      (below : T (has_roots g ts rule.daughters)) where
    abbrev next : List (Prediction Tree)
    next = trim (sort (expand subtree g rule p ++ q))

    rr : RightRule g rule
    rr = right.rules r rule is_rule

    children : (k : ℕ) → k < length rule.daughters → subtree p.node (0 + k) ≡ child_at ts k
    children k l = let m : 0 + k ≡ k = omega arith in rw (m, is_node)

    pub predict_good : Good g (p ∷ q) → Good g next
    unfolding rr
    predict_good h =
        record {
          fit = trim_fit (sort (expand subtree g rule p ++ q)) all;
          sorted = trim_sorted g (sort (expand subtree g rule p ++ q)) (λ x m. (all x m).inhabited) (sort_sorted (expand subtree g rule p ++ q));
        }
      where
        split : (x : Prediction Tree) → Memᴰ x (expand subtree g rule p) ⊎ Memᴰ x q → Fit g x
        split x (inl m) = daughters_fit p.node (variable_indices p.indices rule.components) 0 rule.daughters ts below rr.inhabited children x m
        split x (inr m) = h.fit x (Memᴰ.tail m)

        all : (x : Prediction Tree) → Memᴰ x (sort (expand subtree g rule p ++ q)) → Fit g x
        all x m = split x (Memᴰ.append_cases (expand subtree g rule p) (sort_out (expand subtree g rule p ++ q) m))

    pub predict_nodes : Perm (nodes (p ∷ q)) (r ∷ nodes next)
    predict_nodes =
        let f : Prediction Tree → List ℕ = λ x. preorder x.node in
        let e : nodes (p ∷ q) ≡ r ∷ (preorders ts ++ nodes q) = ap (λ (t : Tree). preorder t ++ nodes q) is_node in
        let d : nodes (expand subtree g rule p ++ q) ≡ preorders ts ++ nodes q
        = each_append f (expand subtree g rule p) q
        ∙ ap (λ (l : List ℕ). l ++ nodes q) (daughters_nodes p.node (variable_indices p.indices rule.components) 0 rule.daughters ts below children) in
        chain (same e)
        (more r (chain (same (sym d)) (chain (perm_back f) (same (sym (trim_nodes (sort (expand subtree g rule p ++ q))))))))
      where
        perm_back : (f : Prediction Tree → List ℕ) → Perm (each f (expand subtree g rule p ++ q)) (each f (sort (expand subtree g rule p ++ q)))
        perm_back f = perm_sym (perm_each f (sort_perm (expand subtree g rule p ++ q)))

    pub predict_row : is_lexical rule ≡ false → Good g (p ∷ q) → (words : List ℕ) → Row (queue_slots g (p ∷ q)) words → Row (queue_slots g next) words
    unfolding rr
    predict_row lex h words row =
        trim_row g (sort (expand subtree g rule p ++ q)) words
        (row_perm perm (change_row l words fine (subst (λ (x : List Slot). Row x words) (sym olds_l) row)))
      where
        ys : List (List (List ℕ))
        ys = yields g ts

        y_eq : yield g p.node ≡ map (λ c. each (string_of ys) c) rule.components
        y_eq = ap (yield g) is_node ∙ rw (is_rule, lex)

        here : List Change
        here = changes ys p.indices rule.components

        l : List Change
        l = here ++ map stay (queue_slots g q)

        olds_l : olds l ≡ queue_slots g (p ∷ q)
        olds_l =
            map_append (λ c. c.slot) here (map stay (queue_slots g q))
            ∙ cc (changes_olds ys p.indices rule.components, stay_olds (queue_slots g q), ap (zipped p.indices) y_eq)

        fine_by : (c : Change) → Memᴰ c here ⊎ Memᴰ c (map stay (queue_slots g q)) → Fine c
        fine_by c (inl m) = changes_fine ys p.indices rule.components c m
        fine_by c (inr m) = let (x, i, e) = map_out stay (queue_slots g q) m in subst Fine (sym e) (stay_fine x)

        fine : AllFine l
        fine c m = fine_by c (Memᴰ.append_cases here m)

        news_l : news l ≡ map (slot_of_var ys) (variable_indices p.indices rule.components) ++ queue_slots g q
        news_l =
            each_append (λ c. c.block) here (map stay (queue_slots g q))
            ∙ cc (changes_news ys p.indices rule.components, stay_news (queue_slots g q))

        enough : length p.indices ≡ length rule.components
        enough = (h.fit p (Memᴰ.head refl)).sized ∙ ap (dimension g) (sym of_cat) ∙ sym (rr.components lex)

        perm : Perm (news l) (queue_slots g (sort (expand subtree g rule p ++ q)))
        perm =
            chain (same news_l)
            (chain (perm_right (queue_slots g q) (expand_slots g right rule p r ts is_node below rr lex enough))
            (chain (same (sym (each_append (slots_of g) (expand subtree g rule p) q)))
            (perm_sym (perm_each (slots_of g) (sort_perm (expand subtree g rule p ++ q))))))

  -- a lexical step
  module _ (rule : Rule) (p : Prediction Tree) (q : List (Prediction Tree)) (r : ℕ) (ts : Forest)
      (is_node : p.node ≡ node r ts) (is_rule : rule_at g r ≡ some rule) (of_cat : rule.category ≡ p.category)
      (below : T (has_roots g ts rule.daughters)) (lex : is_lexical rule ≡ true) where
    pub scan_good : Good g (p ∷ q) → Good g q
    scan_good h = record { fit = λ x m. h.fit x (Memᴰ.tail m); sorted = h.sorted.1 }

    pub scan_nodes : nodes (p ∷ q) ≡ r ∷ nodes q
    scan_nodes = ap (λ (t : Tree). preorder t ++ nodes q) (is_node ∙ ap (node r) (no_trees g rule.daughters ts lex below))

    one_index : (is : List Index) → length is ≡ 1 → (i : Index) × (is ≡ i ∷ [])
    one_index [] e = let z : ⊥ = omega arith in absurd z
    one_index (i ∷ []) e = (i, refl)
    one_index (i ∷ j ∷ is) e = let z : ⊥ = omega arith in absurd z

    pub record Read (words : List ℕ) : Type 0 where
      pub rest : List ℕ
      pub split : words ≡ word_string rule.word ++ rest
      pub row : Row (queue_slots g q) rest

    pub scan_front : Good g (p ∷ q) → (words : List ℕ) → Row (queue_slots g (p ∷ q)) words → Read words
    scan_front h words row = go (one_index p.indices one)
      where
        one : length p.indices ≡ 1
        one = (h.fit p (Memᴰ.head refl)).sized ∙ ap (dimension g) (sym of_cat) ∙ (right.rules r rule is_rule).word_alone lex

        y_eq : yield g p.node ≡ word_string rule.word ∷ []
        y_eq = ap (yield g) is_node ∙ rw (is_rule, lex)

        go : (i : Index) × (p.indices ≡ i ∷ []) → Read words
        go x =
            let first : Slot = record { index = x.0; string = word_string rule.word } in
            let e : queue_slots g (p ∷ q) ≡ first ∷ queue_slots g q = rw (x.1, y_eq) in
            let s = scan_row first (queue_slots g q) (λ y m t. front_first g p q x.0 x.1 h.sorted y m t) words (subst (λ (l : List Slot). Row l words) e row) in
            record { rest = s.rest; split = s.split; row = s.row }
