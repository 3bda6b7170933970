-- The trace of a queue whose predictions stand for trees: it leads to the end just if what the row spells fits the places that are left.
-- Assumes nothing.
use Rattle.std.specs.Prelude.{if◌then◌else◌}
use mathlib.Core.Path.{◌≡◌, refl, sym, ap, subst, ◌∙◌}
use mathlib.Core.Logic.{◌⊎◌, inl, inr}
use mathlib.Core.Bool.{Bool, true, false}
use mathlib.Core.Option.{Option, none, some}
use mathlib.Core.List.{List, [], ◌∷◌, ◌++◌, Memᴰ}
use Prim.Native.Nat.{ℕ, zero, suc}
use native.Mathlib.Omega.{arith}
use borrow.Author.Tests.{eq-eqb}
use lib.Dec.{T, eqb, eqb→eq}
use lib.ListN.{length}
use Rattle.model.specs.Grammar.{Rule, Grammar, rule_at, is_lexical, empty_word}
use Rattle.model.specs.Step.{Prediction, State, fails, leads, sort, trim, expand, word_fits, scan, read_word, step}
use Rattle.model.specs.Tree.{Tree, Forest, node, word_string, has_root, has_roots, root_by, string_fits}
use Rattle.model.specs.WellFormed.{Perm, same, more, chain, Right}
use Rattle.model.specs.Conversions.{label, subtree, Step, Traces}
use Rattle.model.proofs.Perm.{perm_mem, perm_length, perm_sym}
use Rattle.model.proofs.Slots.{Slot, Row, spelled}
use Rattle.model.proofs.Expand.{queue_slots}
use Rattle.model.proofs.Forward.{Good, nodes, predict_good, predict_nodes, predict_row, scan_good, scan_nodes, scan_front}
use Rattle.model.proofs.Fitting.{fits_append, fits_part, fits_none}
use Rattle.model.proofs.Tests.{and_l, and_r, and_both, passes}

-- the rule of a node that has category c as root, and what stands below it
pub root_rule : (g : Grammar) (r c : ℕ) (ts : Forest) → T (has_root g (node r ts) c)
    → (rule : Rule) × (rule_at g r ≡ some rule) × (rule.category ≡ c) × T (has_roots g ts rule.daughters)
root_rule g r c ts h = go (rule_at g r) refl h
  where
    go : (o : Option Rule) → rule_at g r ≡ o → T (root_by o c (λ categories. has_roots g ts categories))
        → (rule : Rule) × (rule_at g r ≡ some rule) × (rule.category ≡ c) × T (has_roots g ts rule.daughters)
    go none e t = absurd t
    go (some rule) e t = (
      rule,
      e,
      eqb→eq rule.category c (and_l (eqb rule.category c) (has_roots g ts rule.daughters) t),
      and_r (eqb rule.category c) (has_roots g ts rule.daughters) t,
    )

-- the root of a tree that has one of category c
pub record Root (g : Grammar) (t : Tree) (c : ℕ) : Type 0 where
  pub rule : Rule
  pub trees : Forest
  pub is_node : t ≡ node (label t) trees
  pub is_rule : rule_at g (label t) ≡ some rule
  pub of_cat : rule.category ≡ c
  pub below : T (has_roots g trees rule.daughters)

pub root : (g : Grammar) (t : Tree) (c : ℕ) → T (has_root g t c) → Root g t c
root g (node r ts) c h =
    let (rule, is_rule, of_cat, below) = root_rule g r c ts h in
    record { rule = rule; trees = ts; is_node = refl; is_rule = is_rule; of_cat = of_cat; below = below }

module _ (g : Grammar) where
  abbrev pub after : Rule → Prediction Tree → List (Prediction Tree) → List ℕ → State Tree
  after rule p q ws = record { queue = trim (sort (expand subtree g rule p ++ q)); words = ws }

  pub step_nonlexical : (s : State Tree) (r : ℕ) (rule : Rule) (p : Prediction Tree) (q : List (Prediction Tree)) → s.queue ≡ p ∷ q
      → rule_at g r ≡ some rule → rule.category ≡ p.category → is_lexical rule ≡ false → step subtree g s r ≡ leads (after rule p q s.words)
  step_nonlexical s r rule p q e f c l = rw (f, e) (rw (eq-eqb rule.category p.category c, l))

  pub step_lexical : (s : State Tree) (r : ℕ) (rule : Rule) (p : Prediction Tree) (q : List (Prediction Tree)) → s.queue ≡ p ∷ q
      → rule_at g r ≡ some rule → rule.category ≡ p.category → is_lexical rule ≡ true → step subtree g s r ≡ scan rule.word q s.words
  step_lexical s r rule p q e f c l = rw (f, e) (rw (eq-eqb rule.category p.category c, l))

-- what a scan does: it takes the places that its word fits
pub record ScanTo {A : Type 0} (w : ℕ) (q : List (Prediction A)) (ws : List ℕ) (s' : State A) : Type 0 where
  pub queue_is : s'.queue ≡ q
  pub taken : List ℕ
  pub fits : T (string_fits (word_string w) taken)
  pub words_are : ws ≡ taken ++ s'.words

pub leads_one : {A : Type 0} {s s' : State A} → leads s ≡ leads s' → s ≡ s'
leads_one e = cc

pub scan_to : {A : Type 0} (w : ℕ) (q : List (Prediction A)) (ws : List ℕ) (s' : State A) → scan w q ws ≡ leads s' → ScanTo w q ws s'
scan_to {A} w q ws s' e = go (eqb w empty_word) refl e
  where
    by : (s : State A) → leads s ≡ leads s' → s ≡ s'
    by s h = leads_one h

    no : {B : Type 0} {n : ℕ} {s : State A} → fails n ≡ leads s → B
    no h = let z : ◌≡◌ {A = ℕ} 0 1 = cc in absurd (omega arith)

    here : eqb w empty_word ≡ false → (b : Bool) (x : ℕ) (xs : List ℕ) → word_fits w x ≡ b → (if b then leads (record { queue = q; words = xs }) else fails 16) ≡ leads s' → ScanTo w q (x ∷ xs) s'
    here n true x xs f h =
        let k = by (record { queue = q; words = xs }) h in
        record {
          queue_is = ap (λ (s : State A). s.queue) (sym k);
          taken = x ∷ [];
          fits = rw n (and_both (word_fits w x) true (subst T (sym f) tt) tt);
          words_are = ap (λ (s : State A). x ∷ s.words) k;
        }
    here n false x xs f h = no h

    read : eqb w empty_word ≡ false → (us : List ℕ) → read_word w q us ≡ leads s' → ScanTo w q us s'
    read n [] h = no h
    read n (x ∷ xs) h = here n (word_fits w x) x xs refl h

    go : (b : Bool) → eqb w empty_word ≡ b → (if b then leads (record { queue = q; words = ws }) else read_word w q ws) ≡ leads s' → ScanTo w q ws s'
    go true f h =
        let k = by (record { queue = q; words = ws }) h in
        record { queue_is = ap (λ (s : State A). s.queue) (sym k); taken = []; fits = rw f tt; words_are = ap (λ (s : State A). s.words) k }
    go false f h = read f ws h

pub scan_goes : (w : ℕ) (q : List (Prediction Tree)) (taken rest : List ℕ) → T (string_fits (word_string w) taken)
    → scan w q (taken ++ rest) ≡ leads (record { queue = q; words = rest })
scan_goes w q taken rest t = go (eqb w empty_word) taken t
  where
    go : (b : Bool) (xs : List ℕ) → T (string_fits (if b then [] else w ∷ []) xs)
        → (if b then leads (record { queue = q; words = xs ++ rest }) else read_word w q (xs ++ rest)) ≡ leads (record { queue = q; words = rest })
    go true [] u = refl
    go true (x ∷ xs) u = absurd u
    go false [] u = absurd u
    go false (x ∷ []) u = rw (passes (word_fits w x) (and_l (word_fits w x) true u))
    go false (x ∷ y ∷ xs) u = absurd (and_r (word_fits w x) false u)

module _ (g : Grammar) (right : Right g) where
  pub record Advance (s s' : State Tree) (r : ℕ) : Type 0 where
    pub good : Good g s'.queue
    pub taken : Perm (nodes s.queue) (r ∷ nodes s'.queue)
    pub back : (w : List ℕ) → Row (queue_slots g s.queue) w → ((w' : List ℕ) → Row (queue_slots g s'.queue) w' → T (string_fits w' s'.words))
        → T (string_fits w s.words)

  pub advance : (s s' : State Tree) (r : ℕ) → Good g s.queue → Step g s r s' → Advance s s' r
  advance s s' r h st = go (is_lexical t.rule) refl
    where
      p : Prediction Tree
      p = st.front

      q : List (Prediction Tree)
      q = st.rest

      h' : Good g (p ∷ q)
      h' = subst (Good g) st.queue_is h

      t : Root g p.node p.category
      t = root g p.node p.category (h'.fit p (Memᴰ.head refl)).rooted

      f : rule_at g r ≡ some t.rule
      f = ap (rule_at g) (sym st.labelled) ∙ t.is_rule

      n : p.node ≡ node r t.trees
      n = t.is_node ∙ ap (λ (k : ℕ). node k t.trees) st.labelled

      go : (b : Bool) → is_lexical t.rule ≡ b → Advance s s' r
      go false l =
          let e : after g t.rule p q s.words ≡ s' = leads_one (sym (step_nonlexical g s r t.rule p q st.queue_is f t.of_cat l) ∙ st.leads_to) in
          let eq : trim (sort (expand subtree g t.rule p ++ q)) ≡ s'.queue = ap (λ (x : State Tree). x.queue) e in
          let ew : s.words ≡ s'.words = ap (λ (x : State Tree). x.words) e in
          record {
            good = subst (Good g) eq (predict_good g right t.rule p q r t.trees n f t.of_cat t.below h');
            taken =
                chain (same (ap nodes st.queue_is))
                (chain (predict_nodes g right t.rule p q r t.trees n f t.of_cat t.below) (same (ap (λ (x : List (Prediction Tree)). r ∷ nodes x) eq)));
            back = λ w row k.
                subst (λ (x : List ℕ). T (string_fits w x)) (sym ew)
                (k w (subst (λ (x : List (Prediction Tree)). Row (queue_slots g x) w) eq
                (predict_row g right t.rule p q r t.trees n f t.of_cat t.below l h' w
                (subst (λ (x : List (Prediction Tree)). Row (queue_slots g x) w) st.queue_is row))));
          }
      go true l =
          let e = scan_to t.rule.word q s.words s' (sym (step_lexical g s r t.rule p q st.queue_is f t.of_cat l) ∙ st.leads_to) in
          record {
            good = subst (Good g) (sym e.queue_is) (scan_good g right t.rule p q r t.trees n f t.of_cat t.below l h');
            taken =
                same (ap nodes st.queue_is ∙ scan_nodes g right t.rule p q r t.trees n f t.of_cat t.below l
                ∙ ap (λ (x : List (Prediction Tree)). r ∷ nodes x) (sym e.queue_is));
            back = λ w row k.
                let u = scan_front g right t.rule p q r t.trees n f t.of_cat t.below l h' w
                (subst (λ (x : List (Prediction Tree)). Row (queue_slots g x) w) st.queue_is row) in
                let v = k u.rest (subst (λ (x : List (Prediction Tree)). Row (queue_slots g x) u.rest) (sym e.queue_is) u.row) in
                let z = fits_append (word_string t.rule.word) u.rest e.taken s'.words e.fits v in
                subst (λ (x : List ℕ). T (string_fits x s.words)) (sym u.split)
                (subst (λ (x : List ℕ). T (string_fits (word_string t.rule.word ++ u.rest) x)) (sym e.words_are) z);
          }

  no_row : (w : List ℕ) → Row [] w → w ≡ []
  no_row w r = go r.row r.perm r.spells
    where
      go : (l : List Slot) → Perm l [] → spelled l ≡ w → w ≡ []
      go [] p e = sym e
      go (x ∷ l) p e = let m : Memᴰ x [] = perm_mem p (Memᴰ.head refl) in elim m [ ]

  -- a trace that leads to the end has read places that fit what the row spells
  pub traces_spell : (p : List ℕ) (s : State Tree) → Good g s.queue → Traces g s p → (w : List ℕ) → Row (queue_slots g s.queue) w → T (string_fits w s.words)
  traces_spell [] s h t w row =
      subst (λ (x : List ℕ). T (string_fits x s.words)) (sym (no_row w (subst (λ (q : List (Prediction Tree)). Row (queue_slots g q) w) t.0 row)))
      (subst (λ (x : List ℕ). T (string_fits [] x)) (sym t.1) tt)
  traces_spell (r ∷ p) s h t w row =
      let a = advance s t.0 r h t.1 in
      a.back w row (λ w' row'. traces_spell p t.0 a.good t.2 w' row')

  -- and its rules are those of the nodes, in another order
  pub traces_nodes : (p : List ℕ) (s : State Tree) → Good g s.queue → Traces g s p → Perm p (nodes s.queue)
  traces_nodes [] s h t = same (ap nodes (sym t.0))
  traces_nodes (r ∷ p) s h t =
      let a = advance s t.0 r h t.1 in
      chain (more r (traces_nodes p t.0 a.good t.2)) (perm_sym a.taken)

  -- so it is as long as there are nodes
  pub traces_length : (p : List ℕ) (s : State Tree) → Good g s.queue → Traces g s p → length p ≡ length (nodes s.queue)
  traces_length p s h t = perm_length (traces_nodes p s h t)

  -- where what the row spells fits the places left, the front's rule applies, and what the row then spells fits those that are left then
  pub record Onward (s : State Tree) (r : ℕ) : Type 0 where
    pub next : State Tree
    pub leads_to : step subtree g s r ≡ leads next
    pub string : List ℕ
    pub row : Row (queue_slots g next.queue) string
    pub fits : T (string_fits string next.words)

  pub onward : (s : State Tree) (p : Prediction Tree) (q : List (Prediction Tree)) → s.queue ≡ p ∷ q → Good g (p ∷ q)
      → (w : List ℕ) → Row (queue_slots g (p ∷ q)) w → T (string_fits w s.words) → Onward s (label p.node)
  onward s p q e h w row fit = go (is_lexical t.rule) refl
    where
      t : Root g p.node p.category
      t = root g p.node p.category (h.fit p (Memᴰ.head refl)).rooted

      go : (b : Bool) → is_lexical t.rule ≡ b → Onward s (label p.node)
      go false l =
          record {
            next = after g t.rule p q s.words;
            leads_to = step_nonlexical g s (label p.node) t.rule p q e t.is_rule t.of_cat l;
            string = w;
            row = predict_row g right t.rule p q (label p.node) t.trees t.is_node t.is_rule t.of_cat t.below l h w row;
            fits = fit;
          }
      go true l =
          let u = scan_front g right t.rule p q (label p.node) t.trees t.is_node t.is_rule t.of_cat t.below l h w row in
          let d = fits_part (word_string t.rule.word) u.rest s.words (subst (λ (x : List ℕ). T (string_fits x s.words)) u.split fit) in
          record {
            next = record { queue = q; words = d.rest };
            leads_to =
                step_lexical g s (label p.node) t.rule p q e t.is_rule t.of_cat l
                ∙ ap (scan t.rule.word q) d.split ∙ scan_goes t.rule.word q d.taken d.rest d.first;
            string = u.rest;
            row = u.row;
            fits = d.second;
          }

  -- the front's step, where there is a front
  pub record Forth (s : State Tree) : Type 0 where
    pub rule : ℕ
    pub next : State Tree
    pub made : Step g s rule next
    pub advanced : Advance s next rule
    pub string : List ℕ
    pub row : Row (queue_slots g next.queue) string
    pub fits : T (string_fits string next.words)

  forth : (s : State Tree) (q : List (Prediction Tree)) → s.queue ≡ q → Good g s.queue → (w : List ℕ) → Row (queue_slots g s.queue) w
      → T (string_fits w s.words) → ((s.queue ≡ []) × (s.words ≡ [])) ⊎ Forth s
  forth s [] e h w row fit =
      let n = no_row w (subst (λ (x : List (Prediction Tree)). Row (queue_slots g x) w) e row) in
      inl (e, fits_none s.words (subst (λ (x : List ℕ). T (string_fits x s.words)) n fit))
  forth s (p ∷ q) e h w row fit =
      let o = onward s p q e (subst (Good g) e h) w (subst (λ (x : List (Prediction Tree)). Row (queue_slots g x) w) e row) fit in
      let m : Step g s (label p.node) o.next = record { front = p; rest = q; queue_is = e; labelled = refl; leads_to = o.leads_to } in
      inr (record { rule = label p.node; next = o.next; made = m; advanced = advance s o.next (label p.node) h m; string = o.string; row = o.row; fits = o.fits })

  -- so there is a trace
  pub traced : (n : ℕ) (s : State Tree) → length (nodes s.queue) ≡ n → Good g s.queue → (w : List ℕ) → Row (queue_slots g s.queue) w
      → T (string_fits w s.words) → (p : List ℕ) × Traces g s p
  traced zero s e h w row fit = go (forth s s.queue refl h w row fit)
    where
      go : ((s.queue ≡ []) × (s.words ≡ [])) ⊎ Forth s → (p : List ℕ) × Traces g s p
      go (inl f) = ([], f)
      go (inr f) = let z : ⊥ = omega (arith, perm_length f.advanced.taken) in absurd z
  traced (suc n) s e h w row fit = go (forth s s.queue refl h w row fit) (λ s' e' h' w' row' fit'. traced n s' e' h' w' row' fit')
    where
      go : ((s.queue ≡ []) × (s.words ≡ [])) ⊎ Forth s
          → ((s' : State Tree) → length (nodes s'.queue) ≡ n → Good g s'.queue → (w' : List ℕ) → Row (queue_slots g s'.queue) w'
          → T (string_fits w' s'.words) → (p : List ℕ) × Traces g s' p)
          → (p : List ℕ) × Traces g s p
      go (inl f) ih = ([], f)
      go (inr f) ih =
          let (p, t) = ih f.next (omega (arith, perm_length f.advanced.taken)) f.advanced.good f.string f.row f.fits in
          (f.rule ∷ p, (f.next, f.made, t))
