-- The count is the number of different trees with at most n nodes that derive the sentence, and the listing is their traces.
-- Assumes nothing.
use mathlib.Core.Path.{◌≡◌, refl, sym, ap, subst, ◌∙◌}
use mathlib.Core.Logic.{◌⊎◌, inl, inr}
use mathlib.Core.Option.{Option, none, some}
use mathlib.Core.List.Memᴰ
use mathlib.Core.List.{List, [], ◌∷◌, ◌++◌, map, append-nil, head-eq_of_cons-eq, tail-eq_of_cons-eq, nil≢cons, cons≢nil, Memᴰ}
use Prim.Native.Nat.{ℕ, zero, suc, ◌≤◌}
use native.Mathlib.Omega.{arith}
use lib.Dec.{T}
use lib.ListN.{length, get_or, take, length-append, length-map}
use Rattle.model.specs.Grammar.{Grammar}
use Rattle.model.specs.Step.{Prediction, State, leads, step, begin}
use Rattle.model.specs.Trace.{no_node, run}
use Rattle.model.specs.Tree.{Tree, node, yield, has_root, preorder, spells, derives, tree_of_list}
use Rattle.model.specs.Counting.{start, finished, complete, listing, count}
use Rattle.model.specs.LivePrefixes.{Fits, LiveFrom, Live, Different}
use Rattle.model.specs.WellFormed.{Perm, same, chain, Right}
use Rattle.model.specs.Conversions.{subtree, trace_from, trace_of, Traces}
use Rattle.model.specs.Demands.{Ends, Analysis, trace_of_tree}
use Rattle.model.proofs.Lists.{map_in, map_out}
use Rattle.model.proofs.Perm.{perm_length}
use Rattle.model.proofs.Live.{nil_live, cons_live}
use Rattle.model.proofs.Listing.{listing_lists, order_different}
use Rattle.model.proofs.Reading.{forest_one}
use Rattle.model.proofs.Marks.{Bare, bare, bare_state, bare_outcome, step_bare}
use Rattle.model.proofs.Unmark.{same_prediction}
use Rattle.model.proofs.Slots.{Row}
use Rattle.model.proofs.Expand.{queue_slots, zipped}
use Rattle.model.proofs.Daughters.{yield_length}
use Rattle.model.proofs.Forward.{Fit, Good, nodes}
use Rattle.model.proofs.Traces.{advance, traces_spell, traces_nodes, traces_length, traced}
use Rattle.model.proofs.Lifting.{Lift, lifted}
use Rattle.model.proofs.Only.{only}
use Rattle.model.proofs.Tests.{and_both, and_l, and_r}

-- a tree has a node
pub tree_counts : (t : Tree) → 1 ≤ length (preorder t)
tree_counts (node r ts) = omega arith

module _ (g : Grammar) (right : Right g) (sentence : List ℕ) where
  abbrev pub at : Tree → State Tree
  at t = begin subtree g t sentence

  one_string : (ys : List (List ℕ)) → length ys ≡ 1 → ys ≡ get_or ys 0 [] ∷ []
  one_string [] e = let z : ⊥ = omega arith in absurd z
  one_string (y ∷ []) e = refl
  one_string (y ∷ z ∷ ys) e = let w : ⊥ = omega arith in absurd w

  pub at_good : (t : Tree) → T (has_root g t g.start) → Good g (at t).queue
  at_good t h = record { fit = λ p m. go p (Memᴰ.cases_cons m); sorted = (λ x m u. elim m [ ], tt) }
    where
      first : Prediction Tree
      first = record { category = g.start; indices = [] ∷ []; node = t }

      fit : Fit g first
      fit = record { rooted = h; sized = sym right.start_alone; inhabited = omega arith }

      go : (p : Prediction Tree) → (p ≡ first) ⊎ Memᴰ p [] → Fit g p
      go p (inl e) = subst (Fit g) (sym e) fit
      go p (inr m) = elim m [ ]

  at_row : (t : Tree) → T (has_root g t g.start) → Row (queue_slots g (at t).queue) (get_or (yield g t) 0 [])
  at_row t h =
      let y = get_or (yield g t) 0 [] in
      let e : yield g t ≡ y ∷ [] = one_string (yield g t) (yield_length g right t g.start h ∙ right.start_alone) in
      let f : queue_slots g (at t).queue ≡ record { index = []; string = y } ∷ [] = ap (λ (ys : List (List ℕ)). zipped ([] ∷ []) ys ++ []) e in
      record { row = record { index = []; string = y } ∷ []; perm = same (sym f); rises = (λ s m. elim m [ ], tt); spells = append-nil y }

  -- a tree that derives the sentence has a trace
  pub derived_trace : (t : Tree) → T (derives g sentence t) → (p : List ℕ) × Traces g (at t) p
  derived_trace t h =
      let r = and_l (has_root g t g.start) (spells g sentence t) h in
      traced g right (length (nodes (at t).queue)) (at t) refl (at_good t r) (get_or (yield g t) 0 []) (at_row t r)
      (and_r (has_root g t g.start) (spells g sentence t) h)

  -- and a tree that has a trace derives the sentence
  pub trace_derives : (t : Tree) (p : List ℕ) → T (has_root g t g.start) → Traces g (at t) p → T (derives g sentence t)
  trace_derives t p r h =
      and_both (has_root g t g.start) (spells g sentence t) r (traces_spell g right p (at t) (at_good t r) h (get_or (yield g t) 0 []) (at_row t r))

  pub trace_rules : (t : Tree) (p : List ℕ) → T (has_root g t g.start) → Traces g (at t) p → Perm p (preorder t)
  trace_rules t p r h = chain (traces_nodes g right p (at t) (at_good t r) h) (same (append-nil (preorder t)))

  pub trace_size : (t : Tree) (p : List ℕ) → T (has_root g t g.start) → Traces g (at t) p → length p ≡ length (preorder t)
  trace_size t p r h = perm_length (trace_rules t p r h)

  -- the trace is what `trace_from` gives
  from_traces : (n : ℕ) (p : List ℕ) (s : State Tree) → length p ≤ n → Traces g s p → trace_from g n s ≡ p
  from_traces zero [] s l t = refl
  from_traces zero (r ∷ p) s l t = let z : ⊥ = omega arith in absurd z
  from_traces (suc n) [] s l t = rw (t.0, trace_from)
  from_traces (suc n) (r ∷ p) s l t =
      let ih = from_traces n p t.0 (omega arith) t.2 in
      rw (t.1.queue_is, trace_from) (rw t.1.labelled (rw t.1.leads_to (ap (λ (x : List ℕ). r ∷ x) ih)))

  tree_back : (t : Tree) → T (has_root g t g.start) → tree_of_list g (preorder t) ≡ t
  tree_back t r = rw (forest_one g sentence t r, tree_of_list)

  pub trace_of_lem : (t : Tree) (p : List ℕ) → T (has_root g t g.start) → Traces g (at t) p → trace_of g sentence (preorder t) ≡ p
  trace_of_lem t p r h =
      ap (λ (u : Tree). trace_from g (length (preorder t)) (at u)) (tree_back t r)
      ∙ from_traces (length (preorder t)) p (at t) (omega (arith, trace_size t p r h)) h

  -- the trace is a live prefix that leads to the end
  queue_counts : (q : List (Prediction Tree)) → length (map bare q) ≤ length (nodes q)
  queue_counts [] = omega arith
  queue_counts (p ∷ q) = omega (arith, length-append (preorder p.node) (nodes q), queue_counts q, tree_counts p.node)

  pub traces_live : (n : ℕ) (p : List ℕ) (s : State Tree) → Good g s.queue → Traces g s p → length p ≤ n → LiveFrom g n (bare_state s) p
  traces_live n [] s h t l = nil_live g n (bare_state s) (omega (arith, queue_counts s.queue, traces_length g right [] s h t))
  traces_live zero (r ∷ p) s h t l = let z : ⊥ = omega arith in absurd z
  traces_live (suc n) (r ∷ p) s h t l =
      cons_live g n r (bare_state s) (bare_state t.0) p (sym (step_bare subtree g s r) ∙ ap bare_outcome t.1.leads_to)
      (omega (arith, queue_counts s.queue, traces_length g right (r ∷ p) s h t))
      (traces_live n p t.0 (advance g right s t.0 r h t.1).good t.2 (omega arith))

  pub traces_end : (p : List ℕ) (s : State Tree) → Traces g s p → Ends g (bare_state s) p
  traces_end [] s t = record { last = bare_state s; runs = refl; no_queue = ap (map bare) t.0; no_words = t.1 }
  traces_end (r ∷ p) s t =
      let e = traces_end p t.0 t.2 in
      let f : step no_node g (bare_state s) r ≡ leads (bare_state t.0) = sym (step_bare subtree g s r) ∙ ap bare_outcome t.1.leads_to in
      record { last = e.last; runs = rw (f, run) e.runs; no_queue = e.no_queue; no_words = e.no_words }

  end_finished : (s : State (Unit {0})) → s.queue ≡ [] → s.words ≡ [] → T (finished s)
  end_finished s e f = rw (e, finished) (rw f tt)

  finished_end : (s : State (Unit {0})) → T (finished s) → (s.queue ≡ []) × (s.words ≡ [])
  finished_end s t = go s.queue s.words refl refl
    where
      go : (q : List Bare) (w : List ℕ) → s.queue ≡ q → s.words ≡ w → (s.queue ≡ []) × (s.words ≡ [])
      go [] [] e f = (e, f)
      go [] (x ∷ w) e f = let z : ⊥ = rw (e, f, finished) at t in absurd z
      go (p ∷ q) w e f = let z : ⊥ = rw (e, finished) at t in absurd z

  end_complete : (p : List ℕ) → Ends g (start g sentence) p → T (complete g sentence p)
  end_complete p e = rw (e.runs, complete) (end_finished e.last e.no_queue e.no_words)

  complete_end : (p : List ℕ) → T (complete g sentence p) → Ends g (start g sentence) p
  complete_end p t = go (run no_node g (start g sentence) p) refl
    where
      go : (o : Option (State (Unit {0}))) → run no_node g (start g sentence) p ≡ o → Ends g (start g sentence) p
      go none e = let z : ⊥ = rw (e, complete) at t in absurd z
      go (some s) e = let f = finished_end s (rw (e, complete) at t) in record { last = s; runs = e; no_queue = f.0; no_words = f.1 }

  -- a trace that leads to the end is that of a tree
  pub record OfTree (p : List ℕ) : Type 0 where
    pub tree : Tree
    pub rooted : T (has_root g tree g.start)
    pub traces : Traces g (at tree) p

  pub of_tree : (p : List ℕ) → Ends g (start g sentence) p → OfTree p
  of_tree p e = go l.state.queue refl
    where
      l : Lift g (start g sentence) p
      l = lifted g p (start g sentence) e

      bares : map bare l.state.queue ≡ (start g sentence).queue
      bares = ap (λ (s : State (Unit {0})). s.queue) l.bare_is

      words : l.state.words ≡ sentence
      words = ap (λ (s : State (Unit {0})). s.words) l.bare_is

      go : (q : List (Prediction Tree)) → l.state.queue ≡ q → OfTree p
      go [] f = absurd (nil≢cons (ap (map bare) (sym f) ∙ bares))
      go (x ∷ y ∷ q) f = absurd (cons≢nil (tail-eq_of_cons-eq (ap (map bare) (sym f) ∙ bares)))
      go (x ∷ []) f =
          let b : bare x ≡ record { category = g.start; indices = [] ∷ []; node = tt } = head-eq_of_cons-eq (ap (map bare) (sym f) ∙ bares) in
          let first : Prediction Tree = record { category = g.start; indices = [] ∷ []; node = x.node } in
          let k : x ≡ first = same_prediction x first b refl in
          let q : l.state.queue ≡ first ∷ [] = f ∙ ap (λ (y : Prediction Tree). y ∷ []) k in
          let s : l.state ≡ at x.node = λ i. record { queue = q i; words = words i } in
          let r : T (has_root g x.node x.category) = l.rooted x (rw f (Memᴰ.head refl)) in
          record {
            tree = x.node;
            rooted = subst (λ (c : ℕ). T (has_root g x.node c)) (ap (λ (y : Bare). y.category) b) r;
            traces = subst (λ (u : State Tree). Traces g u p) s l.traces;
          }

  -- and of one only
  pub same_tree : (t u : Tree) (p : List ℕ) → T (has_root g t g.start) → T (has_root g u g.start) → Traces g (at t) p → Traces g (at u) p → t ≡ u
  same_tree t u p h k a b =
      ap (λ (x : Prediction Tree). x.node) (head-eq_of_cons-eq (only g right p (at t) (at u) refl (at_good t h) (at_good u k) a b))

  pub rooted_of : (t : Tree) → T (derives g sentence t) → T (has_root g t g.start)
  rooted_of t h = and_l (has_root g t g.start) (spells g sentence t) h

  listed : (n : ℕ) (t : Tree) → Analysis g sentence n t → Memᴰ (trace_of_tree g sentence t) (listing g sentence n)
  listed n t a =
      let r = rooted_of t a.derived in
      let (p, h) = derived_trace t a.derived in
      let e = trace_of_lem t p r h in
      let m = (listing_lists g sentence n).whole p
      (traces_live n p (at t) (at_good t r) h (omega (arith, trace_size t p r h, a.small)), end_complete p (traces_end p (at t) h)) in
      subst (λ (x : List ℕ). Memᴰ x (listing g sentence n)) (sym e) m

  live_length : (n : ℕ) (p : List ℕ) → Live g sentence n p → length p ≤ n
  live_length n p h = go (run no_node g (start g sentence) (take (length p) p)) (h (length p) (omega arith))
    where
      go : (o : Option (State (Unit {0}))) → Fits n (length p) o → length p ≤ n
      go none f = absurd f
      go (some s) f = omega arith

  pub record Source (n : ℕ) (p : List ℕ) : Type 0 where
    pub tree : Tree
    pub analysis : Analysis g sentence n tree
    pub trace : trace_of_tree g sentence tree ≡ p

  source : (n : ℕ) (p : List ℕ) → Memᴰ p (listing g sentence n) → Source n p
  source n p m =
      let h = (listing_lists g sentence n).sound p m in
      let o = of_tree p (complete_end p h.1) in
      let l = live_length n p h.0 in
      record {
        tree = o.tree;
        analysis = record { derived = trace_derives o.tree p o.rooted o.traces; small = omega (arith, trace_size o.tree p o.rooted o.traces) };
        trace = trace_of_lem o.tree p o.rooted o.traces;
      }

  one_tree : (t u : Tree) → T (derives g sentence t) → T (derives g sentence u) → trace_of_tree g sentence t ≡ trace_of_tree g sentence u → t ≡ u
  one_tree t u h k e =
      let (p, a) = derived_trace t h in
      let (q, b) = derived_trace u k in
      let f : q ≡ p = sym (trace_of_lem u q (rooted_of u k) b) ∙ sym e ∙ trace_of_lem t p (rooted_of t h) a in
      same_tree t u p (rooted_of t h) (rooted_of u k) a (subst (λ (x : List ℕ). Traces g (at u) x) f b)

  -- Demand 3: the count is the number of the different trees with at most n nodes that derive the sentence, and the listing is their traces
  pub record Analyses (n : ℕ) : Type 0 where
    pub trees : List Tree
    pub sound : (t : Tree) → Memᴰ t trees → Analysis g sentence n t
    pub whole : (t : Tree) → Analysis g sentence n t → Memᴰ t trees
    pub different : Different (map preorder trees)
    pub traces : listing g sentence n ≡ map (trace_of_tree g sentence) trees
    pub counted : count g sentence n ≡ length trees

  -- trees for a list of traces
  pub record Chosen (n : ℕ) (l : List (List ℕ)) : Type 0 where
    pub trees : List Tree
    pub sound : (t : Tree) → Memᴰ t trees → Analysis g sentence n t
    pub traces : l ≡ map (trace_of_tree g sentence) trees

  choose : (n : ℕ) (l : List (List ℕ)) → ((p : List ℕ) → Memᴰ p l → Source n p) → Chosen n l
  choose n [] h = record { trees = []; sound = λ t m. elim m [ ]; traces = refl }
  choose n (p ∷ l) h =
      let s = h p (Memᴰ.head refl) in
      let c = choose n l (λ q m. h q (Memᴰ.tail m)) in
      record { trees = s.tree ∷ c.trees; sound = λ t m. go s c t (Memᴰ.cases_cons m); traces = cc (s.trace, c.traces) }
    where
      go : (s : Source n p) (c : Chosen n l) (t : Tree) → (t ≡ s.tree) ⊎ Memᴰ t c.trees → Analysis g sentence n t
      go s c t (inl e) = subst (Analysis g sentence n) (sym e) s.analysis
      go s c t (inr m) = c.sound t m

  -- trees with different traces have different lists
  differ : (ts : List Tree) → Different (map (trace_of_tree g sentence) ts) → Different (map preorder ts)
  differ [] d = tt
  differ (t ∷ ts) d =
      (λ m. let (u, i, e) = map_out preorder ts m in d.0 (subst (λ (x : List ℕ). Memᴰ (trace_of g sentence x) (map (trace_of_tree g sentence) ts)) (sym e) (map_in (trace_of_tree g sentence) i)), differ ts d.1)

  pub analyses : (n : ℕ) → Analyses n
  analyses n =
      let c = choose n (listing g sentence n) (λ p m. source n p m) in
      record {
        trees = c.trees;
        sound = c.sound;
        whole = λ t a.
            let m : Memᴰ (trace_of_tree g sentence t) (map (trace_of_tree g sentence) c.trees) = subst (λ (l : List (List ℕ)). Memᴰ (trace_of_tree g sentence t) l) c.traces (listed n t a) in
            let (u, i, e) = map_out (trace_of_tree g sentence) c.trees m in
            subst (λ (x : Tree). Memᴰ x c.trees) (sym (one_tree t u a.derived (c.sound u i).derived e)) i;
        different = differ c.trees (subst Different c.traces (order_different (listing g sentence n) (listing_lists g sentence n).ordered));
        traces = c.traces;
        counted = ap length c.traces ∙ length-map c.trees (trace_of_tree g sentence);
      }
