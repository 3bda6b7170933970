-- Writing a tree from the table, node by node: what is written, with the trees of the predictions that wait, is the whole tree.
-- Assumes nothing.
use mathlib.Core.Path.{◌≡◌, refl, sym, ap, ap₂, subst, ◌∙◌}
use mathlib.Core.List.{List, [], ◌∷◌, ◌++◌, append_assoc, append-nil}
use Prim.Native.Nat.{ℕ, suc, ◌+◌, ◌<◌, ◌≤◌}
use native.Mathlib.Omega.{arith}
use native.Mathlib.Numerals.{add-one}
use lib.ListN.{length, get_or, take, drop, set, length-append, length-drop, take-append-drop, drop_of_length-le}
use lib.Seq.{drop-cons, drop-drop, take-suc-set, drop-set-lt, length-take-le}
use Rattle.model.specs.Base.{numbers_from}
use Rattle.model.specs.Tree.{Tree, Forest, node, nil, cons, preorder, preorders}
use Rattle.model.proofs.Lists.{length_numbers}
use Rattle.ranking.specs.Numbered.{made_at}
use Rattle.model.proofs.Analyses.{tree_counts}
use Rattle.unfold.specs.Unfold.{Grows, GrowsAll}

-- two forests, one after the other
abbrev join : Forest → Forest → Forest
join nil f = f
join (cons t ts) f = cons t (join ts f)

preorders_join : (a b : Forest) → preorders (join a b) ≡ preorders a ++ preorders b
preorders_join nil b = refl
preorders_join (cons t ts) b = ap (λ (l : List ℕ). preorder t ++ l) (preorders_join ts b) ∙ sym (append_assoc (preorder t) (preorders ts) (preorders b))

-- lists that agree from place n on agree from the next on
drop_more : (a b : List ℕ) (n : ℕ) → drop n a ≡ drop n b → drop (suc n) a ≡ drop (suc n) b
drop_more a b n f = sym (one_more a) ∙ ap (drop 1) f ∙ one_more b
  where
    one_more : (l : List ℕ) → drop 1 (drop n l) ≡ drop (suc n) l
    one_more l = drop-drop 1 n l ∙ ap (λ (k : ℕ). drop k l) (add-one n)

module _ (count : ℕ → ℕ) (trace steps : List ℕ) where
  grows_join : (a b : Forest) (ps qs : List ℕ) → GrowsAll count trace steps a ps → GrowsAll count trace steps b qs → GrowsAll count trace steps (join a b) (ps ++ qs)
  grows_join nil b [] qs h k = k
  grows_join nil b (p ∷ ps) qs h k = absurd h
  grows_join (cons t ts) b [] qs h k = absurd h
  grows_join (cons t ts) b (p ∷ ps) qs h k = (h.0, grows_join ts b ps qs h.1 k)

  -- no more predictions than nodes
  grows_counts : (f : Forest) (ps : List ℕ) → GrowsAll count trace steps f ps → length ps ≤ length (preorders f)
  grows_counts nil [] h = omega arith
  grows_counts nil (p ∷ ps) h = absurd h
  grows_counts (cons t ts) [] h = absurd h
  grows_counts (cons t ts) (p ∷ ps) h = omega (arith, length-append (preorder t) (preorders ts), tree_counts t, grows_counts ts ps h.1)

  below : (t : Tree) (p : ℕ) → Grows count trace steps t p → p < 388
  below (node r ts) p h = h.0

  -- w nodes are written at the front of out, and the predictions from `top` on wait, the next one first
  pub record Standing (tree : Tree) (w top : ℕ) (st out old : List ℕ) : Type 0 where
    pub forest : Forest
    pub grows : GrowsAll count trace steps forest (drop top st)
    pub whole : take w out ++ preorders forest ≡ preorder tree
    pub kept : drop w out ≡ drop w old

  pub begins : (tree : Tree) (top : ℕ) (st out : List ℕ) → Grows count trace steps tree 0 → drop top st ≡ 0 ∷ [] → Standing tree 0 top st out out
  begins tree top st out h e =
      record { forest = cons tree nil; grows = subst (GrowsAll count trace steps (cons tree nil)) (sym e) (h, tt); whole = append-nil (preorder tree); kept = refl }

  -- one node: the next prediction is p
  module _ {tree : Tree} {w top : ℕ} {st out old : List ℕ} (s : Standing tree w top st out old) (few : length (preorder tree) ≤ 96)
      (long : length st ≡ 96) (room : 96 ≤ length out) (fits : w ≤ 96) (more : top < 96) {p : ℕ} (p-is : p ≡ get_or st top 0) where
    waiting : GrowsAll count trace steps s.forest (p ∷ drop (suc top) st)
    waiting = subst (GrowsAll count trace steps s.forest) (drop-cons st top 0 (omega arith) ∙ ap (λ (x : ℕ). x ∷ drop (suc top) st) (sym p-is)) s.grows

    -- the nodes written and those that wait are those of the tree
    nodes_all : w + length (preorders s.forest) ≡ length (preorder tree)
    nodes_all = omega (arith, length-take-le w out (omega arith), ap length s.whole, length-append (take w out) (preorders s.forest))

    pub write_small : w < 96
    write_small = omega (arith, nodes_all, grows_counts s.forest (p ∷ drop (suc top) st) waiting)

    pub prediction_small : p < 388
    prediction_small = go s.forest waiting
      where
        go : (f : Forest) → GrowsAll count trace steps f (p ∷ drop (suc top) st) → p < 388
        go nil h = absurd h
        go (cons t f) h = below t p h.0

    -- step k takes it, by rule r
    module _ {k : ℕ} (k-is : k ≡ get_or steps p 0) where
      pub step_small : k < 96
      step_small = go s.forest waiting
        where
          go : (f : Forest) → GrowsAll count trace steps f (p ∷ drop (suc top) st) → k < 96
          go nil h = absurd h
          go (cons (node q ts) f) h = omega (arith, h.0.1)

      module _ {r : ℕ} (r-is : r ≡ get_or trace k 0) where
        -- its node, its daughters, and what waits behind it
        record Next : Type 0 where
          trees : Forest
          behind : Forest
          nodes : preorders s.forest ≡ r ∷ preorders (join trees behind)
          onward : GrowsAll count trace steps (join trees behind) (numbers_from (made_at k) (count r) ++ drop (suc top) st)

        next : Next
        next = go s.forest refl waiting
          where
            go : (f : Forest) → s.forest ≡ f → GrowsAll count trace steps f (p ∷ drop (suc top) st) → Next
            go nil e h = absurd h
            go (cons (node q ts) f) e h =
                let x : q ≡ r = sym h.0.2 ∙ ap (λ (i : ℕ). get_or trace i 0) (sym k-is) ∙ sym r-is in
                let d : GrowsAll count trace steps ts (numbers_from (made_at k) (count r))
                = subst (GrowsAll count trace steps ts) (ap₂ (λ (i y : ℕ). numbers_from (made_at i) (count y)) (sym k-is) x) h.0.3 in
                record {
                  trees = ts;
                  behind = f;
                  nodes = ap preorders e ∙ ap₂ (λ (y : ℕ) (l : List ℕ). y ∷ l) x (sym (preorders_join ts f));
                  onward = grows_join ts f (numbers_from (made_at k) (count r)) (drop (suc top) st) d h.1;
                }

        abbrev ahead : Forest
        ahead = join next.trees next.behind

        -- the nodes written, this one and those that wait are those of the tree
        nodes_add : w + suc (length (preorders ahead)) ≡ length (preorder tree)
        nodes_add = omega (arith, nodes_all, ap length next.nodes)

        -- its d daughters are put before those that wait
        module _ {d : ℕ} (counted : d ≡ count r) where
          pub push_room : d ≤ top + 1
          push_room =
              omega (
                arith,
                nodes_add,
                grows_counts ahead (numbers_from (made_at k) (count r) ++ drop (suc top) st) next.onward,
                length-append (numbers_from (made_at k) (count r)) (drop (suc top) st),
                length_numbers (made_at k) (count r),
                length-drop (suc top) st,
              )

          pub stands_next : (st' : List ℕ) (top' : ℕ) → drop top' st' ≡ numbers_from (made_at k) d ++ drop (top + 1) st → Standing tree (w + 1) top' st' (set out w r) old
          stands_next st' top' e =
              let b : w < length out = omega (arith, write_small) in
              let f : drop top' st' ≡ numbers_from (made_at k) (count r) ++ drop (suc top) st = e ∙ ap₂ (λ (x y : ℕ). numbers_from (made_at k) x ++ drop y st) counted (add-one top) in
              rw (add-one w)
              (record {
                forest = ahead;
                grows = subst (GrowsAll count trace steps ahead) (sym f) next.onward;
                whole = ap (λ (l : List ℕ). l ++ preorders ahead) (take-suc-set out w r b)
                    ∙ append_assoc (take w out) (r ∷ []) (preorders ahead)
                    ∙ ap (λ (l : List ℕ). take w out ++ l) (sym next.nodes) ∙ s.whole;
                kept = drop-set-lt (suc w) out w r (omega arith) ∙ drop_more out old w s.kept;
              })

  -- nothing waits: the tree is written
  pub finished : (tree : Tree) (w top : ℕ) (st out old : List ℕ) → length st ≡ 96 → 96 ≤ top → w ≤ length out → Standing tree w top st out old
      → out ≡ preorder tree ++ drop (length (preorder tree)) old
  finished tree w top st out old l h b s =
      let e : take w out ≡ preorder tree = no_trees s.forest refl (subst (GrowsAll count trace steps s.forest) (drop_of_length-le st {i = top} (omega arith)) s.grows) in
      let n : w ≡ length (preorder tree) = sym (length-take-le w out b) ∙ ap length e in
      sym (take-append-drop w out) ∙ ap₂ (λ (x y : List ℕ). x ++ y) e s.kept ∙ ap (λ (k : ℕ). preorder tree ++ drop k old) n
    where
      no_trees : (f : Forest) → s.forest ≡ f → GrowsAll count trace steps f [] → take w out ≡ preorder tree
      no_trees nil e h = sym (append-nil (take w out)) ∙ ap (λ (f : Forest). take w out ++ preorders f) (sym e) ∙ s.whole
      no_trees (cons t ts) e h = absurd h
