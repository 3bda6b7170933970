-- The table of steps: what a step stores, and the tree that stands in it.
-- Assumes nothing.
use mathlib.Core.Path.{◌≡◌, sym, ap, ap₂, subst, ◌∙◌}
use mathlib.Core.List.{List}
use Prim.Native.Nat.{ℕ, zero, suc, ◌+◌, ◌<◌, ◌≤◌}
use native.Mathlib.Omega.{arith}
use native.Mathlib.Decide.{ℕ_discrete}
use lib.ListN.{length, get_or, set}
use lib.Seq.{get_or-set_same, get_or-set_other}
use Rattle.model.specs.Base.{numbers_from}
use Rattle.model.specs.Tree.{Tree, Forest, node, nil, cons}
use Rattle.ranking.specs.Numbered.{made_at}
use Rattle.unfold.specs.Unfold.{Taken, trees_from, Unfolds, Linked, Grows, GrowsAll}

-- step n is stored for the prediction p that it takes
module _ (taken steps : List ℕ) (n p : ℕ) (h : Linked taken steps n) (e : p ≡ get_or taken n 0) (a : p < length steps) where
  -- what is stored where step k takes
  abbrev Stored : ℕ → ℕ → Type 0
  Stored k x = (x < n + 1) × (get_or taken x 0 ≡ get_or taken k 0)

  stored : (k : ℕ) → k < n + 1 → Stored k (get_or (set steps p n) (get_or taken k 0) 0)
  stored k l = go (ℕ_discrete (get_or taken k 0) p)
    where
      go : Dec (get_or taken k 0 ≡ p) → Stored k (get_or (set steps p n) (get_or taken k 0) 0)
      go (yes f) = subst (Stored k) (sym (ap (λ (x : ℕ). get_or (set steps p n) x 0) f ∙ get_or-set_same steps p n 0 a)) (omega arith, sym e ∙ sym f)
      go (no f) = earlier (ℕ_discrete k n)
        where
          earlier : Dec (k ≡ n) → Stored k (get_or (set steps p n) (get_or taken k 0) 0)
          earlier (yes q) = absurd (f (ap (λ (x : ℕ). get_or taken x 0) q ∙ sym e))
          earlier (no q) =
              let m : k < n = omega arith in
              subst (Stored k) (sym (get_or-set_other steps p (get_or taken k 0) n 0 f)) (omega (arith, h.within k m), h.takes k m)

  pub linked_next : Linked taken (set steps p n) (n + 1)
  linked_next = record { within = λ k l. (stored k l).0; takes = λ k l. (stored k l).1 }

nil_cons : {B : Type 0} {t : Tree} {ts : Forest} → nil ≡ cons t ts → B
nil_cons e = let z : ◌≡◌ {A = ℕ} 0 1 = cc in absurd (omega arith)

head_of : {t u : Tree} {ts us : Forest} → cons t ts ≡ cons u us → t ≡ u
head_of e = cc

tail_of : {t u : Tree} {ts us : Forest} → cons t ts ≡ cons u us → ts ≡ us
tail_of e = cc

label_of : {r s : ℕ} {ts us : Forest} → node r ts ≡ node s us → r ≡ s
label_of e = cc

trees_of : {r s : ℕ} {ts us : Forest} → node r ts ≡ node s us → ts ≡ us
trees_of e = cc

-- the tree of every prediction that is taken stands in the table
module _ (count : ℕ → ℕ) (trace taken steps : List ℕ) (names : ℕ → Tree) (few : length trace ≤ 96) (unfolds : Unfolds count 0 taken trace names) (small : (k : ℕ) → k < length trace → get_or taken k 0 < 388) (linked : Linked taken steps (length trace)) where
  mutual
    pub grows_tree : (t : Tree) (p : ℕ) → names p ≡ t → Taken taken p → Grows count trace steps t p
    grows_tree (node r ts) p e h =
        let k : h.0 < length trace = omega (arith, h.1, unfolds.sized) in
        let q : get_or taken h.0 0 ≡ p = h.2 in
        let i = get_or steps p 0 in
        let b : i < length trace = subst (λ (y : ℕ). get_or steps y 0 < length trace) q (linked.within h.0 k) in
        let x : get_or taken i 0 ≡ p = subst (λ (y : ℕ). get_or taken (get_or steps y 0) 0 ≡ y) q (linked.takes h.0 k) in
        let n : node r ts ≡ node (get_or trace i 0) (trees_from names (made_at (0 + i)) (count (get_or trace i 0))) = sym e ∙ ap names (sym x) ∙ unfolds.nodes i b in
        let l : r ≡ get_or trace i 0 = label_of n in
        let f : made_at (0 + i) ≡ made_at i = omega arith in
        let c : trees_from names (made_at (0 + i)) (count (get_or trace i 0)) ≡ trees_from names (made_at i) (count r) = ap₂ (λ (a b : ℕ). trees_from names a (count b)) f (sym l) in (
          subst (λ (y : ℕ). y < 388) q (small h.0 k),
          omega arith,
          sym l,
          grows_trees ts (made_at i) (count r) (trees_of n ∙ c)
              (λ j d. subst (λ (y : ℕ). Taken taken (y + j)) f (unfolds.daughters i j b (subst (λ (y : ℕ). j < count y) l d))),
        )

    grows_trees : (ts : Forest) (a d : ℕ) → ts ≡ trees_from names a d → ((j : ℕ) → j < d → Taken taken (a + j)) → GrowsAll count trace steps ts (numbers_from a d)
    grows_trees nil a zero e h = tt
    grows_trees nil a (suc d) e h = nil_cons e
    grows_trees (cons t ts) a zero e h = nil_cons (sym e)
    grows_trees (cons t ts) a (suc d) e h =
        let z : a + 0 ≡ a = omega arith in (
          grows_tree t a (sym (head_of e)) (subst (Taken taken) z (h 0 (omega arith))),
          grows_trees ts (suc a) d (tail_of e) (λ j b. let y : a + suc j ≡ suc a + j = omega arith in subst (Taken taken) y (h (suc j) (omega arith))),
        )
