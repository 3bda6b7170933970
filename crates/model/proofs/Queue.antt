-- Sort, trim and scan, on the slots of a queue.
-- Assumes nothing.
use Rattle.std.specs.Prelude.{if◌then◌else◌}
use mathlib.Core.Path.{◌≡◌, refl, sym, ap, subst, ◌∙◌}
use mathlib.Core.Logic.{◌⊎◌, inl, inr}
use mathlib.Core.Bool.{Bool, true, false, ◌&&◌}
use mathlib.Core.List.Memᴰ
use mathlib.Core.List.{List, [], ◌∷◌, map, tail, Memᴰ}
use Prim.Native.Nat.{ℕ, ◌≤◌}
use native.Mathlib.Omega.{arith}
use borrow.Author.Tests.{le-ltb, eq-eqb}
use lib.Dec.{T, eqb→eq}
use lib.ListN.{length}
use Rattle.model.specs.Base.{every}
use Rattle.model.specs.Grammar.{Grammar}
use Rattle.model.specs.Step.{Index, before, lesser, least, Prediction, least_of, insert, sort, begins, same_first, shorten, trim}
use Rattle.model.specs.Tree.{Tree, yield}
use Rattle.model.specs.WellFormed.{Perm, same, more, swap, chain}
use Rattle.model.proofs.Lists.{each_out, each_in, map_out, map_append}
use Rattle.model.proofs.Digits.{left, left_before, before_between}
use Rattle.model.proofs.Sorting.{Sorted, least_least}
use Rattle.model.proofs.Slots.{Slot, Row, cut, cut_row}
use Rattle.model.proofs.Expand.{zipped, slots_of, queue_slots}
use Rattle.model.proofs.Marks.{indices_of}

module _ {A : Type 0} where
  pub insert_perm : (p : Prediction A) (q : List (Prediction A)) → Perm (insert p q) (p ∷ q)
  insert_perm p [] = same refl
  insert_perm p (y ∷ q) = go (before (least_of y) (least_of p)) (insert_perm p q)
    where
      go : (b : Bool) → Perm (insert p q) (p ∷ q) → Perm (if b then y ∷ insert p q else p ∷ y ∷ q) (p ∷ y ∷ q)
      go true h = chain (more y h) (swap y p)
      go false h = same refl

  pub sort_perm : (q : List (Prediction A)) → Perm (sort q) q
  sort_perm [] = same refl
  sort_perm (p ∷ q) = chain (insert_perm p (sort q)) (more p (sort_perm q))

-- the indices all begin with one digit
every_mem : (test : Index → Bool) (l : List Index) → T (every test l) → (i : Index) → Memᴰ i l → T (test i)
every_mem test [] t i m = elim m [ ]
every_mem test (x ∷ l) t i m = go (test x) refl t (Memᴰ.cases_cons m) (λ u n. every_mem test l u i n)
  where
    go : (b : Bool) → test x ≡ b → T (b && every test l) → (i ≡ x) ⊎ Memᴰ i l → (T (every test l) → Memᴰ i l → T (test i)) → T (test i)
    go true e u (inl f) ih = rw (f, e) tt
    go true e u (inr n) ih = ih u n
    go false e u k ih = absurd u

begins_tail : (d : ℕ) (i : Index) → T (begins d i) → i ≡ d ∷ tail i
begins_tail d [] t = absurd t
begins_tail d (x ∷ xs) t = ap (λ (y : ℕ). y ∷ xs) (sym (eqb→eq d x t))

pub same_first_lem : (l : List Index) → T (same_first l) → (d : ℕ) × ((i : Index) → Memᴰ i l → i ≡ d ∷ tail i)
same_first_lem [] t = absurd t
same_first_lem ([] ∷ l) t = absurd t
same_first_lem ((d ∷ ds) ∷ l) t = (d, λ i m. go i (Memᴰ.cases_cons m))
  where
    go : (i : Index) → (i ≡ d ∷ ds) ⊎ Memᴰ i l → i ≡ d ∷ tail i
    go i (inl e) = rw e
    go i (inr m) = begins_tail d i (every_mem (begins d) l t i m)

before_cons : (d : ℕ) (a b : Index) → before (d ∷ a) (d ∷ b) ≡ before a b
before_cons d a b = rw (le-ltb d d (omega arith), eq-eqb d d refl)

if_cons : (b : Bool) (d : ℕ) (x y : Index) → (if b then d ∷ x else d ∷ y) ≡ d ∷ (if b then x else y)
if_cons true d x y = refl
if_cons false d x y = refl

pub least_tail : (d : ℕ) (l : List Index) → 1 ≤ length l → ((i : Index) → Memᴰ i l → i ≡ d ∷ tail i) → least l ≡ d ∷ least (map tail l)
least_tail d [] n h = let z : ⊥ = omega arith in absurd z
least_tail d (i ∷ []) n h = h i (Memᴰ.head refl)
least_tail d (i ∷ j ∷ l) n h =
    let e = h i (Memᴰ.head refl) in
    let f = least_tail d (j ∷ l) (omega arith) (λ k m. h k (Memᴰ.tail m)) in
    let a : lesser i (least (j ∷ l)) ≡ lesser (d ∷ tail i) (d ∷ least (map tail (j ∷ l))) = ap (λ (x : Index). lesser x (least (j ∷ l))) e ∙ ap (λ (x : Index). lesser (d ∷ tail i) x) f in
    a ∙ (rw (before_cons d (least (map tail (j ∷ l))) (tail i)) (if_cons (before (least (map tail (j ∷ l))) (tail i)) d (least (map tail (j ∷ l))) (tail i)))

module _ (g : Grammar) where
  zip_cut : (is : List Index) (ys : List (List ℕ)) → zipped (map tail is) ys ≡ map cut (zipped is ys)
  zip_cut [] ys = refl
  zip_cut (i ∷ is) [] = refl
  zip_cut (i ∷ is) (y ∷ ys) = ap (λ (l : List Slot). record { index = tail i; string = y } ∷ l) (zip_cut is ys)

  shorten_slots : (q : List (Prediction Tree)) → queue_slots g (map shorten q) ≡ map cut (queue_slots g q)
  shorten_slots [] = refl
  shorten_slots (p ∷ q) =
      cc (zip_cut p.indices (yield g p.node), shorten_slots q) ∙ sym (map_append cut (slots_of g p) (queue_slots g q))

  zip_index : (is : List Index) (ys : List (List ℕ)) {s : Slot} → Memᴰ s (zipped is ys) → Memᴰ s.index is
  zip_index [] ys m = elim m [ ]
  zip_index (i ∷ is) [] m = elim m [ ]
  zip_index (i ∷ is) (y ∷ ys) {s} m = go (Memᴰ.cases_cons m) (λ n. zip_index is ys n)
    where
      go : (s ≡ record { index = i; string = y }) ⊎ Memᴰ s (zipped is ys) → (Memᴰ s (zipped is ys) → Memᴰ s.index is) → Memᴰ s.index (i ∷ is)
      go (inl e) ih = Memᴰ.head (ap (λ (x : Slot). x.index) e)
      go (inr n) ih = Memᴰ.tail (ih n)

  slot_index : (q : List (Prediction Tree)) {s : Slot} → Memᴰ s (queue_slots g q) → (p : Prediction Tree) × Memᴰ p q × Memᴰ s.index p.indices
  slot_index q m = let (p, i, j) = each_out (slots_of g) q m in (p, i, zip_index p.indices (yield g p.node) j)

  pub trim_row : (q : List (Prediction Tree)) (words : List ℕ) → Row (queue_slots g q) words → Row (queue_slots g (trim q)) words
  trim_row q words r = go (same_first (indices_of q)) refl
    where
      go : (b : Bool) → same_first (indices_of q) ≡ b → Row (queue_slots g (if b then map shorten q else q)) words
      go false e = r
      go true e =
          let (d, h) = same_first_lem (indices_of q) (rw e tt) in
          subst (λ (l : List Slot). Row l words) (sym (shorten_slots q))
          (cut_row d (queue_slots g q) words (λ s m. let (p, i, j) = slot_index q m in h s.index (each_in (λ p. p.indices) i j)) r)

  pub trim_sorted : {A : Type 0} (q : List (Prediction A)) → ((p : Prediction A) → Memᴰ p q → 1 ≤ length p.indices) → Sorted q → Sorted (trim q)
  trim_sorted {A} q n s = go (same_first (indices_of q)) refl
    where
      cuts : (d : ℕ) (l : List (Prediction A)) → ((p : Prediction A) → Memᴰ p l → least p.indices ≡ d ∷ least (map tail p.indices)) → Sorted l → Sorted (map shorten l)
      cuts d [] h u = tt
      cuts d (p ∷ l) h u = (
        λ x m t.
            let (y, i, e) = map_out shorten l m in
            u.0 y i (rw (h y (Memᴰ.tail i), h p (Memᴰ.head refl)) (rw before_cons (rw e at t))),
        cuts d l (λ y m. h y (Memᴰ.tail m)) u.1,
      )

      go : (b : Bool) → same_first (indices_of q) ≡ b → Sorted (if b then map shorten q else q)
      go false e = s
      go true e =
          let (d, h) = same_first_lem (indices_of q) (rw e tt) in
          cuts d q (λ p m. least_tail d p.indices (n p m) (λ i j. h i (each_in (λ p. p.indices) m j))) s

  -- no slot stands left of the front's, where that has one index
  pub front_first : (p : Prediction Tree) (q : List (Prediction Tree)) (i : Index) → p.indices ≡ i ∷ [] → Sorted (p ∷ q)
      → (s : Slot) → Memᴰ s (queue_slots g q) → T (left s.index i) → ⊥
  front_first p q i e u s m t =
      let (x, j, k) = slot_index q m in
      go x j k (before_between s.index (least_of x) i (left_before s.index i t))
    where
      go : (x : Prediction Tree) → Memᴰ x q → Memᴰ s.index x.indices → T (before s.index (least_of x)) ⊎ T (before (least_of x) i) → ⊥
      go x j k (inl b) = least_least x.indices s.index k b
      go x j k (inr b) = u.0 x j (rw e b)
