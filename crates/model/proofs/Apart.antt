-- The indices of a queue stand apart: of any two, one stands left of the other. Every step that applies keeps this.
-- Assumes nothing.
use Rattle.std.specs.Prelude.{if◌then◌else◌}
use mathlib.Core.Path.{◌≡◌, refl, sym, ap, ap₂, subst, ◌∙◌}
use mathlib.Core.Logic.{◌⊎◌, inl, inr}
use mathlib.Core.Bool.{Bool, true, false}
use mathlib.Core.List.Memᴰ
use mathlib.Core.List.{List, [], ◌∷◌, ◌++◌, map, tail, append_assoc, append-nil, Memᴰ}
use Prim.Native.Nat.{ℕ, suc, ◌<◌, ◌≤◌}
use native.Mathlib.Omega.{arith}
use lib.Dec.{T}
use lib.ListN.{length, length-map}
use Rattle.model.specs.Base.{numbers_from}
use Rattle.model.specs.Grammar.{Variable, Rule, Grammar, variable, is_lexical, dimension}
use Rattle.model.specs.Step.{Index, Prediction, numbered, indexed, variable_indices, index_of, sort, trim, shorten, same_first, daughters_from, expand}
use Rattle.model.specs.WellFormed.{Perm, same, more, swap, chain, daughter_variables, named, RightRule}
use Rattle.model.proofs.Lists.{length_numbers, map_append, each_append}
use Rattle.model.proofs.Digits.{left, left_append, left_last, left_tail}
use Rattle.model.proofs.Perm.{perm_map, perm_each, perm_right, perm_sym}
use Rattle.model.proofs.Marks.{indices_of}
use Rattle.model.proofs.Sorting.{Sorted, sort_sorted}
use Rattle.model.proofs.Queue.{sort_perm, same_first_lem, trim_sorted}
use Rattle.model.proofs.Expand.{vars, slot_found}
use Rattle.model.proofs.Daughters.{vars_slots}
use Rattle.model.proofs.Once.{Once, rule_once}

-- what holds of every element

module _ {A : Type 0} where
  abbrev pub Every : (A → Type 0) → List A → Type 0
  Every P [] = Unit {0}
  Every P (x ∷ xs) = P x × Every P xs

  pub every_append : (P : A → Type 0) (xs ys : List A) → Every P xs → Every P ys → Every P (xs ++ ys)
  every_append P [] ys h k = k
  every_append P (x ∷ xs) ys h k = (h.0, every_append P xs ys h.1 k)

  pub every_left : (P : A → Type 0) (xs ys : List A) → Every P (xs ++ ys) → Every P xs
  every_left P [] ys h = tt
  every_left P (x ∷ xs) ys h = (h.0, every_left P xs ys h.1)

  pub every_right : (P : A → Type 0) (xs ys : List A) → Every P (xs ++ ys) → Every P ys
  every_right P [] ys h = h
  every_right P (x ∷ xs) ys h = every_right P xs ys h.1

  pub every_to : (P Q : A → Type 0) → ((x : A) → P x → Q x) → (xs : List A) → Every P xs → Every Q xs
  every_to P Q f [] h = tt
  every_to P Q f (x ∷ xs) h = (f x h.0, every_to P Q f xs h.1)

  pub every_both : (P Q : A → Type 0) (xs : List A) → Every P xs → Every Q xs → Every (λ x. P x × Q x) xs
  every_both P Q [] h k = tt
  every_both P Q (x ∷ xs) h k = ((h.0, k.0), every_both P Q xs h.1 k.1)

  pub every_mem : (P : A → Type 0) (xs : List A) → ((x : A) → Memᴰ x xs → P x) → Every P xs
  every_mem P [] h = tt
  every_mem P (x ∷ xs) h = (h x (Memᴰ.head refl), every_mem P xs (λ y m. h y (Memᴰ.tail m)))

  pub mem_every : (P : A → Type 0) (xs : List A) → Every P xs → (x : A) → Memᴰ x xs → P x
  mem_every P [] h x m = elim m [ ]
  mem_every P (y ∷ xs) h x m = go (Memᴰ.cases_cons m) (mem_every P xs h.1 x)
    where
      go : (x ≡ y) ⊎ Memᴰ x xs → (Memᴰ x xs → P x) → P x
      go (inl e) ih = subst P (sym e) h.0
      go (inr n) ih = ih n

  pub every_perm : (P : A → Type 0) {l m : List A} → Perm l m → Every P l → Every P m
  every_perm P (same e) h = subst (Every P) e h
  every_perm P (more x p) h = (h.0, every_perm P p h.1)
  every_perm P (swap x y) h = (h.1.0, (h.0, h.1.1))
  every_perm P (chain p q) h = every_perm P q (every_perm P p h)

-- indices apart

abbrev pub Apart : Index → Index → Type 0
Apart i j = T (left i j) ⊎ T (left j i)

pub flip : (i j : Index) → Apart i j → Apart j i
flip i j (inl h) = inr h
flip i j (inr h) = inl h

-- x is i with digits behind it
abbrev pub Extends : Index → Index → Type 0
Extends i x = (e : Index) × (x ≡ i ++ e)

pub apart_longer : (i j : Index) {x y : Index} → Apart i j → Extends i x → Extends j y → Apart x y
apart_longer i j (inl h) a b = inl (rw (a.1, b.1) (left_append i j a.0 b.0 h))
apart_longer i j (inr h) a b = inr (rw (a.1, b.1) (left_append j i b.0 a.0 h))

extends_self : (i : Index) → Extends i i
extends_self i = ([], sym (append-nil i))

abbrev pub AllApart : List Index → Type 0
AllApart [] = Unit {0}
AllApart (i ∷ l) = Every (Apart i) l × AllApart l

pub apart_perm : {l m : List Index} → Perm l m → AllApart l → AllApart m
apart_perm (same e) h = subst AllApart e h
apart_perm (more x p) h = (every_perm (Apart x) p h.0, apart_perm p h.1)
apart_perm (swap x y) h = ((flip x y h.0.0, h.1.0), (h.0.1, h.1.1))
apart_perm (chain p q) h = apart_perm q (apart_perm p h)

apart_append : (a b : List Index) → AllApart a → AllApart b → Every (λ x. Every (Apart x) b) a → AllApart (a ++ b)
apart_append [] b h k c = k
apart_append (x ∷ a) b h k c = (every_append (Apart x) a b h.0 c.0, apart_append a b h.1 k c.1)

pub apart_left : (a b : List Index) → AllApart (a ++ b) → AllApart a
apart_left [] b h = tt
apart_left (x ∷ a) b h = (every_left (Apart x) a b h.0, apart_left a b h.1)

pub apart_right : (a b : List Index) → AllApart (a ++ b) → AllApart b
apart_right [] b h = h
apart_right (x ∷ a) b h = apart_right a b h.1

-- the indices of the variables of a component, and of all

abbrev pub indices_in : List (Variable × Index) → List Index
indices_in ss = map (λ s. s.1) ss

numbered_extend : (i : Index) (p : ℕ) (vs : List Variable) → Every (Extends i) (indices_in (numbered i p vs))
numbered_extend i p [] = tt
numbered_extend i p (v ∷ vs) = ((p ∷ [], refl), numbered_extend i (suc p) vs)

numbered_after : (i : Index) (p q : ℕ) (vs : List Variable) → p < q → Every (Apart (i ++ (p ∷ []))) (indices_in (numbered i q vs))
numbered_after i p q [] h = tt
numbered_after i p q (v ∷ vs) h = (inl (left_last i p q h), numbered_after i p (suc q) vs (omega arith))

numbered_apart : (i : Index) (p : ℕ) (vs : List Variable) → AllApart (indices_in (numbered i p vs))
numbered_apart i p [] = tt
numbered_apart i p (v ∷ vs) = (numbered_after i p (suc p) vs (omega arith), numbered_apart i (suc p) vs)

indexed_extend : (i : Index) (vs : List Variable) → Every (Extends i) (indices_in (indexed i vs))
indexed_extend i [] = tt
indexed_extend i (v ∷ []) = (extends_self i, tt)
indexed_extend i (v ∷ w ∷ vs) = numbered_extend i 0 (v ∷ w ∷ vs)

indexed_apart : (i : Index) (vs : List Variable) → AllApart (indices_in (indexed i vs))
indexed_apart i [] = tt
indexed_apart i (v ∷ []) = (tt, tt)
indexed_apart i (v ∷ w ∷ vs) = numbered_apart i 0 (v ∷ w ∷ vs)

-- an index that extends i is apart from what extends indices that i is apart from
slots_facing : (i x : Index) → Extends i x → (is : List Index) (cs : List (List Variable)) → Every (Apart i) is → Every (Apart x) (indices_in (variable_indices is cs))
slots_facing i x e [] cs h = tt
slots_facing i x e (j ∷ is) [] h = tt
slots_facing i x e (j ∷ is) (c ∷ cs) h =
    rw (map_append (λ (s : Variable × Index). s.1) (indexed j c) (variable_indices is cs))
    (every_append (Apart x) (indices_in (indexed j c)) (indices_in (variable_indices is cs))
    (every_to (Extends j) (Apart x) (λ y f. apart_longer i j h.0 e f) (indices_in (indexed j c)) (indexed_extend j c))
    (slots_facing i x e is cs h.1))

pub slots_apart : (is : List Index) (cs : List (List Variable)) (rest : List Index) → AllApart (is ++ rest) → AllApart (indices_in (variable_indices is cs) ++ rest)
slots_apart [] cs rest h = h
slots_apart (i ∷ is) [] rest h = apart_right is rest h.1
slots_apart (i ∷ is) (c ∷ cs) rest h =
    rw (map_append (λ (s : Variable × Index). s.1) (indexed i c) (variable_indices is cs), append_assoc)
    (apart_append (indices_in (indexed i c)) (indices_in (variable_indices is cs) ++ rest) (indexed_apart i c) (slots_apart is cs rest h.1)
    (every_to (Extends i) (λ x. Every (Apart x) (indices_in (variable_indices is cs) ++ rest))
    (λ x e. every_append (Apart x) (indices_in (variable_indices is cs)) rest
    (slots_facing i x e is cs (every_left (Apart i) is rest h.0))
    (every_to (Apart i) (Apart x) (λ y a. apart_longer i y a e (extends_self y)) rest (every_right (Apart i) is rest h.0)))
    (indices_in (indexed i c)) (indexed_extend i c)))

-- the daughters hold the indices of the variables

abbrev index_at : List (Variable × Index) → Variable → Index
index_at ss v = index_of ss v.daughter v.component

found_all : (ss l : List (Variable × Index)) → ((s : Variable × Index) → Memᴰ s l → index_at ss s.0 ≡ s.1) → indices_in l ≡ map (index_at ss) (vars l)
found_all ss [] h = refl
found_all ss (s ∷ l) h = ap₂ (λ (i : Index) (m : List Index). i ∷ m) (sym (h s (Memᴰ.head refl))) (found_all ss l (λ t m. h t (Memᴰ.tail m)))

module _ {A : Type 0} (child : A → ℕ → A) (g : Grammar) where
  numbers_indices : (ss : List (Variable × Index)) (j : ℕ) (l : List ℕ) → map (index_of ss j) l ≡ map (index_at ss) (map (variable j) l)
  numbers_indices ss j [] = refl
  numbers_indices ss j (c ∷ l) = ap (λ (m : List Index). index_of ss j c ∷ m) (numbers_indices ss j l)

  daughters_indices : (n : A) (ss : List (Variable × Index)) (j : ℕ) (ds : List ℕ) → indices_of (daughters_from child g n ss j ds) ≡ map (index_at ss) (daughter_variables g j ds)
  daughters_indices n ss j [] = refl
  daughters_indices n ss j (d ∷ ds) =
      ap₂ (λ (a b : List Index). a ++ b) (numbers_indices ss j (numbers_from 0 (dimension g d))) (daughters_indices n ss (suc j) ds)
      ∙ sym (map_append (index_at ss) (map (variable j) (numbers_from 0 (dimension g d))) (daughter_variables g (suc j) ds))

  pub expand_indices : (rule : Rule) (p : Prediction A) → RightRule g rule → is_lexical rule ≡ false → length p.indices ≡ length rule.components
      → Perm (indices_in (variable_indices p.indices rule.components)) (indices_of (expand child g rule p))
  expand_indices rule p rr l n =
      let ss = variable_indices p.indices rule.components in
      let v : vars ss ≡ named rule.components = vars_slots p.indices rule.components n in
      let o : Once (vars ss) = rw v (rule_once g rule rr l) in
      chain (same (found_all ss ss (slot_found ss o)))
      (chain (perm_map (index_at ss) (chain (same v) (rr.complete l)))
      (same (sym (daughters_indices p.node ss 0 rule.daughters))))

  -- the indices after a nonlexical step, before trimming
  pub next_indices : (rule : Rule) (p : Prediction A) (q : List (Prediction A)) → RightRule g rule → is_lexical rule ≡ false → length p.indices ≡ length rule.components
      → Perm (indices_in (variable_indices p.indices rule.components) ++ indices_of q) (indices_of (sort (expand child g rule p ++ q)))
  next_indices rule p q rr l n =
      chain (perm_right (indices_of q) (expand_indices rule p rr l n))
      (chain (same (sym (each_append (λ (x : Prediction A). x.indices) (expand child g rule p) q)))
      (perm_back (expand child g rule p ++ q)))
    where
      perm_back : (x : List (Prediction A)) → Perm (indices_of x) (indices_of (sort x))
      perm_back x = perm_sym (perm_each (λ (p : Prediction A). p.indices) (sort_perm x))

-- trimming

pub shorten_indices : {A : Type 0} (q : List (Prediction A)) → indices_of (map shorten q) ≡ map tail (indices_of q)
shorten_indices [] = refl
shorten_indices (p ∷ q) = ap (λ (l : List Index). map tail p.indices ++ l) (shorten_indices q) ∙ sym (map_append tail p.indices (indices_of q))

abbrev pub Begins : ℕ → Index → Type 0
Begins d i = i ≡ d ∷ tail i

apart_tail : (d : ℕ) (i j : Index) → Begins d i → Begins d j → Apart i j → Apart (tail i) (tail j)
apart_tail d i j a b (inl h) = inl (left_tail d (tail i) (tail j) (rw (a, b) at h))
apart_tail d i j a b (inr h) = inr (left_tail d (tail j) (tail i) (rw (b, a) at h))

tails_facing : (d : ℕ) (i : Index) (l : List Index) → Begins d i → Every (Begins d) l → Every (Apart i) l → Every (Apart (tail i)) (map tail l)
tails_facing d i [] b h a = tt
tails_facing d i (j ∷ l) b h a = (apart_tail d i j b h.0 a.0, tails_facing d i l b h.1 a.1)

tails_apart : (d : ℕ) (l : List Index) → Every (Begins d) l → AllApart l → AllApart (map tail l)
tails_apart d [] h a = tt
tails_apart d (i ∷ l) h a = (tails_facing d i l h.0 h.1 a.0, tails_apart d l h.1 a.1)

pub all_begin : (l : List Index) → same_first l ≡ true → (d : ℕ) × Every (Begins d) l
all_begin l e = let r = same_first_lem l (rw e tt) in (r.0, every_mem (Begins r.0) l r.1)

-- what every queue has that steps can reach

module _ {A : Type 0} where
  -- as many indices as the category has components, and at least one
  pub record Sized (g : Grammar) (p : Prediction A) : Type 0 where
    pub sized : length p.indices ≡ dimension g p.category
    pub inhabited : 1 ≤ length p.indices

  pub record Line (g : Grammar) (q : List (Prediction A)) : Type 0 where
    pub apart : AllApart (indices_of q)
    pub sorted : Sorted q
    pub fit : Every (Sized g) q

  shorten_fit : (g : Grammar) (q : List (Prediction A)) → Every (Sized g) q → Every (Sized g) (map shorten q)
  shorten_fit g [] h = tt
  shorten_fit g (p ∷ q) h = (
    record { sized = length-map p.indices tail ∙ h.0.sized; inhabited = omega (arith, length-map p.indices tail, h.0.inhabited) },
    shorten_fit g q h.1,
  )

  pub line_trim : (g : Grammar) (q : List (Prediction A)) → Line g q → Line g (trim q)
  line_trim g q h =
      record {
        apart = go (same_first (indices_of q)) refl;
        sorted = trim_sorted g q (λ p m. (mem_every (Sized g) q h.fit p m).inhabited) h.sorted;
        fit = fits (same_first (indices_of q));
      }
    where
      go : (b : Bool) → same_first (indices_of q) ≡ b → AllApart (indices_of (if b then map shorten q else q))
      go false e = h.apart
      go true e = let r = all_begin (indices_of q) e in rw (shorten_indices q) (tails_apart r.0 (indices_of q) r.1 h.apart)

      fits : (b : Bool) → Every (Sized g) (if b then map shorten q else q)
      fits false = h.fit
      fits true = shorten_fit g q h.fit

module _ {A : Type 0} (child : A → ℕ → A) (g : Grammar) where
  daughters_fit : (n : A) (ss : List (Variable × Index)) (j : ℕ) (ds : List ℕ) → ((d : ℕ) → Memᴰ d ds → 1 ≤ dimension g d) → Every (Sized g) (daughters_from child g n ss j ds)
  daughters_fit n ss j [] h = tt
  daughters_fit n ss j (d ∷ ds) h =
      let len : length (map (index_of ss j) (numbers_from 0 (dimension g d))) ≡ dimension g d = length-map (numbers_from 0 (dimension g d)) (index_of ss j) ∙ length_numbers 0 (dimension g d) in
      (record { sized = len; inhabited = omega (arith, len, h d (Memᴰ.head refl)) }, daughters_fit n ss (suc j) ds (λ e m. h e (Memᴰ.tail m)))

  -- a nonlexical step keeps it
  pub line_predict : (rule : Rule) (p : Prediction A) (q : List (Prediction A)) → RightRule g rule → is_lexical rule ≡ false → length p.indices ≡ length rule.components
      → Line g (p ∷ q) → Line g (trim (sort (expand child g rule p ++ q)))
  line_predict rule p q rr l n h =
      let x = expand child g rule p ++ q in
      line_trim g (sort x)
      (record {
        apart = apart_perm (next_indices child g rule p q rr l n) (slots_apart p.indices rule.components (indices_of q) h.apart);
        sorted = sort_sorted x;
        fit = every_perm (Sized g) (perm_sym (sort_perm x)) (every_append (Sized g) (expand child g rule p) q (daughters_fit p.node (variable_indices p.indices rule.components) 0 rule.daughters rr.inhabited) h.fit.1);
      })

  -- and so does a lexical one
  pub line_read : (p : Prediction A) (q : List (Prediction A)) → Line g (p ∷ q) → Line g q
  line_read p q h = record { apart = apart_right p.indices (indices_of q) h.apart; sorted = h.sorted.1; fit = h.fit.1 }
