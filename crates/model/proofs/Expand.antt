-- What a nonlexical step does to the slots of the front prediction: each gives way to those of its component's variables.
-- Assumes nothing.
use Rattle.std.specs.Prelude.{if◌then◌else◌}
use mathlib.Core.Path.{◌≡◌, refl, sym, ap, subst, ◌∙◌}
use mathlib.Core.Logic.{◌⊎◌, inl, inr}
use mathlib.Core.Bool.{Bool, true, false, ◌&&◌}
use mathlib.Core.List.Memᴰ
use mathlib.Core.List.{List, [], ◌∷◌, ◌++◌, map, append-nil, Memᴰ}
use Prim.Native.Nat.{ℕ, suc, ◌≤◌}
use native.Mathlib.Omega.{arith}
use lib.Dec.{T, eqb, eqb→eq, eqb_refl}
use Rattle.model.specs.Base.{each}
use Rattle.model.specs.Grammar.{Variable, Grammar}
use Rattle.model.specs.Step.{Index, Prediction, numbered, indexed, variable_indices, index_of}
use Rattle.model.specs.Tree.{Tree, yield, string_of}
use Rattle.model.proofs.Lists.{map_in, map_append}
use Rattle.model.proofs.Digits.{left_last}
use Rattle.model.proofs.Slots.{Slot, spelled, Rising, Change, Fine, AllFine, olds, news}
use Rattle.model.proofs.Once.{Once}

-- indices with strings
abbrev pub zipped : List Index → List (List ℕ) → List Slot
zipped [] ys = []
zipped (i ∷ is) [] = []
zipped (i ∷ is) (y ∷ ys) = record { index = i; string = y } ∷ zipped is ys

-- the slots of a prediction, and of a queue
abbrev pub slots_of : Grammar → Prediction Tree → List Slot
slots_of g p = zipped p.indices (yield g p.node)

abbrev pub queue_slots : Grammar → List (Prediction Tree) → List Slot
queue_slots g q = each (slots_of g) q

-- a slot that stays
abbrev pub stay : Slot → Change
stay s = record { slot = s; block = s ∷ [] }

pub stay_olds : (l : List Slot) → olds (map stay l) ≡ l
stay_olds [] = refl
stay_olds (x ∷ l) = ap (λ (m : List Slot). x ∷ m) (stay_olds l)

pub stay_news : (l : List Slot) → news (map stay l) ≡ l
stay_news [] = refl
stay_news (x ∷ l) = ap (λ (m : List Slot). x ∷ m) (stay_news l)

pub stay_fine : (s : Slot) → Fine (stay s)
stay_fine s =
    record {
      rises = (λ y m. elim m [ ], tt);
      extends = λ y m. go y (Memᴰ.cases_cons m);
      spells = append-nil s.string;
    }
  where
    go : (y : Slot) → (y ≡ s) ⊎ Memᴰ y [] → (e : Index) × (y.index ≡ s.index ++ e)
    go y (inl e) = ([], ap (λ (x : Slot). x.index) e ∙ sym (append-nil s.index))
    go y (inr m) = elim m [ ]

module _ (ys : List (List (List ℕ))) where
  abbrev pub slot_of_var : Variable × Index → Slot
  slot_of_var s = record { index = s.1; string = string_of ys s.0 }

  abbrev pub changes : List Index → List (List Variable) → List Change
  changes [] cs = []
  changes (i ∷ is) [] = []
  changes (i ∷ is) (c ∷ cs) =
      record { slot = record { index = i; string = each (string_of ys) c }; block = map slot_of_var (indexed i c) } ∷ changes is cs

  pub changes_olds : (is : List Index) (cs : List (List Variable)) → olds (changes is cs) ≡ zipped is (map (λ c. each (string_of ys) c) cs)
  changes_olds [] cs = refl
  changes_olds (i ∷ is) [] = refl
  changes_olds (i ∷ is) (c ∷ cs) = ap (λ (m : List Slot). record { index = i; string = each (string_of ys) c } ∷ m) (changes_olds is cs)

  pub changes_news : (is : List Index) (cs : List (List Variable)) → news (changes is cs) ≡ map slot_of_var (variable_indices is cs)
  changes_news [] cs = refl
  changes_news (i ∷ is) [] = refl
  changes_news (i ∷ is) (c ∷ cs) = ap (λ (m : List Slot). map slot_of_var (indexed i c) ++ m) (changes_news is cs) ∙ sym (map_append slot_of_var (indexed i c) (variable_indices is cs))

  -- the block of one component
  numbered_at : (i : Index) (p : ℕ) (vs : List Variable) {y : Slot} → Memᴰ y (map slot_of_var (numbered i p vs)) → (k : ℕ) × (p ≤ k) × (y.index ≡ i ++ (k ∷ []))
  numbered_at i p [] m = elim m [ ]
  numbered_at i p (v ∷ vs) {y} m = go (Memᴰ.cases_cons m) (λ n. numbered_at i (suc p) vs n)
    where
      go : (y ≡ slot_of_var (v, i ++ (p ∷ []))) ⊎ Memᴰ y (map slot_of_var (numbered i (suc p) vs))
          → (Memᴰ y (map slot_of_var (numbered i (suc p) vs)) → (k : ℕ) × (suc p ≤ k) × (y.index ≡ i ++ (k ∷ [])))
          → (k : ℕ) × (p ≤ k) × (y.index ≡ i ++ (k ∷ []))
      go (inl e) ih = (p, omega arith, ap (λ (x : Slot). x.index) e)
      go (inr n) ih = let (k, h, e) = ih n in (k, omega arith, e)

  numbered_rise : (i : Index) (p : ℕ) (vs : List Variable) → Rising (map slot_of_var (numbered i p vs))
  numbered_rise i p [] = tt
  numbered_rise i p (v ∷ vs) =
      (λ y m. let (k, h, e) = numbered_at i (suc p) vs m in rw e (left_last i p k h), numbered_rise i (suc p) vs)

  numbered_spell : (i : Index) (p : ℕ) (vs : List Variable) → spelled (map slot_of_var (numbered i p vs)) ≡ each (string_of ys) vs
  numbered_spell i p [] = refl
  numbered_spell i p (v ∷ vs) = ap (λ (w : List ℕ). string_of ys v ++ w) (numbered_spell i (suc p) vs)

  block_fine : (i : Index) (vs : List Variable) → Fine (record { slot = record { index = i; string = each (string_of ys) vs }; block = map slot_of_var (indexed i vs) })
  block_fine i [] = record { rises = tt; extends = λ y m. elim m [ ]; spells = refl }
  block_fine i (v ∷ []) =
      record { rises = (λ y m. elim m [ ], tt); extends = λ y m. go y (Memᴰ.cases_cons m); spells = refl }
    where
      go : (y : Slot) → (y ≡ slot_of_var (v, i)) ⊎ Memᴰ y [] → (e : Index) × (y.index ≡ i ++ e)
      go y (inl e) = ([], ap (λ (x : Slot). x.index) e ∙ sym (append-nil i))
      go y (inr m) = elim m [ ]
  block_fine i (v ∷ w ∷ vs) =
      record {
        rises = numbered_rise i 0 (v ∷ w ∷ vs);
        extends = λ y m. let (k, h, e) = numbered_at i 0 (v ∷ w ∷ vs) m in (k ∷ [], e);
        spells = numbered_spell i 0 (v ∷ w ∷ vs);
      }

  pub changes_fine : (is : List Index) (cs : List (List Variable)) → AllFine (changes is cs)
  changes_fine [] cs c m = elim m [ ]
  changes_fine (i ∷ is) [] c m = elim m [ ]
  changes_fine (i ∷ is) (vs ∷ cs) c m = go (Memᴰ.cases_cons m) (λ n. changes_fine is cs c n)
    where
      first : Change
      first = record { slot = record { index = i; string = each (string_of ys) vs }; block = map slot_of_var (indexed i vs) }

      go : (c ≡ first) ⊎ Memᴰ c (changes is cs) → (Memᴰ c (changes is cs) → Fine c) → Fine c
      go (inl e) ih = subst Fine (sym e) (block_fine i vs)
      go (inr n) ih = ih n

abbrev pub vars : List (Variable × Index) → List Variable
vars ss = map (λ s. s.0) ss

-- the index that a variable has is found
pub slot_found : (ss : List (Variable × Index)) → Once (vars ss) → (s : Variable × Index) → Memᴰ s ss → index_of ss s.0.daughter s.0.component ≡ s.1
slot_found [] o s m = elim m [ ]
slot_found (t ∷ ss) o s m = go (Memᴰ.cases_cons m) (λ n. slot_found ss o.1 s n)
  where
    found : (b c : Bool) → T b → T c → (if b && c then t.1 else index_of ss t.0.daughter t.0.component) ≡ t.1
    found true true u v = refl
    found true false u v = absurd v
    found false c u v = absurd u

    passed : (b c : Bool) → eqb t.0.daughter s.0.daughter ≡ b → eqb t.0.component s.0.component ≡ c → Memᴰ s ss
        → index_of ss s.0.daughter s.0.component ≡ s.1
        → (if b && c then t.1 else index_of ss s.0.daughter s.0.component) ≡ s.1
    passed true true e f n ih =
        absurd (o.0 s.0 (map_in (λ x. x.0) n) (eqb→eq t.0.daughter s.0.daughter (rw e tt), eqb→eq t.0.component s.0.component (rw f tt)))
    passed true false e f n ih = ih
    passed false c e f n ih = ih

    go : (s ≡ t) ⊎ Memᴰ s ss → (Memᴰ s ss → index_of ss s.0.daughter s.0.component ≡ s.1) → index_of (t ∷ ss) s.0.daughter s.0.component ≡ s.1
    go (inl e) ih = rw e (found (eqb t.0.daughter t.0.daughter) (eqb t.0.component t.0.component) (eqb_refl t.0.daughter) (eqb_refl t.0.component))
    go (inr n) ih = passed (eqb t.0.daughter s.0.daughter) (eqb t.0.component s.0.component) refl refl n (ih n)
