-- Merge and move of expressions are the schemes' instances: the same category, and the strings that the components name.
-- Assumes nothing.
use Rattle.std.specs.Prelude.{if◌then◌else◌}
use mathlib.Core.Path.{◌≡◌, refl, ap, ap₂, sym, subst, ◌∙◌}
use mathlib.Core.Bool.{Bool, true, false, ◌&&◌}
use mathlib.Core.Option.{Option, none, some}
use mathlib.Core.List.{List, [], ◌∷◌, ◌++◌, map, append-nil}
use Prim.Native.Nat.{ℕ, zero, suc, ◌+◌}
use native.Mathlib.Omega.{arith}
use lib.Dec.{eqb}
use lib.ListN.{length, get_or, drop, length-map}
use Rattle.model.specs.Base.{each}
use Rattle.model.specs.Grammar.{Variable, variable}
use Rattle.model.specs.Tree.{string_of}
use Rattle.model.proofs.Lists.{map_append, each_append}
use Rattle.minimalist.specs.Lexicon.{selects, is_licensor}
use Rattle.minimalist.specs.Derivations.{Chain, Expression, joined, merged_by, merged_if, merged, begins, how_many, after, after_move, landing, landed, moved_by, moved_if, moved}
use Rattle.minimalist.specs.Schemes.{Instance, features_of, form_of, singles, joined_variables, merge_by, merge_if, merge_scheme, how_many_begin, left_over, moving_after, landing_variable, staying_variable, landing_at, staying, move_by, move_if, move_scheme}

abbrev pub strings_of : List Chain → List (List ℕ)
strings_of cs = map (λ c. c.string) cs

-- the strings of an expression
abbrev pub strings : Expression → List (List ℕ)
strings e = e.head.string ∷ strings_of e.moving

-- what the components name, with these strings of the daughters
abbrev pub valued : List (List (List ℕ)) → List (List Variable) → List (List ℕ)
valued ys components = map (λ c. each (string_of ys) c) components

-- the expression is of the instance's category and has the strings that its components name
abbrev pub Agree : List (List (List ℕ)) → Option Expression → Option Instance → Type 0
Agree ys none none = Unit {0}
Agree ys none (some s) = ⊥
Agree ys (some e) none = ⊥
Agree ys (some e) (some s) = (s.result ≡ form_of e) × (valued ys s.components ≡ strings e)

-- components of one variable each
drop_head : (Y : List (List ℕ)) (c : ℕ) (x : List ℕ) (l : List (List ℕ)) → drop c Y ≡ x ∷ l → (get_or Y c [] ≡ x) × (drop (suc c) Y ≡ l)
drop_head [] zero x l e = let z : ◌≡◌ {A = ℕ} 0 1 = cc in absurd (omega arith)
drop_head [] (suc c) x l e = let z : ◌≡◌ {A = ℕ} 0 1 = cc in absurd (omega arith)
drop_head (y ∷ Y) zero x l e = (cc, cc)
drop_head (y ∷ Y) (suc c) x l e = drop_head Y c x l e

module _ (ys : List (List (List ℕ))) where
  singles_valued : (j c : ℕ) (l : List (List ℕ)) → drop c (get_or ys j []) ≡ l → valued ys (singles j c (length l)) ≡ l
  singles_valued j c [] e = refl
  singles_valued j c (x ∷ l) e =
      let d = drop_head (get_or ys j []) c x l e in
      ap₂ (λ (u : List ℕ) (v : List (List ℕ)). u ∷ v) (append-nil (get_or (get_or ys j []) c []) ∙ d.0) (singles_valued j (suc c) l d.1)

  -- with as many as there are chains
  chains_valued : (j c : ℕ) (cs : List Chain) → drop c (get_or ys j []) ≡ strings_of cs → valued ys (singles j c (length (features_of cs))) ≡ strings_of cs
  chains_valued j c cs e =
      ap (λ (n : ℕ). valued ys (singles j c n)) (length-map cs (λ c. c.features) ∙ sym (length-map cs (λ c. c.string))) ∙ singles_valued j c (strings_of cs) e

  -- the chain that lands or stays
  landing_valued : (m k : ℕ) (cs : List Chain) → drop k (get_or ys 0 []) ≡ strings_of cs → each (string_of ys) (landing_at m k (features_of cs)) ≡ landed m cs
  landing_valued m k [] e = refl
  landing_valued m k (c ∷ cs) e = go (begins m c.features) (landing_valued m (suc k) cs (drop_head (get_or ys 0 []) k c.string (strings_of cs) e).1)
    where
      there : get_or (get_or ys 0 []) k [] ≡ c.string
      there = (drop_head (get_or ys 0 []) k c.string (strings_of cs) e).0

      lands : (fs : List ℕ) → each (string_of ys) (landing_variable k fs) ≡ landing c fs
      lands [] = refl
      lands (x ∷ []) = append-nil (get_or (get_or ys 0 []) k []) ∙ there
      lands (x ∷ f ∷ β) = refl

      go : (b : Bool) → each (string_of ys) (landing_at m (suc k) (features_of cs)) ≡ landed m cs
          → each (string_of ys) (if b then landing_variable k c.features else landing_at m (suc k) (features_of cs)) ≡ (if b then landing c c.features else landed m cs)
      go true ih = lands c.features
      go false ih = ih

  staying_valued : (m k : ℕ) (cs : List Chain) → drop k (get_or ys 0 []) ≡ strings_of cs → valued ys (staying m k (features_of cs)) ≡ strings_of (after_move m cs)
  staying_valued m k [] e = refl
  staying_valued m k (c ∷ cs) e = go (begins m c.features) (staying_valued m (suc k) cs rest.1)
    where
      rest : (get_or (get_or ys 0 []) k [] ≡ c.string) × (drop (suc k) (get_or ys 0 []) ≡ strings_of cs)
      rest = drop_head (get_or ys 0 []) k c.string (strings_of cs) e

      one : get_or (get_or ys 0 []) k [] ++ [] ≡ c.string
      one = append-nil (get_or (get_or ys 0 []) k []) ∙ rest.0

      stays : (fs : List ℕ) → valued ys (staying_variable k fs ++ singles 0 (suc k) (length (features_of cs))) ≡ strings_of (after c fs ++ cs)
      stays [] = chains_valued 0 (suc k) cs rest.1
      stays (x ∷ []) = chains_valued 0 (suc k) cs rest.1
      stays (x ∷ f ∷ β) = ap₂ (λ (u : List ℕ) (v : List (List ℕ)). u ∷ v) one (chains_valued 0 (suc k) cs rest.1)

      go : (b : Bool) → valued ys (staying m (suc k) (features_of cs)) ≡ strings_of (after_move m cs)
          → valued ys (if b then staying_variable k c.features ++ singles 0 (suc k) (length (features_of cs)) else (variable 0 k ∷ []) ∷ staying m (suc k) (features_of cs))
          ≡ strings_of (if b then after c c.features ++ cs else c ∷ after_move m cs)
      go true ih = stays c.features
      go false ih = ap₂ (λ (u : List ℕ) (v : List (List ℕ)). u ∷ v) one ih

-- merge
module _ (a b : Expression) where
  abbrev pair : List (List (List ℕ))
  pair = strings a ∷ strings b ∷ []

  joined_valued : (x : Bool) → each (string_of pair) (joined_variables x) ≡ joined x a.head.string b.head.string
  joined_valued true = ap (λ (l : List ℕ). a.head.string ++ l) (append-nil b.head.string)
  joined_valued false = ap (λ (l : List ℕ). b.head.string ++ l) (append-nil a.head.string)

  both_valued : (c : ℕ) (cs : List Chain) → drop c (strings b) ≡ strings_of cs
      → valued pair (singles 0 1 (length (features_of a.moving)) ++ singles 1 c (length (features_of cs))) ≡ strings_of (a.moving ++ cs)
  both_valued c cs e =
      map_append (λ c. each (string_of pair) c) (singles 0 1 (length (features_of a.moving))) (singles 1 c (length (features_of cs)))
      ∙ ap₂ (λ (u v : List (List ℕ)). u ++ v) (chains_valued pair 0 1 a.moving refl) (chains_valued pair 1 c cs e)
      ∙ sym (map_append (λ c. c.string) a.moving cs)

  by_rest : (α β : List ℕ) → Agree pair (some (merged_by a b α β)) (some (merge_by (form_of a) (form_of b) α β))
  by_rest α [] = (
    ap (λ (m : List (List ℕ)). record { lexical = false; head = α; moving = m }) (sym (map_append (λ c. c.features) a.moving b.moving)),
    ap₂ (λ (u : List ℕ) (v : List (List ℕ)). u ∷ v) (joined_valued a.lexical) (both_valued 1 b.moving refl),
  )
  by_rest α (f ∷ β) =
      let chain : Chain = record { features = f ∷ β; string = b.head.string } in (
        ap (λ (m : List (List ℕ)). record { lexical = false; head = α; moving = m }) (sym (map_append (λ c. c.features) a.moving (chain ∷ b.moving))),
        ap₂ (λ (u : List ℕ) (v : List (List ℕ)). u ∷ v) (append-nil a.head.string) (both_valued 0 (chain ∷ b.moving) refl),
      )

  by_test : (t : Bool) (α β : List ℕ) → Agree pair (if t then some (merged_by a b α β) else none) (if t then some (merge_by (form_of a) (form_of b) α β) else none)
  by_test true α β = by_rest α β
  by_test false α β = tt

  by_features : (fs gs : List ℕ) → Agree pair (merged_if a b fs gs) (merge_if (form_of a) (form_of b) fs gs)
  by_features [] gs = tt
  by_features (s ∷ α) [] = tt
  by_features (s ∷ α) (f ∷ β) = by_test (selects s f) α β

  pub merge_agrees : Agree pair (merged a b) (merge_scheme (form_of a) (form_of b))
  merge_agrees = by_features a.head.features b.head.features

-- move
many_same : (m : ℕ) (cs : List Chain) → how_many_begin m (features_of cs) ≡ how_many m cs
many_same m [] = refl
many_same m (c ∷ cs) = ap (λ (n : ℕ). (if begins m c.features then 1 else 0) + n) (many_same m cs)

moving_same : (m : ℕ) (cs : List Chain) → moving_after m (features_of cs) ≡ features_of (after_move m cs)
moving_same m [] = refl
moving_same m (c ∷ cs) = go (begins m c.features) (moving_same m cs)
  where
    left : (fs : List ℕ) → left_over fs ++ features_of cs ≡ features_of (after c fs ++ cs)
    left [] = refl
    left (x ∷ []) = refl
    left (x ∷ f ∷ β) = refl

    go : (b : Bool) → moving_after m (features_of cs) ≡ features_of (after_move m cs)
        → (if b then left_over c.features ++ features_of cs else c.features ∷ moving_after m (features_of cs)) ≡ features_of (if b then after c c.features ++ cs else c ∷ after_move m cs)
    go true ih = left c.features
    go false ih = ap (λ (l : List (List ℕ)). c.features ∷ l) ih

module _ (a : Expression) where
  abbrev single : List (List (List ℕ))
  single = strings a ∷ []

  moved_by_lem : (m : ℕ) (α : List ℕ) → Agree single (some (moved_by a m α)) (some (move_by (form_of a) m α))
  moved_by_lem m α = (
    ap (λ (l : List (List ℕ)). record { lexical = false; head = α; moving = l }) (moving_same m a.moving),
    ap₂ (λ (u : List ℕ) (v : List (List ℕ)). u ∷ v)
        (each_append (string_of single) (landing_at m 1 (features_of a.moving)) (variable 0 0 ∷ [])
        ∙ ap₂ (λ (u v : List ℕ). u ++ v) (landing_valued single m 1 a.moving refl) (append-nil a.head.string))
        (staying_valued single m 1 a.moving refl),
  )

  moved_test : (t : Bool) (m : ℕ) (α : List ℕ) → Agree single (if t then some (moved_by a m α) else none) (if t then some (move_by (form_of a) m α) else none)
  moved_test true m α = moved_by_lem m α
  moved_test false m α = tt

  moved_features : (fs : List ℕ) → Agree single (moved_if a fs) (move_if (form_of a) fs)
  moved_features [] = tt
  moved_features (p ∷ α) =
      subst (λ (n : ℕ). Agree single (moved_if a (p ∷ α)) (if is_licensor p && eqb n 1 then some (move_by (form_of a) (p + 16) α) else none)) (sym (many_same (p + 16) a.moving))
      (moved_test (is_licensor p && eqb (how_many (p + 16) a.moving) 1) (p + 16) α)

  pub move_agrees : Agree single (moved a) (move_scheme (form_of a))
  move_agrees = moved_features a.head.features
