-- The components of an instance of a scheme, by the scheme's number and how many chains move.
-- Assumes nothing.
use Rattle.forms.specs.declared.moves.Moved.{Moved}
use Rattle.forms.specs.declared.moves.MoveScheme.TheVariants.{Fourth, Fifth}
use Rattle.std.specs.Prelude.{if◌then◌else◌}
use mathlib.Core.Path.{◌≡◌, refl, sym, ap, ap₂, subst, ◌∙◌}
use mathlib.Core.Bool.{Bool, true, false, ◌&&◌}
use mathlib.Core.Option.{none, some}
use mathlib.Core.List.{List, [], ◌∷◌, ◌++◌, map}
use Prim.Native.Nat.{ℕ, suc, ◌+◌, ◌-◌, ◌/◌, ◌%◌, ◌<◌, ◌≤◌}
use native.Mathlib.Omega.{arith}
use lib.Dec.{eqb}
use lib.ListN.{length, get_or, drop, length-map}
use borrow.Author.Tests.{eqb-true}
use Rattle.model.specs.Grammar.{Variable, variable}
use Rattle.model.proofs.Tests.{none_some, not_both, some_one}
use Rattle.minimalist.specs.Lexicon.{selects, is_licensor}
use Rattle.minimalist.specs.Derivations.{begins}
use Rattle.minimalist.specs.Schemes.{Form, Instance, singles, merge_by, merge_if, merge_scheme, how_many_begin, left_over, landing_variable, staying_variable, landing_at, staying, move_by, move_if, move_scheme}
use Rattle.forms.specs.Rows.{merge_number, place_in, move_code}
use Rattle.forms.proofs.MoveRows.{begins_first, how_many, placed}
use Rattle.made_records.specs.Records.{merge_components, move_components}

pub merge_components_lem : (a b : Form) (s : Instance) → merge_scheme a b ≡ some s
    → s.components ≡ merge_components (merge_number a.lexical (drop 1 b.head)) (length a.moving) (length b.moving)
merge_components_lem a b s e = heads a.head b.head e
  where
    made : (x : Bool) → a.lexical ≡ x → (α β : List ℕ) → (merge_by a b α β).components ≡ merge_components (merge_number x β) (length a.moving) (length b.moving)
    made true w α [] = rw w
    made false w α [] = rw w
    made true w α (f ∷ β) = refl
    made false w α (f ∷ β) = refl

    tested : (t : Bool) (α β : List ℕ) → (if t then some (merge_by a b α β) else none) ≡ some s
        → s.components ≡ merge_components (merge_number a.lexical β) (length a.moving) (length b.moving)
    tested true α β q = ap (λ (i : Instance). i.components) (sym (some_one q)) ∙ made a.lexical refl α β
    tested false α β q = none_some (sym q)

    heads : (f g : List ℕ) → merge_if a b f g ≡ some s → s.components ≡ merge_components (merge_number a.lexical (drop 1 g)) (length a.moving) (length b.moving)
    heads [] g q = none_some (sym q)
    heads (x ∷ α) [] q = none_some (sym q)
    heads (x ∷ α) (y ∷ β) q = tested (selects x y) α β q

-- the chain that moves: where it lands, and where it stays
module _ (m : ℕ) (set : m ≡ 0 → ⊥) where
  abbrev at : List (List ℕ) → ℕ
  at cs = place_in m (map (λ c. get_or c 0 0) cs)

  abbrev Lands : ℕ → List (List ℕ) → ℕ → Type 0
  Lands k cs t = (landing_at m k cs ≡ variable 0 (k + t) ∷ []) × (staying m k cs ≡ singles 0 k t ++ singles 0 (suc (k + t)) (length cs - suc t))

  lands : (k : ℕ) (cs : List (List ℕ)) → at cs < length cs → left_over (get_or cs (at cs) []) ≡ [] → Lands k cs (at cs)
  lands k [] h e = let z : ⊥ = omega arith in absurd z
  lands k (c ∷ cs) h e = go (eqb m (get_or c 0 0)) (begins_first m set c) h e (λ h e. lands (suc k) cs h e)
    where
      first : (d : List ℕ) → begins m d ≡ true → left_over d ≡ [] → (landing_variable k d ≡ variable 0 k ∷ []) × (staying_variable k d ≡ [])
      first [] w e = not_both (sym w)
      first (x ∷ []) w e = (refl, refl)
      first (x ∷ f ∷ β) w e = let z : ◌≡◌ {A = ℕ} 1 0 = ap length e in absurd (omega arith)

      go : (t : Bool) → begins m c ≡ t → (if t then 0 else suc (at cs)) < suc (length cs) → left_over (get_or (c ∷ cs) (if t then 0 else suc (at cs)) []) ≡ []
          → (at cs < length cs → left_over (get_or cs (at cs) []) ≡ [] → Lands (suc k) cs (at cs)) → Lands k (c ∷ cs) (if t then 0 else suc (at cs))
      go true w h e ih =
          let p = first c w e in
          let z : k ≡ k + 0 = omega arith in
          let y : length cs ≡ suc (length cs) - 1 = omega arith in (
            rw w (p.0 ∙ ap (λ (x : ℕ). variable 0 x ∷ []) z),
            rw w (ap (λ (l : List (List Variable)). l ++ singles 0 (suc k) (length cs)) p.1 ∙ ap₂ (λ (x n : ℕ). singles 0 (suc x) n) z y),
          )
      go false w h e ih =
          let p = ih (omega arith) e in
          let z : suc k + at cs ≡ k + suc (at cs) = omega arith in
          let y : length cs - suc (at cs) ≡ suc (length cs) - suc (suc (at cs)) = omega arith in (
            rw w (p.0 ∙ ap (λ (x : ℕ). variable 0 x ∷ []) z),
            rw w (ap (λ (l : List (List Variable)). (variable 0 k ∷ []) ∷ l) (p.1 ∙ ap₂ (λ (x n : ℕ). singles 0 (suc k) (at cs) ++ singles 0 (suc x) n) z y)),
          )

  abbrev Stays : ℕ → List (List ℕ) → Type 0
  Stays k cs = (landing_at m k cs ≡ []) × (staying m k cs ≡ singles 0 k (length cs))

  stays : (k : ℕ) (cs : List (List ℕ)) (d : List ℕ) → at cs < length cs → left_over (get_or cs (at cs) []) ≡ d ∷ [] → Stays k cs
  stays k [] d h e = let z : ⊥ = omega arith in absurd z
  stays k (c ∷ cs) d h e = go (eqb m (get_or c 0 0)) (begins_first m set c) h e (λ h e. stays (suc k) cs d h e)
    where
      first : (b : List ℕ) → left_over b ≡ d ∷ [] → (landing_variable k b ≡ []) × (staying_variable k b ≡ (variable 0 k ∷ []) ∷ [])
      first [] e = let z : ◌≡◌ {A = ℕ} 0 1 = ap length e in absurd (omega arith)
      first (x ∷ []) e = let z : ◌≡◌ {A = ℕ} 0 1 = ap length e in absurd (omega arith)
      first (x ∷ f ∷ β) e = (refl, refl)

      go : (t : Bool) → begins m c ≡ t → (if t then 0 else suc (at cs)) < suc (length cs) → left_over (get_or (c ∷ cs) (if t then 0 else suc (at cs)) []) ≡ d ∷ []
          → (at cs < length cs → left_over (get_or cs (at cs) []) ≡ d ∷ [] → Stays (suc k) cs) → Stays k (c ∷ cs)
      go true w h e ih = let p = first c e in (rw w p.0, rw w (ap (λ (l : List (List Variable)). l ++ singles 0 (suc k) (length cs)) p.1))
      go false w h e ih = let p = ih (omega arith) e in (rw w p.0, rw w (ap (λ (l : List (List Variable)). (variable 0 k ∷ []) ∷ l) p.1))

-- a move that there is: at most so many chains, the number of one of them, and the components
pub record Moves (a : Form) (moved : Moved) (components : List (List Variable)) : Type 0 where
  pub low : 1 ≤ moved.chain
  pub high : moved.chain ≤ length a.moving
  pub are : components ≡ move_components moved.scheme (length a.moving) moved.chain

-- a move's components, by what its code tells
module _ (a : Form) (row : List ℕ) where
  abbrev chain : ℕ → ℕ
  chain p = place_in (p + 16) (map (λ c. get_or c 0 0) a.moving)

  abbrev code : ℕ → Moved
  code p = move_code (chain p) (get_or a.moving (chain p) []) row

  module _ (p : ℕ) (α : List ℕ) (one : how_many_begin (p + 16) a.moving ≡ 1) where
    set : p + 16 ≡ 0 → ⊥
    set z = omega arith

    inside : chain p < length a.moving
    inside =
        omega (arith, placed (p + 16) set (map (λ c. get_or c 0 0) a.moving) (sym (how_many (p + 16) set a.moving) ∙ one), length-map a.moving (λ c. get_or c 0 0))

    -- by what is left of the chain
    ends : (d : List ℕ) → d ≡ get_or a.moving (chain p) [] → left_over d ≡ [] → Moves a (record { scheme = Fourth; chain = chain p + 1; row = row }) (move_by a (p + 16) α).components
    ends d w e =
        let l = lands (p + 16) set 1 a.moving inside (ap left_over (sym w) ∙ e) in
        let y : 1 + chain p ≡ chain p + 1 = omega arith in
        let z : chain p ≡ chain p + 1 - 1 = omega arith in
        let n : length a.moving - suc (chain p) ≡ length a.moving - (chain p + 1) = omega arith in
        record {
          low = omega arith;
          high = omega (arith, inside);
          are =
              ap₂ (λ (x : List Variable) (y : List (List Variable)). (x ++ (variable 0 0 ∷ [])) ∷ y) l.0 l.1
              ∙ ap (λ (x : ℕ). (variable 0 x ∷ variable 0 0 ∷ []) ∷ (singles 0 1 (chain p) ++ singles 0 (suc x) (length a.moving - suc (chain p)))) y
              ∙ ap₂ (λ (x n : ℕ). (variable 0 (chain p + 1) ∷ variable 0 0 ∷ []) ∷ (singles 0 1 x ++ singles 0 (suc (chain p + 1)) n)) z n;
        }

    goes_on : (d b : List ℕ) → d ≡ get_or a.moving (chain p) [] → left_over d ≡ b ∷ [] → Moves a (record { scheme = Fifth; chain = chain p + 1; row = row }) (move_by a (p + 16) α).components
    goes_on d b w e =
        let l = stays (p + 16) set 1 a.moving b inside (ap left_over (sym w) ∙ e) in
        record {
          low = omega arith;
          high = omega (arith, inside);
          are = ap₂ (λ (x : List Variable) (y : List (List Variable)). (x ++ (variable 0 0 ∷ [])) ∷ y) l.0 l.1;
        }

    by_chain : (d : List ℕ) → d ≡ get_or a.moving (chain p) [] → Moves a (move_code (chain p) d row) (move_by a (p + 16) α).components
    by_chain [] w = ends [] w refl
    by_chain (x ∷ []) w = ends (x ∷ []) w refl
    by_chain (x ∷ f ∷ β) w = goes_on (x ∷ f ∷ β) (f ∷ β) w refl

  pub move_components_lem : (s : Instance) → move_scheme a ≡ some s → Moves a (code (get_or a.head 0 0)) s.components
  move_components_lem s e = heads a.head e
    where
      tested : (t u : Bool) (p : ℕ) (α : List ℕ) → eqb (how_many_begin (p + 16) a.moving) 1 ≡ u → (if t && u then some (move_by a (p + 16) α) else none) ≡ some s
          → Moves a (code p) s.components
      tested true true p α one q =
          subst (λ (i : Instance). Moves a (code p) i.components) (some_one q) (by_chain p α (eqb-true (how_many_begin (p + 16) a.moving) 1 one) (get_or a.moving (chain p) []) refl)
      tested true false p α one q = none_some (sym q)
      tested false u p α one q = none_some (sym q)

      heads : (h : List ℕ) → move_if a h ≡ some s → Moves a (code (get_or h 0 0)) s.components
      heads [] q = none_some (sym q)
      heads (p ∷ α) q = tested (is_licensor p) (eqb (how_many_begin (p + 16) a.moving) 1) p α refl q
