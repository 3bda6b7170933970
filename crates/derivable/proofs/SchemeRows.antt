-- A table with one form more: that of a row, of a merge, of a move, of an entry.
-- Assumes nothing.
use Rattle.std.specs.Prelude.{if◌then◌else◌}
use Rattle.std.specs.Prelude as std
use mathlib.Core.Path.{◌≡◌, refl, sym, ap, subst, ◌∙◌}
use mathlib.Core.Bool.{Bool, true, false, ◌&&◌}
use mathlib.Core.Option.{Option, none, some}
use mathlib.Core.List.{List, [], ◌∷◌, ◌++◌, map}
use Prim.Native.Nat.{ℕ, ◌+◌, ◌<◌, ◌≤◌}
use native.Mathlib.Omega.{arith}
use lib.Dec.{eqb}
use lib.ListN.{length, get_or, drop, length-map}
use borrow.Author.Tests.{eqb-true}
use Rattle.model.proofs.Tests.{none_some, some_one}
use Rattle.minimalist.specs.Lexicon.{selects, is_licensor, entry_of}
use Rattle.minimalist.specs.Schemes.{Form, Instance, merge_by, merge_if, merge_scheme, how_many_begin, moving_after, move_by, move_if, move_scheme, lexical_form}
use Rattle.minimalist.specs.Closure.{add_forms, result_of}
use Rattle.minimalist.proofs.Right.{few_moving}
use Rattle.forms.specs.Rows.{row_of, Small, MergeIs, SaysMerge, mover_of, move_code, MoveIs, SaysMove}
use Rattle.forms.specs.declared.merges.MergeScheme.{MergeScheme}
use Rattle.forms.specs.declared.merges.Merged.{Merged}
use Rattle.forms.specs.declared.moves.Moved.{Moved}
use Rattle.derivable.specs.declared.tables.FormTable.{FormTable}
use Rattle.forms.proofs.MoveRows.{how_many, placed}
use Rattle.derivable.specs.Tables.{row_at, form_at, Holds, Added}
use Rattle.derivable.specs.Rounds.{Grows, AddedKept, with_merge, with_move, with_entry}
use Rattle.derivable.proofs.RoundLaws.{entry_small, joined_small, moved_small}

-- the category of a merge can be held
pub merge_small : (a b : Form) → Small a → Small b → length a.moving + length b.moving ≤ 6 → (s : Instance) → merge_scheme a b ≡ some s → Small s.result
merge_small a b p q few s e = heads a.head b.head refl refl e
  where
    made : (f g α β : List ℕ) (x y : ℕ) → a.head ≡ x ∷ α → b.head ≡ y ∷ β → Small (merge_by a b α β).result
    made f g α [] x y ea eb = subst (λ (h : List ℕ). Small (record { lexical = false; head = drop 1 h; moving = a.moving ++ b.moving })) ea (joined_small a b p q few 1)
    made f g α (z ∷ β) x y ea eb =
        subst (λ (h : List ℕ). Small (record { lexical = false; head = drop 1 h; moving = a.moving ++ ((z ∷ β) ∷ b.moving) })) ea
        (subst (λ (k : List ℕ). Small (record { lexical = false; head = drop 1 a.head; moving = a.moving ++ (drop 1 k ∷ b.moving) })) eb (joined_small a b p q few 0))

    tested : (t : Bool) (α β : List ℕ) → Small (merge_by a b α β).result → (if t then some (merge_by a b α β) else none) ≡ some s → Small s.result
    tested true α β m w = subst (λ (i : Instance). Small i.result) (some_one w) m
    tested false α β m w = none_some (sym w)

    heads : (f g : List ℕ) → a.head ≡ f → b.head ≡ g → merge_if a b f g ≡ some s → Small s.result
    heads [] g ea eb w = none_some (sym w)
    heads (x ∷ α) [] ea eb w = none_some (sym w)
    heads (x ∷ α) (y ∷ β) ea eb w = tested (selects x y) α β (made (x ∷ α) (y ∷ β) α β x y ea eb) w

-- the category of a move can be held
pub move_small : (a : Form) → Small a → (s : Instance) → move_scheme a ≡ some s → Small s.result
move_small a p s e = heads a.head refl e
  where
    made : (x : ℕ) (α : List ℕ) → a.head ≡ x ∷ α → how_many_begin (x + 16) a.moving ≡ 1 → Small (move_by a (x + 16) α).result
    made x α ea one =
        let set : x + 16 ≡ 0 → ⊥ = λ z. omega arith in
        let there = placed (x + 16) set (map (λ c. get_or c 0 0) a.moving) (sym (how_many (x + 16) set a.moving) ∙ one) in
        subst (λ (h : List ℕ). Small (record { lexical = false; head = drop 1 h; moving = moving_after (x + 16) a.moving })) ea
        (moved_small a p (x + 16) set (omega (arith, there, length-map a.moving (λ c. get_or c 0 0))))

    tested : (t u : Bool) (x : ℕ) (α : List ℕ) → a.head ≡ x ∷ α → eqb (how_many_begin (x + 16) a.moving) 1 ≡ u → (if t && u then some (move_by a (x + 16) α) else none) ≡ some s → Small s.result
    tested true true x α ea one w = subst (λ (i : Instance). Small i.result) (some_one w) (made x α ea (eqb-true (how_many_begin (x + 16) a.moving) 1 one))
    tested true false x α ea one w = none_some (sym w)
    tested false u x α ea one w = none_some (sym w)

    heads : (f : List ℕ) → a.head ≡ f → move_if a f ≡ some s → Small s.result
    heads [] ea w = none_some (sym w)
    heads (x ∷ α) ea w = tested (is_licensor x) (eqb (how_many_begin (x + 16) a.moving) 1) x α ea refl w

-- none is not one that there is, and one is only itself
pub none_is_some : {A C : Type 0} {x : A} → std.None ≡ std.Some x → C
none_is_some {A} {C} {x} e = let z : ⊥ = cc in absurd z

pub some_same : {A : Type 0} {x y : A} → std.Some x ≡ std.Some y → x ≡ y
some_same {A} {x} {y} e = cc

pub merged_row : {merged : Merged} {scheme : MergeScheme} {row : List ℕ} → std.Some merged ≡ std.Some (record { scheme = scheme; row = row }) → merged.row ≡ row
merged_row e = ap (λ (m : Merged). m.row) (some_same e)

pub merged_scheme : {merged : Merged} {scheme : MergeScheme} {row : List ℕ} → std.Some merged ≡ std.Some (record { scheme = scheme; row = row }) → merged.scheme ≡ scheme
merged_scheme e = ap (λ (m : Merged). m.scheme) (some_same e)

pub moved_row : {moved : Moved} (t : ℕ) (c row : List ℕ) → std.Some moved ≡ std.Some (move_code t c row) → moved.row ≡ row
moved_row t c row e = ap (λ (m : Moved). m.row) (some_same e) ∙ of_code c
  where
    of_code : (c : List ℕ) → (move_code t c row).row ≡ row
    of_code [] = refl
    of_code (m ∷ []) = refl
    of_code (m ∷ f ∷ β) = refl

-- a merge of rows i and j, which the table holds
module _ {before : FormTable} {x y : List ℕ} {i j : ℕ} {made : std.Option Merged} (hi : i < before.count) (hj : j < before.count) (ex : x ≡ row_at before.rows i) (ey : y ≡ row_at before.rows j) (says : SaysMerge x y made) where
  module _ (forms : List Form) (t : Holds before.rows before.count forms) where
    pub both_few : length (form_at forms i).moving + length (form_at forms j).moving ≤ 6
    both_few = omega (arith, few_moving (form_at forms i).moving (t.0.kept i (omega (arith, t.1))), few_moving (form_at forms j).moving (t.0.kept j (omega (arith, t.1))))

    pub merge_is : MergeIs (form_at forms i) (form_at forms j) (merge_scheme (form_at forms i) (form_at forms j)) made
    merge_is =
        says (form_at forms i) (form_at forms j) (t.0.small i (omega (arith, t.1))) (t.0.small j (omega (arith, t.1))) both_few
        (ex ∙ t.0.rows i (omega (arith, t.1))) (ey ∙ t.0.rows j (omega (arith, t.1)))

  pub merge_none : made ≡ std.None → before.count ≤ 64 → Grows (with_merge i j) before before
  merge_none e few = record { least = omega arith; most = few; holds = λ forms t. go forms t (merge_scheme (form_at forms i) (form_at forms j)) (merge_is forms t) }
    where
      go : (forms : List Form) → Holds before.rows before.count forms → (o : Option Instance) → MergeIs (form_at forms i) (form_at forms j) o made → Holds before.rows before.count (add_forms forms (result_of o))
      go forms t none m = t
      go forms t (some s) m = none_is_some (sym e ∙ m)

  pub merge_some : {after : FormTable} (merged : Merged) → made ≡ std.Some merged → AddedKept before merged.row after → Grows (with_merge i j) before after
  merge_some {after} merged d p =
      record { least = p.least; most = p.most; holds = λ forms t. go forms t (merge_scheme (form_at forms i) (form_at forms j)) refl (merge_is forms t) }
    where
      go : (forms : List Form) → Holds before.rows before.count forms → (o : Option Instance) → merge_scheme (form_at forms i) (form_at forms j) ≡ o
          → MergeIs (form_at forms i) (form_at forms j) o made → Holds after.rows after.count (add_forms forms (result_of o))
      go forms t none w m = none_is_some (sym m ∙ d)
      go forms t (some s) w m =
          p.holds s.result
          (merge_small (form_at forms i) (form_at forms j) (t.0.small i (omega (arith, t.1))) (t.0.small j (omega (arith, t.1))) (both_few forms t) s w)
          (merged_row (sym d ∙ m)) forms t

-- a move of row i
module _ {before : FormTable} {x : List ℕ} {i : ℕ} {made : std.Option Moved} (hi : i < before.count) (ex : x ≡ row_at before.rows i) (says : SaysMove x made) where
  pub move_is : (forms : List Form) → Holds before.rows before.count forms → MoveIs (form_at forms i) (move_scheme (form_at forms i)) made
  move_is forms t = says (form_at forms i) (t.0.small i (omega (arith, t.1))) (ex ∙ t.0.rows i (omega (arith, t.1)))

  pub move_some : {after : FormTable} (moved : Moved) → made ≡ std.Some moved → AddedKept before moved.row after → Grows (with_move i) before after
  move_some {after} moved d p =
      record { least = p.least; most = p.most; holds = λ forms t. go forms t (move_scheme (form_at forms i)) refl (move_is forms t) }
    where
      go : (forms : List Form) → Holds before.rows before.count forms → (o : Option Instance) → move_scheme (form_at forms i) ≡ o → MoveIs (form_at forms i) o made
          → Holds after.rows after.count (add_forms forms (result_of o))
      go forms t none w m = none_is_some (sym m ∙ d)
      go forms t (some s) w m = p.holds s.result (move_small (form_at forms i) (t.0.small i (omega (arith, t.1))) s w) (moved_row (mover_of (form_at forms i)) (get_or (form_at forms i).moving (mover_of (form_at forms i)) []) (row_of s.result) (sym d ∙ m)) forms t

-- the form of an entry
pub entry_added : (e : List ℕ) {row : List ℕ} {before after : FormTable} → row ≡ row_of (lexical_form (entry_of e)) → Added before row after → Grows (with_entry e) before after
entry_added e w p = record { least = p.least; most = p.most; holds = λ forms t. p.holds forms (lexical_form (entry_of e)) t (entry_small e) refl w }
