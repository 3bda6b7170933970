-- One rule: the new start's, an entry's, a merge's, a move's.
-- Assumes nothing.
use Rattle.std.specs.Prelude as std
use mathlib.Core.Path.{◌≡◌, refl, sym, ap, ap₂, subst, ◌∙◌}
use mathlib.Core.Bool.{Bool, true, false}
use mathlib.Core.Option.{Option, none, some}
use mathlib.Core.List.{List, [], ◌∷◌, map}
use Prim.Native.Nat.{ℕ, zero, suc, ◌+◌, ◌/◌, ◌%◌, ◌<◌, ◌≤◌}
use native.Mathlib.Omega.{arith}
use lib.ListN.{length, get_or, drop}
use borrow.Author.Tests.{lt-ltb, le-ltb}
use Rattle.model.specs.Grammar.{Variable, Rule, variable, lexical, nonlexical}
use Rattle.minimalist.specs.Once.{Once}
use Rattle.minimalist.specs.Lexicon.{entry_of, word_in}
use Rattle.minimalist.specs.Schemes.{Form, Instance, merge_scheme, move_scheme, lexical_form}
use Rattle.minimalist.specs.Made.{start_form, merge_rule, move_rule}
use Rattle.minimalist.specs.Closure.{rule_if}
use Rattle.minimalist.specs.Numbering.{place_of, numbered_rule}
use Rattle.minimalist.proofs.Right.{few_moving}
use Rattle.forms.specs.Rows.{row_of, Small, SaysLeftOut, merge_number, SaysMerge, MergeIs, mover_of, move_code, SaysMove, MoveIs}
use Rattle.forms.specs.declared.merges.MergeScheme.{MergeScheme}
use Rattle.forms.specs.declared.merges.Merged.{Merged}
use Rattle.forms.specs.declared.moves.Moved.{Moved}
use Rattle.derivable.specs.declared.tables.FormTable.{FormTable}
use Rattle.made_records.specs.declared.Records.{Records}
use Rattle.forms.proofs.RowLaws.{count_at}
use Rattle.derivable.specs.Tables.{row_at, first_same, form_at, Holds}
use Rattle.derivable.proofs.TableLaws.{among_place}
use Rattle.derivable.proofs.RoundLaws.{entry_small}
use Rattle.derivable.proofs.SchemeRows.{merge_small, move_small, none_is_some, some_same, merged_row, merged_scheme, moved_row, both_few, merge_is, move_is}
use Rattle.model.specs.declared.Category.{Category}
use Rattle.model.specs.declared.Word.{Word}
use Rattle.made_records.specs.declared.MadeRule.TheVariants.{Start, Entry, Merge, Move}
use Rattle.made_records.specs.Records.{as_rule, Fits, merge_components, move_components, AddsRule}
use Rattle.made_rules.specs.Listed.{Lists, with_start, with_entry, with_merge, with_move}
use Rattle.made_rules.proofs.Listing.{lists_none, lists_one}
use Rattle.made_rules.proofs.Places.{number_is, place_once}
use Rattle.made_rules.proofs.Components.{merge_components_lem, Moves, move_components_lem}

same_rule_lem : {c d : ℕ} {x y : List ℕ} {u v : List (List Variable)} → c ≡ d → x ≡ y → u ≡ v → nonlexical c x u ≡ nonlexical d y v
same_rule_lem p q r = λ i. nonlexical (p i) (q i) (r i)

-- the new start's
start_small : (start : ℕ) (x : Bool) → 0 < start → Small (start_form start x)
start_small start x h =
    record {
      head_few = omega arith;
      head_set = one;
      moving_few = omega arith;
      chain_few = λ k. omega arith;
      chain_set = λ k i h z. omega arith;
    }
  where
    one : (i : ℕ) → i < 1 → get_or (start ∷ []) i 0 ≡ 0 → ⊥
    one zero l z = omega arith
    one (suc i) l z = omega arith

module _ {table : List (List ℕ)} {row : List ℕ} {start : ℕ} (x : Bool) (pos : 0 < start) (is_row : row ≡ row_of (start_form start x)) where
  there : (forms : List Form) → Holds table (length table) forms → first_same (row_at table) row 0 (length table) ≡ place_of forms (start_form start x)
  there forms t = omega (arith, number_is {c = first_same (row_at table) row 0 (length table) + 1} forms t (start_form start x) (start_small start x pos) is_row refl)

  pub start_none : (before : Records) → length table ≤ first_same (row_at table) row 0 (length table) → Lists (with_start start x) table before before
  start_none before h =
      lists_none table before
      (λ forms t. rw (among_place forms (start_form start x) ∙ le-ltb (place_of forms (start_form start x)) (length forms) (omega (arith, there forms t, t.1))))

  pub start_some : {before after : Records} {c : Category} (i : ℕ) → i < length table → i ≡ first_same (row_at table) row 0 (length table) → c.0 ≡ i + 1 → AddsRule (Start c) before after
      → Lists (with_start start x) table before after
  start_some {c = c} i h e number p =
      lists_one table (Start c) p
      (λ forms t once.
      let z : c.0 ≡ suc (place_of forms (start_form start x)) = omega (arith, there forms t) in (
        tt,
        rw (among_place forms (start_form start x) ∙ lt-ltb (place_of forms (start_form start x)) (length forms) (omega (arith, there forms t, t.1)))
            (ap (λ (y : ℕ). nonlexical 0 (y ∷ []) ((variable 0 0 ∷ []) ∷ []) ∷ []) z),
      ))

-- an entry's
pub entry_rule : (e : List ℕ) {table : List (List ℕ)} {row : List ℕ} {before after : Records} {c : Category} {w : Word} → row ≡ row_of (lexical_form (entry_of e))
    → c.0 ≡ first_same (row_at table) row 0 (length table) + 1 → w.0 ≡ word_in e → AddsRule (Entry c w) before after → Lists (with_entry e) table before after
entry_rule e {table} {c = c} {w = w} is_row is_number is_IsWord p =
    lists_one table (Entry c w) p
    (λ forms t once. (tt, ap₂ (λ (x y : ℕ). lexical x y ∷ []) (number_is forms t (lexical_form (entry_of e)) (entry_small e) is_row is_number) is_IsWord))

-- rows as a table, all of them of forms
abbrev whole : List (List ℕ) → FormTable
whole table = record { rows = table; count = length table }

-- what the answer of a move says of an instance
code_is : {made : std.Option Moved} {moved : Moved} → made ≡ std.Some moved → (a : Form) (s : Instance) → MoveIs a (some s) made → moved ≡ move_code (mover_of a) (get_or a.moving (mover_of a) []) (row_of s.result)
code_is e a s m = some_same (sym e ∙ m)

code_row : {made : std.Option Moved} {moved : Moved} → made ≡ std.Some moved → (a : Form) (s : Instance) → MoveIs a (some s) made → moved.row ≡ row_of s.result
code_row e a s m = moved_row (mover_of a) (get_or a.moving (mover_of a) []) (row_of s.result) (sym e ∙ m)

-- a merge's
module _ {table : List (List ℕ)} {x y : List ℕ} {i j : ℕ} {made : std.Option Merged} (hi : i < length table) (hj : j < length table) (ex : x ≡ row_at table i) (ey : y ≡ row_at table j)
    (says : SaysMerge x y made) where
  small_result : (forms : List Form) → Holds table (length table) forms → (s : Instance) → merge_scheme (form_at forms i) (form_at forms j) ≡ some s → Small s.result
  small_result forms t s w =
      merge_small (form_at forms i) (form_at forms j) (t.0.small i (omega (arith, t.1))) (t.0.small j (omega (arith, t.1))) (both_few {before = whole table} hi hj ex ey says forms t) s w

  pub no_merge : (before : Records) → made ≡ std.None → Lists (with_merge i j) table before before
  no_merge before e = lists_none table before (λ forms t. go forms (merge_scheme (form_at forms i) (form_at forms j)) (merge_is {before = whole table} hi hj ex ey says forms t))
    where
      go : (forms : List Form) (o : Option Instance) → MergeIs (form_at forms i) (form_at forms j) o made → rule_if (merge_rule (form_at forms i) (form_at forms j)) o ≡ []
      go forms none m = refl
      go forms (some s) m = none_is_some (sym e ∙ m)

  module _ (scheme : MergeScheme) (row : List ℕ) (e : made ≡ std.Some (record { scheme = scheme; row = row })) {out : Bool} (left : SaysLeftOut row out) where
    pub merge_left_out : (before : Records) → out ≡ true → Lists (with_merge i j) table before before
    merge_left_out before o = lists_none table before (λ forms t. go forms t (merge_scheme (form_at forms i) (form_at forms j)) refl (merge_is {before = whole table} hi hj ex ey says forms t))
      where
        go : (forms : List Form) → Holds table (length table) forms → (p : Option Instance) → merge_scheme (form_at forms i) (form_at forms j) ≡ p
            → MergeIs (form_at forms i) (form_at forms j) p made → rule_if (merge_rule (form_at forms i) (form_at forms j)) p ≡ []
        go forms t none w m = refl
        go forms t (some s) w m = rw (sym (left s.result (small_result forms t s w) (merged_row (sym e ∙ m))) ∙ o)

    pub merge_rule_lem : {before after : Records} {u v : ℕ} {c f g : Category} → out ≡ false → c.0 ≡ first_same (row_at table) row 0 (length table) + 1 → f.0 ≡ i + 1 → g.0 ≡ j + 1
        → u ≡ get_or x 7 0 → v ≡ get_or y 7 0 → AddsRule (Merge c f g scheme u v) before after → Lists (with_merge i j) table before after
    merge_rule_lem {u = u} {v} {c} {f} {g} o is_number ef eg eu ev p =
        lists_one table (Merge c f g scheme u v) p
        (λ forms t once. go forms t once (merge_scheme (form_at forms i) (form_at forms j)) refl (merge_is {before = whole table} hi hj ex ey says forms t))
      where
        go : (forms : List Form) → Holds table (length table) forms → Once forms → (q : Option Instance) → merge_scheme (form_at forms i) (form_at forms j) ≡ q
            → MergeIs (form_at forms i) (form_at forms j) q made
            → Fits (Merge c f g scheme u v) × (as_rule (Merge c f g scheme u v) ∷ [] ≡ map (numbered_rule forms) (rule_if (merge_rule (form_at forms i) (form_at forms j)) q))
        go forms t once none w m = none_is_some (sym m ∙ e)
        go forms t once (some s) w m = (
          (omega (arith, chains_a, few_moving a.moving (t.0.kept i in_i)), omega (arith, chains_b, few_moving b.moving (t.0.kept j in_j))),
          rw (sym (left s.result (small_result forms t s w) is_row) ∙ o) (ap (λ (rule : Rule). rule ∷ []) (same_rule_lem category daughters components)),
        )
          where
            a : Form
            a = form_at forms i

            b : Form
            b = form_at forms j

            in_i : i < length forms
            in_i = omega (arith, t.1)

            in_j : j < length forms
            in_j = omega (arith, t.1)

            is_row : row ≡ row_of s.result
            is_row = merged_row (sym e ∙ m)

            is_scheme : scheme ≡ merge_number a.lexical (drop 1 b.head)
            is_scheme = merged_scheme (sym e ∙ m)

            chains_a : u ≡ length a.moving
            chains_a = eu ∙ ap (λ (l : List ℕ). get_or l 7 0) (ex ∙ t.0.rows i in_i) ∙ count_at a

            chains_b : v ≡ length b.moving
            chains_b = ev ∙ ap (λ (l : List ℕ). get_or l 7 0) (ey ∙ t.0.rows j in_j) ∙ count_at b

            category : c.0 ≡ suc (place_of forms s.result)
            category = number_is forms t s.result (small_result forms t s w) is_row is_number

            daughters : f.0 ∷ g.0 ∷ [] ≡ suc (place_of forms a) ∷ suc (place_of forms b) ∷ []
            daughters =
                let z : f.0 ≡ suc (place_of forms a) = omega (arith, ef, place_once forms once i in_i) in
                let q : g.0 ≡ suc (place_of forms b) = omega (arith, eg, place_once forms once j in_j) in
                ap₂ (λ (k l : ℕ). k ∷ l ∷ []) z q

            components : merge_components scheme u v ≡ s.components
            components =
                ap₂ (merge_components scheme) chains_a chains_b ∙ ap (λ (q : MergeScheme). merge_components q (length a.moving) (length b.moving)) is_scheme ∙ sym (merge_components_lem a b s w)

-- a move's
module _ {table : List (List ℕ)} {x : List ℕ} {i : ℕ} {made : std.Option Moved} (hi : i < length table) (ex : x ≡ row_at table i) (says : SaysMove x made) where
  pub no_move : (before : Records) → made ≡ std.None → Lists (with_move i) table before before
  no_move before e = lists_none table before (λ forms t. go forms (move_scheme (form_at forms i)) (move_is {before = whole table} hi ex says forms t))
    where
      go : (forms : List Form) (o : Option Instance) → MoveIs (form_at forms i) o made → rule_if (move_rule (form_at forms i)) o ≡ []
      go forms none m = refl
      go forms (some s) m = none_is_some (sym e ∙ m)

  moved_small : (forms : List Form) → Holds table (length table) forms → (s : Instance) → move_scheme (form_at forms i) ≡ some s → Small s.result
  moved_small forms t s w = move_small (form_at forms i) (t.0.small i (omega (arith, t.1))) s w

  module _ (moved : Moved) (e : made ≡ std.Some moved) {out : Bool} (left : SaysLeftOut moved.row out) where
    pub move_left_out : (before : Records) → out ≡ true → Lists (with_move i) table before before
    move_left_out before o = lists_none table before (λ forms t. go forms t (move_scheme (form_at forms i)) refl (move_is {before = whole table} hi ex says forms t))
      where
        go : (forms : List Form) → Holds table (length table) forms → (p : Option Instance) → move_scheme (form_at forms i) ≡ p → MoveIs (form_at forms i) p made
            → rule_if (move_rule (form_at forms i)) p ≡ []
        go forms t none w m = refl
        go forms t (some s) w m = rw (sym (left s.result (moved_small forms t s w) (code_row e (form_at forms i) s m)) ∙ o)

    pub move_rule_lem : {before after : Records} {u : ℕ} {c f : Category} → out ≡ false → c.0 ≡ first_same (row_at table) moved.row 0 (length table) + 1 → f.0 ≡ i + 1
        → u ≡ get_or x 7 0 → AddsRule (Move c f moved.scheme u moved.chain) before after → Lists (with_move i) table before after
    move_rule_lem {u = u} {c} {f} o is_number ef eu p =
        lists_one table (Move c f moved.scheme u moved.chain) p
        (λ forms t once. go forms t once (move_scheme (form_at forms i)) refl (move_is {before = whole table} hi ex says forms t))
      where
        go : (forms : List Form) → Holds table (length table) forms → Once forms → (q : Option Instance) → move_scheme (form_at forms i) ≡ q → MoveIs (form_at forms i) q made
            → Fits (Move c f moved.scheme u moved.chain) × (as_rule (Move c f moved.scheme u moved.chain) ∷ [] ≡ map (numbered_rule forms) (rule_if (move_rule (form_at forms i)) q))
        go forms t once none w m = none_is_some (sym m ∙ e)
        go forms t once (some s) w m = (
          (omega (arith, chains, three), omega (arith, moves.high, three)),
          rw (sym (left s.result (moved_small forms t s w) (code_row e (form_at forms i) s m)) ∙ o) (ap (λ (rule : Rule). rule ∷ []) (same_rule_lem category daughters components)),
        )
          where
            a : Form
            a = form_at forms i

            in_i : i < length forms
            in_i = omega (arith, t.1)

            three : length a.moving ≤ 3
            three = few_moving a.moving (t.0.kept i in_i)

            moves : Moves a moved s.components
            moves = subst (λ (q : Moved). Moves a q s.components) (sym (code_is e (form_at forms i) s m)) (move_components_lem a (row_of s.result) s w)

            chains : u ≡ length a.moving
            chains = eu ∙ ap (λ (l : List ℕ). get_or l 7 0) (ex ∙ t.0.rows i in_i) ∙ count_at a

            category : c.0 ≡ suc (place_of forms s.result)
            category = number_is forms t s.result (moved_small forms t s w) (code_row e (form_at forms i) s m) is_number

            daughters : f.0 ∷ [] ≡ suc (place_of forms a) ∷ []
            daughters = let z : f.0 ≡ suc (place_of forms a) = omega (arith, ef, place_once forms once i in_i) in ap (λ (k : ℕ). k ∷ []) z

            components : move_components moved.scheme u moved.chain ≡ s.components
            components = ap (λ (q : ℕ). move_components moved.scheme q moved.chain) chains ∙ sym moves.are
