-- A table of forms: finding a form by its row, and adding one.
-- Assumes nothing.
use Rattle.std.specs.Prelude.{if◌then◌else◌, Option, Some, None, is_some, MatchOption}
use mathlib.Core.Path.{◌≡◌, refl, sym, ap, ap₂, subst, ◌∙◌}
use mathlib.Core.Bool.{Bool, true, false, ◌||◌}
use mathlib.Core.List.{List, [], ◌∷◌, ◌++◌}
use Prim.Native.Nat.{ℕ, suc, ◌+◌, ◌<◌, ◌≤◌}
use native.Mathlib.Omega.{arith}
use native.Mathlib.Decide.{dec_lt}
use lib.Dec.{T, ltb, leb-suc-suc}
use lib.ListN.{length, get_or, set, take, length-append, get_or-append}
use Rattle.std.specs.List.{position_or_len}
use Rattle.std.proofs.lemmas.List.Recursion.{is_position_or_len}
use Rattle.std.proofs.lemmas.List.{get_or-take, get_or_past, length-take-le}
use lib.Seq.{get_or-append_seam, get_or-set_same, get_or-set_other}
use borrow.Author.Tests.{lt-ltb, le-ltb}
use Rattle.model.specs.Base.{same_list}
use Rattle.model.proofs.Tests.{not_both, passes, list_same, same_list_lem}
use Rattle.minimalist.specs.Schemes.{Form, wrong_moving}
use Rattle.minimalist.specs.Closure.{same_form, is_among, add_form}
use Rattle.minimalist.specs.Numbering.{place_of}
use Rattle.minimalist.proofs.Forms.{same_form_lem, form_same}
use Rattle.forms.specs.Rows.{row_of, Small}
use Rattle.derivable.specs.Tables.{row_at, first_same, form_at, Table, Holds, Added}
use Rattle.derivable.specs.declared.tables.FormTable.{FormTable}
use Rattle.forms.proofs.RowLaws.{row_long, row_one}

-- rows are the same where the forms are
pub rows_same : (b a : Form) → Small b → Small a → same_list (row_of b) (row_of a) ≡ same_form b a
rows_same b a p q = go (same_form b a) (same_list (row_of b) (row_of a)) refl refl
  where
    go : (s t : Bool) → same_form b a ≡ s → same_list (row_of b) (row_of a) ≡ t → t ≡ s
    go true true u v = refl
    go false false u v = refl
    go true false u v =
        let e = same_form_lem b a (subst T (sym u) tt) in
        not_both (sym (passes (same_list (row_of a) (row_of a)) (list_same (row_of a))) ∙ ap (λ (x : Form). same_list (row_of x) (row_of a)) (sym e) ∙ v)
    go false true u v =
        let e = row_one b a p q (same_list_lem (row_of b) (row_of a) (subst T (sym v) tt)) in
        not_both (sym (passes (same_form a a) (form_same a)) ∙ ap (λ (x : Form). same_form x a) (sym e) ∙ u)

-- the form's place by its row
module _ (table : List (List ℕ)) (a : Form) (q : Small a) where
  place_from : (forms : List Form) (k : ℕ) → ((i : ℕ) → i < length forms → (row_at table (k + i) ≡ row_of (form_at forms i)) × Small (form_at forms i))
      → first_same (row_at table) (row_of a) k (length forms) ≡ k + place_of forms a
  place_from [] k h = omega arith
  place_from (b ∷ bs) k h =
      go (same_form b a) refl
      (place_from bs (suc k) (λ i l. let e : suc k + i ≡ k + suc i = omega arith in (ap (row_at table) e ∙ (h (suc i) (omega arith)).0, (h (suc i) (omega arith)).1)))
    where
      here : same_list (row_at table k) (row_of a) ≡ same_form b a
      here =
          let e : k ≡ k + 0 = omega arith in
          ap (λ (l : List ℕ). same_list l (row_of a)) (ap (row_at table) e ∙ (h 0 (omega arith)).0) ∙ rows_same b a (h 0 (omega arith)).1 q

      go : (t : Bool) → same_form b a ≡ t → first_same (row_at table) (row_of a) (suc k) (length bs) ≡ suc k + place_of bs a
          → (if same_list (row_at table k) (row_of a) then k else first_same (row_at table) (row_of a) (suc k) (length bs)) ≡ k + (if t then 0 else suc (place_of bs a))
      go true w ih = rw (here ∙ w) (omega arith)
      go false w ih = rw (here ∙ w) (omega arith)

  pub place_is : (forms : List Form) (n : ℕ) (row : List ℕ) → length forms ≡ n → Table table forms → row ≡ row_of a
      → first_same (row_at table) row 0 n ≡ place_of forms a
  place_is forms n row l t r =
      ap₂ (λ (x : List ℕ) (m : ℕ). first_same (row_at table) x 0 m) r (sym l)
      ∙ place_from forms 0 (λ i h. let e : 0 + i ≡ i = omega arith in (ap (row_at table) e ∙ t.rows i h, t.small i h))
      ∙ (let e : 0 + place_of forms a ≡ place_of forms a = omega arith in e)

-- a form is among the forms just where its place is
pub among_place : (forms : List Form) (a : Form) → is_among forms a ≡ ltb (place_of forms a) (length forms)
among_place [] a = refl
among_place (b ∷ bs) a = go (same_form b a) (among_place bs a)
  where
    go : (t : Bool) → is_among bs a ≡ ltb (place_of bs a) (length bs) → (t || is_among bs a) ≡ ltb (if t then 0 else suc (place_of bs a)) (suc (length bs))
    go true ih = sym (lt-ltb 0 (suc (length bs)) (omega arith))
    go false ih = ih ∙ sym (leb-suc-suc (suc (place_of bs a)) (length bs))

-- the rows of the forms alone
pub holds_first : (table : List (List ℕ)) (n : ℕ) → n ≤ length table → (forms : List Form) → Holds table n forms → Holds (take n table) (length (take n table)) forms
holds_first table n h forms t = (
  record {
    few = t.0.few;
    rows = λ i l. get_or-take n table i [] (omega (arith, t.1)) ∙ t.0.rows i l;
    small = t.0.small;
    kept = t.0.kept;
  },
  length-take-le n table h ∙ t.1,
)

-- and there are as many rows
pub held_long : (table : List (List ℕ)) (n : ℕ) (forms : List Form) → Holds table n forms → n ≤ length table
held_long table n forms t = go (dec_lt (length table) n)
  where
    go : Dec (length table < n) → n ≤ length table
    go (no h) = omega arith
    go (yes h) =
        let i : length table < length forms = omega (arith, t.1) in
        let none_here : row_of (form_at forms (length table)) ≡ [] = sym (t.0.rows (length table) i) ∙ get_or_past table (length table) [] (omega arith) in
        let zero_long : 64 ≡ 0 = sym (row_long (form_at forms (length table))) ∙ ap length none_here in
        absurd (omega (arith, zero_long))

-- the place where a form is looked for
abbrev pub sought : List (List ℕ) → ℕ → List ℕ → ℕ
sought table n row = first_same (row_at (take n table)) row 0 (length (take n table))

-- where a search finds a row
module _ (row : List ℕ) where
  abbrev seek : List (List ℕ) → ℕ
  seek [] = 0
  seek (x ∷ xs) = if same_list x row then 0 else suc (seek xs)

  first_seek : (rows : ℕ → List ℕ) (xs : List (List ℕ)) (from : ℕ) → ((i : ℕ) → i < length xs → rows (from + i) ≡ get_or xs i []) → first_same rows row from (length xs) ≡ from + seek xs
  first_seek rows [] from e = omega arith
  first_seek rows (x ∷ xs) from e =
      go (same_list x row) refl
      (first_seek rows xs (suc from) (λ i h. let z : suc from + i ≡ from + suc i = omega arith in ap rows z ∙ e (suc i) (omega arith)))
    where
      here : rows from ≡ x
      here = let z : from ≡ from + 0 = omega arith in ap rows z ∙ e 0 (omega arith)

      go : (t : Bool) → same_list x row ≡ t → first_same rows row (suc from) (length xs) ≡ suc from + seek xs
          → (if same_list (rows from) row then from else first_same rows row (suc from) (length xs)) ≡ from + (if t then 0 else suc (seek xs))
      go true w ih = rw (ap (λ (l : List ℕ). same_list l row) here ∙ w) (omega arith)
      go false w ih = rw (ap (λ (l : List ℕ). same_list l row) here ∙ w) (omega arith)

  pub place_sought_is : (xs : List (List ℕ)) → position_or_len (λ x. same_list x row) xs ≡ first_same (row_at xs) row 0 (length xs)
  place_sought_is xs =
      sym (is_position_or_len seek (λ x. same_list x row) refl step xs)
      ∙ (let z : 0 + seek xs ≡ seek xs = omega arith in sym z)
      ∙ sym (first_seek (row_at xs) xs 0 (λ i h. let z : 0 + i ≡ i = omega arith in ap (row_at xs) z))
    where
      step : (x : List ℕ) (xs : List (List ℕ)) → (if same_list x row then 0 else suc (seek xs)) ≡ (if same_list x row then 0 else (1 + seek xs))
      step x xs = let z : suc (seek xs) ≡ 1 + seek xs = omega arith in rw z

-- what a search among the rows of the forms answers
abbrev pub Found : List (List ℕ) → List ℕ → Option ℕ → Type 0
Found F row r = MatchOption r (length F ≤ first_same (row_at F) row 0 (length F)) (λ i. (i < length F) × (i ≡ first_same (row_at F) row 0 (length F)))

module _ (table : List (List ℕ)) (n : ℕ) (row : List ℕ) (long : n ≤ length table) (F : List (List ℕ)) (e : F ≡ take n table) where
  pub none_found : (r : Option ℕ) → Found F row r → is_some r ≡ false → n ≤ sought table n row
  none_found None h s =
      let z : length (take n table) ≤ sought table n row = subst (λ (F : List (List ℕ)). length F ≤ first_same (row_at F) row 0 (length F)) e h in
      omega (arith, length-take-le n table long)
  none_found (Some i) h s = not_both s

  pub some_found : (r : Option ℕ) → Found F row r → is_some r ≡ true → sought table n row < n
  some_found None h s = not_both (sym s)
  some_found (Some i) h s =
      let z : i ≡ sought table n row = subst (λ (F : List (List ℕ)). i ≡ first_same (row_at F) row 0 (length F)) e h.1 in
      let y : i < length (take n table) = subst (λ (F : List (List ℕ)). i < length F) e h.0 in
      omega (arith, length-take-le n table long)

-- adding
module _ (table : List (List ℕ)) (n : ℕ) (row : List ℕ) where
  abbrev before : FormTable
  before = record { rows = table; count = n }

  place_sought : (forms : List Form) (a : Form) → Holds table n forms → Small a → row ≡ row_of a → sought table n row ≡ place_of forms a
  place_sought forms a t q r =
      let u = holds_first table n (held_long table n forms t) forms t in
      place_is (take n table) a q forms (length (take n table)) row (sym u.1) u.0 r

  pub add_found : n ≤ 64 → sought table n row < n → Added before row before
  add_found few h = record { least = omega arith; most = few; holds = λ forms a t q w r. subst (Holds table n) (sym (still forms a t q r)) t }
    where
      still : (forms : List Form) (a : Form) → Holds table n forms → Small a → row ≡ row_of a → add_form forms a ≡ forms
      still forms a t q r = rw (among_place forms a ∙ lt-ltb (place_of forms a) (length forms) (omega (arith, place_sought forms a t q r, t.1)))

  pub add_full : n ≤ 64 → 63 < n → Added before row before
  add_full few h = record { least = omega arith; most = few; holds = λ forms a t q w r. subst (Holds table n) (sym (still forms a t.1)) t }
    where
      go : (forms : List Form) (a : Form) (x : Bool) → (if (x || true) then forms else forms ++ (a ∷ [])) ≡ forms
      go forms a true = refl
      go forms a false = refl

      still : (forms : List Form) (a : Form) → n ≡ length forms → add_form forms a ≡ forms
      still forms a l = rw (lt-ltb 63 (length forms) (omega arith)) (go forms a (is_among forms a))

  grown_by : n < length table → n ≤ sought table n row → n ≤ 63
      → (forms : List Form) (a : Form) → Holds table n forms → Small a → wrong_moving a.moving ≡ false → row ≡ row_of a → Holds (set table n row) (n + 1) (add_form forms a)
  grown_by wide h k forms a t q w r =
      (subst (λ (f : List Form). Table after f) (sym more) grown, sym count ∙ ap length (sym more))
    where
      after : List (List ℕ)
      after = set table n row

      more : add_form forms a ≡ forms ++ (a ∷ [])
      more = rw (among_place forms a ∙ le-ltb (place_of forms a) (length forms) (omega (arith, place_sought forms a t q r, t.1)), le-ltb 63 (length forms) (omega (arith, t.1)))

      count : length (forms ++ (a ∷ [])) ≡ n + 1
      count = length-append forms (a ∷ []) ∙ (let e : length forms + 1 ≡ n + 1 = omega (arith, t.1) in e)

      old_form : (i : ℕ) → i < length forms → form_at (forms ++ (a ∷ [])) i ≡ form_at forms i
      old_form i h = get_or-append forms (a ∷ []) (record { lexical = false; head = []; moving = [] }) i h

      new_form : (i : ℕ) → i ≡ length forms → form_at (forms ++ (a ∷ [])) i ≡ a
      new_form i h = ap (form_at (forms ++ (a ∷ []))) h ∙ get_or-append_seam forms a [] (record { lexical = false; head = []; moving = [] })

      old_row : (i : ℕ) → i < n → row_at after i ≡ row_at table i
      old_row i h = get_or-set_other table n i row [] (λ z. omega arith)

      new_row : row_at after n ≡ row
      new_row = get_or-set_same table n row [] wide

      rows_at : (i : ℕ) → Dec (i < n) → i < length (forms ++ (a ∷ [])) → row_at after i ≡ row_of (form_at (forms ++ (a ∷ [])) i)
      rows_at i (yes m) h = old_row i m ∙ t.0.rows i (omega (arith, t.1)) ∙ ap row_of (sym (old_form i (omega (arith, t.1))))
      rows_at i (no m) h = let e : i ≡ n = omega (arith, count) in ap (row_at after) e ∙ new_row ∙ r ∙ ap row_of (sym (new_form i (e ∙ t.1)))

      small_at : (i : ℕ) → Dec (i < n) → i < length (forms ++ (a ∷ [])) → Small (form_at (forms ++ (a ∷ [])) i)
      small_at i (yes m) h = subst Small (sym (old_form i (omega (arith, t.1)))) (t.0.small i (omega (arith, t.1)))
      small_at i (no m) h = let e : i ≡ n = omega (arith, count) in subst Small (sym (new_form i (e ∙ t.1))) q

      kept_at : (i : ℕ) → Dec (i < n) → i < length (forms ++ (a ∷ [])) → wrong_moving (form_at (forms ++ (a ∷ [])) i).moving ≡ false
      kept_at i (yes m) h = ap (λ (x : Form). wrong_moving x.moving) (old_form i (omega (arith, t.1))) ∙ t.0.kept i (omega (arith, t.1))
      kept_at i (no m) h = let e : i ≡ n = omega (arith, count) in ap (λ (x : Form). wrong_moving x.moving) (new_form i (e ∙ t.1)) ∙ w

      grown : Table after (forms ++ (a ∷ []))
      grown =
          record {
            few = omega (arith, count);
            rows = λ i h. rows_at i (dec_lt i n) h;
            small = λ i h. small_at i (dec_lt i n) h;
            kept = λ i h. kept_at i (dec_lt i n) h;
          }

  pub add_new : n < length table → n ≤ sought table n row → n ≤ 63 → Added before row (record { rows = set table n row; count = n + 1 })
  add_new wide h k =
      record {
        least = omega arith;
        most = omega arith;
        holds = λ forms a t q w r. grown_by wide h k forms a t q w r;
      }
