-- Tables that grow: forms are only appended, and a part of a round after another.
-- Assumes nothing.
use Rattle.std.specs.Prelude.{if◌then◌else◌}
use mathlib.Core.Path.{◌≡◌, refl, sym, ap, ap₂, subst, ◌∙◌}
use mathlib.Core.Logic.{◌⊎◌, inl, inr}
use mathlib.Core.Bool.{Bool, true, false, ◌||◌}
use mathlib.Core.List.{List, [], ◌∷◌, ◌++◌, map, append-nil, append_assoc}
use Prim.Native.Nat.{ℕ, ◌+◌, ◌-◌, ◌<◌, ◌≤◌}
use native.Mathlib.Omega.{arith}
use native.Mathlib.Numerals.{add-one}
use lib.Dec.{ltb}
use lib.ListN.{length, take, length-append, get_or-append}
use lib.Seq.{take_at, take-suc, take_all}
use Rattle.model.specs.Base.{each, numbers_from}
use Rattle.model.proofs.Lists.{each_append, map_append, numbers_next}
use Rattle.minimalist.specs.Lexicon.{Entry, entry_of, entry_bytes, lexicon_of}
use Rattle.minimalist.specs.Schemes.{Form, merge_scheme, move_scheme, lexical_form}
use Rattle.minimalist.specs.Closure.{is_among, add_form, add_forms, result_of, results_of, forms_after, forms_of}
use Rattle.minimalist.proofs.Forms.{added_all}
use Rattle.derivable.specs.declared.tables.FormTable.{FormTable}
use Rattle.derivable.specs.Tables.{form_at, Holds}
use Rattle.derivable.specs.Rounds.{Grows, with_merge, with_move, with_merges, with_round, with_round_of, with_entry, Rounds, Derived}
use Rattle.derivable.proofs.RoundLaws.{closed_still}

-- forms are only appended
one_appends : (F : List Form) (a : Form) → (more : List Form) × (add_form F a ≡ F ++ more)
one_appends F a = go (is_among F a || ltb 63 (length F))
  where
    go : (t : Bool) → (more : List Form) × ((if t then F else F ++ (a ∷ [])) ≡ F ++ more)
    go true = ([], sym (append-nil F))
    go false = (a ∷ [], refl)

appends : (F l : List Form) → (more : List Form) × (add_forms F l ≡ F ++ more)
appends F [] = ([], sym (append-nil F))
appends F (a ∷ l) =
    let (x, e) = one_appends F a in
    let (y, f) = appends (add_form F a) l in
    (x ++ y, f ∙ ap (λ (z : List Form). z ++ y) e ∙ append_assoc F x y)

module _ (F l : List Form) where
  pub longer : length F ≤ length (add_forms F l)
  longer = omega (arith, ap length (appends F l).1, length-append F (appends F l).0)

  pub first_forms : (n : ℕ) → n ≡ length F → take n (add_forms F l) ≡ F
  first_forms n h = ap (take n) (appends F l).1 ∙ take_at F (appends F l).0 n (sym h)

  pub form_stays : (i : ℕ) → i < length F → form_at (add_forms F l) i ≡ form_at F i
  form_stays i h = ap (λ (x : List Form). form_at x i) (appends F l).1 ∙ get_or-append F (appends F l).0 (record { lexical = false; head = []; moving = [] }) i h

-- one list after another
pub add_more : (F a b : List Form) → add_forms F (a ++ b) ≡ add_forms (add_forms F a) b
add_more F [] b = refl
add_more F (x ∷ a) b = add_more (add_form F x) a b

-- what is made of the first forms, one form further
each_further : (f : Form → List Form) (F : List Form) (j : ℕ) → j < length F → each f (take (j + 1) F) ≡ each f (take j F) ++ f (form_at F j)
each_further f F j h =
    ap (λ (k : ℕ). each f (take k F)) (add-one j)
    ∙ ap (each f) (take-suc F j (record { lexical = false; head = []; moving = [] }) h)
    ∙ each_append f (take j F) (form_at F j ∷ [])
    ∙ ap (λ (l : List Form). each f (take j F) ++ l) (append-nil (f (form_at F j)))

-- one growth after another
pub grows_then : {f g h : List Form → List Form} {before mid after : FormTable} → Grows f before mid → Grows g mid after
    → ((forms : List Form) → before.count ≡ length forms → g (f forms) ≡ h forms) → Grows h before after
grows_then {f} {g} {h} {before} {mid} {after} p q e =
    record {
      least = omega (arith, p.least, q.least);
      most = q.most;
      holds = λ forms t. subst (Holds after.rows after.count) (e forms t.1) (q.holds (f forms) (p.holds forms t));
    }

pub grows_same : {f h : List Form → List Form} {before after : FormTable} → Grows f before after → ((forms : List Form) → before.count ≡ length forms → f forms ≡ h forms) → Grows h before after
grows_same {f} {h} {before} {after} p e =
    record { least = p.least; most = p.most; holds = λ forms t. subst (Holds after.rows after.count) (e forms t.1) (p.holds forms t) }

-- the merges of form i, and one more
module _ (i j n : ℕ) (forms : List Form) (l : n ≡ length forms) (hi : i < n) (hj : j < n) where
  abbrev made : Form → List Form
  made b = result_of (merge_scheme (form_at forms i) b)

  pub merges_further : with_merge i j (with_merges i j forms) ≡ with_merges i (j + 1) forms
  merges_further =
      ap₂ (λ (x y : Form). add_forms (with_merges i j forms) (result_of (merge_scheme x y)))
      (form_stays forms (each made (take j forms)) i (omega arith))
      (form_stays forms (each made (take j forms)) j (omega arith))
      ∙ sym (add_more forms (each made (take j forms)) (made (form_at forms j)))
      ∙ ap (add_forms forms) (sym (each_further made forms j (omega arith)))

-- a round, one form further
module _ (i m : ℕ) (forms : List Form) (l : m ≡ length forms) (hi : i < m) where
  abbrev makes : Form → List Form
  makes a = each (λ b. result_of (merge_scheme a b)) forms ++ result_of (move_scheme a)

  abbrev before : List Form
  before = each makes (take i forms)

  abbrev merges : List Form
  merges = each (λ b. result_of (merge_scheme (form_at forms i) b)) forms

  merged : with_merges i m (with_round_of i forms) ≡ add_forms (with_round_of i forms) merges
  merged =
      ap₂ (λ (x : Form) (y : List Form). add_forms (with_round_of i forms) (each (λ b. result_of (merge_scheme x b)) y))
      (form_stays forms before i (omega arith)) (first_forms forms before m l)

  there : form_at (add_forms (with_round_of i forms) merges) i ≡ form_at forms i
  there = form_stays (with_round_of i forms) merges i (omega (arith, longer forms before)) ∙ form_stays forms before i (omega arith)

  pub round_further : with_move i (with_merges i m (with_round_of i forms)) ≡ with_round_of (i + 1) forms
  round_further =
      ap (with_move i) merged
      ∙ ap (λ (x : Form). add_forms (add_forms (with_round_of i forms) merges) (result_of (move_scheme x))) there
      ∙ sym (add_more (with_round_of i forms) merges (result_of (move_scheme (form_at forms i))))
      ∙ sym (add_more forms before (makes (form_at forms i)))
      ∙ ap (add_forms forms) (sym (each_further makes forms i (omega arith)))

pub round_whole : (i m : ℕ) → i ≡ m → (forms : List Form) → m ≡ length forms → with_round_of i forms ≡ with_round forms
round_whole i m e forms l = ap (λ (x : List Form). add_forms forms (each (λ a. each (λ b. result_of (merge_scheme a b)) forms ++ result_of (move_scheme a)) x)) (take_all i forms (omega arith))

-- rounds
pub no_rounds : (table : FormTable) → table.count ≤ 64 → Rounds 0 table table
no_rounds table few = record { most = few; holds = λ lexicon t. t }

module _ (k : ℕ) {table mid after : FormTable} (so_far : Rounds k table mid) (round : Grows with_round mid after) where
  pub rounds_more : Rounds (k + 1) table after
  rounds_more =
      record {
        most = round.most;
        holds = λ lexicon t. subst (λ (j : ℕ). Holds after.rows after.count (forms_after lexicon j)) (sym (add-one k)) (round.holds (forms_after lexicon k) (so_far.holds lexicon t));
      }

  -- a round that adds nothing is the last
  pub rounds_still : after.count ≡ mid.count → (last : ℕ) → k ≤ last → Rounds last table after
  rounds_still e last h =
      record {
        most = round.most;
        holds = λ lexicon t. done lexicon (so_far.holds lexicon t) (added_all (forms_after lexicon k) (results_of (forms_after lexicon k))).change;
      }
    where
      done : (lexicon : List Entry) → Holds mid.rows mid.count (forms_after lexicon k)
          → (add_forms (forms_after lexicon k) (results_of (forms_after lexicon k)) ≡ forms_after lexicon k) ⊎ (length (forms_after lexicon k) < length (add_forms (forms_after lexicon k) (results_of (forms_after lexicon k))))
          → Holds after.rows after.count (forms_after lexicon last)
      done lexicon t (inl same) =
          let z : k + (last - k) ≡ last = omega arith in
          let stays : forms_after lexicon k ≡ forms_after lexicon last = sym (closed_still lexicon k same (last - k)) ∙ ap (forms_after lexicon) z in
          subst (Holds after.rows after.count) (same ∙ stays) (round.holds (forms_after lexicon k) t)
      done lexicon t (inr more) = let z : ⊥ = omega (arith, t.1, (round.holds (forms_after lexicon k) t).1) in absurd z

pub rounds_all : (k last : ℕ) {table after : FormTable} → k ≡ last → Rounds k table after → Rounds last table after
rounds_all k last {table} {after} e p = subst (λ (j : ℕ). Rounds j table after) e p

-- the entries, one further
numbers_further : (a n : ℕ) → numbers_from a (n + 1) ≡ numbers_from a n ++ ((a + n) ∷ [])
numbers_further a n = ap (numbers_from a) (add-one n) ∙ numbers_next a n

module _ (bytes : List ℕ) where
  abbrev pub first_entries : ℕ → List Entry
  first_entries i = map (λ k. entry_of (entry_bytes bytes k)) (numbers_from 0 i)

  pub entries_further : (i : ℕ) → with_entry (entry_bytes bytes i) (forms_after (first_entries i) 0) ≡ forms_after (first_entries (i + 1)) 0
  entries_further i =
      sym (add_more [] (map lexical_form (first_entries i)) (lexical_form (entry_of (entry_bytes bytes i)) ∷ []))
      ∙ ap (add_forms []) (sym (map_append lexical_form (first_entries i) (entry_of (entry_bytes bytes i) ∷ [])))
      ∙ ap (λ (l : List Entry). add_forms [] (map lexical_form l)) (sym (ap (map (λ k. entry_of (entry_bytes bytes k))) (numbers_further 0 i ∙ ap (λ (x : ℕ). numbers_from 0 i ++ (x ∷ [])) z) ∙ map_append (λ k. entry_of (entry_bytes bytes k)) (numbers_from 0 i) (i ∷ [])))
    where
      z : 0 + i ≡ i
      z = omega arith

  pub entries_more : (i : ℕ) {e : List ℕ} {table after : FormTable} → e ≡ entry_bytes bytes i → Holds table.rows table.count (forms_after (first_entries i) 0) → Grows (with_entry e) table after
      → Holds after.rows after.count (forms_after (first_entries (i + 1)) 0)
  entries_more i {e} {table} {after} b t p =
      subst (Holds after.rows after.count) (ap (λ (x : List ℕ). with_entry x (forms_after (first_entries i) 0)) b ∙ entries_further i) (p.holds (forms_after (first_entries i) 0) t)

  -- all rounds after the entries; and what a table of the derivable forms holds
  pub derived_by : {mid after : FormTable} → Holds mid.rows mid.count (forms_after (lexicon_of bytes) 0) → Rounds 63 mid after → Derived bytes after
  unfolding Derived
  derived_by t p = p.holds (lexicon_of bytes) t

  pub derived_holds : {table : FormTable} → Derived bytes table → Holds table.rows table.count (forms_of (lexicon_of bytes))
  unfolding Derived
  derived_holds d = d
