-- Rules added one after another.
-- Assumes nothing.
use Rattle.std.specs.Prelude.{if◌then◌else◌, Option, Some}
use mathlib.Core.Path.{◌≡◌, refl, sym, ap, subst, ◌∙◌}
use mathlib.Core.Bool.{Bool, true, false}
use mathlib.Core.List.{List, [], ◌∷◌, ◌++◌, map, append-nil, append_assoc}
use Prim.Native.Nat.{ℕ, ◌+◌, ◌<◌, ◌≤◌}
use native.Mathlib.Omega.{arith}
use native.Mathlib.Numerals.{add-one}
use lib.ListN.{length, take, length-map}
use lib.Seq.{take-suc, take_all}
use Rattle.model.specs.Base.{each, numbers_from}
use Rattle.model.specs.Grammar.{Rule}
use Rattle.model.proofs.Lists.{each_append, map_append, numbers_next}
use Rattle.minimalist.specs.Once.{Once}
use Rattle.minimalist.specs.Lexicon.{Entry, entry_of, entry_bytes, lexicon_of}
use Rattle.minimalist.specs.Schemes.{Form, merge_scheme, move_scheme}
use Rattle.minimalist.specs.Made.{NamedRule, start_form, start_rule, entry_rule, merge_rule, move_rule}
use Rattle.minimalist.specs.Closure.{is_among, rule_if, made_rules, start_rules, scheme_rules}
use Rattle.minimalist.specs.Numbering.{numbered_rule}
use Rattle.derivable.specs.Tables.{form_at, Holds}
use Rattle.made_records.specs.declared.MadeRule.{MadeRule}
use Rattle.made_records.specs.declared.Records.{Records}
use Rattle.made_records.specs.Records.{as_rule, Fits, Held, AddsRule}
use Rattle.made_records.proofs.RecordLaws.{count_is}
use Rattle.made_rules.specs.Listed.{Lists, Listed, with_start, with_entry, with_entries, with_merge, with_merges, with_move, with_schemes_of}

-- none, and one
pub lists_none : {f : List Form → List NamedRule} (table : List (List ℕ)) (before : Records) → ((forms : List Form) → Holds table (length table) forms → f forms ≡ []) → Lists f table before before
lists_none {f} table before e =
    record {
      adds = λ forms t once rules held.
          subst (λ (new : List NamedRule). Held before (rules ++ map (numbered_rule forms) new)) (sym (e forms t)) (subst (Held before) (sym (append-nil rules)) held);
    }

pub lists_one : {f : List Form → List NamedRule} (table : List (List ℕ)) {before after : Records} (rule : MadeRule) → AddsRule rule before after
    → ((forms : List Form) → Holds table (length table) forms → Once forms → Fits rule × (as_rule rule ∷ [] ≡ map (numbered_rule forms) (f forms))) → Lists f table before after
lists_one {f} table {after = after} rule p e =
    record {
      adds = λ forms t once rules held.
          subst (λ (new : List Rule). Held after (rules ++ new)) (e forms t once).1 (p (e forms t once).0 rules held);
    }

pub lists_same : {f h : List Form → List NamedRule} {table : List (List ℕ)} {before after : Records} → Lists f table before after
    → ((forms : List Form) → length table ≡ length forms → f forms ≡ h forms) → Lists h table before after
lists_same {f} {h} {after = after} p e =
    record {
      adds = λ forms t once rules held.
          subst (λ (new : List NamedRule). Held after (rules ++ map (numbered_rule forms) new)) (e forms t.1) (p.adds forms t once rules held);
    }

pub lists_then : {f g h : List Form → List NamedRule} {table : List (List ℕ)} {before mid after : Records} → Lists f table before mid → Lists g table mid after
    → ((forms : List Form) → length table ≡ length forms → f forms ++ g forms ≡ h forms) → Lists h table before after
lists_then {f} {g} {h} {after = after} p q e =
    record {
      adds = λ forms t once rules held.
          subst (λ (new : List Rule). Held after new)
          (append_assoc rules (map (numbered_rule forms) (f forms)) (map (numbered_rule forms) (g forms))
          ∙ ap (λ (l : List Rule). rules ++ l) (sym (map_append (numbered_rule forms) (f forms) (g forms)) ∙ ap (map (numbered_rule forms)) (e forms t.1)))
          (q.adds forms t once (rules ++ map (numbered_rule forms) (f forms)) (p.adds forms t once rules held));
    }

-- from no rules on
pub lists_first : {f : List Form → List NamedRule} {table : List (List ℕ)} {before after : Records} → Held before [] → Lists f table before after → Listed f table after
lists_first none p = record { held = λ forms t once. p.adds forms t once [] none }

-- what is listed of the first forms, one form further
each_next : (f : Form → List NamedRule) (forms : List Form) (j : ℕ) → j < length forms → each f (take j forms) ++ f (form_at forms j) ≡ each f (take (j + 1) forms)
each_next f forms j h =
    sym
    (ap (λ (k : ℕ). each f (take k forms)) (add-one j)
    ∙ ap (each f) (take-suc forms j (record { lexical = false; head = []; moving = [] }) h)
    ∙ each_append f (take j forms) (form_at forms j ∷ [])
    ∙ ap (λ (l : List NamedRule). each f (take j forms) ++ l) (append-nil (f (form_at forms j))))

pub starts_both : (start : ℕ) (forms : List Form) → with_start start true forms ++ with_start start false forms ≡ start_rules start forms
starts_both start forms = ap (λ (l : List NamedRule). with_start start true forms ++ l) (sym (append-nil (with_start start false forms)))

pub merges_next : (i j : ℕ) (forms : List Form) → j < length forms → with_merges i j forms ++ with_merge i j forms ≡ with_merges i (j + 1) forms
merges_next i j forms h = each_next (λ b. rule_if (merge_rule (form_at forms i) b) (merge_scheme (form_at forms i) b)) forms j h

pub schemes_next : (i n : ℕ) (forms : List Form) → n ≡ length forms → i < n → (with_schemes_of i forms ++ with_merges i n forms) ++ with_move i forms ≡ with_schemes_of (i + 1) forms
schemes_next i n forms l h =
    append_assoc (with_schemes_of i forms) (with_merges i n forms) (with_move i forms)
    ∙ ap (λ (fs : List Form). with_schemes_of i forms ++ (each (λ b. rule_if (merge_rule (form_at forms i) b) (merge_scheme (form_at forms i) b)) fs ++ with_move i forms)) (take_all n forms (omega arith))
    ∙ each_next (λ a. each (λ b. rule_if (merge_rule a b) (merge_scheme a b)) forms ++ rule_if (move_rule a) (move_scheme a)) forms i (omega arith)

pub schemes_all : (n : ℕ) (forms : List Form) → n ≡ length forms → with_schemes_of n forms ≡ scheme_rules forms
schemes_all n forms l =
    ap (each (λ a. each (λ b. rule_if (merge_rule a b) (merge_scheme a b)) forms ++ rule_if (move_rule a) (move_scheme a))) (take_all n forms (omega arith))

-- the rules of the first entries
abbrev pub with_entries_of : List ℕ → ℕ → List Form → List NamedRule
with_entries_of bytes i forms = map entry_rule (map (λ k. entry_of (entry_bytes bytes k)) (numbers_from 0 i))

pub entries_next : (bytes : List ℕ) (i : ℕ) (e : List ℕ) → e ≡ entry_bytes bytes i → (forms : List Form) → with_entries_of bytes i forms ++ with_entry e forms ≡ with_entries_of bytes (i + 1) forms
entries_next bytes i e w forms =
    ap (λ (x : List ℕ). with_entries_of bytes i forms ++ (entry_rule (entry_of x) ∷ [])) w
    ∙ sym (map_append entry_rule (map entry (numbers_from 0 i)) (entry i ∷ []))
    ∙ ap (map entry_rule) (sym (map_append entry (numbers_from 0 i) (i ∷ [])))
    ∙ ap (λ (l : List ℕ). map entry_rule (map entry l)) (ap (λ (x : ℕ). numbers_from 0 i ++ (x ∷ [])) z ∙ sym (numbers_next 0 i) ∙ ap (numbers_from 0) (sym (add-one i)))
  where
    entry : ℕ → Entry
    entry k = entry_of (entry_bytes bytes k)

    z : i ≡ 0 + i
    z = omega arith

-- all rules of the grammar, from the new start's on
pub all_listed : (bytes : List ℕ) (start : ℕ) {table : List (List ℕ)} {first second after : Records} → Listed (start_rules start) table first
    → Lists (with_entries bytes) table first second → Lists scheme_rules table second after → Listed (made_rules (lexicon_of bytes) start) table after
all_listed bytes start {after = after} p q w =
    record {
      held = λ forms t once.
          let l : Lists (λ forms. with_entries bytes forms ++ scheme_rules forms) _ _ _ = lists_then q w (λ forms e. refl) in
          subst (Held after) (sym (map_append (numbered_rule forms) (start_rules start forms) (with_entries bytes forms ++ scheme_rules forms)))
          (l.adds forms t once (map (numbered_rule forms) (start_rules start forms)) (p.held forms t once));
    }

-- how many rules the new start has
pub starts_counted : (start : ℕ) {table : List (List ℕ)} {after : Records} → Listed (start_rules start) table after → (forms : List Form) → Holds table (length table) forms → Once forms
    → after.count ≡ Some (length (start_rules start forms))
starts_counted start p forms t once =
    count_is (p.held forms t once) (omega (arith, length-map (start_rules start forms) (numbered_rule forms), two (is_among forms (start_form start true)) (is_among forms (start_form start false))))
    ∙ ap Some (length-map (start_rules start forms) (numbered_rule forms))
  where
    two : (a b : Bool) → length ((if a then start_rule start true ∷ [] else []) ++ ((if b then start_rule start false ∷ [] else []) ++ [])) ≤ 2
    two true true = omega arith
    two true false = omega arith
    two false true = omega arith
    two false false = omega arith
