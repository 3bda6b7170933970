-- From what the parts of the call say to its outcome.
-- Assumes nothing.
use Rattle.std.specs.Prelude.{Option, Some, None, if◌then◌else◌, Ok, Err}
use mathlib.Core.Path.{◌≡◌, refl, ap, ap₂, sym, subst, ◌∙◌}
use mathlib.Core.Bool.{Bool, true, false, ◌||◌}
use mathlib.Core.Option.{none}
use mathlib.Core.List.{List, ◌∷◌, ◌++◌, map}
use Prim.Native.Nat.{ℕ, suc, ◌+◌, ◌*◌, ◌<◌, ◌≤◌}
use native.Mathlib.Omega.{arith}
use lib.Dec.{T, ltb, eqb}
use lib.ListN.{length, take, drop, length-map}
use Rattle.std.proofs.lemmas.List.{length-take-le}
use borrow.Author.Tests.{ltb-true, ltb-false, lt-ltb, le-ltb}
use Rattle.model.specs.declared.Refusal.{Refusal}
use Rattle.model.specs.Base.{each}
use Rattle.model.specs.GrammarFile.{blocks_for}
use Rattle.model.specs.Writer.{all_bytes, padded, file_of}
use Rattle.model.proofs.Tests.{not_both}
use Rattle.grammar_to_file.specs.FileFor.{record_for, heading_for, file_for}
use Rattle.minimalist.specs.Lexicon.{Entry, lexicon_of, entries_refusal}
use Rattle.minimalist.specs.Schemes.{Form, form_dimension}
use Rattle.minimalist.specs.Made.{NamedRule}
use Rattle.minimalist.specs.Closure.{forms_of, start_rules, made_rules, too_large}
use Rattle.minimalist.specs.Numbering.{numbered_rule, made_by, made_grammar}
use Rattle.minimalist.specs.MakeGrammar.{made_too_large, made_length, MakeOutcome}
use Rattle.minimalist.proofs.MakeGrammar.{refused_large, refused_room, file_put}
use Rattle.writer.specs.Writing.{heading}
use Rattle.minimalist.proofs.Forms.{rounds_apart}
use Rattle.derivable.specs.Tables.{Holds}
use Rattle.derivable.specs.declared.tables.FormTable.{FormTable}
use Rattle.derivable.proofs.TableLaws.{holds_first, held_long}
use Rattle.derivable.proofs.SchemeRows.{none_is_some, some_same}
use Rattle.made_records.specs.declared.Records.{Records}
use Rattle.derivable.specs.Rounds.{Derived}
use Rattle.derivable.proofs.Growing.{derived_holds}
use Rattle.make_grammar.specs.Making.{told_rules, told_of, RulesPut, PutsRules, made_heading, Written, WritesMade}
use Rattle.model.specs.Verdict.{Verdict}

-- the tests of 31, one after another
module _ (few many none : Bool) where
  over_first : few ≡ true → few || many || none ≡ true
  over_first e = rw e

  over_second : many || none ≡ true → few || many || none ≡ true
  over_second e = go few many none e
    where
      go : (a b c : Bool) → b || c ≡ true → a || b || c ≡ true
      go true b c f = refl
      go false b c f = f

  over_none : few ≡ false → many ≡ false → none ≡ false → few || many || none ≡ false
  over_none e f g = rw (e, f, g)

-- what the number of rules tells
module _ (starts rules : ℕ) (o : Option ℕ) (among : o ≡ told_rules starts rules) where
  told_large : o ≡ None → ltb 256 rules || eqb starts 0 ≡ true
  told_large z = go (eqb starts 0) (ltb 256 rules) (sym z ∙ among)
    where
      go : (a b : Bool) → None ≡ (if a then None else (if b then None else Some rules)) → b || a ≡ true
      go true true q = refl
      go true false q = refl
      go false true q = refl
      go false false q = none_is_some q

  pub record Told (n : ℕ) : Type 0 where
    pub started : eqb starts 0 ≡ false
    pub few : ltb 256 rules ≡ false
    pub is : n ≡ rules

  told_right : (n : ℕ) → o ≡ Some n → Told n
  told_right n z = go (eqb starts 0) refl (ltb 256 rules) refl (sym z ∙ among)
    where
      go : (a : Bool) → eqb starts 0 ≡ a → (b : Bool) → ltb 256 rules ≡ b → Some n ≡ (if a then None else (if b then None else Some rules)) → Told n
      go true e b f q = none_is_some (sym q)
      go false e true f q = none_is_some (sym q)
      go false e false f q = record { started = e; few = f; is = some_same q }

  told_few : (n : ℕ) → o ≡ Some n → n ≤ 256
  told_few n z = few_is (told_right n z).is (ltb-false 256 rules (told_right n z).few)
    where
      few_is : n ≡ rules → rules ≤ 256 → n ≤ 256
      few_is e h = omega arith

-- the file of the made grammar by the forms
module _ (lexicon : List Entry) (words start : ℕ) (forms : List Form) where
  abbrev made : List NamedRule
  made = made_rules lexicon start forms

  file_is : (r : ℕ) (records : List ℕ) → r ≡ length made → records ≡ each record_for (map (numbered_rule forms) made)
      → file_of (made_heading words r forms) records ≡ file_for (made_by lexicon words start forms)
  file_is r records q e = ap₂ file_of same e
    where
      rules : r ≡ length (map (numbered_rule forms) made)
      rules = q ∙ sym (length-map made (numbered_rule forms))

      categories : suc (length forms) ≡ length (1 ∷ map form_dimension forms)
      categories = ap suc (sym (length-map forms form_dimension))

      same : made_heading words r forms ≡ heading_for (made_by lexicon words start forms)
      same = λ i. record { categories = categories i; start = 0; words = words; rules = rules i; dimensions = padded 64 (1 ∷ map form_dimension forms) }

-- the outcomes, by the forms that the table holds; these are the derivable ones
module _ (bytes : List ℕ) (words start : ℕ) (all : T (all_bytes bytes)) (passed : entries_refusal bytes words start ≡ none) (out : List ℕ)
    (forms : List Form) (are : forms ≡ forms_of (lexicon_of bytes)) where
  abbrev l : List Entry
  l = lexicon_of bytes

  abbrev rules : ℕ
  rules = length (made_rules l start forms)

  abbrev starts : ℕ
  starts = length (start_rules start forms)

  large : (b : Bool) → too_large l start forms ≡ b → made_too_large bytes start ≡ b
  large b e = subst (λ (f : List Form). too_large l start f ≡ b) are e

  long : 512 * blocks_for rules ≡ made_length bytes start
  long = ap (λ (f : List Form). 512 * blocks_for (length (made_rules l start f))) are

  -- 31 by the categories
  pub many_forms : 63 < length forms → MakeOutcome bytes words start out (Err (Refusal.Grammar 31 0)) out
  many_forms h = refused_large bytes words start all out passed (large true (over_first (ltb 63 (length forms)) (ltb 256 rules) (eqb starts 0) (lt-ltb 63 (length forms) h)))

  module _ (few : length forms ≤ 63) (o : Option Records) (put : RulesPut l start forms o) where
    -- 31 by the start, or by the rules
    pub many_rules : told_of o ≡ None → MakeOutcome bytes words start out (Err (Refusal.Grammar 31 0)) out
    many_rules e =
        refused_large bytes words start all out passed
        (large true (over_second (ltb 63 (length forms)) (ltb 256 rules) (eqb starts 0) (told_large starts rules (told_of o) put.counted e)))

    -- 23, or the file
    module _ (records : Records) (same : o ≡ Some records) (r : ℕ) (count : records.count ≡ Some r) (answer : Verdict) (after : List ℕ)
        (written : Written (512 * blocks_for r) (file_of (made_heading words r forms) (take (24 * r) records.bytes)) out answer after) where
      told : Told starts rules (told_of o) put.counted r
      told = told_right starts rules (told_of o) put.counted r (ap told_of same ∙ count)

      small : made_too_large bytes start ≡ false
      small = large false (over_none (ltb 63 (length forms)) (ltb 256 rules) (eqb starts 0) (le-ltb 63 (length forms) few) told.few told.started)

      size : 512 * blocks_for r ≡ made_length bytes start
      size = ap (λ (n : ℕ). 512 * blocks_for n) told.is ∙ long

      file : file_of (made_heading words r forms) (take (24 * r) records.bytes) ≡ file_for (made_grammar l words start)
      file =
          file_is l words start forms r (take (24 * r) records.bytes) told.is
          (ap (λ (n : ℕ). take (24 * n) records.bytes) told.is ∙ put.are records same (omega (arith, ltb-false 256 rules told.few)))
          ∙ ap (λ (f : List Form). file_for (made_by l words start f)) are

      pub outcome : MakeOutcome bytes words start out answer after
      outcome = go (ltb (length out) (512 * blocks_for r)) refl
        where
          go : (b : Bool) → ltb (length out) (512 * blocks_for r) ≡ b → MakeOutcome bytes words start out answer after
          go true e =
              let w = written.no_room e in
              let h = refused_room bytes words start all out passed small (subst (λ (n : ℕ). length out < n) size (ltb-true (length out) (512 * blocks_for r) e)) in
              subst (λ (v : Verdict). MakeOutcome bytes words start out v after) (sym w.0) (subst (MakeOutcome bytes words start out (Err (Refusal.Desk 23 0))) (sym w.1) h)
          go false e =
              let w = written.room e in
              subst (λ (v : Verdict). MakeOutcome bytes words start out v after) (sym w.0)
              (file_put bytes words start all out passed small (subst (λ (n : ℕ). n ≤ length out) size (ltb-false (length out) (512 * blocks_for r) e)) (512 * blocks_for r) size after
              (w.1 ∙ ap (λ (f : List ℕ). f ++ drop (512 * blocks_for r) out) file))

-- the file is not written, or it is
module _ {n m : ℕ} {file out : List ℕ} (is : m ≡ n) where
  pub no_room_left : length out < m → Written n file out (Err (Refusal.Desk 23 0)) out
  no_room_left h = record { no_room = λ e. (refl, refl); room = λ e. not_both (sym (lt-ltb (length out) n (subst (λ (k : ℕ). length out < k) is h)) ∙ e) }

  pub room_left : m ≤ length out → (after : List ℕ) → after ≡ file ++ drop m out → Written n file out (Ok m) after
  room_left h after w =
      record {
        no_room = λ e. not_both (sym e ∙ le-ltb (length out) n (subst (λ (k : ℕ). k ≤ length out) is h));
        room = λ e. (ap Ok is, w ∙ ap (λ (k : ℕ). file ++ drop k out) is);
      }

pub heading_made : (n words rules : ℕ) (dimensions : List ℕ) (forms : List Form) → n ≡ length forms → dimensions ≡ padded 64 (1 ∷ map form_dimension forms)
    → heading (n + 1) 0 words rules dimensions ≡ made_heading words rules forms
heading_made n words rules dimensions forms e d =
    let s : n + 1 ≡ suc (length forms) = omega arith in
    λ i. record { categories = s i; start = 0; words = words; rules = rules; dimensions = d i }

-- the outcome of the call by what its parts say
module _ (bytes : List ℕ) (words start : ℕ) (all : T (all_bytes bytes)) (passed : entries_refusal bytes words start ≡ none) (out : List ℕ)
    (table : FormTable) (derived : Derived bytes table) where
  held : Holds table.rows table.count (forms_of (lexicon_of bytes))
  held = derived_holds bytes derived

  pub over_forms : 63 < table.count → MakeOutcome bytes words start out (Err (Refusal.Grammar 31 0)) out
  over_forms h = many_forms bytes words start all passed out (forms_of (lexicon_of bytes)) refl (subst (λ (k : ℕ). 63 < k) held.1 h)

  module _ (few : table.count ≤ 63) {rows : List (List ℕ)} (first : rows ≡ take table.count table.rows) where
    all_long : table.count ≤ length table.rows
    all_long = held_long table.rows table.count (forms_of (lexicon_of bytes)) held

    -- the parts of the call ask for at most 63 rows
    pub few_rows : length rows ≤ 63
    few_rows = subst (λ (l : List (List ℕ)). length l ≤ 63) (sym first) (omega (arith, length-take-le table.count table.rows all_long))

    few_forms : length (forms_of (lexicon_of bytes)) ≤ 63
    few_forms = subst (λ (k : ℕ). k ≤ 63) held.1 few

    rows_held : Holds rows (length rows) (forms_of (lexicon_of bytes))
    rows_held = subst (λ (l : List (List ℕ)). Holds l (length l) (forms_of (lexicon_of bytes))) (sym first) (holds_first table.rows table.count all_long (forms_of (lexicon_of bytes)) held)

    module _ {o : Option Records} (puts : PutsRules rows bytes start o) where
      put : RulesPut (lexicon_of bytes) start (forms_of (lexicon_of bytes)) o
      put = puts.puts (forms_of (lexicon_of bytes)) rows_held (rounds_apart (lexicon_of bytes) 63)

      pub over_rules : told_of o ≡ None → MakeOutcome bytes words start out (Err (Refusal.Grammar 31 0)) out
      over_rules e = many_rules bytes words start all passed out (forms_of (lexicon_of bytes)) refl few_forms o put e

      -- so many rules
      pub few_rules : {n : ℕ} → told_of o ≡ Some n → n ≤ 256
      few_rules {n} e =
          told_few (length (start_rules start (forms_of (lexicon_of bytes)))) (length (made_rules (lexicon_of bytes) start (forms_of (lexicon_of bytes)))) (told_of o) put.counted n e

      pub written_made : (records : Records) → o ≡ Some records → (r : ℕ) → records.count ≡ Some r → {after : List ℕ} {answer : Verdict}
          → WritesMade rows words r (take (24 * r) records.bytes) out answer after → MakeOutcome bytes words start out answer after
      written_made records same r count {after} {answer} w =
          outcome bytes words start all passed out (forms_of (lexicon_of bytes)) refl few_forms o put records same r count answer after
          (w.writes (forms_of (lexicon_of bytes)) rows_held)
