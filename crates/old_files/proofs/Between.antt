-- What follows for a file that was accepted between papers 1 and 4: its records pass 6 to 9 as they are now, and 10 alone can meet it, just where a rule is
-- an earlier one with its daughters in some order.
-- Assumes nothing.
use mathlib.Core.Path.{◌≡◌, sym, ap, subst, ◌∙◌}
use mathlib.Core.Bool.{Bool, true, false}
use mathlib.Core.List.{List}
use mathlib.Core.Option.{none, some}
use Prim.Native.Nat.{ℕ, ◌<◌, ◌≤◌}
use native.Mathlib.Omega.{arith}
use lib.Dec.{T}
use Rattle.model.specs.declared.Refusal.{Refusal}
use Rattle.model.specs.Base.{first_from}
use Rattle.model.specs.Verdict.{refuse_if}
use Rattle.model.specs.Grammar.{Rule}
use Rattle.model.specs.GrammarFile.{rules_of, dimensions_of, record_place, record_of, repeated, unused_set, rule_refusal, grammar_refusal, grammar_of}
use Rattle.model.specs.Writer.{all_bytes}
use Rattle.model.proofs.Tests.{passes as on, fails, none_at, first_same}
use Rattle.model.proofs.ByteLists.{all_fields}
use Rattle.model.proofs.FromFile.{rule_read, rule_read_lem, rule_is}
use Rattle.doubles.specs.Doubles.{Reordered, Passes, EarlierDouble, DoubleAt}
use Rattle.doubles.proofs.RefusalTen.{refusal_ten}
use Rattle.old_files.specs.OldFiles.{repeated_between, rule_refusal_between, file_tests, grammar_refusal_between, WithoutDoubles}
use Rattle.old_files.proofs.Passed.{FilePassed, file_passed, rule_passed}

module _ (file : List ℕ) (between : grammar_refusal_between file ≡ none) where
  abbrev e : ℕ → List ℕ
  e i = record_of file i

  passed : FilePassed file (first_from (rule_refusal_between file) 0 (rules_of file))
  passed = file_passed file (first_from (rule_refusal_between file) 0 (rules_of file)) between

  passes : (i : ℕ) → i < rules_of file → Passes (grammar_of file) (e i)
  passes i h =
      let p = rule_passed file (λ k. unused_set (dimensions_of file) (e k)) (repeated_between (record_of file)) between i h in
      let t = p.tested in
      record { long = t.long; category = t.category; word = t.word; variables = t.variables; unused = p.nine }

  -- of the tests of a rule only 10 can meet it
  pub tenth : (i : ℕ) → i < rules_of file → rule_refusal file i ≡ refuse_if (repeated (record_of file) i) (Refusal.Grammar 10 i)
  tenth i h =
      let p = passes i h in
      rw (p.category, p.word, p.variables, p.unused)

  pub fresh : (i : ℕ) → i < rules_of file → repeated (record_of file) i ≡ false → rule_refusal file i ≡ none
  fresh i h q = tenth i h ∙ ap (λ (b : Bool). refuse_if b (Refusal.Grammar 10 i)) q

  -- it does only if the rule is an earlier one with its daughters in some order; where the file is bytes, whenever it is
  module _ (i : ℕ) (here : i < rules_of file) where
    doubles : (repeated (record_of file) i ≡ true → EarlierDouble (grammar_of file) (record_of file) i)
        × (((k : ℕ) → k ≤ i → T (all_bytes (e k))) → EarlierDouble (grammar_of file) (record_of file) i → repeated (record_of file) i ≡ true)
    doubles = refusal_ten.met (grammar_of file) passed.dimensions (record_of file) i (λ k l. passes k (omega arith))

    pub a_double : repeated (record_of file) i ≡ true → DoubleAt (grammar_of file) i
    a_double q =
        let (j, l, r) = doubles.0 q in
        record {
          number = j;
          before = l;
          earlier = rule_read file j;
          rule = rule_read file i;
          earlier_is = rule_read_lem file j (omega arith);
          rule_is = rule_read_lem file i here;
          double = r;
        }

    pub not_repeated : (DoubleAt (grammar_of file) i → ⊥) → repeated (record_of file) i ≡ false
    not_repeated absent = fails (repeated (record_of file) i) (λ t. absent (a_double (on (repeated (record_of file) i) t)))

  pub is_repeated : T (all_bytes file) → (i : ℕ) → DoubleAt (grammar_of file) i → (i < rules_of file) × (repeated (record_of file) i ≡ true)
  is_repeated bytes i w =
      let x = rule_is file w.number w.earlier w.earlier_is in
      let y = rule_is file i w.rule w.rule_is in
      let r = subst (λ (a : Rule). Reordered a (rule_read file i)) (sym x.1) (subst (Reordered w.earlier) (sym y.1) w.double) in
      (y.0, (doubles i y.0).1 (λ k l. all_fields file (record_place k) 24 bytes) (w.number, w.before, r))

  pub refused_at : (i : ℕ) → first_from (rule_refusal file) 0 (rules_of file) ≡ some (Refusal.Grammar 10 i) → grammar_refusal file ≡ some (Refusal.Grammar 10 i)
  refused_at i q = ap (file_tests file) q ∙ passed.others (Refusal.Grammar 10 i)

  -- without doubles it is accepted
  pub accepted_now : WithoutDoubles (grammar_of file) → grammar_refusal file ≡ none
  accepted_now none-double =
      ap (file_tests file)
      (first_same (rule_refusal file) (rule_refusal_between file) 0 (rules_of file)
      (λ k lo hi. fresh k (omega arith) (not_repeated k (omega arith) (none-double k))
      ∙ sym (none_at (rule_refusal_between file) 0 (rules_of file) passed.rules_none k lo hi)))
      ∙ between
