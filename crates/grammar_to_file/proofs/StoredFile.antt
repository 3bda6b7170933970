-- The grammar of a file that the reader accepts can be stored, and its file is that file.
-- Assumes nothing.
use Rattle.std.specs.Prelude.{if◌then◌else◌}
use mathlib.Core.Path.{◌≡◌, refl, ap, ap₂, sym, subst, ◌∙◌}
use mathlib.Core.Bool.{Bool, true, false}
use mathlib.Core.Option.{none}
use mathlib.Core.List.{List, [], ◌∷◌, ◌++◌, map}
use Prim.Native.Nat.{ℕ, ◌+◌, ◌-◌, ◌*◌, ◌<◌, zero, suc, ◌≤◌}
use native.Mathlib.Omega.{arith}
use native.Mathlib.Decide.{dec_lt}
use lib.Dec.{T}
use lib.ListN.{length, get_or, get_or-eq_default}
use borrow.Author.Tests.{lt-ltb, le-ltb}
use Rattle.model.specs.Base.{each, numbers_from}
use Rattle.model.specs.Grammar.{Rule, Grammar, is_lexical}
use Rattle.model.specs.GrammarFile.{all_zero, fields, field, daughters_of, word_of, dimension_in, dimensions_of, words_of, rules_of, record_place, record_of, lengths_of, variables, sequences, rule_of, grammar_refusal, grammar_of, categories_of, start_of}
use Rattle.model.specs.Writer.{all_bytes, padded, heading_of, file_of}
use Rattle.model.proofs.Tests.{not_both}
use Rattle.model.proofs.ByteLists.{zero_field, bytes_at, bytes_fields, padded_length, padded_at, fields_length, fields_at}
use Rattle.model.proofs.FileTests.{passed}
use Rattle.model.proofs.FromFile.{rule_is, rule_passed, record_tested, dimensions_in, dimensions_length}
use Rattle.model.proofs.RuleFromRecord.{daughters_length}
use Rattle.model.proofs.WellFormed.{accepted_well, rules_length}
use lib.Seq.{ext_get_or}
use Rattle.model.proofs.WriterBack.{written_again}
use Rattle.doubles.proofs.RefusalTen.{refusal_ten}
use Rattle.grammar_to_file.specs.FileFor.{record_for, heading_for, file_for, Storable}
use Rattle.grammar_to_file.proofs.RecordAgain.{record_again, zero_split, zeros}

module _ (file : List ℕ) (bytes : T (all_bytes file)) (accepted : grammar_refusal file ≡ none) where
  abbrev g : Grammar
  g = grammar_of file

  abbrev dimensions : List ℕ
  dimensions = dimensions_of file

  pub again : (r : ℕ) → r < rules_of file → record_for (rule_of dimensions (record_of file r)) ≡ record_of file r
  again r h = record_again g (record_of file r) (record_tested file accepted r h) (dimensions_in file accepted) (rule_passed file accepted r h).unused (bytes_fields file (record_place r) 24 (bytes_at file bytes))

  -- no word where there are daughters, no components where there are none
  some_daughter : (r : ℕ) → r < rules_of file → is_lexical (rule_of dimensions (record_of file r)) ≡ false → 0 < field (record_of file r) 1
  some_daughter r h l = go (daughters_of (record_of file r)) (daughters_length g (record_of file r) (record_tested file accepted r h)) l
    where
      go : (x : List ℕ) → length x ≡ field (record_of file r) 1 → ◌≡◌ {A = Bool} (elim x [ [] ↦ true | d ∷ es ↦ false ]) false → 0 < field (record_of file r) 1
      go [] q e = not_both e
      go (d ∷ x) q e = omega arith

  no_daughter : (r : ℕ) → r < rules_of file → is_lexical (rule_of dimensions (record_of file r)) ≡ true → field (record_of file r) 1 ≡ 0
  no_daughter r h l = go (daughters_of (record_of file r)) (daughters_length g (record_of file r) (record_tested file accepted r h)) l
    where
      go : (x : List ℕ) → length x ≡ field (record_of file r) 1 → ◌≡◌ {A = Bool} (elim x [ [] ↦ true | d ∷ es ↦ false ]) true → field (record_of file r) 1 ≡ 0
      go [] q e = sym q
      go (d ∷ x) q e = not_both (sym e)

  word_0 : (r : ℕ) (h : r < rules_of file) → 0 < field (record_of file r) 1 → word_of (record_of file r) ≡ 0
  word_0 r h some_one =
      let e = record_of file r in
      let n = field e 1 in
      let m = dimension_in dimensions (field e 0) in
      let v = variables dimensions e in
      let z = zeros g e (record_tested file accepted r h) (dimensions_in file accepted) (rule_passed file accepted r h).unused (bytes_fields file (record_place r) 24 (bytes_at file bytes)) in
      let all : T (all_zero (fields e (2 + n) (3 - n) ++ fields e 5 2 ++ fields e (7 + m) (4 - m) ++ fields e (11 + v) (12 - v))) =
      subst (λ (t : Bool). T (all_zero (if t then fields e (2 + n) (3 - n) ++ fields e 5 2 ++ fields e (7 + m) (4 - m) ++ fields e (11 + v) (12 - v) else fields e 2 3 ++ fields e 7 16))) (lt-ltb 0 n some_one) z in
      let a = (zero_split (fields e (2 + n) (3 - n) ++ fields e 5 2 ++ fields e (7 + m) (4 - m)) (fields e (11 + v) (12 - v)) all).0 in
      let b = (zero_split (fields e (2 + n) (3 - n) ++ fields e 5 2) (fields e (7 + m) (4 - m)) a).0 in
      let c = (zero_split (fields e (2 + n) (3 - n)) (fields e 5 2) b).1 in
      ap₂ (λ (x y : ℕ). x + 256 * y) (zero_field e 5 2 c 5 0 refl (omega arith)) (zero_field e 5 2 c 6 1 refl (omega arith))

  pub stored : Storable g
  stored =
      record {
        well = accepted_well file accepted;
        no_word = λ r rule e l.
            let x = rule_is file r rule e in
            let l' : is_lexical (rule_of dimensions (record_of file r)) ≡ false = ap is_lexical x.1 ∙ l in
            ap (λ (z : Rule). z.word) (sym x.1) ∙ word_0 r x.0 (some_daughter r x.0 l');
        no_components = λ r rule e l.
            let x = rule_is file r rule e in
            let l' : is_lexical (rule_of dimensions (record_of file r)) ≡ true = ap is_lexical x.1 ∙ l in
            ap (λ (z : Rule). z.components) (sym x.1)
            ∙ ap (λ (t : Bool). if t then sequences (lengths_of dimensions (record_of file r)) (fields (record_of file r) 11 12) else []) (le-ltb 0 (field (record_of file r) 1) (omega (arith, no_daughter r x.0 l')));
        differ = refusal_ten.no_doubles file bytes accepted;
        weights = λ r rule e.
            let x = rule_is file r rule e in
            let b = bytes_fields file (record_place r) 24 (bytes_at file bytes) 23 in
            omega (arith, ap (λ (z : Rule). z.weight) x.1, b);
      }

  -- the grammar's heading is the file's, and its records are the file's
  dimensions_again : padded 64 dimensions ≡ fields file 16 64
  dimensions_again =
      ext_get_or 0 (padded 64 dimensions) (fields file 16 64) (padded_length 64 dimensions ∙ sym (fields_length file 16 64 room))
      (λ j h. let k : j < 64 = omega (arith, padded_length 64 dimensions) in padded_at 64 dimensions j k ∙ at j (dec_lt j (categories_of file)) k ∙ sym (fields_at file 16 64 j k))
    where
      room : 16 + 64 ≤ length file
      room = omega (arith, (passed file accepted).long)

      at : (j : ℕ) → Dec (j < categories_of file) → j < 64 → get_or dimensions j 0 ≡ get_or file (16 + j) 0
      at j (yes h) k = fields_at file 16 (categories_of file) j h
      at j (no h) k =
          get_or-eq_default dimensions 0 (omega (arith, dimensions_length file accepted))
          ∙ sym (zero_field file (16 + categories_of file) (508 - (16 + categories_of file)) (passed file accepted).heading.rest (16 + j) (j - categories_of file) (omega arith) (omega arith))

  heading_again : heading_for g ≡ heading_of file
  heading_again =
      let c = dimensions_length file accepted in
      let r = rules_length file in
      let d = dimensions_again in
      λ i. record { categories = c i; start = start_of file; words = words_of file; rules = r i; dimensions = d i }

  records_again : (a n : ℕ) → a + n ≤ rules_of file → each record_for (map (λ i. rule_of dimensions (record_of file i)) (numbers_from a n)) ≡ each (record_of file) (numbers_from a n)
  records_again a zero h = refl
  records_again a (suc n) h = ap₂ (λ (x y : List ℕ). x ++ y) (again a (omega arith)) (records_again (suc a) n (omega arith))

  pub file_again : file_for g ≡ file
  file_again = ap₂ file_of heading_again (records_again 0 (rules_of file) (omega arith)) ∙ (written_again file bytes accepted).0
