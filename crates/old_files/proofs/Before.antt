-- What follows for a file that document 01 accepted: its weights are 0, its grammar is the one that document 01 reads, and paper 1 did not refuse it.
-- Assumes nothing.
use Rattle.std.specs.Prelude.{if◌then◌else◌}
use mathlib.Core.Path.{◌≡◌, refl, sym, ap, ap₂, subst, ◌∙◌}
use mathlib.Core.Bool.{Bool, true, false}
use mathlib.Core.List.{List, ◌∷◌, ◌++◌, map}
use mathlib.Core.Option.{none}
use Prim.Native.Nat.{ℕ, zero, suc, ◌+◌, ◌-◌, ◌<◌, ◌≤◌}
use native.Mathlib.Omega.{arith}
use native.Mathlib.Decide.{dec_lt}
use lib.Dec.{T, eqb}
use lib.ListN.{length, get_or}
use lib.Seq.{ext_get_or}
use Rattle.model.specs.Base.{first_from, numbers_from, same_list}
use Rattle.model.specs.Grammar.{Rule}
use Rattle.model.specs.GrammarFile.{all_zero, fields, field, has_daughters, dimension_in, variables, weight_of, start_of, rules_of, words_of, dimensions_of, record_of, same_record, unused_bytes, grammar_of}
use Rattle.model.proofs.Tests.{not_both, passes as on, fails, not_off, on_not, none_at, any_none, none_by, list_same, same_list_lem, every_left, every_right, every_both, first_same}
use Rattle.model.proofs.ByteLists.{fields_length, fields_at, zeros_by, zero_field}
use Rattle.model.proofs.RuleFromRecord.{twelve}
use Rattle.model.proofs.FromFile.{rule_read}
use Rattle.old_files.specs.OldFiles.{unused_bytes_before, unused_set_before, repeated_before, repeated_between, rule_refusal_before, rule_refusal_between, file_tests, grammar_refusal_before, grammar_refusal_between, rule_before, grammar_before}
use Rattle.old_files.proofs.Passed.{FilePassed, file_passed, RulePassed, rule_passed}

-- where k + 1 bytes from byte i on are 0, the first k are, and the last is
last_zero : (e : List ℕ) (i n k : ℕ) → n ≡ suc k → i + n ≤ length e → T (all_zero (fields e i n)) → T (all_zero (fields e i k)) × (get_or e (i + k) 0 ≡ 0)
last_zero e i n k q h t = (
  zeros_by (fields e i k) (λ j l.
      let b : j < k = omega (arith, fields_length e i k (omega arith)) in
      fields_at e i k j b ∙ zero_field e i n t (i + j) j refl (omega arith)),
  zero_field e i n t (i + k) k refl (omega arith),
)

-- records without weights whose bytes 0 to 22 are the same are the same
same_whole : (a b : List ℕ) → length a ≡ 24 → length b ≡ 24 → weight_of a ≡ 0 → weight_of b ≡ 0 → T (same_record a b) → a ≡ b
same_whole a b la lb wa wb t = ext_get_or 0 a b (la ∙ sym lb) (λ k h. go k (omega arith) (dec_lt k 23))
  where
    front : (x : List ℕ) (k : ℕ) → k < 23 → get_or (fields x 0 23) k 0 ≡ get_or x k 0
    front x k l = fields_at x 0 23 k l ∙ ap (λ (j : ℕ). get_or x j 0) (omega arith)

    go : (k : ℕ) → k < 24 → Dec (k < 23) → get_or a k 0 ≡ get_or b k 0
    go k h (yes l) = sym (front a k l) ∙ ap (λ (x : List ℕ). get_or x k 0) (same_list_lem (fields a 0 23) (fields b 0 23) t) ∙ front b k l
    go k h (no l) =
        let q : k ≡ 23 = omega arith in
        ap (λ (j : ℕ). get_or a j 0) q ∙ wa ∙ sym (ap (λ (j : ℕ). get_or b j 0) q ∙ wb)

-- rules that are the same at each number
map_same : (f g : ℕ → Rule) (from n : ℕ) → ((k : ℕ) → from ≤ k → k < from + n → f k ≡ g k) → map f (numbers_from from n) ≡ map g (numbers_from from n)
map_same f g from zero h = refl
map_same f g from (suc n) h =
    ap₂ (λ (x : Rule) (l : List Rule). x ∷ l) (h from (omega arith) (omega arith)) (map_same f g (suc from) n (λ k lo hi. h k (omega arith) (omega arith)))

module _ (file : List ℕ) (before : grammar_refusal_before file ≡ none) where
  abbrev d : List ℕ
  d = dimensions_of file

  abbrev e : ℕ → List ℕ
  e i = record_of file i

  passed : FilePassed file (first_from (rule_refusal_before file) 0 (rules_of file))
  passed = file_passed file (first_from (rule_refusal_before file) 0 (rules_of file)) before

  rule_tests : (i : ℕ) → i < rules_of file → RulePassed file i (unused_set_before d (e i)) (repeated_before (record_of file) i)
  rule_tests = rule_passed file (λ k. unused_set_before d (e k)) (repeated_before (record_of file)) before

  -- byte 23 was the last of the unused bytes
  pub unused : (i : ℕ) → i < rules_of file → T (all_zero (unused_bytes d (e i))) × (weight_of (e i) ≡ 0)
  unused i here = go (has_daughters (e i)) (not_off (all_zero (unused_bytes_before d (e i))) (rule_tests i here).nine)
    where
      v : ℕ
      v = variables d (e i)

      m : ℕ
      m = dimension_in d (field (e i) 0)

      front : List ℕ
      front = fields (e i) (2 + field (e i) 1) (3 - field (e i) 1) ++ fields (e i) 5 2 ++ fields (e i) (7 + m) (4 - m)

      few : v ≤ 12
      few = twelve (grammar_of file) (e i) (rule_tests i here).tested passed.dimensions

      long : length (e i) ≡ 24
      long = (rule_tests i here).tested.long

      weight_at : (p : ℕ) → p ≡ 23 → get_or (e i) p 0 ≡ 0 → weight_of (e i) ≡ 0
      weight_at p q z = ap (λ (x : ℕ). get_or (e i) x 0) (sym q) ∙ z

      go : (b : Bool) → T (all_zero (if b then front ++ fields (e i) (11 + v) (13 - v) else fields (e i) 2 3 ++ fields (e i) 7 17))
          → T (all_zero (if b then front ++ fields (e i) (11 + v) (12 - v) else fields (e i) 2 3 ++ fields (e i) 7 16)) × (weight_of (e i) ≡ 0)
      go true t =
          let l = last_zero (e i) (11 + v) (13 - v) (12 - v) (omega (arith, few)) (omega (arith, few, long)) (every_right (eqb 0) front (fields (e i) (11 + v) (13 - v)) t) in (
            every_both (eqb 0) front (fields (e i) (11 + v) (12 - v)) (every_left (eqb 0) front (fields (e i) (11 + v) (13 - v)) t) l.0,
            weight_at (11 + v + (12 - v)) (omega (arith, few)) l.1,
          )
      go false t =
          let l = last_zero (e i) 7 17 16 (omega arith) (omega (arith, long)) (every_right (eqb 0) (fields (e i) 2 3) (fields (e i) 7 17) t) in (
            every_both (eqb 0) (fields (e i) 2 3) (fields (e i) 7 16) (every_left (eqb 0) (fields (e i) 2 3) (fields (e i) 7 17) t) l.0,
            weight_at (7 + 16) (omega arith) l.1,
          )

  pub same_grammar : grammar_of file ≡ grammar_before file
  same_grammar =
      let r = map_same (rule_read file) (λ i. rule_before d (e i)) 0 (rules_of file) (λ k lo hi. same_rule_lem k (unused k (omega arith)).1) in
      λ i. record { start = start_of file; words = words_of file; dimensions = d; rules = r i }
    where
      same_rule_lem : (k : ℕ) → weight_of (e k) ≡ 0 → rule_read file k ≡ rule_before d (e k)
      same_rule_lem k w =
          let rule = rule_read file k in
          λ i. record { category = rule.category; daughters = rule.daughters; word = rule.word; components = rule.components; weight = w i }

  -- records that differ differ in another byte than 23
  apart : (i : ℕ) → i < rules_of file → repeated_between (record_of file) i ≡ false
  apart i h =
      none_by (λ j. same_record (e j) (e i)) i
      (λ j l. fails (same_record (e j) (e i))
      (λ t. not_both (sym (on (same_list (e j) (e i)) (equal j l t)) ∙ any_none (λ k. same_list (e k) (e i)) i (rule_tests i h).ten j l)))
    where
      equal : (j : ℕ) → j < i → T (same_record (e j) (e i)) → T (same_list (e j) (e i))
      equal j l t =
          let hj : j < rules_of file = omega arith in
          let q = same_whole (e j) (e i) (rule_tests j hj).tested.long (rule_tests i h).tested.long (unused j hj).1 (unused i h).1 t in
          subst (λ (x : List ℕ). T (same_list (e j) x)) q (list_same (e j))

  -- paper 1 did not refuse it
  rule_between : (i : ℕ) → i < rules_of file → rule_refusal_between file i ≡ none
  rule_between i h =
      let t = (rule_tests i h).tested in
      rw (t.category, t.word, t.variables, on_not (all_zero (unused_bytes d (e i))) (unused i h).0, apart i h)

  pub accepted_between : grammar_refusal_between file ≡ none
  accepted_between =
      ap (file_tests file)
      (first_same (rule_refusal_between file) (rule_refusal_before file) 0 (rules_of file)
      (λ k lo hi. rule_between k (omega arith) ∙ sym (none_at (rule_refusal_before file) 0 (rules_of file) passed.rules_none k lo hi)))
      ∙ before
