-- What the reader's tests of a file say when they pass, each by itself.
-- Assumes nothing.
use Rattle.std.specs.Prelude.{if◌then◌else◌}
use mathlib.Core.Path.{◌≡◌, refl, sym, ap, ◌∙◌}
use mathlib.Core.Bool.{Bool, false, ◌&&◌, not}
use mathlib.Core.Option.{Option, none}
use mathlib.Core.List.{List}
use Prim.Native.Nat.{ℕ, suc, ◌+◌, ◌-◌, ◌*◌, ◌%◌, ◌<◌, ◌≤◌}
use native.Mathlib.Omega.{arith}
use native.Mathlib.Decide.{dec_lt}
use borrow.Author.Tests.{lt-ltb, le-ltb}
use lib.Dec.{T, ltb, eqb, eqb→eq, ltb→lt}
use lib.ListN.{length, get_or}
use Rattle.model.specs.declared.Refusal.{Refusal}
use Rattle.model.specs.Base.{◌or_else◌, first_from, every}
use Rattle.model.specs.Verdict.{refuse_if}
use Rattle.model.specs.GrammarFile.{within, all_zero, fields, blocks, byte_of, two_bytes, four_bytes, check_of, categories_of, start_of, words_of, rules_of, dimensions_of, dimension_in, blocks_for, records_in, record_place, record_of, rule_refusal, wrong_length, wrong_check, wrong_block, wrong_heading, wrong_blocks, wrong_count, wrong_rest, grammar_refusal}
use Rattle.model.proofs.Tests.{no_refusal, first_of, rest_of, not_off, and_l, and_r, within_low, none_at}
use Rattle.model.proofs.ByteLists.{fields_length, fields_at, zeros_at}

-- how many records a rule block holds
pub records_few : (rules k : ℕ) → records_in rules (suc k) ≤ 21
records_few rules k = go (dec_lt (21 * suc k) rules)
  where
    go : Dec (21 * suc k < rules) → records_in rules (suc k) ≤ 21
    go (yes l) = rw (lt-ltb (21 * suc k) rules l) (omega arith)
    go (no l) = rw (le-ltb (21 * suc k) rules (omega arith)) (omega arith)

pub records_last : (rules k : ℕ) → rules ≤ 21 * k → records_in rules k ≡ rules - 21 * (k - 1)
records_last rules k h = rw (le-ltb (21 * k) rules h)

-- the heading's tests
pub record RightHeading (file : List ℕ) : Type 0 where
  pub categories : (1 ≤ categories_of file) × (categories_of file ≤ 64)
  pub words : (1 ≤ words_of file) × (words_of file ≤ 4096)
  pub rules : (1 ≤ rules_of file) × (rules_of file ≤ 256)
  pub dimensions : T (every (within 1 4) (dimensions_of file))
  pub start_category : start_of file < categories_of file
  pub start_alone : dimension_in (dimensions_of file) (start_of file) ≡ 1
  pub unused : T (all_zero (fields file 9 7))
  pub rest : T (all_zero (fields file (16 + categories_of file) (508 - (16 + categories_of file))))

eight : (a b c d e f g h : Bool) → T (a && b && c && d && e && f && g && h) → T a × T b × T c × T d × T e × T f × T g × T h
eight a b c d e f g h t₈ =
    let t₇ = and_l (a && b && c && d && e && f && g) h t₈ in
    let t₆ = and_l (a && b && c && d && e && f) g t₇ in
    let t₅ = and_l (a && b && c && d && e) f t₆ in
    let t₄ = and_l (a && b && c && d) e t₅ in
    let t₃ = and_l (a && b && c) d t₄ in
    let t₂ = and_l (a && b) c t₃ in (
      and_l a b t₂,
      and_r a b t₂,
      and_r (a && b) c t₃,
      and_r (a && b && c) d t₄,
      and_r (a && b && c && d) e t₅,
      and_r (a && b && c && d && e) f t₆,
      and_r (a && b && c && d && e && f) g t₇,
      and_r (a && b && c && d && e && f && g) h t₈,
    )

pub right_heading : (file : List ℕ) → wrong_heading file ≡ false → RightHeading file
right_heading file e =
    let c = categories_of file in
    let d = dimension_in (dimensions_of file) (start_of file) in
    let unused = all_zero (fields file 9 7) in
    let rest = all_zero (fields file (16 + c) (508 - (16 + c))) in
    let tests = within 1 64 c && within 1 4096 (words_of file) && within 1 256 (rules_of file) && every (within 1 4) (dimensions_of file) && ltb (start_of file) c && eqb d 1 && unused && rest in
    let t = eight (within 1 64 c) (within 1 4096 (words_of file)) (within 1 256 (rules_of file)) (every (within 1 4) (dimensions_of file)) (ltb (start_of file) c) (eqb d 1) unused rest (not_off tests e) in
    record {
      categories = within_low 1 64 c t.0;
      words = within_low 1 4096 (words_of file) t.1;
      rules = within_low 1 256 (rules_of file) t.2;
      dimensions = t.3;
      start_category = ltb→lt (start_of file) c t.4;
      start_alone = eqb→eq d 1 t.5;
      unused = t.6;
      rest = t.7;
    }

-- tests joined by `or_else`
pub eight_none : (a b c d e f g h : Option Refusal) → a or_else b or_else c or_else d or_else e or_else f or_else g or_else h ≡ none
    → (a ≡ none) × (b ≡ none) × (c ≡ none) × (d ≡ none) × (e ≡ none) × (f ≡ none) × (g ≡ none) × (h ≡ none)
eight_none a b c d e f g h r₁ =
    let r₂ = rest_of a (b or_else c or_else d or_else e or_else f or_else g or_else h) r₁ in
    let r₃ = rest_of b (c or_else d or_else e or_else f or_else g or_else h) r₂ in
    let r₄ = rest_of c (d or_else e or_else f or_else g or_else h) r₃ in
    let r₅ = rest_of d (e or_else f or_else g or_else h) r₄ in
    let r₆ = rest_of e (f or_else g or_else h) r₅ in
    let r₇ = rest_of f (g or_else h) r₆ in (
      first_of a (b or_else c or_else d or_else e or_else f or_else g or_else h) r₁,
      first_of b (c or_else d or_else e or_else f or_else g or_else h) r₂,
      first_of c (d or_else e or_else f or_else g or_else h) r₃,
      first_of d (e or_else f or_else g or_else h) r₄,
      first_of e (f or_else g or_else h) r₅,
      first_of f (g or_else h) r₆,
      first_of g h r₇,
      rest_of g h r₇,
    )

pub five_none : (a b c d e : Option Refusal) → a or_else b or_else c or_else d or_else e ≡ none → (a ≡ none) × (b ≡ none) × (c ≡ none) × (d ≡ none) × (e ≡ none)
five_none a b c d e r₁ =
    let r₂ = rest_of a (b or_else c or_else d or_else e) r₁ in
    let r₃ = rest_of b (c or_else d or_else e) r₂ in
    let r₄ = rest_of c (d or_else e) r₃ in (
      first_of a (b or_else c or_else d or_else e) r₁,
      first_of b (c or_else d or_else e) r₂,
      first_of c (d or_else e) r₃,
      first_of d e r₄,
      rest_of d e r₄,
    )

-- refusals 1 and 5: as many blocks as the rules need, and nothing else
enough_blocks : (file : List ℕ) → wrong_blocks file ≡ false → blocks file ≡ blocks_for (rules_of file)
enough_blocks file e = eqb→eq (blocks file) (blocks_for (rules_of file)) (not_off (eqb (blocks file) (blocks_for (rules_of file))) e)

pub whole_blocks : (file : List ℕ) → wrong_length file ≡ false → wrong_blocks file ≡ false → length file ≡ 512 * blocks_for (rules_of file)
whole_blocks file e f =
    let t = not_off (eqb (length file % 512) 0 && within 1 14 (blocks file)) e in
    omega (arith, enough_blocks file f, eqb→eq (length file % 512) 0 (and_l (eqb (length file % 512) 0) (within 1 14 (blocks file)) t))

-- all tests of the reader
pub record Passed (file : List ℕ) : Type 0 where
  pub long : length file ≡ 512 * blocks_for (rules_of file)
  pub check : (k : ℕ) → k < blocks_for (rules_of file) → check_of file k ≡ four_bytes file k 508
  pub number : (k : ℕ) → k < blocks_for (rules_of file) → two_bytes file k 0 ≡ k
  pub kind : (k : ℕ) → k < blocks_for (rules_of file) → byte_of file k 2 ≡ (if eqb k 0 then 1 else 2)
  pub heading : RightHeading file
  pub count : (k : ℕ) → 1 ≤ k → k < blocks_for (rules_of file) → byte_of file k 3 ≡ records_in (rules_of file) k
  pub rule : (i : ℕ) → i < rules_of file → rule_refusal file i ≡ none
  pub rest : (k j : ℕ) → 1 ≤ k → k < blocks_for (rules_of file) → j < 504 → 24 * rules_of file ≤ 504 * (k - 1) + j → byte_of file k (4 + j) ≡ 0

module _ (file : List ℕ) (accepted : grammar_refusal file ≡ none) where
  -- the tests, one after the other
  abbrev c₁ : Option Refusal
  c₁ = refuse_if (wrong_length file) (Refusal.Grammar 1 0)

  abbrev c₂ : Option Refusal
  c₂ = first_from (λ k. refuse_if (wrong_check file k) (Refusal.Grammar 2 k)) 0 (blocks file)

  abbrev c₃ : Option Refusal
  c₃ = first_from (λ k. refuse_if (wrong_block file k) (Refusal.Grammar 3 k)) 0 (blocks file)

  abbrev c₄ : Option Refusal
  c₄ = refuse_if (wrong_heading file) (Refusal.Grammar 4 0)

  abbrev c₅ : Option Refusal
  c₅ = refuse_if (wrong_blocks file) (Refusal.Grammar 5 0)

  abbrev c₆ : Option Refusal
  c₆ = first_from (λ k. refuse_if (wrong_count file k) (Refusal.Grammar 5 k)) 1 (blocks file - 1)

  abbrev c₇ : Option Refusal
  c₇ = first_from (rule_refusal file) 0 (rules_of file)

  abbrev c₈ : Option Refusal
  c₈ = refuse_if (wrong_rest file) (Refusal.Grammar 9 (rules_of file))

  tests : (c₁ ≡ none) × (c₂ ≡ none) × (c₃ ≡ none) × (c₄ ≡ none) × (c₅ ≡ none) × (c₆ ≡ none) × (c₇ ≡ none) × (c₈ ≡ none)
  tests = eight_none c₁ c₂ c₃ c₄ c₅ c₆ c₇ c₈ accepted

  block_count : blocks file ≡ blocks_for (rules_of file)
  block_count = enough_blocks file (no_refusal (wrong_blocks file) (Refusal.Grammar 5 0) tests.4)

  right_check : (k : ℕ) → k < blocks_for (rules_of file) → check_of file k ≡ four_bytes file k 508
  right_check k h =
      eqb→eq (check_of file k) (four_bytes file k 508)
      (not_off (eqb (check_of file k) (four_bytes file k 508))
      (no_refusal (wrong_check file k) (Refusal.Grammar 2 k)
      (none_at (λ k. refuse_if (wrong_check file k) (Refusal.Grammar 2 k)) 0 (blocks file) tests.1 k (omega arith) (omega (arith, block_count)))))

  right_block : (k : ℕ) → k < blocks_for (rules_of file) → T (eqb (two_bytes file k 0) k && eqb (byte_of file k 2) (if eqb k 0 then 1 else 2))
  right_block k h =
      not_off (eqb (two_bytes file k 0) k && eqb (byte_of file k 2) (if eqb k 0 then 1 else 2))
      (no_refusal (wrong_block file k) (Refusal.Grammar 3 k)
      (none_at (λ k. refuse_if (wrong_block file k) (Refusal.Grammar 3 k)) 0 (blocks file) tests.2 k (omega arith) (omega (arith, block_count))))

  right_count : (k : ℕ) → 1 ≤ k → k < blocks_for (rules_of file) → byte_of file k 3 ≡ records_in (rules_of file) k
  right_count k one h =
      eqb→eq (byte_of file k 3) (records_in (rules_of file) k)
      (not_off (eqb (byte_of file k 3) (records_in (rules_of file) k))
      (no_refusal (wrong_count file k) (Refusal.Grammar 5 k)
      (none_at (λ k. refuse_if (wrong_count file k) (Refusal.Grammar 5 k)) 1 (blocks file - 1) tests.5 k one (omega (arith, block_count)))))

  -- past the last record there are zeros
  right_rest : (k j : ℕ) → 1 ≤ k → k < blocks_for (rules_of file) → j < 504 → 24 * rules_of file ≤ 504 * (k - 1) + j → byte_of file k (4 + j) ≡ 0
  right_rest k j one h hj past = go (blocks file - 1) (byte_of file (blocks file - 1) 3) (omega (arith, block_count)) refl (no_refusal (wrong_rest file) (Refusal.Grammar 9 (rules_of file)) tests.7)
    where
      go : (l n : ℕ) → l ≡ k → n ≡ byte_of file l 3 → not (all_zero (fields file (512 * l + (4 + 24 * n)) (508 - (4 + 24 * n)))) ≡ false → byte_of file k (4 + j) ≡ 0
      go l n last e off =
          let held : n ≡ rules_of file - 21 * (k - 1) = e ∙ ap (λ (x : ℕ). byte_of file x 3) last ∙ right_count k one h ∙ records_last (rules_of file) k (omega arith) in
          ap (λ (p : ℕ). get_or file p 0) (omega arith)
          ∙ sym (fields_at file (512 * l + (4 + 24 * n)) (508 - (4 + 24 * n)) (j - 24 * n) (omega arith))
          ∙ zeros_at (fields file (512 * l + (4 + 24 * n)) (508 - (4 + 24 * n)))
          (not_off (all_zero (fields file (512 * l + (4 + 24 * n)) (508 - (4 + 24 * n)))) off) (j - 24 * n)

  pub passed : Passed file
  passed =
      record {
        long = whole_blocks file (no_refusal (wrong_length file) (Refusal.Grammar 1 0) tests.0) (no_refusal (wrong_blocks file) (Refusal.Grammar 5 0) tests.4);
        check = right_check;
        number = λ k h. eqb→eq (two_bytes file k 0) k (and_l (eqb (two_bytes file k 0) k) (eqb (byte_of file k 2) (if eqb k 0 then 1 else 2)) (right_block k h));
        kind = λ k h. eqb→eq (byte_of file k 2) (if eqb k 0 then 1 else 2) (and_r (eqb (two_bytes file k 0) k) (eqb (byte_of file k 2) (if eqb k 0 then 1 else 2)) (right_block k h));
        heading = right_heading file (no_refusal (wrong_heading file) (Refusal.Grammar 4 0) tests.3);
        count = right_count;
        rule = λ i h. none_at (rule_refusal file) 0 (rules_of file) tests.6 i (omega arith) (omega arith);
        rest = right_rest;
      }

pub record_long : (file : List ℕ) → length file ≡ 512 * blocks_for (rules_of file) → (i : ℕ) → i < rules_of file → length (record_of file i) ≡ 24
record_long file long i h = fields_length file (record_place i) 24 (omega (arith, long))
