-- The fields of a record are the parts of the rule that it holds: what the accessors give. Rule r below R is `rule_read` of the file (`rule_read_lem`,
-- model/proofs/FromFile), its category, its word and its weight are the fields as they stand, and it has as many daughters as the field says (`daughters_length`,
-- model/proofs/RuleFromRecord). Here: its daughters; its components, of which those that it lacks have length 0.
-- Assumes nothing.
use Rattle.std.specs.Prelude.{if◌then◌else◌}
use mathlib.Core.Path.{◌≡◌, refl, sym, ap, ap₂, ◌∙◌}
use mathlib.Core.Bool.{Bool}
use mathlib.Core.Option.{none}
use mathlib.Core.List.{List, [], ◌∷◌, ◌++◌, map}
use Prim.Native.Nat.{ℕ, zero, suc, ◌+◌, ◌-◌, ◌<◌, ◌≤◌}
use native.Mathlib.Omega.{arith}
use native.Mathlib.Decide.{dec_lt}
use borrow.Author.Tests.{lt-ltb, le-ltb}
use lib.Dec.{T, eqb}
use lib.ListN.{length, get_or, get_elem?, take, drop, get_or-eq_default}
use lib.Seq.{drop-drop}
use Rattle.model.specs.Base.{sum_below, numbers_from}
use Rattle.model.specs.Grammar.{Rule, rule_at, dimension}
use Rattle.model.specs.GrammarFile.{fields, field, all_zero, lengths_of, variables, dimension_in, dimensions_of, rules_of, record_of, unused_bytes, grammar_refusal, decoded, sequences, rule_of, grammar_of}
use Rattle.model.proofs.Tests.{not_off, every_left, every_right}
use Rattle.model.proofs.ByteLists.{zero_field}
use Rattle.model.proofs.Variables.{parts_length}
use Rattle.model.proofs.RuleFromRecord.{Tested, field_length, field_at, twelve, lengths_total}
use Rattle.model.proofs.FromFile.{rule_read, rule_passed, record_tested, dimensions_in, dimensions_four}
use Rattle.model.proofs.Sums.{sum_same, sum_first, sum_total}

-- no rule has a number from R on
made_none : (f : ℕ → Rule) (from n r : ℕ) → n ≤ r → get_elem? (map f (numbers_from from n)) r ≡ none
made_none f from zero r h = refl
made_none f from (suc n) zero h = let z : ⊥ = omega arith in absurd z
made_none f from (suc n) (suc r) h = made_none f (suc from) n r (omega arith)

pub rule_none : (file : List ℕ) (r : ℕ) → rules_of file ≤ r → rule_at (grammar_of file) r ≡ none
rule_none file r h = made_none (rule_read file) 0 (rules_of file) r h

-- component k of sequences of these lengths
sequence_at : (ls vs : List ℕ) (k : ℕ) → get_or (sequences ls vs) k [] ≡ map decoded (take (get_or ls k 0) (drop (sum_below (λ j. get_or ls j 0) k) vs))
sequence_at [] vs k = refl
sequence_at (n ∷ ls) vs zero = refl
sequence_at (n ∷ ls) vs (suc k) =
    sequence_at ls (drop n vs) k
    ∙ ap (λ (l : List ℕ). map decoded (take (get_or ls k 0) l))
    (drop-drop (sum_below (λ j. get_or ls j 0) k) n vs ∙ ap (λ (i : ℕ). drop i vs) (sym (sum_first (λ j. get_or (n ∷ ls) j 0) k)))

-- record r of a file that the reader accepts
module _ (file : List ℕ) (accepted : grammar_refusal file ≡ none) (r : ℕ) (here : r < rules_of file) where
  abbrev e : List ℕ
  e = record_of file r

  abbrev d : List ℕ
  d = dimensions_of file

  nothing_unused : T (all_zero (unused_bytes d e))
  nothing_unused = not_off (all_zero (unused_bytes d e)) (rule_passed file accepted r here).unused

  abbrev n : ℕ
  n = field e 1

  abbrev dim : ℕ
  dim = dimension_in d (field e 0)

  abbrev rule : Rule
  rule = rule_of d e

  -- the variables before component k
  abbrev before : ℕ → ℕ
  before k = sum_below (λ j. field e (7 + j)) k

  tested : Tested (grammar_of file) e
  tested = record_tested file accepted r here

  dim_four : dim ≤ 4
  dim_four = dimensions_four file accepted (field e 0)

  -- a length that the rule lacks
  length_lacking : 0 < n → (k : ℕ) → dim ≤ k → k < 4 → field e (7 + k) ≡ 0
  length_lacking h k a b =
      let A = fields e (2 + n) (3 - n) in
      let B = fields e 5 2 in
      let C = fields e (7 + dim) (4 - dim) in
      let D = fields e (11 + variables d e) (12 - variables d e) in
      let t : T (all_zero (A ++ B ++ C ++ D)) = rw (lt-ltb 0 n h) at nothing_unused in
      let u : T (all_zero C) = every_right (eqb 0) (A ++ B) C (every_left (eqb 0) (A ++ B ++ C) D t) in
      zero_field e (7 + dim) (4 - dim) u (7 + k) (k - dim) (omega arith) (omega arith)

  length_lexical : n ≡ 0 → (k : ℕ) → k < 4 → field e (7 + k) ≡ 0
  length_lexical h k b =
      let t : T (all_zero (fields e 2 3 ++ fields e 7 16)) = rw (le-ltb 0 n (omega arith)) at nothing_unused in
      zero_field e 7 16 (every_right (eqb 0) (fields e 2 3) (fields e 7 16) t) (7 + k) k refl (omega arith)

  length_at : 0 < n → (k : ℕ) → k < 4 → get_or (lengths_of d e) k 0 ≡ field e (7 + k)
  length_at h k b = go (dec_lt k dim)
    where
      go : Dec (k < dim) → get_or (lengths_of d e) k 0 ≡ field e (7 + k)
      go (yes l) = field_at (grammar_of file) e tested 7 dim k l
      go (no l) =
          get_or-eq_default (lengths_of d e) 0 {n = k} (omega (arith, field_length (grammar_of file) e tested 7 dim (omega (arith, dim_four))))
          ∙ sym (length_lacking h k (omega arith) b)

  before_is : 0 < n → (k : ℕ) → k ≤ 4 → sum_below (λ j. get_or (lengths_of d e) j 0) k ≡ before k
  before_is h k b = sum_same (λ j. get_or (lengths_of d e) j 0) (λ j. field e (7 + j)) k (λ j l. length_at h j (omega arith))

  before_lexical : n ≡ 0 → (k : ℕ) → k ≤ 4 → before k ≡ 0
  before_lexical h zero b = refl
  before_lexical h (suc k) b = omega (arith, before_lexical h k (omega arith), length_lexical h k (omega arith))

  adds_up : 0 < n → before 4 ≡ variables d e
  adds_up h =
      sym (before_is h 4 (omega arith)) ∙ sum_total (lengths_of d e) 4 (omega (arith, field_length (grammar_of file) e tested 7 dim (omega (arith, dim_four)), dim_four))
      ∙ lengths_total (grammar_of file) e tested (dimensions_in file accepted) h

  -- a record has room for 12 variables
  pub before_twelve : before 4 ≤ 12
  before_twelve = go (dec_lt 0 n)
    where
      go : Dec (0 < n) → before 4 ≤ 12
      go (yes h) = omega (arith, adds_up h, twelve (grammar_of file) e tested (dimensions_in file accepted))
      go (no h) = omega (arith, before_lexical (omega arith) 4 (omega arith))

  -- component k: the part of its length behind the components before it
  pub component_at : (k : ℕ) → k < 4 → get_or rule.components k [] ≡ map decoded (take (field e (7 + k)) (drop (before k) (fields e 11 12)))
  component_at k b = go (dec_lt 0 n)
    where
      go : Dec (0 < n) → get_or rule.components k [] ≡ map decoded (take (field e (7 + k)) (drop (before k) (fields e 11 12)))
      go (yes h) =
          ap (λ (t : Bool). get_or (if t then sequences (lengths_of d e) (fields e 11 12) else []) k []) (lt-ltb 0 n h)
          ∙ sequence_at (lengths_of d e) (fields e 11 12) k
          ∙ ap₂ (λ (a l : ℕ). map decoded (take l (drop a (fields e 11 12)))) (before_is h k (omega arith)) (length_at h k b)
      go (no h) =
          ap (λ (t : Bool). get_or (if t then sequences (lengths_of d e) (fields e 11 12) else []) k []) (le-ltb 0 n (omega arith))
          ∙ sym (ap (λ (l : ℕ). map decoded (take l (drop (before k) (fields e 11 12)))) (length_lexical (omega arith) k b))

  pub daughter_is : (j : ℕ) → j < field (record_of file r) 1 → get_or (rule_read file r).daughters j 0 ≡ field (record_of file r) (2 + j)
  daughter_is j h = field_at (grammar_of file) e tested 2 n j h

  -- a nonlexical rule has as many components as its category has
  pub components_are : 0 < field (record_of file r) 1 → length (rule_read file r).components ≡ dimension (grammar_of file) (field (record_of file r) 0)
  components_are h =
      ap (λ (t : Bool). length (if t then sequences (lengths_of d e) (fields e 11 12) else [])) (lt-ltb 0 n h)
      ∙ parts_length (lengths_of d e) (fields e 11 12) ∙ field_length (grammar_of file) e tested 7 dim (omega (arith, dim_four))
