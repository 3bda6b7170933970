-- A record that refusals 6 to 9 do not meet is the record of the rule that it holds.
-- Assumes nothing.
use Rattle.std.specs.Prelude.{if◌then◌else◌}
use mathlib.Core.Path.{◌≡◌, refl, ap, ap₂, sym, subst, ◌∙◌}
use mathlib.Core.Bool.{Bool, true, false}
use mathlib.Core.List.{List, [], ◌∷◌, ◌++◌, map}
use Prim.Native.Nat.{ℕ, ◌+◌, ◌-◌, ◌*◌, ◌/◌, ◌%◌, ◌<◌, ◌≤◌}
use native.Mathlib.Omega.{arith}
use native.Mathlib.Decide.{ℕ_discrete, dec_lt}
use lib.Dec.{T, eqb}
use lib.ListN.{length, get_or, take, drop, length-map, length-take, length-drop, get_or-eq_default}
use lib.Seq.{ext_get_or}
use borrow.Author.Tests.{lt-ltb, le-ltb}
use Rattle.model.specs.Base.{total}
use Rattle.model.specs.Grammar.{Variable, Rule, Grammar, is_lexical}
use Rattle.model.specs.WellFormed.{named}
use Rattle.model.specs.GrammarFile.{all_zero, fields, field, daughters_of, has_daughters, word_of, dimension_in, lengths_of, variables, unused_bytes, unused_set, decoded, sequences, rule_of}
use Rattle.model.proofs.Tests.{not_off, every_left, every_right}
use Rattle.model.proofs.ByteLists.{zero_field, Bytes, two_again}
use Rattle.model.proofs.RuleFromRecord.{Tested, DimensionsIn, category_in, three, field_length, field_at, daughters_length, not_lexical, twelve, lengths_total, named_are}
use Rattle.grammar_to_file.specs.FileFor.{code_of, record_for}
use Rattle.grammar_to_file.proofs.Records.{long, at_daughter, at_length, at_variable, at_weight, from_5}

pub zero_split : (a b : List ℕ) → T (all_zero (a ++ b)) → T (all_zero a) × T (all_zero b)
zero_split a b t = (every_left (eqb 0) a b t, every_right (eqb 0) a b t)

code_list : (l : List ℕ) → map code_of (map decoded l) ≡ l
code_list [] = refl
code_list (x ∷ l) = ap₂ (λ (a : ℕ) (b : List ℕ). a ∷ b) (one x) (code_list l)
  where
    one : (x : ℕ) → 4 * (x / 4) + x % 4 ≡ x
    one x = omega arith

parts_lengths : (ls vs : List ℕ) → total ls ≤ length vs → map length (sequences ls vs) ≡ ls
parts_lengths [] vs h = refl
parts_lengths (n ∷ ls) vs h =
    ap₂ (λ (a : ℕ) (b : List ℕ). a ∷ b) (length-map (take n vs) decoded ∙ length-take n vs ∙ omega arith) (parts_lengths ls (drop n vs) (omega (arith, length-drop n vs)))

module _ (g : Grammar) (e : List ℕ) (tested : Tested g e) (dims : DimensionsIn g) (unused : unused_set g.dimensions e ≡ false) (bytes : Bytes e) where
  abbrev dimensions : List ℕ
  dimensions = g.dimensions

  abbrev n : ℕ
  n = field e 1

  abbrev rule : Rule
  rule = rule_of dimensions e

  few : n ≤ 3
  few = three g e tested

  pub zeros : T (all_zero (unused_bytes dimensions e))
  zeros = not_off (all_zero (unused_bytes dimensions e)) unused

  -- what stands in the daughters', lengths' and variables' places
  record Same : Type 0 where
    pub daughters : (p j : ℕ) → p ≡ 2 + j → j < 3 → get_or rule.daughters j 0 ≡ get_or e p 0
    pub lengths : (p j : ℕ) → p ≡ 7 + j → j < 4 → get_or (map length rule.components) j 0 ≡ get_or e p 0
    pub codes : (p j : ℕ) → p ≡ 11 + j → j < 12 → get_or (map code_of (named rule.components)) j 0 ≡ get_or e p 0

  -- at most k numbers stand there, the rest of the places is 0
  part : (l : List ℕ) (i k m : ℕ) → length l ≡ k → k ≤ m → i + m ≤ 24 → ((j : ℕ) → j < k → get_or l j 0 ≡ get_or e (i + j) 0) → ((p j : ℕ) → p ≡ i + k + j → j < m - k → get_or e p 0 ≡ 0)
      → (p j : ℕ) → p ≡ i + j → j < m → get_or l j 0 ≡ get_or e p 0
  part l i k m q a b there gap p j r h = go (dec_lt j k)
    where
      go : Dec (j < k) → get_or l j 0 ≡ get_or e p 0
      go (yes t) = there j t ∙ ap (λ (x : ℕ). get_or e x 0) (sym r)
      go (no t) = get_or-eq_default l 0 (omega arith) ∙ sym (gap p (j - k) (omega arith) (omega arith))

  with_daughters : 0 < n → Same
  with_daughters any = record { daughters = d; lengths = l; codes = c }
    where
      v : ℕ
      v = variables dimensions e

      m : ℕ
      m = dimension_in dimensions (field e 0)

      v12 : v ≤ 12
      v12 = twelve g e tested dims

      m4 : m ≤ 4
      m4 = (dims (field e 0) (category_in g e tested)).1

      has : has_daughters e ≡ true
      has = lt-ltb 0 n any

      all : T (all_zero (fields e (2 + n) (3 - n) ++ fields e 5 2 ++ fields e (7 + m) (4 - m) ++ fields e (11 + v) (12 - v)))
      all = subst (λ (t : Bool). T (all_zero (if t then fields e (2 + n) (3 - n) ++ fields e 5 2 ++ fields e (7 + m) (4 - m) ++ fields e (11 + v) (12 - v) else fields e 2 3 ++ fields e 7 16))) has zeros

      z_abc : T (all_zero (fields e (2 + n) (3 - n) ++ fields e 5 2 ++ fields e (7 + m) (4 - m)))
      z_abc = (zero_split (fields e (2 + n) (3 - n) ++ fields e 5 2 ++ fields e (7 + m) (4 - m)) (fields e (11 + v) (12 - v)) all).0

      z_d : T (all_zero (fields e (11 + v) (12 - v)))
      z_d = (zero_split (fields e (2 + n) (3 - n) ++ fields e 5 2 ++ fields e (7 + m) (4 - m)) (fields e (11 + v) (12 - v)) all).1

      z_c : T (all_zero (fields e (7 + m) (4 - m)))
      z_c = (zero_split (fields e (2 + n) (3 - n) ++ fields e 5 2) (fields e (7 + m) (4 - m)) z_abc).1

      z_a : T (all_zero (fields e (2 + n) (3 - n)))
      z_a = (zero_split (fields e (2 + n) (3 - n)) (fields e 5 2) (zero_split (fields e (2 + n) (3 - n) ++ fields e 5 2) (fields e (7 + m) (4 - m)) z_abc).0).0

      nonlexical : is_lexical rule ≡ false
      nonlexical = not_lexical g e tested any

      components : rule.components ≡ sequences (lengths_of dimensions e) (fields e 11 12)
      components = ap (λ (t : Bool). if t then sequences (lengths_of dimensions e) (fields e 11 12) else []) has

      lens : map length rule.components ≡ lengths_of dimensions e
      lens = ap (map length) components ∙ parts_lengths (lengths_of dimensions e) (fields e 11 12) (omega (arith, lengths_total g e tested dims any, twelve g e tested dims, field_length g e tested 11 12 (omega arith)))

      codes_are : map code_of (named rule.components) ≡ fields e 11 v
      codes_are = ap (map code_of) (named_are g e tested dims nonlexical) ∙ code_list (fields e 11 v)

      d : (p j : ℕ) → p ≡ 2 + j → j < 3 → get_or rule.daughters j 0 ≡ get_or e p 0
      d = part (daughters_of e) 2 n 3 (daughters_length g e tested) few (omega arith) (λ j h. field_at g e tested 2 n j h) (λ p j q h. zero_field e (2 + n) (3 - n) z_a p j q h)

      l : (p j : ℕ) → p ≡ 7 + j → j < 4 → get_or (map length rule.components) j 0 ≡ get_or e p 0
      l = part (map length rule.components) 7 m 4 (ap length lens ∙ field_length g e tested 7 m (omega (arith, m4))) m4 (omega arith) (λ j h. ap (λ (x : List ℕ). get_or x j 0) lens ∙ field_at g e tested 7 m j h) (λ p j q h. zero_field e (7 + m) (4 - m) z_c p j q h)

      c : (p j : ℕ) → p ≡ 11 + j → j < 12 → get_or (map code_of (named rule.components)) j 0 ≡ get_or e p 0
      c = part (map code_of (named rule.components)) 11 v 12 (ap length codes_are ∙ field_length g e tested 11 v (omega (arith, v12))) v12 (omega arith) (λ j h. ap (λ (x : List ℕ). get_or x j 0) codes_are ∙ field_at g e tested 11 v j h) (λ p j q h. zero_field e (11 + v) (12 - v) z_d p j q (omega (arith, v12)))

  without : n ≡ 0 → Same
  without nothing =
      record {
        daughters = λ p j q h. get_or-eq_default rule.daughters 0 (omega (arith, daughters_length g e tested)) ∙ sym (zero_field e 2 3 z_a p j q h);
        lengths = λ p j q h. ap (λ (x : List (List Variable)). get_or (map length x) j 0) components ∙ sym (zero_field e 7 16 z_b p j q (omega arith));
        codes = λ p j q h. ap (λ (x : List (List Variable)). get_or (map code_of (named x)) j 0) components ∙ sym (zero_field e 7 16 z_b p (4 + j) (omega arith) (omega arith));
      }
    where
      has_not : has_daughters e ≡ false
      has_not = le-ltb 0 n (omega arith)

      both : T (all_zero (fields e 2 3 ++ fields e 7 16))
      both =
          subst (λ (t : Bool). T (all_zero (if t then fields e (2 + n) (3 - n) ++ fields e 5 2 ++ fields e (7 + dimension_in dimensions (field e 0)) (4 - dimension_in dimensions (field e 0)) ++ fields e (11 + variables dimensions e) (12 - variables dimensions e) else fields e 2 3 ++ fields e 7 16))) has_not zeros

      z_a : T (all_zero (fields e 2 3))
      z_a = (zero_split (fields e 2 3) (fields e 7 16) both).0

      z_b : T (all_zero (fields e 7 16))
      z_b = (zero_split (fields e 2 3) (fields e 7 16) both).1

      components : rule.components ≡ []
      components = ap (λ (t : Bool). if t then sequences (lengths_of dimensions e) (fields e 11 12) else []) has_not

  same_bytes : Same
  same_bytes = go (ℕ_discrete n 0)
    where
      go : Dec (n ≡ 0) → Same
      go (yes q) = without q
      go (no q) = with_daughters (omega arith)

  pub record_again : record_for rule ≡ e
  record_again = ext_get_or 0 (record_for rule) e (long rule ∙ sym tested.long) (λ p h. at p (omega (arith, long rule)) (ℕ_discrete p 0) (ℕ_discrete p 1) (dec_lt p 5) (ℕ_discrete p 5) (ℕ_discrete p 6) (dec_lt p 11) (dec_lt p 23))
    where
      two : (word_of e % 256 ≡ field e 5) × (word_of e / 256 % 256 ≡ field e 6)
      two = two_again (field e 5) (field e 6) (word_of e) (bytes 5) (bytes 6) refl

      move : {x p : ℕ} → p ≡ x → get_or (record_for rule) x 0 ≡ get_or e x 0 → get_or (record_for rule) p 0 ≡ get_or e p 0
      move q h = subst (λ (z : ℕ). get_or (record_for rule) z 0 ≡ get_or e z 0) (sym q) h

      at : (p : ℕ) → p < 24 → Dec (p ≡ 0) → Dec (p ≡ 1) → Dec (p < 5) → Dec (p ≡ 5) → Dec (p ≡ 6) → Dec (p < 11) → Dec (p < 23) → get_or (record_for rule) p 0 ≡ get_or e p 0
      at p h (yes q) b c d f k m = move q refl
      at p h (no a) (yes q) c d f k m = move q (daughters_length g e tested)
      at p h (no a) (no b) (yes q) d f k m = at_daughter rule p (p - 2) (omega arith) (omega arith) ∙ same_bytes.daughters p (p - 2) (omega arith) (omega arith)
      at p h (no a) (no b) (no c) (yes q) f k m = move q (from_5 rule 5 0 refl (omega arith) ∙ two.0)
      at p h (no a) (no b) (no c) (no d) (yes q) k m = move q (from_5 rule 6 1 refl (omega arith) ∙ two.1)
      at p h (no a) (no b) (no c) (no d) (no f) (yes q) m = at_length rule p (p - 7) (omega arith) (omega arith) ∙ same_bytes.lengths p (p - 7) (omega arith) (omega arith)
      at p h (no a) (no b) (no c) (no d) (no f) (no k) (yes q) = at_variable rule p (p - 11) (omega arith) (omega arith) ∙ same_bytes.codes p (p - 11) (omega arith) (omega arith)
      at p h (no a) (no b) (no c) (no d) (no f) (no k) (no m) = move (omega arith) (at_weight rule 23 refl)
