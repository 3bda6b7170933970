-- What 6 to 9 say of the bytes of a record that none of them meets: which of them are in use, and that all others are 0.
-- Assumes nothing.
use Rattle.std.specs.Prelude.{if◌then◌else◌}
use mathlib.Core.Path.{◌≡◌, sym, subst, ◌∙◌}
use mathlib.Core.Bool.{true, false}
use mathlib.Core.List.{List, ◌++◌, map, Memᴰ}
use Prim.Native.Nat.{ℕ, ◌+◌, ◌-◌, ◌/◌, ◌<◌, ◌≤◌}
use native.Mathlib.Omega.{arith}
use native.Mathlib.Decide.{dec_lt}
use borrow.Author.Tests.{lt-ltb, le-ltb}
use lib.Dec.{T, eqb}
use lib.ListN.{length, get_or, drop}
use lib.Seq.{get_or-drop}
use Rattle.model.specs.Base.{total}
use Rattle.model.specs.Grammar.{Grammar, Variable, is_lexical}
use Rattle.model.specs.GrammarFile.{all_zero, fields, field, has_daughters, dimension_in, daughters_of, variables, unused_bytes, decoded, sequences, rule_of}
use Rattle.model.specs.WellFormed.{named}
use Rattle.model.proofs.Tests.{not_off, every_left, every_right}
use Rattle.model.proofs.Lists.{mem_get_d, map_in}
use Rattle.model.proofs.Perm.{perm_mem}
use Rattle.model.proofs.Variables.{vars_out}
use Rattle.model.proofs.ByteLists.{fields_length, fields_at, zero_field}
use Rattle.model.proofs.RuleFromRecord.{Tested, DimensionsIn, three, category_in, daughters_length, not_lexical, twelve as variables-twelve, lengths_total, named_are, rule_right}
use Rattle.doubles.specs.Doubles.{Passes}
use Rattle.doubles.proofs.Sequences.{total_front}

-- how many components a record has: those of a rule with daughters
abbrev pub parts : List ℕ → List ℕ → ℕ
parts dimensions e = if has_daughters e then dimension_in dimensions (field e 0) else 0

-- how many variables its lengths count
abbrev pub counted : List ℕ → ℕ
counted e = total (fields e 7 4)

pub record Shape (dimensions e : List ℕ) : Type 0 where
  pub long : length e ≡ 24
  pub few : field e 1 ≤ 3
  pub parts_few : parts dimensions e ≤ 4
  pub variables_few : counted e ≤ 12
  pub no_daughter : (i : ℕ) → field e 1 ≤ i → i < 3 → field e (2 + i) ≡ 0
  pub no_part : (i : ℕ) → parts dimensions e ≤ i → i < 4 → field e (7 + i) ≡ 0
  pub no_variable : (k : ℕ) → counted e ≤ k → k < 12 → field e (11 + k) ≡ 0
  pub in_range : (k : ℕ) → k < counted e → field e (11 + k) / 4 < field e 1
  pub components_are : (rule_of dimensions e).components ≡ sequences (fields e 7 (parts dimensions e)) (fields e 11 12)

-- byte p of a part that is 0
zero_in : (e : List ℕ) (i n p : ℕ) → T (all_zero (fields e i n)) → i ≤ p → p < i + n → field e p ≡ 0
zero_in e i n p t lo hi = zero_field e i n t p (p - i) (omega arith) (omega arith)

module _ (g : Grammar) (dimensions_in : DimensionsIn g) (e : List ℕ) (passes : Passes g e) where
  abbrev d : List ℕ
  d = g.dimensions

  tested : Tested g e
  tested = record { long = passes.long; category = passes.category; word = passes.word; variables = passes.variables }

  abbrev n : ℕ
  n = field e 1

  abbrev m : ℕ
  m = dimension_in d (field e 0)

  m_four : m ≤ 4
  m_four = (dimensions_in (field e 0) (category_in g e tested)).1

  zeros : T (all_zero (unused_bytes d e))
  zeros = not_off (all_zero (unused_bytes d e)) passes.unused

  -- of a lexical rule
  lexical_shape : n ≡ 0 → Shape d e
  lexical_shape none =
      let off : has_daughters e ≡ false = le-ltb 0 n (omega arith) in
      let z : T (all_zero (fields e 2 3 ++ fields e 7 16)) = rw off at zeros in
      let front = every_left (eqb 0) (fields e 2 3) (fields e 7 16) z in
      let rest = every_right (eqb 0) (fields e 2 3) (fields e 7 16) z in
      let p : parts d e ≡ 0 = rw off in
      let c : counted e ≡ 0 = sym (total_front (drop 7 e) 0 4 (omega arith) (λ i lo hi. get_or-drop 7 e i 0 ∙ zero_in e 7 16 (7 + i) rest (omega arith) (omega arith))) in
      record {
        long = passes.long;
        few = three g e tested;
        parts_few = omega (arith, p);
        variables_few = omega (arith, c);
        no_daughter = λ i lo hi. zero_in e 2 3 (2 + i) front (omega arith) (omega arith);
        no_part = λ i lo hi. zero_in e 7 16 (7 + i) rest (omega arith) (omega arith);
        no_variable = λ k lo hi. zero_in e 7 16 (11 + k) rest (omega arith) (omega arith);
        in_range = λ k h. let z : ⊥ = omega (arith, c) in absurd z;
        components_are = rw off;
      }

  -- of a rule with daughters
  nonlexical_shape : 0 < n → Shape d e
  nonlexical_shape some =
      let on : has_daughters e ≡ true = lt-ltb 0 n some in
      let v = variables d e in
      let z : T (all_zero (fields e (2 + n) (3 - n) ++ fields e 5 2 ++ fields e (7 + m) (4 - m) ++ fields e (11 + v) (12 - v))) = rw on at zeros in
      let no-variables = every_right (eqb 0) (fields e (2 + n) (3 - n) ++ fields e 5 2 ++ fields e (7 + m) (4 - m)) (fields e (11 + v) (12 - v)) z in
      let front = every_left (eqb 0) (fields e (2 + n) (3 - n) ++ fields e 5 2 ++ fields e (7 + m) (4 - m)) (fields e (11 + v) (12 - v)) z in
      let no_lengths = every_right (eqb 0) (fields e (2 + n) (3 - n) ++ fields e 5 2) (fields e (7 + m) (4 - m)) front in
      let no_daughters =
      every_left (eqb 0) (fields e (2 + n) (3 - n)) (fields e 5 2) (every_left (eqb 0) (fields e (2 + n) (3 - n) ++ fields e 5 2) (fields e (7 + m) (4 - m)) front) in
      let p : parts d e ≡ m = rw on in
      let part : (i : ℕ) → m ≤ i → i < 4 → field e (7 + i) ≡ 0 = λ i lo hi. zero_in e (7 + m) (4 - m) (7 + i) no_lengths (omega arith) (omega (arith, m_four)) in
      let c : counted e ≡ v = sym (total_front (drop 7 e) m 4 m_four (λ i lo hi. get_or-drop 7 e i 0 ∙ part i lo hi)) ∙ lengths_total g e tested dimensions_in some in
      record {
        long = passes.long;
        few = three g e tested;
        parts_few = omega (arith, p, m_four);
        variables_few = omega (arith, c, variables-twelve g e tested dimensions_in);
        no_daughter = λ i lo hi. zero_in e (2 + n) (3 - n) (2 + i) no_daughters (omega arith) (omega arith);
        no_part = λ i lo hi. part i (omega (arith, p)) hi;
        no_variable = λ k lo hi. zero_in e (11 + v) (12 - v) (11 + k) no-variables (omega (arith, c)) (omega (arith, c));
        in_range = λ k h. range k (omega (arith, c));
        components_are = rw on;
      }
    where
      range : (k : ℕ) → k < variables d e → field e (11 + k) / 4 < n
      range k h =
          let l : is_lexical (rule_of d e) ≡ false = not_lexical g e tested some in
          let vs = fields e 11 (variables d e) in
          let long : length vs ≡ variables d e = fields_length e 11 (variables d e) (omega (arith, passes.long, variables-twelve g e tested dimensions_in)) in
          let i : Memᴰ (decoded (get_or vs k 0)) (map decoded vs) = map_in decoded (mem_get_d vs 0 k (omega arith)) in
          let j : Memᴰ (decoded (get_or vs k 0)) (named (rule_of d e).components) = subst (λ (x : List Variable). Memᴰ (decoded (get_or vs k 0)) x) (sym (named_are g e tested dimensions_in l)) i in
          let o = vars_out g 0 (daughters_of e) (decoded (get_or vs k 0)) (perm_mem ((rule_right g e tested dimensions_in).complete l) j) in
          let at : get_or vs k 0 ≡ field e (11 + k) = fields_at e 11 (variables d e) k h in
          let q : get_or vs k 0 / 4 < n = omega (arith, o.daughter_is, o.in_range, daughters_length g e tested) in
          subst (λ (x : ℕ). x / 4 < n) at q

  pub shape : Shape d e
  shape = go (dec_lt 0 n)
    where
      go : Dec (0 < n) → Shape d e
      go (yes h) = nonlexical_shape h
      go (no h) = lexical_shape (omega arith)
