-- What refusal 10 means of rules (document 01; document 02, papers 1 and 4), and what follows of the grammars that the reader accepts. Both are proved in
-- proofs/RefusalTen.antt.
-- Assumes nothing.
use Rattle.std.specs.Prelude.{◌≡◌, true, false, List, map, ℕ, ◌<◌, ◌≤◌, T, length, get_or}
use Rattle.std.proofs.Math.Option.{none, some}
use Rattle.model.specs.Base.{numbers_from}
use Rattle.model.specs.Grammar.{Variable, Rule, Grammar, variable, rule_at, dimension}
use Rattle.model.specs.WellFormed.{Perm}
use Rattle.model.specs.GrammarFile.{same_rule, repeated, wrong_category, wrong_word, wrong_variables, unused_set, rule_of, grammar_refusal, grammar_of}
use Rattle.model.specs.Writer.{all_bytes}

-- "its variables renumbered to match": entry j of the order is the position that daughter j comes to
abbrev pub renumber : List ℕ → Variable → Variable
renumber order v = variable (get_or order v.daughter 0) v.component

-- A rule "equals an earlier one once its daughters are reordered and its variables renumbered to match, weight aside": there is a permutation of the daughter
-- positions under which category, word, daughters and components agree. The components keep their order. The permutation that moves nothing is one: then the
-- rules are equal, or "differ only in weight".
pub record Reordered (earlier rule : Rule) : Type 0 where
  pub order : List ℕ
  pub is_order : Perm order (numbers_from 0 (length earlier.daughters))
  pub category_is : rule.category ≡ earlier.category
  pub word_is : rule.word ≡ earlier.word
  pub daughters_are : rule.daughters ≡ map (λ p. get_or earlier.daughters p 0) order
  pub components_are : map (map (renumber order)) rule.components ≡ earlier.components

-- every dimension is in its range
abbrev pub DimensionsInRange : Grammar → Type 0
DimensionsInRange g = (c : ℕ) → c < length g.dimensions → (1 ≤ dimension g c) × (dimension g c ≤ 4)

-- a record of 24 numbers that none of 6 to 9 meets, in a grammar with these dimensions and words
pub record Passes (g : Grammar) (e : List ℕ) : Type 0 where
  pub long : length e ≡ 24
  pub category : wrong_category g.dimensions e ≡ false
  pub word : wrong_word g.dimensions e g.words ≡ false
  pub variables : wrong_variables g.dimensions e ≡ false
  pub unused : unused_set g.dimensions e ≡ false

-- the rule of record e is that of an earlier record with its daughters in some order
abbrev pub Double : Grammar → List ℕ → List ℕ → Type 0
Double g earlier e = Reordered (rule_of g.dimensions earlier) (rule_of g.dimensions e)

-- the rule of record i is that of an earlier one in this way
abbrev pub EarlierDouble : Grammar → (ℕ → List ℕ) → ℕ → Type 0
EarlierDouble g record_at i = (j : ℕ) × (j < i) × Double g (record_at j) (record_at i)

-- no rule of a grammar is another one with its daughters in some order
abbrev pub NoDoubles : Grammar → Type 0
NoDoubles g = (r s : ℕ) (a b : Rule) → rule_at g r ≡ some a → rule_at g s ≡ some b → Reordered a b → r ≡ s

-- rule i of a grammar is an earlier one with its daughters in some order
pub record DoubleAt (g : Grammar) (i : ℕ) : Type 0 where
  pub number : ℕ
  pub before : number < i
  pub earlier : Rule
  pub rule : Rule
  pub earlier_is : rule_at g number ≡ some earlier
  pub rule_is : rule_at g i ≡ some rule
  pub double : Reordered earlier rule

-- Of records that pass 6 to 9, in a grammar whose dimensions are in their range, as is so when 10 is tested. From rules back to records it is also asked that
-- the records are bytes: a word is two bytes, and with larger numbers one word could be written in two ways.
pub record RefusalTen : Type 0 where
  -- the test of two records holds exactly when the rules that they hold are equal under some order of the daughters
  pub meant : (g : Grammar) → DimensionsInRange g → (earlier e : List ℕ) → Passes g earlier → Passes g e
      → (same_rule earlier e ≡ true → Double g earlier e) × (T (all_bytes earlier) → T (all_bytes e) → Double g earlier e → same_rule earlier e ≡ true)
  -- refusal 10 meets record i exactly when its rule is one of an earlier record in this way, for records in a file as for those that the writer is given
  pub met : (g : Grammar) → DimensionsInRange g → (record_at : ℕ → List ℕ) (i : ℕ) → ((k : ℕ) → k ≤ i → Passes g (record_at k))
      → (repeated record_at i ≡ true → EarlierDouble g record_at i)
      × (((k : ℕ) → k ≤ i → T (all_bytes (record_at k))) → EarlierDouble g record_at i → repeated record_at i ≡ true)
  -- no accepted file has two rules of which one is the other with its daughters in some order
  pub no_doubles : (file : List ℕ) → T (all_bytes file) → grammar_refusal file ≡ none → NoDoubles (grammar_of file)
