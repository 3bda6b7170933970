-- The grammar file: its fields, what the reader refuses, and the grammar that a file holds (document 01, "The grammar file", and refusals 1 to 10; the
-- weight of a rule and the order of its daughters in refusal 10 are document 02's, papers 1 and 4).
-- A file is the list of its bytes.
-- Assumes nothing.
use Rattle.std.specs.Prelude.{ℕ, suc, ◌+◌, ◌-◌, ◌*◌, ◌/◌, ◌%◌, Bool, false, ◌&&◌, ◌||◌, not, List, [], ◌∷◌, ◌++◌, map, ltb, leb, eqb, length, get_or, take, drop, if◌then◌else◌}
use Rattle.std.proofs.Math.Option.{Option}
use Rattle.model.specs.declared.Refusal.{Refusal}
use Rattle.model.specs.Base.{◌or_else◌, first_from, every, any_of, numbers_from, same_list, any_below, all_below, occurrences, total}
use Rattle.model.specs.Verdict.{refuse_if}
use Rattle.model.specs.Grammar.{Variable, Rule, Grammar, empty_word, variable}

abbrev pub within : ℕ → ℕ → ℕ → Bool
within low high x = leb low x && leb x high

abbrev pub all_zero : List ℕ → Bool
all_zero = every (eqb 0)

-- n bytes from byte i on
abbrev pub fields : List ℕ → ℕ → ℕ → List ℕ
fields bytes i n = take n (drop i bytes)

-- "blocks of 512 bytes": how many there are, and byte i of block k
abbrev pub blocks : List ℕ → ℕ
blocks file = length file / 512

abbrev pub byte_of : List ℕ → ℕ → ℕ → ℕ
byte_of file k i = get_or file (512 * k + i) 0

-- "numbers are little-endian": the number of 2 bytes, and of 4, at byte i of block k
abbrev pub two_bytes : List ℕ → ℕ → ℕ → ℕ
two_bytes file k i = byte_of file k i + 256 * byte_of file k (i + 1)

abbrev pub four_bytes : List ℕ → ℕ → ℕ → ℕ
four_bytes file k i = two_bytes file k i + 65536 * two_bytes file k (i + 2)

-- "the check, the sum over bytes i = 0 to 507 of (i+1) times the byte"
abbrev pub weighted : ℕ → List ℕ → ℕ
weighted i [] = 0
weighted i (x ∷ xs) = i * x + weighted (suc i) xs

abbrev pub check_of : List ℕ → ℕ → ℕ
check_of file k = weighted 1 (fields file (512 * k) 508)

-- "Heading: byte 3 categories C (1 to 64); byte 4 start; bytes 5-6 words W (1 to 4,096); bytes 7-8 rules R (1 to 256); bytes 16-79 the dimensions."
abbrev pub categories_of : List ℕ → ℕ
categories_of file = byte_of file 0 3

abbrev pub start_of : List ℕ → ℕ
start_of file = byte_of file 0 4

abbrev pub words_of : List ℕ → ℕ
words_of file = two_bytes file 0 5

abbrev pub rules_of : List ℕ → ℕ
rules_of file = two_bytes file 0 7

abbrev pub dimensions_of : List ℕ → List ℕ
dimensions_of file = fields file 16 (categories_of file)

-- "There are R records, so 1 + R/21 rounded up blocks."
abbrev pub blocks_for : ℕ → ℕ
blocks_for rules = 1 + (rules + 20) / 21

-- "records held, 21 in each but the last": the records of rule block k
abbrev pub records_in : ℕ → ℕ → ℕ
records_in rules k = if ltb (21 * k) rules then 21 else rules - 21 * (k - 1)

-- "records of 24 bytes from byte 4": where record i begins, and its bytes
abbrev pub record_place : ℕ → ℕ
record_place i = 512 * (1 + i / 21) + 4 + 24 * (i % 21)

abbrev pub record_of : List ℕ → ℕ → List ℕ
record_of file i = fields file (record_place i) 24

-- The fields of a record e. "byte 0 category; byte 1 daughters; bytes 2-4 their categories"
abbrev pub field : List ℕ → ℕ → ℕ
field e i = get_or e i 0

abbrev pub daughters_of : List ℕ → List ℕ
daughters_of e = fields e 2 (field e 1)

-- "the daughter count tells an unused 0 from category 0": a record with daughters is nonlexical
abbrev pub has_daughters : List ℕ → Bool
has_daughters e = ltb 0 (field e 1)

-- "bytes 5-6 the word"
abbrev pub word_of : List ℕ → ℕ
word_of e = field e 5 + 256 * field e 6

-- "Byte 23 of a record, so far unused, becomes a weight from 0 to 255." (document 02, paper 1)
abbrev pub weight_of : List ℕ → ℕ
weight_of e = field e 23

-- the dimension of a category
abbrev pub dimension_in : List ℕ → ℕ → ℕ
dimension_in dimensions category = get_or dimensions category 0

-- of a record e, in a file with these dimensions
module _ (dimensions e : List ℕ) where
  -- "bytes 7-10 component lengths": one for each component of the rule's category
  abbrev pub lengths_of : List ℕ
  lengths_of = fields e 7 (dimension_in dimensions (field e 0))

  -- how many variables the daughters have
  abbrev pub variables : ℕ
  variables = total (map (dimension_in dimensions) (daughters_of e))

  -- refusal 6: "category, daughter count or daughter"
  abbrev pub wrong_category : Bool
  wrong_category =
      leb (length dimensions) (field e 0) || ltb 3 (field e 1)
      || any_below (λ j. leb (length dimensions) (field e (2 + j))) (field e 1)

  -- refusal 7: "lexical with dimension other than 1, or no such word"
  abbrev pub wrong_word : ℕ → Bool
  wrong_word words =
      if has_daughters e then false
      else not (eqb (dimension_in dimensions (field e 0)) 1) || (leb words (word_of e) && not (eqb (word_of e) empty_word))

  -- "Every variable of every daughter occurs exactly once." A variable is "4 times daughter position plus component".
  abbrev pub each_once : Bool
  each_once =
      all_below (λ j. all_below (λ c. eqb (occurrences (4 * j + c) (fields e 11 variables)) 1) (dimension_in dimensions (field e (2 + j)))) (field e 1)

  -- refusal 8: "variables not each once, or lengths not adding up"
  abbrev pub wrong_variables : Bool
  wrong_variables = if has_daughters e then not (eqb (total lengths_of) variables && each_once) else false

  -- "Unused bytes, and fields that a rule of its kind lacks": of a nonlexical rule the daughters, lengths and variables that it does not have, and the
  -- word; of a lexical rule all but category, daughter count, word and weight. "Refusal 9 no longer covers byte 23." (document 02, paper 1)
  abbrev pub unused_bytes : List ℕ
  unused_bytes =
      if has_daughters e
      then fields e (2 + field e 1) (3 - field e 1) ++ fields e 5 2
      ++ fields e (7 + dimension_in dimensions (field e 0)) (4 - dimension_in dimensions (field e 0))
      ++ fields e (11 + variables) (12 - variables)
      else fields e 2 3 ++ fields e 7 16

  -- refusal 9: "unused byte not 0"
  abbrev pub unused_set : Bool
  unused_set = not (all_zero unused_bytes)

-- refusal 10: "equal to an earlier record". "Two records that differ only in weight still meet refusal 10." (document 02, paper 1): bytes 0 to 22 are
-- compared.
abbrev pub same_record : List ℕ → List ℕ → Bool
same_record a b = same_list (fields a 0 23) (fields b 0 23)

-- "Refusal 10 now also meets a rule that equals an earlier one once its daughters are reordered and its variables renumbered to match, weight aside."
-- (document 02, paper 4). An order of the daughters is a list of positions: entry j is the position that daughter j comes to. It has an entry for each of the
-- three daughter positions of a record; a position without a daughter stays.

-- the orders of n daughters, but for the one that they have
abbrev pub other_orders : ℕ → List (List ℕ)
other_orders n =
    if eqb n 2 then (1 ∷ 0 ∷ 2 ∷ []) ∷ []
    else if eqb n 3 then (0 ∷ 2 ∷ 1 ∷ []) ∷ (1 ∷ 0 ∷ 2 ∷ []) ∷ (1 ∷ 2 ∷ 0 ∷ []) ∷ (2 ∷ 0 ∷ 1 ∷ []) ∷ (2 ∷ 1 ∷ 0 ∷ []) ∷ []
    else []

-- "its variables renumbered to match": a variable names the position that its daughter comes to, and the component that it named
abbrev pub renumbered : List ℕ → ℕ → ℕ
renumbered order v = 4 * get_or order (v / 4) 0 + v % 4

-- what no order changes is the same of two records: category, daughter count, word and component lengths
abbrev pub same_frame : List ℕ → List ℕ → Bool
same_frame earlier e = same_list (fields earlier 0 2) (fields e 0 2) && same_list (fields earlier 5 6) (fields e 5 6)

-- each daughter of record e is the earlier record's daughter at the position that it comes to
abbrev pub same_daughters : List ℕ → List ℕ → List ℕ → Bool
same_daughters earlier e order = all_below (λ j. eqb (field e (2 + j)) (field earlier (2 + get_or order j 0))) 3

-- the variables of record e, as many as its component lengths count, once renumbered are those of the earlier record
abbrev pub same_variables : List ℕ → List ℕ → List ℕ → Bool
same_variables earlier e order = all_below (λ k. eqb (renumbered order (field e (11 + k))) (field earlier (11 + k))) (total (fields e 7 4))

abbrev pub same_in_order : List ℕ → List ℕ → List ℕ → Bool
same_in_order earlier e order = same_daughters earlier e order && same_variables earlier e order

-- record e equals an earlier one once its daughters are reordered
abbrev pub same_reordered : List ℕ → List ℕ → Bool
same_reordered earlier e = same_frame earlier e && any_of (same_in_order earlier e) (other_orders (field e 1))

-- what refusal 10 tests of two records; what it means of their rules is said and proved in the crate `doubles`
abbrev pub same_rule : List ℕ → List ℕ → Bool
same_rule earlier e = same_record earlier e || same_reordered earlier e

abbrev pub repeated : (ℕ → List ℕ) → ℕ → Bool
repeated record_at i = any_below (λ j. same_rule (record_at j) (record_at i)) i

-- "Per rule, place its number": refusals 6 to 10 of record i, in a grammar with these dimensions, words and records
abbrev pub record_refusal : List ℕ → ℕ → (ℕ → List ℕ) → ℕ → Option Refusal
record_refusal dimensions words record_at i =
    refuse_if (wrong_category dimensions (record_at i)) (Refusal.Grammar 6 i)
    or_else refuse_if (wrong_word dimensions (record_at i) words) (Refusal.Grammar 7 i)
    or_else refuse_if (wrong_variables dimensions (record_at i)) (Refusal.Grammar 8 i)
    or_else refuse_if (unused_set dimensions (record_at i)) (Refusal.Grammar 9 i)
    or_else refuse_if (repeated record_at i) (Refusal.Grammar 10 i)

abbrev pub rule_refusal : List ℕ → ℕ → Option Refusal
rule_refusal file i = record_refusal (dimensions_of file) (words_of file) (record_of file) i

-- refusal 1: "length not 512 times 1 to 14"
abbrev pub wrong_length : List ℕ → Bool
wrong_length file = not (eqb (length file % 512) 0 && within 1 14 (blocks file))

-- refusal 2 of block k: "check wrong"
abbrev pub wrong_check : List ℕ → ℕ → Bool
wrong_check file k = not (eqb (check_of file k) (four_bytes file k 508))

-- refusal 3 of block k: "block number or kind"; "kind, 1 heading (block 0), 2 rules (all others)"
abbrev pub wrong_block : List ℕ → ℕ → Bool
wrong_block file k = not (eqb (two_bytes file k 0) k && eqb (byte_of file k 2) (if eqb k 0 then 1 else 2))

-- refusal 4: "heading value out of range, start not a category or not of dimension 1, unused heading byte not 0"
abbrev pub wrong_heading : List ℕ → Bool
wrong_heading file =
    not
    (within 1 64 (categories_of file) && within 1 4096 (words_of file) && within 1 256 (rules_of file)
    && every (within 1 4) (dimensions_of file) && ltb (start_of file) (categories_of file)
    && eqb (dimension_in (dimensions_of file) (start_of file)) 1
    && all_zero (fields file 9 7)
    && all_zero (fields file (16 + categories_of file) (508 - (16 + categories_of file))))

-- refusal 5: "number of blocks", and of rule block k "a record count"
abbrev pub wrong_blocks : List ℕ → Bool
wrong_blocks file = not (eqb (blocks file) (blocks_for (rules_of file)))

abbrev pub wrong_count : List ℕ → ℕ → Bool
wrong_count file k = not (eqb (byte_of file k 3) (records_in (rules_of file) k))

-- refusal 9 at place R: "rest of the last block"
abbrev pub wrong_rest : List ℕ → Bool
wrong_rest file =
    let k = blocks file - 1 in
    let used = 4 + 24 * byte_of file k 3 in
    not (all_zero (fields file (512 * k + used) (508 - used)))

-- what the reader refuses, in the order of document 01
abbrev pub grammar_refusal : List ℕ → Option Refusal
grammar_refusal file =
    refuse_if (wrong_length file) (Refusal.Grammar 1 0)
    or_else first_from (λ k. refuse_if (wrong_check file k) (Refusal.Grammar 2 k)) 0 (blocks file)
    or_else first_from (λ k. refuse_if (wrong_block file k) (Refusal.Grammar 3 k)) 0 (blocks file)
    or_else refuse_if (wrong_heading file) (Refusal.Grammar 4 0)
    or_else refuse_if (wrong_blocks file) (Refusal.Grammar 5 0)
    or_else first_from (λ k. refuse_if (wrong_count file k) (Refusal.Grammar 5 k)) 1 (blocks file - 1)
    or_else first_from (rule_refusal file) 0 (rules_of file)
    or_else refuse_if (wrong_rest file) (Refusal.Grammar 9 (rules_of file))

-- "variables, component after component, each 4 times daughter position plus component": the sequences of these lengths
abbrev pub decoded : ℕ → Variable
decoded v = variable (v / 4) (v % 4)

abbrev pub sequences : List ℕ → List ℕ → List (List Variable)
sequences [] vs = []
sequences (n ∷ ns) vs = map decoded (take n vs) ∷ sequences ns (drop n vs)

-- the rule that a record holds
abbrev pub rule_of : List ℕ → List ℕ → Rule
rule_of dimensions e =
    record {
      category = field e 0;
      daughters = daughters_of e;
      word = word_of e;
      components = if has_daughters e then sequences (lengths_of dimensions e) (fields e 11 12) else [];
      weight = weight_of e;
    }

-- the grammar that a file holds
abbrev pub grammar_of : List ℕ → Grammar
grammar_of file =
    record {
      start = start_of file;
      words = words_of file;
      dimensions = dimensions_of file;
      rules = map (λ i. rule_of (dimensions_of file) (record_of file i)) (numbers_from 0 (rules_of file));
    }
