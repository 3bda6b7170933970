-- The reader's tests in pieces: the tests of the blocks and of the heading, and what is tested from one of these, or from the rules, on
-- (document 01, refusals 1 to 10).
-- Assumes nothing.
use Rattle.std.specs.Prelude.{ℕ, ◌+◌, ◌-◌, Bool, ◌&&◌, List, ltb, eqb}
use Rattle.std.proofs.Math.Option.{Option}
use Rattle.model.specs.declared.Refusal.{Refusal}
use Rattle.model.specs.Base.{◌or_else◌, first_from}
use Rattle.model.specs.Verdict.{refuse_if}
use Rattle.rule_tests.specs.Rules.{rules_refusal}
use Rattle.model.specs.GrammarFile.{within, all_zero, fields, categories_of, start_of, words_of, dimensions_of, dimension_in, blocks, wrong_check, wrong_block, wrong_heading, wrong_blocks, wrong_count, wrong_rest, record_of, rules_of}

-- the tests of a block: of its check, of its number and its kind, and of the record count of a rule block
pub data BlockTest : Type 0 where
  Check Kind Count : BlockTest

-- the number of the refusal that a test of a block gives: "2 check wrong", "3 block number or kind", "5 number of blocks or a record count"
abbrev pub test_number : BlockTest → ℕ
test_number Check = 2
test_number Kind = 3
test_number Count = 5

-- whether a test meets block k: "check wrong", "block number or kind", "a record count"
abbrev pub block_meets : List ℕ → BlockTest → ℕ → Bool
block_meets file Check k = wrong_check file k
block_meets file Kind k = wrong_block file k
block_meets file Count k = wrong_count file k

-- the refusal of a test at block k, if it meets that block; and at the first of the blocks `from` to n - 1 that it meets
abbrev pub block_refusal : List ℕ → BlockTest → ℕ → Option Refusal
block_refusal file test k = refuse_if (block_meets file test k) (Refusal.Grammar (test_number test) k)

abbrev pub blocks_refusal : List ℕ → BlockTest → ℕ → ℕ → Option Refusal
blocks_refusal file test from n = first_from (block_refusal file test) from (n - from)

-- refusal 4 in pieces: C, W and R in range; the start a category of dimension 1; the unused bytes 0
abbrev pub numbers_right : List ℕ → Bool
numbers_right file = within 1 64 (categories_of file) && within 1 4096 (words_of file) && within 1 256 (rules_of file)

abbrev pub start_right : List ℕ → Bool
start_right file = ltb (start_of file) (categories_of file) && eqb (dimension_in (dimensions_of file) (start_of file)) 1

abbrev pub unused_right : List ℕ → Bool
unused_right file = all_zero (fields file 9 7) && all_zero (fields file (16 + categories_of file) (508 - (16 + categories_of file)))

-- the tests from the rules, from the number of blocks and from the checks on; `grammar_refusal` is refusal 1 and then the last of these
abbrev pub from_rules : List ℕ → Option Refusal
from_rules file =
    rules_refusal (dimensions_of file) (words_of file) (record_of file) (rules_of file) or_else refuse_if (wrong_rest file) (Refusal.Grammar 9 (rules_of file))

abbrev pub from_counts : List ℕ → Option Refusal
from_counts file = refuse_if (wrong_blocks file) (Refusal.Grammar 5 0) or_else blocks_refusal file Count 1 (blocks file) or_else from_rules file

abbrev pub from_blocks : List ℕ → Option Refusal
from_blocks file =
    blocks_refusal file Check 0 (blocks file) or_else blocks_refusal file Kind 0 (blocks file) or_else refuse_if (wrong_heading file) (Refusal.Grammar 4 0)
    or_else from_counts file
