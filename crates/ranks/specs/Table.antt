-- The table of a grammar's rules: 8 cells a rule, read without looking into the file.
-- Assumes nothing.
use Rattle.std.specs.Prelude.{◌≡◌, Bool, false, List, [], ◌∷◌, ◌++◌, map, ℕ, zero, suc, ◌+◌, ◌-◌, ◌*◌, ◌/◌, ◌%◌, ◌<◌, ◌≤◌, ltb, eqb, length, get_or, take, if◌then◌else◌}
use Rattle.std.proofs.Math.Option.{some}
use Rattle.model.specs.Base.{numbers_from}
use Rattle.model.specs.Grammar.{Rule, Grammar, rule_at, is_lexical, dimension}
use Rattle.ranking.specs.Ranks.{Ranked, variable_ranks, rank_of, lengths}
use Rattle.ranks.specs.Queue.{insert_all}
use Rattle.ranks.specs.Daughters.{daughter, Repeats}
use Rattle.ranks.specs.Moves.{lengths_of}
use Rattle.ranks.specs.Held.{in_lanes, number_of}

-- how many cells there are
abbrev pub cells : ℕ
cells = 2048

-- cell 0 of the rule whose cells begin at `at` has the number of its daughters, the dimension of its category, the category, and the word
abbrev pub daughters_in : List ℕ → ℕ → ℕ
daughters_in t at = get_or t at 0 % 4

abbrev pub dimension_in : List ℕ → ℕ → ℕ
dimension_in t at = get_or t at 0 / 4 % 8

abbrev pub category_in : List ℕ → ℕ → ℕ
category_in t at = get_or t at 0 / 32 % 64

abbrev pub word_in : List ℕ → ℕ → ℕ
word_in t at = get_or t at 0 / 2048 % 65536

-- daughter j has at most two components
abbrev pub at_most_two : List ℕ → ℕ → ℕ → Bool
at_most_two t at j = ltb (get_or t (at + 3 + 2 * j) 0 % 8) 3

-- the category has two components, and each daughter at most two; a daughter that is not there has none
abbrev pub of_two : List ℕ → ℕ → Bool
of_two t at = if eqb (dimension_in t at) 2 then if at_most_two t at 0 then if at_most_two t at 1 then at_most_two t at 2 else false else false else false

-- n ones
abbrev pub ones : ℕ → List ℕ
ones zero = []
ones (suc n) = 1 ∷ ones n

-- daughter j of a rule as a prediction, where the front's components begin at the ranks bs; `mark` and j make its number
abbrev pub daughter_of : Grammar → Rule → List ℕ → ℕ → ℕ → Ranked ℕ
daughter_of g rule bs mark j =
    record {
      category = get_or rule.daughters j 0;
      ranks = map (rank_of (variable_ranks bs rule.components) j) (numbers_from 0 (dimension g (get_or rule.daughters j 0)));
      node = mark + j;
    }

abbrev pub daughters_of : Grammar → Rule → List ℕ → ℕ → List (Ranked ℕ)
daughters_of g rule bs mark = map (daughter_of g rule bs mark) (numbers_from 0 (length rule.daughters))

-- `mark` in the place of a prediction's number
abbrev pub marked : ℕ → ℕ → ℕ
marked mark x = x + mark * 4398046511104

-- cells 2, 4 and 6, with `mark`
abbrev pub ready_made : List ℕ → ℕ → ℕ → List ℕ
ready_made t at mark = marked mark (get_or t (at + 2) 0) ∷ (marked mark (get_or t (at + 4) 0) ∷ (marked mark (get_or t (at + 6) 0) ∷ []))

-- what holds of the cells of a nonlexical rule: cell 1 has the lengths of its components, 1 where there is none
pub record RuleLengths (rule : Rule) (cell : ℕ) : Type 0 where
  pub lengths_are : lengths_of cell ≡ lengths rule ++ ones (4 - length rule.components)
  -- three daughters have at most 12 components
  pub few : (k : ℕ) → get_or (lengths rule) k 0 ≤ 12

-- of a rule of dimension 2 or more: cells 2 and 3 make daughter 0, 4 and 5 daughter 1, 6 and 7 daughter 2
pub record WideCells (g : Grammar) (rule : Rule) (t : List ℕ) (at : ℕ) : Type 0 where
  pub makes
      : (j : ℕ) → j < length rule.daughters → (bs : List ℕ) → length bs ≡ 4 → (mark : ℕ)
      → daughter bs (get_or t (at + 2 + 2 * j) 0) (get_or t (at + 3 + 2 * j) 0) mark ≡ in_lanes (daughter_of g rule (take (length rule.components) bs) mark j)
  pub repeats : (j : ℕ) → j < length rule.daughters → Repeats (get_or t (at + 2 + 2 * j) 0) (get_or t (at + 3 + 2 * j) 0)

-- of a rule of dimension 1: its component begins at rank 0, and cells 2, 4 and 6 are its daughters as numbers, in rising order
pub record NarrowCells (g : Grammar) (rule : Rule) (t : List ℕ) (at : ℕ) : Type 0 where
  pub places
      : (mark : ℕ) → mark + 3 ≤ 512 → (q : List ℕ)
      → insert_all (take (length rule.daughters) (ready_made t at mark)) q ≡ insert_all (map number_of (daughters_of g rule (0 ∷ []) mark)) q
  pub first_second : 1 < length rule.daughters → get_or t (at + 2) 0 ≤ get_or t (at + 4) 0
  pub second_third : 2 < length rule.daughters → get_or t (at + 4) 0 ≤ get_or t (at + 6) 0
  -- the least rank of each, which is on top of the number, is one of the component's
  pub within : (mark : ℕ) → mark + 3 ≤ 512 → (j : ℕ) → j < length rule.daughters → marked mark (get_or t (at + 2 + 2 * j) 0) < get_or (lengths rule) 0 0 * 2251799813685248
  -- and their numbers leave room for a mark
  pub small : (j : ℕ) → j < 3 → get_or t (at + 2 + 2 * j) 0 < 1152921504606846976

-- the cells from `at` on hold the rule
pub record RuleCells (g : Grammar) (rule : Rule) (t : List ℕ) (at : ℕ) : Type 0 where
  pub long : length t ≡ cells
  pub room : at + 8 ≤ cells
  pub daughters : daughters_in t at ≡ length rule.daughters
  pub dimension_is : dimension_in t at ≡ dimension g rule.category
  pub category : category_in t at ≡ rule.category
  pub word : word_in t at ≡ rule.word
  pub lengths_of_lem : is_lexical rule ≡ false → RuleLengths rule (get_or t (at + 1) 0)
  pub wide : is_lexical rule ≡ false → (dimension g rule.category ≡ 1 → ⊥) → WideCells g rule t at
  pub narrow : is_lexical rule ≡ false → dimension g rule.category ≡ 1 → NarrowCells g rule t at

-- the table holds every rule of the grammar, rule r from cell 8 r on
abbrev pub Compiled : Grammar → List ℕ → Type 0
Compiled g t = (r : ℕ) (rule : Rule) → rule_at g r ≡ some rule → RuleCells g rule t (8 * r)
