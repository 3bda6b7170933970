-- The 8 cells of a rule, which is a record e of the grammar file, in a grammar of dimensions d.
-- Assumes nothing.
use Rattle.std.specs.Prelude.{◌≡◌, List, [], ◌∷◌, ℕ, ◌+◌, ◌*◌, ◌%◌, ◌<◌, min, max, ltb, eqb, length, get_or, if◌then◌else◌}
use Rattle.model.specs.GrammarFile.{field, word_of, dimension_in}
use Rattle.ranks.specs.Prediction.{Prediction, packed}
use Rattle.ranks.specs.Daughters.{daughter}
use Rattle.rule_table.specs.declared.table.Pair.{Pair}
use Rattle.rule_table.specs.Places.{stand_in}

-- components that all begin at rank 0
abbrev pub zeros : List ℕ
zeros = 0 ∷ (0 ∷ (0 ∷ (0 ∷ [])))

module _ (d e : List ℕ) where
  -- the dimension of the rule's category
  abbrev pub dimension_of : ℕ
  dimension_of = dimension_in d (field e 0)

  -- cell 0: how many daughters, the dimension of the category, the category, the word. In a file that the reader accepts each is as small as its place.
  abbrev pub head_cell : ℕ
  head_cell = field e 1 % 4 + 4 * (dimension_of % 8) + 32 * (field e 0 % 64) + 2048 * word_of e

  -- the length of component k, 1 where there is no such component
  abbrev pub length_in : ℕ → ℕ
  length_in k = if ltb k dimension_of then field e (7 + k) else 1

  -- cell 1: the four lengths
  abbrev pub lengths_cell : ℕ
  lengths_cell = length_in 0 + 65536 * (length_in 1 + 65536 * (length_in 2 + 65536 * length_in 3))

  -- how many components daughter j has
  abbrev pub width : ℕ → ℕ
  width j = dimension_in d (field e (2 + j))

  -- daughter j, with positions for ranks
  abbrev pub positions : ℕ → Prediction
  positions j =
      record { least = 0; number = j; category = field e (2 + j) % 64; rank3 = (stand_in e (width j) j 3).position; rank2 = (stand_in e (width j) j 2).position; rank1 = (stand_in e (width j) j 1).position; rank0 = (stand_in e (width j) j 0).position }

  -- its components' places, 8 times each, and how many components it has
  abbrev pub places_cell : ℕ → ℕ
  places_cell j =
      width j + 8 * ((stand_in e (width j) j 0).component + 8 * ((stand_in e (width j) j 1).component + 8 * ((stand_in e (width j) j 2).component + 8 * (stand_in e (width j) j 3).component)))

  -- the two cells of daughter j
  abbrev pub pair_at : ℕ → Pair
  pair_at j = record { cell = packed (positions j); places = places_cell j }

  -- the same, 0 where there are not so many daughters
  abbrev pub pair_of : ℕ → Pair
  pair_of j = if ltb j (field e 1) then pair_at j else record { cell = 0; places = 0 }

  -- daughter j of a rule of dimension 1, ready made: its component begins at rank 0
  abbrev pub ready_cell : ℕ → ℕ
  ready_cell j = packed (daughter zeros (pair_of j).cell (pair_of j).places 0)

-- the first n of three numbers in rising order
abbrev pub in_order : ℕ → ℕ → ℕ → ℕ → List ℕ
in_order n x y z =
    if eqb n 3 then min (min x y) (min (max x y) z) ∷ (max (min x y) (min (max x y) z) ∷ (max (max x y) z ∷ []))
    else if eqb n 2 then min x y ∷ (max x y ∷ (z ∷ []))
    else x ∷ (y ∷ (z ∷ []))

module _ (d e : List ℕ) where
  -- its ready made daughters, in rising order
  abbrev pub ready : List ℕ
  ready = in_order (field e 1) (ready_cell d e 0) (ready_cell d e 1) (ready_cell d e 2)

  -- the cells of a rule of dimension 1: the ready made daughters stand where the first cells of daughters stand in others
  abbrev pub narrow_cells : List ℕ
  narrow_cells = head_cell d e ∷ (lengths_cell d e ∷ (get_or ready 0 0 ∷ (0 ∷ (get_or ready 1 0 ∷ (0 ∷ (get_or ready 2 0 ∷ (0 ∷ [])))))))

  -- the cells of any other nonlexical rule
  abbrev pub wide_cells : List ℕ
  wide_cells =
      head_cell d e
      ∷ (lengths_cell d e ∷ ((pair_of d e 0).cell ∷ ((pair_of d e 0).places ∷ ((pair_of d e 1).cell ∷ ((pair_of d e 1).places ∷ ((pair_of d e 2).cell ∷ ((pair_of d e 2).places ∷ [])))))))

  -- the cells of a nonlexical rule
  abbrev pub some_cells : List ℕ
  some_cells = if eqb (dimension_of d e) 1 then narrow_cells else wide_cells

  -- the cells of a lexical rule, which has the first alone
  abbrev pub lexical_cells : List ℕ
  lexical_cells = head_cell d e ∷ (0 ∷ (0 ∷ (0 ∷ (0 ∷ (0 ∷ (0 ∷ (0 ∷ [])))))))

  -- the cells of the rule
  abbrev pub cells_of : List ℕ
  cells_of = if eqb (field e 1) 0 then lexical_cells else some_cells

-- the cells stand from `at` on, and before that nothing changes
pub record Put (cells before after : List ℕ) (at : ℕ) : Type 0 where
  pub kept : length after ≡ length before
  pub below : (i : ℕ) → i < at → get_or after i 0 ≡ get_or before i 0
  pub written : (i : ℕ) → i < 8 → get_or after (at + i) 0 ≡ get_or cells i 0
