-- A nonlexical step on the queue: the rule's cells in the table of rules.
-- Assumes nothing.
use Rattle.std.specs.Prelude.{◌≡◌, true, false, List, [], ◌∷◌, map, ℕ, ◌+◌, ◌-◌, ◌*◌, ◌/◌, ◌%◌, ◌<◌, ◌≤◌, eqb, length, get_or, take, if◌then◌else◌}
use Rattle.std.proofs.Math.Option.{some}
use Rattle.std.proofs.Math.Seq.{slice}
use Rattle.ranks.specs.declared.prediction.Moves.{Moves}
use Rattle.model.specs.Grammar.{Rule, Grammar, rule_at, is_lexical}
use Rattle.model.specs.WellFormed.{WellFormed}
use Rattle.ranking.specs.Ranks.{Ranked, shifted, predict_ranked}
use Rattle.ranking.proofs.Limits.{Reached}
use Rattle.ranking.proofs.Numbered.{Below}
use Rattle.ranks.specs.Prediction.{Short, Behind, Apart, Sized, ranks, packed, unpacked, remade}
use Rattle.ranks.specs.Queue.{room, Every, Steps, Next, insert_all}
use Rattle.ranks.specs.Daughters.{daughter, Repeats, two_bases}
use Rattle.ranks.specs.Moves.{moves_ranks, moves_lengths, gathered, lengths_of, Bounded, begun, Begins}
use Rattle.ranks.specs.Held.{number_of, prediction_of, queue_in, Held}
use Rattle.ranks.specs.Table.{cells, of_two, Compiled}

-- the moves of two components: the one of rank 0, and another of rank f1
abbrev pub by_two : ℕ → ℕ → ℕ → Moves
by_two len0 f1 len1 = record { len0 = len0; f1 = f1; len1 = len1; f2 = 255; len2 = 1; f3 = 255; len3 = 1 }

-- A step by a rule of dimension 2, from a front of ranks a and b, where the lengths of the rule's components are n and m: what moves the other ranks, and where the
-- front's components begin. One has rank 0 and begins there; the other begins behind the variables that take the place of the first.
abbrev pub two_moves_of : ℕ → ℕ → ℕ → ℕ → Moves
two_moves_of a b n m = if eqb a 0 then by_two n b m else by_two m a n

abbrev pub two_begins_of : ℕ → ℕ → ℕ → ℕ → List ℕ
two_begins_of a b n m = if eqb a 0 then two_bases 0 (b + n - 1) else two_bases 1 (a + m - 1)

-- the same of the front and the lengths as numbers
abbrev pub two_moves : ℕ → ℕ → Moves
two_moves front lens = two_moves_of (unpacked front).rank0 (unpacked front).rank1 (lens % 65536) (lens / 65536 % 65536)

abbrev pub two_begins : ℕ → ℕ → List ℕ
two_begins front lens = two_begins_of (unpacked front).rank0 (unpacked front).rank1 (lens % 65536) (lens / 65536 % 65536)

-- what this needs of them: ranks of 8 bits, not both 0, and lengths below 256
pub record TwoRanks (front lens : ℕ) : Type 0 where
  pub short : Short (unpacked front)
  pub other : (unpacked front).rank0 ≡ 0 → 0 < (unpacked front).rank1
  pub len0 : lens % 65536 < 256
  pub len1 : lens / 65536 % 65536 < 256

-- daughter j of the rule whose cells begin at `at`, where the front's components begin at the ranks bs
abbrev pub daughter_at : List ℕ → ℕ → ℕ → List ℕ → ℕ → ℕ
daughter_at t at j bs mark = packed (daughter bs (get_or t (at + 2 + 2 * j) 0) (get_or t (at + 3 + 2 * j) 0) mark)

-- the three that its cells have room for
abbrev pub daughters_at : List ℕ → ℕ → List ℕ → ℕ → List ℕ
daughters_at t at bs mark = daughter_at t at 0 bs mark ∷ (daughter_at t at 1 bs mark ∷ (daughter_at t at 2 bs mark ∷ []))

-- its cells can make it
pub record Makes (t : List ℕ) (at j : ℕ) (bs : List ℕ) (mark : ℕ) : Type 0 where
  pub sized : Sized (daughter bs (get_or t (at + 2 + 2 * j) 0) (get_or t (at + 3 + 2 * j) 0) mark)
  pub repeats : Repeats (get_or t (at + 2 + 2 * j) 0) (get_or t (at + 3 + 2 * j) 0)

-- the queue after a step on the queue from..to, where others move by m
abbrev pub expanded : List ℕ → ℕ → ℕ → ℕ → List ℕ → Moves → List ℕ → ℕ → ℕ → List ℕ
expanded t at d mark bs m w from to =
    insert_all (take d (daughter_at t at 0 bs mark ∷ (daughter_at t at 1 bs mark ∷ (daughter_at t at 2 bs mark ∷ []))))
    (map (remade (shifted (moves_ranks m) (moves_lengths m))) (slice (from + 1) to w))

-- what the code of a wide step needs of the numbers
pub record WideStep (t : List ℕ) (at d mark : ℕ) (bs : List ℕ) (m : Moves) (w : List ℕ) (from to : ℕ) : Type 0 where
  pub table : length t ≡ cells
  pub rule : at + 8 ≤ cells
  pub steps : Steps w from to d
  pub some : 0 < d
  pub short : Every Short w (from + 1) to
  pub behind : Every Behind w (from + 1) to
  pub apart : Every (Apart (moves_ranks m) (moves_lengths m)) w (from + 1) to
  pub bounded : Bounded m
  pub makes : (j : ℕ) → j < d → Makes t at j bs mark

-- The step for any rule that does not have dimension 1, in which the front's ranks are compared with each other: what it needs of the numbers, and the queue after it.
-- The lengths of the rule's components are in cell 1.
abbrev pub ExpandsWide : List ℕ → ℕ → ℕ → ℕ → List ℕ → ℕ → ℕ → Type 0
ExpandsWide t at d mark w from to =
    WideStep t at d mark (ranks (begun (get_or w from 0) (get_or t (at + 1) 0))) (gathered (ranks (unpacked (get_or w from 0))) (lengths_of (get_or t (at + 1) 0))) w from to
    × Begins (get_or w from 0) (get_or t (at + 1) 0)

abbrev pub expanded_wide : List ℕ → ℕ → ℕ → ℕ → List ℕ → ℕ → ℕ → List ℕ
expanded_wide t at d mark w from to =
    expanded t at d mark (ranks (begun (get_or w from 0) (get_or t (at + 1) 0))) (gathered (ranks (unpacked (get_or w from 0))) (lengths_of (get_or t (at + 1) 0))) w from to

-- the step for a rule of dimension 2 whose daughters have at most two components, in which they are not
abbrev pub ExpandsTwo : List ℕ → ℕ → ℕ → ℕ → List ℕ → ℕ → ℕ → Type 0
ExpandsTwo t at d mark w from to =
    WideStep t at d mark (two_begins (get_or w from 0) (get_or t (at + 1) 0)) (two_moves (get_or w from 0) (get_or t (at + 1) 0)) w from to
    × TwoRanks (get_or w from 0) (get_or t (at + 1) 0)
    × (of_two t at ≡ true)

abbrev pub expanded_two : List ℕ → ℕ → ℕ → ℕ → List ℕ → ℕ → ℕ → List ℕ
expanded_two t at d mark w from to =
    expanded t at d mark (two_begins (get_or w from 0) (get_or t (at + 1) 0)) (two_moves (get_or w from 0) (get_or t (at + 1) 0)) w from to

-- A nonlexical step by rule r can be made on the queue from..to: the table is the grammar's, the rule is one of the front's category, steps reach the queue, the
-- next one has at most 64 predictions, and there is room for it behind. `mark` is the number of the first daughter, and others have numbers below it.
pub record Expands (g : Grammar) (t : List ℕ) (r mark : ℕ) (w : List ℕ) (from to : ℕ) : Type 0 where
  pub well : WellFormed g
  pub compiled : Compiled g t
  pub held : Held g w from to
  pub predicted : from < to
  pub rule : Rule
  pub rule_is : rule_at g r ≡ some rule
  pub nonlexical : is_lexical rule ≡ false
  pub of_front : rule.category ≡ (unpacked (get_or w from 0)).category
  pub words : List ℕ
  pub reached : Reached g (record { queue = queue_in g w from to; words = words })
  pub few : to - from - 1 + length rule.daughters ≤ 64
  pub numbered : Below mark (queue_in g w from to)
  pub small : mark + 3 ≤ 512
  pub room_behind : to + 67 ≤ room

-- the queue after the step by a rule
abbrev pub expanded_queue : Grammar → Rule → ℕ → List ℕ → ℕ → ℕ → List (Ranked ℕ)
expanded_queue g rule mark w from to = predict_ranked (λ n j. mark + j) g rule (prediction_of g (get_or w from 0)) (queue_in g w (from + 1) to)

-- the next queue stands behind the queue, and before it nothing changes
pub record Expanded (t : List ℕ) (r mark : ℕ) (w w' : List ℕ) (from to : ℕ) : Type 0 where
  pub of_grammar : (g : Grammar) (h : Expands g t r mark w from to)
      → Next (map number_of (expanded_queue g h.rule mark w from to)) w w' to (to + (to - from - 1 + length h.rule.daughters))

-- for some grammar it can be made
pub record Expandable (t : List ℕ) (r mark : ℕ) (w : List ℕ) (from to : ℕ) : Type 0 where
  pub grammar : Grammar
  pub expands : Expands grammar t r mark w from to
