-- The daughters of a rule of dimension 1, ready made.
-- Assumes nothing.
use Rattle.std.specs.Prelude.{if◌then◌else◌}
use mathlib.Core.Path.{◌≡◌, refl, sym, ap, ap₂, ◌∙◌}
use mathlib.Core.Option.{none}
use mathlib.Core.Bool.{Bool}
use mathlib.Core.List.{List, [], ◌∷◌, map, map-map}
use Prim.Native.Nat.{ℕ, zero, suc, ◌+◌, ◌*◌, ◌/◌, ◌%◌, ◌<◌, ◌≤◌}
use native.Mathlib.Omega.{arith}
use borrow.Author.Tests.{lt-ltb}
use lib.ListN.{length, take}
use Rattle.model.specs.Base.{numbers_from}
use Rattle.model.specs.Grammar.{Rule, Grammar}
use Rattle.model.specs.GrammarFile.{field, dimensions_of, rules_of, record_of, grammar_refusal, rule_of, grammar_of}
use Rattle.model.proofs.RuleFromRecord.{three, daughters_length}
use Rattle.model.proofs.FromFile.{record_tested}
use Rattle.ranks.specs.Prediction.{Prediction, Sized, lanes, packed, unpacked}
use Rattle.ranks.specs.Held.{number_of}
use Rattle.ranks.specs.Daughters.{daughter}
use Rattle.ranks.specs.Table.{marked, daughter_of, daughters_of}
use Rattle.ranks.proofs.Packing.{packed_number, packed_rank0}
use Rattle.rule_table.specs.Places.{stand_of}
use Rattle.rule_table.specs.Cells.{zeros, width, positions, pair_at, pair_of, ready_cell}
use Rattle.rule_table.proofs.Standing.{stand_zero}
use Rattle.rule_table.proofs.Sizes.{zero_at, positions_sized, ready_sized}
use Rattle.rule_table.proofs.RuleVariables.{component_in, position_in}
use Rattle.rule_table.proofs.DaughterCells.{width_some, makes_is}

-- a mark is added to the number of a prediction
mark_lanes : (r0 r1 r2 r3 n c l mark : ℕ) → lanes r0 r1 r2 r3 ((0 + n) * 64 + c) l + mark * 4398046511104 ≡ lanes r0 r1 r2 r3 ((mark + n) * 64 + c) l
mark_lanes r0 r1 r2 r3 n c l mark = omega arith

mark_made : (bs : List ℕ) (cell places mark : ℕ) → marked mark (packed (daughter bs cell places 0)) ≡ packed (daughter bs cell places mark)
mark_made bs cell places mark =
    let p = daughter bs cell places 0 in
    mark_lanes p.rank0 p.rank1 p.rank2 p.rank3 (unpacked cell).number p.category p.least mark

packed_below : (p : Prediction) (n : ℕ) → Sized p → p.least < n → packed p < n * 2251799813685248
packed_below p n z h =
    let s = z.lanes in
    omega (arith, s.rank0, s.rank1, s.rank2, s.rank3, z.number, z.category)

packed_small : (p : Prediction) → Sized p → packed p < 1152921504606846976
packed_small p z = packed_below p 512 z z.lanes.least

pub ready_small : (d e : List ℕ) (j : ℕ) → j < 3 → ready_cell d e j < 1152921504606846976
ready_small d e j h = packed_small (daughter zeros (pair_of d e j).cell (pair_of d e j).places 0) (ready_sized d e j h)

-- the cells of a daughter that there is
pub pair_is : (d e : List ℕ) (j : ℕ) → j < field e 1 → pair_of d e j ≡ pair_at d e j
pair_is d e j h = ap (λ (b : Bool). if b then pair_at d e j else record { cell = 0; places = 0 }) (lt-ltb j (field e 1) h)

-- the first n of three numbers
first_of : (f : ℕ → ℕ) (a b c n : ℕ) → n ≤ 3 → (0 < n → a ≡ f 0) → (1 < n → b ≡ f 1) → (2 < n → c ≡ f 2) → take n (a ∷ (b ∷ (c ∷ []))) ≡ map f (numbers_from 0 n)
first_of f a b c zero k x y z = refl
first_of f a b c (suc zero) k x y z = ap (λ (i : ℕ). i ∷ []) (x (omega arith))
first_of f a b c (suc (suc zero)) k x y z = ap₂ (λ (i j : ℕ). i ∷ (j ∷ [])) (x (omega arith)) (y (omega arith))
first_of f a b c (suc (suc (suc zero))) k x y z = let p = x (omega arith) in let q = y (omega arith) in let r = z (omega arith) in λ i. p i ∷ (q i ∷ (r i ∷ []))
first_of f a b c (suc (suc (suc (suc n)))) k x y z = absurd (omega arith)

module _ (file : List ℕ) (accepted : grammar_refusal file ≡ none) (r : ℕ) (here : r < rules_of file) (some : 0 < field (record_of file r) 1)
    (one : length (rule_of (dimensions_of file) (record_of file r)).components ≡ 1) where
  abbrev e : List ℕ
  e = record_of file r

  abbrev d : List ℕ
  d = dimensions_of file

  abbrev g : Grammar
  g = grammar_of file

  abbrev rule : Rule
  rule = rule_of d e

  few : field e 1 ≤ 3
  few = three g e (record_tested file accepted r here)

  -- the number of daughter j, with a mark
  abbrev marked_number : ℕ → ℕ → ℕ
  marked_number mark j = number_of (daughter_of g rule (0 ∷ []) mark j)

  module _ (j : ℕ) (h : j < field (record_of file r) 1) where
    ready_is : (mark : ℕ) → marked mark (ready_cell d e j) ≡ marked_number mark j
    ready_is mark =
        mark_made zeros (pair_of d e j).cell (pair_of d e j).places mark
        ∙ (λ i. packed (daughter zeros (pair_is d e j h i).cell (pair_is d e j h i).places mark))
        ∙ ap packed (makes_is file accepted r here some j h zeros refl mark)
        ∙ ap (λ (k : ℕ). number_of (daughter_of g rule (take k zeros) mark j)) one

    -- its least rank, which is on top of the number, is a position of the component
    pub ready_within : (mark : ℕ) → mark + 3 ≤ 512 → marked mark (ready_cell (dimensions_of file) (record_of file r) j) < field (record_of file r) 7 * 2251799813685248
    ready_within mark room =
        let cell = (pair_of d e j).cell in
        let p = daughter zeros cell (pair_of d e j).places mark in
        let l : j < 3 = omega (arith, few) in
        let z = ready_sized d e j l in
        let same : cell ≡ packed (positions d e j) = λ i. (pair_is d e j h i).cell in
        let b = zero_at ((pair_of d e j).places / 8 % 4) in
        let c : (unpacked cell).rank0 ≡ (stand_of e j 0).position
        = ap (λ (x : ℕ). (unpacked x).rank0) same ∙ packed_rank0 (positions d e j) (positions_sized d e j l) ∙ (λ i. (stand_zero e (width d e j) j i).position) in
        let m : (unpacked cell).number ≡ j = ap (λ (x : ℕ). (unpacked x).number) same ∙ packed_number (positions d e j) (positions_sized d e j l) in
        let k : 0 < width d e j = width_some file accepted r here some j h in
        let first : (stand_of e j 0).component ≡ 0 = omega (arith, component_in file accepted r here some j 0 h k, one) in
        let inside : (stand_of e j 0).position < field e (7 + (stand_of e j 0).component) = position_in file accepted r here some j 0 h k in
        let v : p.rank0 < field e 7 = omega (arith, b, c, inside, ap (λ (i : ℕ). field e (7 + i)) first) in
        let t = z.lanes in
        let sized : Sized p
        = record {
          lanes = record { least = t.least; rank3 = t.rank3; rank2 = t.rank2; rank1 = t.rank1; rank0 = t.rank0 };
          number = omega (arith, m, room, l);
          category = z.category;
        } in
        omega (arith, mark_made zeros cell (pair_of d e j).places mark, packed_below p (field e 7) sized (omega (arith, v)))

  pub ready_all : (mark : ℕ)
      → take (field (record_of file r) 1) (marked mark (ready_cell (dimensions_of file) (record_of file r) 0) ∷ (marked mark (ready_cell (dimensions_of file) (record_of file r) 1) ∷ (marked mark (ready_cell (dimensions_of file) (record_of file r) 2) ∷ [])))
      ≡ map number_of (daughters_of (grammar_of file) (rule_of (dimensions_of file) (record_of file r)) (0 ∷ []) mark)
  ready_all mark =
      first_of (marked_number mark) (marked mark (ready_cell d e 0)) (marked mark (ready_cell d e 1)) (marked mark (ready_cell d e 2)) (field e 1) few
      (λ h. ready_is 0 h mark) (λ h. ready_is 1 h mark) (λ h. ready_is 2 h mark)
      ∙ sym (map-map number_of (daughter_of g rule (0 ∷ []) mark) (numbers_from 0 (field e 1)))
      ∙ ap (λ (n : ℕ). map number_of (map (daughter_of g rule (0 ∷ []) mark) (numbers_from 0 n))) (sym (daughters_length g e (record_tested file accepted r here)))
