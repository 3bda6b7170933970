-- A table whose cells are those of each record holds every rule of the grammar that the file holds.
-- Assumes nothing.
use Rattle.std.specs.Prelude.{if◌then◌else◌}
use mathlib.Core.Path.{◌≡◌, refl, sym, ap, ap₂, subst, ◌∙◌}
use mathlib.Core.Option.{none}
use mathlib.Core.Bool.{Bool, true, false}
use mathlib.Core.List.{List, [], ◌∷◌, ◌++◌, map}
use Prim.Native.Nat.{ℕ, zero, suc, ◌+◌, ◌-◌, ◌*◌, ◌/◌, ◌%◌, ◌<◌, ◌≤◌}
use native.Mathlib.Omega.{arith}
use native.Mathlib.Decide.{dec_lt}
use borrow.Author.Tests.{lt-ltb, le-ltb, eq-eqb, ne_eqb}
use lib.Dec.{eqb}
use lib.ListN.{length, get_or, take, drop, length-map, length-take, get_or-eq_default, get_or-map}
use lib.Seq.{get_or-take, get_or-drop}
use Rattle.model.specs.Grammar.{Rule, Grammar, is_lexical, dimension}
use Rattle.model.specs.GrammarFile.{fields, field, record_place, dimensions_of, rules_of, record_of, grammar_refusal, rule_of, grammar_of}
use Rattle.model.proofs.RuleFromRecord.{Tested, category_in, three, daughters_length}
use Rattle.model.proofs.FromFile.{rule_is, rules_in, record_tested, dimensions_four, categories_few}
use Rattle.grammar.proofs.OfGrammar.{components_are}
use Rattle.ranking.specs.Ranks.{lengths}
use Rattle.ranks.specs.Prediction.{packed}
use Rattle.ranks.specs.Daughters.{daughter, Repeats}
use Rattle.ranks.specs.Moves.{lengths_of}
use Rattle.ranks.specs.Queue.{insert_all}
use Rattle.ranks.specs.Held.{number_of}
use Rattle.ranks.specs.Table.{ones, marked, daughters_of, ready_made, RuleLengths, WideCells, NarrowCells, RuleCells, Compiled}
use Rattle.rule_table.specs.Cells.{dimension_of, head_cell, length_in, lengths_cell, positions, places_cell, pair_of, ready_cell, ready, narrow_cells, wide_cells, some_cells, lexical_cells, cells_of}
use Rattle.rule_table.proofs.Ordering.{order_settles, order_first, order_second, order_below, order_all}
use Rattle.rule_table.proofs.RuleVariables.{few, component_most, component_length}
use Rattle.rule_table.proofs.DaughterCells.{width_four, repeats_is, makes_is}
use Rattle.rule_table.proofs.ReadyMade.{ready_small, pair_is, ready_within, ready_all}

-- every number of the list is a byte
abbrev pub Bytes : List ℕ → Type 0
Bytes l = (i : ℕ) → get_or l i 0 < 256

part_bytes : (l : List ℕ) → Bytes l → (i n : ℕ) → Bytes (fields l i n)
part_bytes l h i n j = go (dec_lt j n)
  where
    go : Dec (j < n) → get_or (fields l i n) j 0 < 256
    go (yes k) = rw (get_or-take n (drop i l) j 0 k, get_or-drop i l j 0) (h (i + j))
    go (no k) = omega (arith, get_or-eq_default (fields l i n) 0 {n = j} (omega (arith, length-take n (drop i l))))

-- a rule that is not lexical has daughters
some_daughters : (rule : Rule) → is_lexical rule ≡ false → 0 < length rule.daughters
some_daughters rule l = go rule.daughters l
  where
    go : (ds : List ℕ) → (elim ds [ [] ↦ true | a ∷ ms ↦ false ]) ≡ false → 0 < length ds
    go [] m = let z : ◌≡◌ {A = ℕ} 0 1 = cc in absurd (omega arith)
    go (a ∷ ms) m = omega arith

-- four lengths in one number
low_part : (a m : ℕ) → a < 65536 → (a + 65536 * m) % 65536 ≡ a
low_part a m h = omega arith

high_part : (a m : ℕ) → a < 65536 → (a + 65536 * m) / 65536 ≡ m
high_part a m h = omega arith

twice : (x : ℕ) → x / 4294967296 ≡ x / 65536 / 65536
twice x = omega arith

thrice : (x : ℕ) → x / 281474976710656 ≡ x / 65536 / 65536 / 65536
thrice x = omega arith

lengths_apart : (a b c n : ℕ) → a < 65536 → b < 65536 → c < 65536 → lengths_of (a + 65536 * (b + 65536 * (c + 65536 * n))) ≡ a ∷ (b ∷ (c ∷ (n ∷ [])))
lengths_apart a b c n h k l =
    let y = c + 65536 * n in
    let z = b + 65536 * y in
    let x = a + 65536 * z in
    let u = high_part a z h in
    let v = ap (λ (i : ℕ). i / 65536) u ∙ high_part b y k in
    let p = low_part a z h in
    let q = ap (λ (i : ℕ). i % 65536) u ∙ low_part b y k in
    let r = ap (λ (i : ℕ). i % 65536) (twice x ∙ v) ∙ low_part c n l in
    let s = thrice x ∙ ap (λ (i : ℕ). i / 65536) v ∙ high_part c n l in
    λ i. p i ∷ (q i ∷ (r i ∷ (s i ∷ [])))

-- 1 to 4 lengths, and 1 for each that is not there
lengths_padded : (ls : List ℕ) (f : ℕ → ℕ) → length ls ≤ 4 → ((k : ℕ) → k < length ls → f k ≡ get_or ls k 0) → ((k : ℕ) → length ls ≤ k → f k ≡ 1)
    → f 0 ∷ (f 1 ∷ (f 2 ∷ (f 3 ∷ []))) ≡ ls ++ ones (4 - length ls)
lengths_padded [] f h p q = cc (q 0 (omega arith), q 1 (omega arith), q 2 (omega arith), q 3 (omega arith))
lengths_padded (a ∷ []) f h p q = cc (p 0 (omega arith), q 1 (omega arith), q 2 (omega arith), q 3 (omega arith))
lengths_padded (a ∷ b ∷ []) f h p q = cc (p 0 (omega arith), p 1 (omega arith), q 2 (omega arith), q 3 (omega arith))
lengths_padded (a ∷ b ∷ c ∷ []) f h p q = cc (p 0 (omega arith), p 1 (omega arith), p 2 (omega arith), q 3 (omega arith))
lengths_padded (a ∷ b ∷ c ∷ n ∷ []) f h p q = cc (p 0 (omega arith), p 1 (omega arith), p 2 (omega arith), p 3 (omega arith))
lengths_padded (a ∷ b ∷ c ∷ n ∷ m ∷ l) f h p q = absurd (omega arith)

module _ (file : List ℕ) (bytes : Bytes file) (accepted : grammar_refusal file ≡ none) (t : List ℕ) (long : length t ≡ 2048)
    (filled : (q : ℕ) → q < rules_of file → (i : ℕ) → i < 8 → get_or t (8 * q + i) 0 ≡ get_or (cells_of (dimensions_of file) (record_of file q)) i 0) where
  module _ (r : ℕ) (here : r < rules_of file) where
    abbrev e : List ℕ
    e = record_of file r

    abbrev d : List ℕ
    d = dimensions_of file

    abbrev g : Grammar
    g = grammar_of file

    abbrev at : ℕ
    at = 8 * r

    abbrev rule : Rule
    rule = rule_of d e

    abbrev n : ℕ
    n = field e 1

    tested : Tested g e
    tested = record_tested file accepted r here

    e_bytes : Bytes e
    e_bytes = part_bytes file bytes (record_place r) 24

    cell_at : (k i : ℕ) → k ≡ 8 * r + i → i < 8 → get_or t k 0 ≡ get_or (cells_of d e) i 0
    cell_at k i z h = ap (λ (j : ℕ). get_or t j 0) z ∙ filled r here i h

    -- cell 0 is the same for every rule
    head_is : get_or t at 0 ≡ head_cell d e
    head_is = cell_at at 0 (omega arith) (omega arith) ∙ go (eqb n 0) (eqb (dimension_of d e) 1)
      where
        go : (a b : Bool) → get_or (if a then lexical_cells d e else if b then narrow_cells d e else wide_cells d e) 0 0 ≡ head_cell d e
        go true b = refl
        go false true = refl
        go false false = refl

    module _ (nonlexical : is_lexical (rule_of (dimensions_of file) (record_of file r)) ≡ false) where
      some : 0 < n
      some = omega (arith, some_daughters rule nonlexical, daughters_length g e tested)

      cells_some : cells_of d e ≡ some_cells d e
      cells_some = rw (ne_eqb n 0 (λ z. omega (arith, some)))

      -- cell 1 is the same for every nonlexical rule
      lengths_is : get_or t (at + 1) 0 ≡ lengths_cell d e
      lengths_is = cell_at (at + 1) 1 refl (omega arith) ∙ ap (λ (l : List ℕ). get_or l 1 0) cells_some ∙ go (eqb (dimension_of d e) 1)
        where
          go : (b : Bool) → get_or (if b then narrow_cells d e else wide_cells d e) 1 0 ≡ lengths_cell d e
          go true = refl
          go false = refl

      components_length : length rule.components ≡ dimension_of d e
      components_length = components_are file accepted r here some

      length_at : (k : ℕ) → k < 4 → get_or (lengths rule) k 0 ≡ field e (7 + k)
      length_at k h = get_or-map length rule.components k [] ∙ component_length file accepted r here some k h

      length_in_lem : (k : ℕ) → length_in d e k < 65536
      length_in_lem k = go (dec_lt k (dimension_of d e))
        where
          go : Dec (k < dimension_of d e) → length_in d e k < 65536
          go (yes l) = rw (lt-ltb k (dimension_of d e) l) (omega (arith, e_bytes (7 + k)))
          go (no l) = rw (le-ltb k (dimension_of d e) (omega arith)) (omega arith)

      at_most : (k : ℕ) → get_or (lengths rule) k 0 ≤ 12
      at_most k = go (dec_lt k 4)
        where
          go : Dec (k < 4) → get_or (lengths rule) k 0 ≤ 12
          go (yes l) = omega (arith, length_at k l, component_most file accepted r here some k l)
          go (no l) = omega (arith, get_or-eq_default (lengths rule) 0 {n = k} (omega (arith, length-map rule.components length, few file accepted r here some)))

      rule_lengths : RuleLengths rule (get_or t (at + 1) 0)
      rule_lengths =
          let m : length (lengths rule) ≡ length rule.components = length-map rule.components length in
          let f = few file accepted r here some in
          record {
            lengths_are =
                ap lengths_of lengths_is ∙ lengths_apart (length_in d e 0) (length_in d e 1) (length_in d e 2) (length_in d e 3) (length_in_lem 0) (length_in_lem 1) (length_in_lem 2)
                ∙ lengths_padded (lengths rule) (length_in d e) (omega arith)
                (λ k h. rw (lt-ltb k (dimension_of d e) (omega (arith, components_length))) (sym (length_at k (omega arith))))
                (λ k h. rw (le-ltb k (dimension_of d e) (omega (arith, components_length))))
                ∙ ap (λ (i : ℕ). lengths rule ++ ones (4 - i)) m;
            few = at_most;
          }

      -- the cells of daughter j, of a rule of dimension 2 or more
      module _ (wide : dimension (grammar_of file) (field (record_of file r) 0) ≡ 1 → ⊥) where
        cells_wide : cells_of d e ≡ wide_cells d e
        cells_wide = cells_some ∙ ap (λ (b : Bool). if b then narrow_cells d e else wide_cells d e) (ne_eqb (dimension_of d e) 1 wide)

        pair_at_lem : (j : ℕ) → j < 3 → (get_or t (at + 2 + 2 * j) 0 ≡ (pair_of d e j).cell) × (get_or t (at + 3 + 2 * j) 0 ≡ (pair_of d e j).places)
        pair_at_lem j h =
            let (a, b) = go j h in (
              cell_at (at + 2 + 2 * j) (2 + 2 * j) (omega arith) (omega arith) ∙ ap (λ (l : List ℕ). get_or l (2 + 2 * j) 0) cells_wide ∙ a,
              cell_at (at + 3 + 2 * j) (3 + 2 * j) (omega arith) (omega arith) ∙ ap (λ (l : List ℕ). get_or l (3 + 2 * j) 0) cells_wide ∙ b,
            )
          where
            go : (j : ℕ) → j < 3 → (get_or (wide_cells d e) (2 + 2 * j) 0 ≡ (pair_of d e j).cell) × (get_or (wide_cells d e) (3 + 2 * j) 0 ≡ (pair_of d e j).places)
            go zero h = (refl, refl)
            go (suc zero) h = (refl, refl)
            go (suc (suc zero)) h = (refl, refl)
            go (suc (suc (suc j))) h = absurd (omega arith)

        pair_cells : (j : ℕ) → j < n → (get_or t (at + 2 + 2 * j) 0 ≡ packed (positions d e j)) × (get_or t (at + 3 + 2 * j) 0 ≡ places_cell d e j)
        pair_cells j k =
            let c = pair_at_lem j (omega (arith, k, three g e tested)) in
            let p = pair_is d e j k in
            (c.0 ∙ (λ i. (p i).cell), c.1 ∙ (λ i. (p i).places))

        wide_cells_lem : WideCells g rule t at
        wide_cells_lem =
            record {
              makes = λ j h bs l mark.
                  let k : j < n = omega (arith, h, daughters_length g e tested) in
                  let c = pair_cells j k in
                  ap₂ (λ (x y : ℕ). daughter bs x y mark) c.0 c.1 ∙ makes_is file accepted r here some j k bs l mark;
              repeats = λ j h.
                  let k : j < n = omega (arith, h, daughters_length g e tested) in
                  let c = pair_cells j k in
                  subst (λ (p : ℕ × ℕ). Repeats p.0 p.1) (λ i. (sym c.0 i, sym c.1 i))
                  (repeats_is d e j (omega (arith, k, three g e tested)) (omega (arith, width_four file accepted r here some j k)));
            }

      -- the cells of a rule of dimension 1
      module _ (narrow : dimension (grammar_of file) (field (record_of file r) 0) ≡ 1) where
        cells_narrow : cells_of d e ≡ narrow_cells d e
        cells_narrow = cells_some ∙ ap (λ (b : Bool). if b then narrow_cells d e else wide_cells d e) (eq-eqb (dimension_of d e) 1 narrow)

        one : length rule.components ≡ 1
        one = components_length ∙ narrow

        ready_at : (j : ℕ) → j < 3 → get_or t (at + 2 + 2 * j) 0 ≡ get_or (ready d e) j 0
        ready_at j h = cell_at (at + 2 + 2 * j) (2 + 2 * j) (omega arith) (omega arith) ∙ ap (λ (l : List ℕ). get_or l (2 + 2 * j) 0) cells_narrow ∙ go j h
          where
            go : (j : ℕ) → j < 3 → get_or (narrow_cells d e) (2 + 2 * j) 0 ≡ get_or (ready d e) j 0
            go zero h = refl
            go (suc zero) h = refl
            go (suc (suc zero)) h = refl
            go (suc (suc (suc j))) h = absurd (omega arith)

        abbrev x : ℕ → ℕ
        x j = ready_cell d e j

        at_most_three : n ≤ 3
        at_most_three = three g e tested

        count : length rule.daughters ≡ n
        count = daughters_length g e tested

        low_is : get_or t (at + 2) 0 ≡ get_or (ready d e) 0 0
        low_is = let z : at + 2 ≡ at + 2 + 2 * 0 = omega arith in ap (λ (i : ℕ). get_or t i 0) z ∙ ready_at 0 (omega arith)

        mid_is : get_or t (at + 4) 0 ≡ get_or (ready d e) 1 0
        mid_is = let z : at + 4 ≡ at + 2 + 2 * 1 = omega arith in ap (λ (i : ℕ). get_or t i 0) z ∙ ready_at 1 (omega arith)

        high_is : get_or t (at + 6) 0 ≡ get_or (ready d e) 2 0
        high_is = let z : at + 6 ≡ at + 2 + 2 * 2 = omega arith in ap (λ (i : ℕ). get_or t i 0) z ∙ ready_at 2 (omega arith)

        settles : (mark : ℕ) (q : List ℕ) → insert_all (take (length rule.daughters) (ready_made t at mark)) q ≡ insert_all (map number_of (daughters_of g rule (0 ∷ []) mark)) q
        settles mark q =
            (λ i. insert_all (take (count i) (marked mark (low_is i) ∷ (marked mark (mid_is i) ∷ (marked mark (high_is i) ∷ [])))) q)
            ∙ order_settles n (x 0) (x 1) (x 2) (mark * 4398046511104) q some at_most_three
            ∙ ap (λ (l : List ℕ). insert_all l q) (ready_all file accepted r here some one mark)

        inside : (mark : ℕ) → mark + 3 ≤ 512 → (j : ℕ) → j < n → marked mark (get_or t (at + 2 + 2 * j) 0) < field e 7 * 2251799813685248
        inside mark room j h =
            let m = mark * 4398046511104 in
            let w : (i : ℕ) → i < n → x i + m < field e 7 * 2251799813685248 = λ i k. ready_within file accepted r here some one i k mark room in
            let b = order_below n (x 0) (x 1) (x 2) (field e 7 * 2251799813685248 - m) (λ k. less (x 0) m (field e 7 * 2251799813685248) (w 0 k)) (λ k. less (x 1) m (field e 7 * 2251799813685248) (w 1 k))
            (λ k. less (x 2) m (field e 7 * 2251799813685248) (w 2 k)) at_most_three j h in
            back (get_or t (at + 2 + 2 * j) 0) (get_or (ready d e) j 0) m (field e 7 * 2251799813685248) (ready_at j (omega (arith, h, at_most_three))) b
          where
            less : (a m b : ℕ) → a + m < b → a < b - m
            less a m b h = omega arith

            back : (a c m b : ℕ) → a ≡ c → c < b - m → a + m < b
            back a c m b s h = omega arith

        narrow_cells_lem : NarrowCells g rule t at
        narrow_cells_lem =
            record {
              places = λ mark room q. settles mark q;
              first_second = λ h. omega (arith, low_is, mid_is, order_first n (x 0) (x 1) (x 2) (omega (arith, h, count)) at_most_three);
              second_third = λ h. omega (arith, mid_is, high_is, order_second n (x 0) (x 1) (x 2) (omega (arith, h, count)) at_most_three);
              within = λ mark room j h. omega (arith, length_at 0 (omega arith), inside mark room j (omega (arith, h, count)));
              small = λ j h.
                  omega (arith, ready_at j h, order_all n (x 0) (x 1) (x 2) 1152921504606846976 (ready_small d e 0 (omega arith)) (ready_small d e 1 (omega arith)) (ready_small d e 2 (omega arith)) j h);
            }

    rule_cells : RuleCells g rule t at
    rule_cells =
        let c = category_in g e tested in
        let f = categories_few file accepted in
        let m = dimensions_four file accepted (field e 0) in
        let k = three g e tested in
        let h = head_is in
        record {
          long = long;
          room = omega (arith, rules_in file accepted);
          daughters = omega (arith, daughters_length g e tested);
          dimension_is = omega arith;
          category = omega arith;
          word = omega (arith, e_bytes 5, e_bytes 6);
          lengths_of_lem = rule_lengths;
          wide = wide_cells_lem;
          narrow = narrow_cells_lem;
        }

  pub compiled : Compiled (grammar_of file) t
  compiled r rule found =
      let (here, same) = rule_is file r rule found in
      subst (λ (x : Rule). RuleCells (grammar_of file) x t (8 * r)) same (rule_cells r here)
