-- What the two cells of a daughter hold, and that they make the daughter.
-- Assumes nothing.
use Rattle.std.specs.Prelude.{if◌then◌else◌}
use mathlib.Core.Path.{◌≡◌, refl, sym, ap, ap₂, ◌∙◌}
use mathlib.Core.Option.{none}
use mathlib.Core.Bool.{Bool, true, false}
use mathlib.Core.List.{List, map}
use Prim.Native.Nat.{ℕ, zero, suc, ◌+◌, ◌/◌, ◌%◌, ◌<◌, ◌≤◌, min}
use native.Mathlib.Omega.{arith}
use native.Mathlib.Decide.{dec_lt}
use borrow.Author.Tests.{lt-ltb, le-ltb}
use lib.Dec.{ltb}
use lib.ListN.{length, get_or, take, length-map, get_or-eq_default}
use Rattle.model.specs.Base.{numbers_from}
use Rattle.model.specs.Grammar.{Rule, Grammar, dimension}
use Rattle.model.specs.GrammarFile.{field, dimensions_of, rules_of, record_of, grammar_refusal, rule_of, grammar_of}
use Rattle.model.proofs.Lists.{length_numbers}
use Rattle.model.proofs.RuleFromRecord.{three, daughter_in}
use Rattle.model.proofs.FromFile.{record_tested, dimensions_in, dimensions_four, categories_few}
use Rattle.grammar.proofs.OfGrammar.{daughter_is}
use Rattle.ranking.specs.Ranks.{variable_ranks, rank_of}
use Rattle.ranks.specs.Prediction.{packed, unpacked}
use Rattle.ranks.specs.Held.{lane_of, in_lanes}
use Rattle.ranks.specs.Daughters.{daughter, AtMostTwo, Alone, Repeats}
use Rattle.ranks.specs.Table.{daughter_of}
use Rattle.ranks.proofs.Fitting.{least_lanes}
use Rattle.ranks.proofs.Packing.{packed_least, packed_number, packed_category, packed_rank0, packed_rank1, packed_rank2, packed_rank3}
use Rattle.rule_table.specs.declared.places.Stand.{Stand}
use Rattle.rule_table.specs.Places.{stand_of, stand_in}
use Rattle.rule_table.specs.Cells.{width, positions, places_cell}
use Rattle.rule_table.proofs.Sizes.{in_small, positions_sized}
use Rattle.rule_table.proofs.RuleVariables.{rank_is}

-- f of component c of n, and of component 0 where there is no component c
abbrev or_zero : (ℕ → ℕ) → ℕ → ℕ → ℕ
or_zero f n c = if ltb c n then f c else f 0

number_at : (f : ℕ → ℕ) (a n c z : ℕ) → c < n → get_or (map f (numbers_from a n)) c z ≡ f (a + c)
number_at f a zero c z h = absurd (omega arith)
number_at f a (suc n) zero z h = let e : a ≡ a + 0 = omega arith in ap f e
number_at f a (suc n) (suc c) z h = let e : suc a + c ≡ a + suc c = omega arith in number_at f (suc a) n c z (omega arith) ∙ ap f e

lane_is : (f : ℕ → ℕ) (n c : ℕ) → 1 ≤ n → lane_of (map f (numbers_from 0 n)) c ≡ or_zero f n c
lane_is f n c h = go (dec_lt c n)
  where
    l : List ℕ
    l = map f (numbers_from 0 n)

    go : Dec (c < n) → get_or l c (get_or l 0 0) ≡ or_zero f n c
    go (yes k) = let e : 0 + c ≡ c = omega arith in number_at f 0 n c (get_or l 0 0) k ∙ ap f e ∙ sym (ap (λ (b : Bool). if b then f c else f 0) (lt-ltb c n k))
    go (no k) =
        get_or-eq_default l (get_or l 0 0) {n = c} (omega (arith, length-map (numbers_from 0 n) f, length_numbers 0 n)) ∙ number_at f 0 n 0 0 h
        ∙ sym (ap (λ (b : Bool). if b then f c else f 0) (le-ltb c n (omega arith)))

-- the places of a daughter's components, where it has fewer than 8
module _ (d e : List ℕ) (j : ℕ) (few : width d e j < 8) where
  abbrev stand : ℕ → Stand
  stand c = stand_in e (width d e j) j c

  small : (c : ℕ) → (stand c).component < 4
  small c = (in_small e (width d e j) j c).component_small

  wide_is : places_cell d e j % 8 ≡ width d e j
  wide_is = omega arith

  place0 : places_cell d e j / 8 % 4 ≡ (stand 0).component
  place0 = omega (arith, small 0)

  place1 : places_cell d e j / 64 % 4 ≡ (stand 1).component
  place1 = omega (arith, small 0, small 1)

  place2 : places_cell d e j / 512 % 4 ≡ (stand 2).component
  place2 = omega (arith, small 0, small 1, small 2)

  place3 : places_cell d e j / 4096 % 4 ≡ (stand 3).component
  place3 = omega (arith, small 0, small 1, small 2, small 3)

-- a component that a daughter does not have repeats component 0
not_there : (e : List ℕ) (n j c : ℕ) → n ≤ c → stand_in e n j c ≡ stand_in e n j 0
not_there e n j c h = ap (λ (b : Bool). if b then stand_of e j c else stand_of e j 0) (le-ltb c n h) ∙ sym (zeroth (ltb 0 n))
  where
    zeroth : (b : Bool) → (if b then stand_of e j 0 else stand_of e j 0) ≡ stand_of e j 0
    zeroth true = refl
    zeroth false = refl

at_most_two_is : (d e : List ℕ) (j : ℕ) → j < 3 → width d e j < 8 → places_cell d e j % 8 < 3 → AtMostTwo (packed (positions d e j)) (places_cell d e j)
at_most_two_is d e j h few two =
    let w = wide_is d e j few in
    let p = positions d e j in
    let z = positions_sized d e j h in
    let o2 = not_there e (width d e j) j 2 (omega (arith, w)) in
    let o3 = not_there e (width d e j) j 3 (omega (arith, w)) in
    record {
      least = packed_least p z;
      rank2 = packed_rank2 p z ∙ ap (λ (t : Stand). t.position) o2 ∙ sym (packed_rank0 p z);
      rank3 = packed_rank3 p z ∙ ap (λ (t : Stand). t.position) o3 ∙ sym (packed_rank0 p z);
      place2 = place2 d e j few ∙ ap (λ (t : Stand). t.component) o2 ∙ sym (place0 d e j few);
      place3 = place3 d e j few ∙ ap (λ (t : Stand). t.component) o3 ∙ sym (place0 d e j few);
    }

alone_is : (d e : List ℕ) (j : ℕ) → j < 3 → width d e j < 8 → places_cell d e j % 8 ≡ 1 → Alone (packed (positions d e j)) (places_cell d e j)
alone_is d e j h few one =
    let p = positions d e j in
    let z = positions_sized d e j h in
    let o1 = not_there e (width d e j) j 1 (omega (arith, wide_is d e j few)) in
    record {
      at_most_two = at_most_two_is d e j h few (omega arith);
      rank1 = packed_rank1 p z ∙ ap (λ (t : Stand). t.position) o1 ∙ sym (packed_rank0 p z);
      place1 = place1 d e j few ∙ ap (λ (t : Stand). t.component) o1 ∙ sym (place0 d e j few);
    }

pub repeats_is : (d e : List ℕ) (j : ℕ) → j < 3 → width d e j < 8 → Repeats (packed (positions d e j)) (places_cell d e j)
repeats_is d e j h few = record { one = alone_is d e j h few; two = at_most_two_is d e j h few }

-- a nonlexical rule of an accepted file, and one of its daughters
module _ (file : List ℕ) (accepted : grammar_refusal file ≡ none) (r : ℕ) (here : r < rules_of file) (some : 0 < field (record_of file r) 1) (j : ℕ) (h : j < field (record_of file r) 1) where
  abbrev e : List ℕ
  e = record_of file r

  abbrev d : List ℕ
  d = dimensions_of file

  abbrev g : Grammar
  g = grammar_of file

  abbrev rule : Rule
  rule = rule_of d e

  abbrev w : ℕ
  w = width d e j

  low : j < 3
  low = omega (arith, three g e (record_tested file accepted r here))

  there : field e (2 + j) < length g.dimensions
  there = daughter_in g e (record_tested file accepted r here) j h

  pub width_some : 1 ≤ width (dimensions_of file) (record_of file r) j
  width_some = (dimensions_in file accepted (field e (2 + j)) there).0

  pub width_four : width (dimensions_of file) (record_of file r) j ≤ 4
  width_four = dimensions_four file accepted (field e (2 + j))

  module _ (bs : List ℕ) (long : length bs ≡ 4) (mark : ℕ) where
    abbrev rank : ℕ → ℕ
    rank c = rank_of (variable_ranks (take (length rule.components) bs) rule.components) j c

    rank_in : (c : ℕ) → get_or bs (stand_in e w j c).component 0 + (stand_in e w j c).position ≡ or_zero rank w c
    rank_in c = go (dec_lt c w)
      where
        go : Dec (c < w) → get_or bs (stand_in e w j c).component 0 + (stand_in e w j c).position ≡ or_zero rank w c
        go (yes k) = rw (lt-ltb c w k) (sym (rank_is file accepted r here some j c h k bs long))
        go (no k) = rw (le-ltb c w (omega arith)) (sym (rank_is file accepted r here some j 0 h (omega (arith, width_some)) bs long))

    pub makes_is : daughter bs (packed (positions (dimensions_of file) (record_of file r) j)) (places_cell (dimensions_of file) (record_of file r) j) mark
        ≡ in_lanes (daughter_of (grammar_of file) (rule_of (dimensions_of file) (record_of file r)) (take (length (rule_of (dimensions_of file) (record_of file r)).components) bs) mark j)
    makes_is =
        let few : w < 8 = omega (arith, width_four) in
        let p = positions d e j in
        let z = positions_sized d e j low in
        let r0 : get_or bs (places_cell d e j / 8 % 4) 0 + (unpacked (packed p)).rank0 ≡ or_zero rank w 0 = ap₂ (λ (k i : ℕ). get_or bs k 0 + i) (place0 d e j few) (packed_rank0 p z) ∙ rank_in 0 in
        let r1 : get_or bs (places_cell d e j / 64 % 4) 0 + (unpacked (packed p)).rank1 ≡ or_zero rank w 1 = ap₂ (λ (k i : ℕ). get_or bs k 0 + i) (place1 d e j few) (packed_rank1 p z) ∙ rank_in 1 in
        let r2 : get_or bs (places_cell d e j / 512 % 4) 0 + (unpacked (packed p)).rank2 ≡ or_zero rank w 2 = ap₂ (λ (k i : ℕ). get_or bs k 0 + i) (place2 d e j few) (packed_rank2 p z) ∙ rank_in 2 in
        let r3 : get_or bs (places_cell d e j / 4096 % 4) 0 + (unpacked (packed p)).rank3 ≡ or_zero rank w 3 = ap₂ (λ (k i : ℕ). get_or bs k 0 + i) (place3 d e j few) (packed_rank3 p z) ∙ rank_in 3 in
        let n = ap (λ (m : ℕ). mark + m) (packed_number p z) in
        let small : field e (2 + j) % 64 ≡ field e (2 + j) = omega (arith, there, categories_few file accepted) in
        let a = packed_category p z ∙ small in
        let t0 = r0 ∙ sym (lane_is rank w 0 width_some) in
        let t1 = r1 ∙ sym (lane_is rank w 1 width_some) in
        let t2 = r2 ∙ sym (lane_is rank w 2 width_some) in
        let t3 = r3 ∙ sym (lane_is rank w 3 width_some) in
        let ranks = map rank (numbers_from 0 w) in
        let long = length-map (numbers_from 0 w) rank ∙ length_numbers 0 w in
        let l = (λ i. min (min (t0 i) (t1 i)) (min (t2 i) (t3 i))) ∙ least_lanes ranks (omega (arith, long, width_some)) (omega (arith, long, width_four)) in
        (λ i. record { least = l i; number = n i; category = a i; rank3 = t3 i; rank2 = t2 i; rank1 = t1 i; rank0 = t0 i })
        ∙ ap (λ (b : ℕ). in_lanes (record { category = b; ranks = map rank (numbers_from 0 (dimension g b)); node = mark + j })) (sym (daughter_is file accepted r here j h))
