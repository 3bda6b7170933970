-- Each variable of a nonlexical rule of an accepted file stands where `stand_of` says, and takes the rank that this gives.
-- Assumes nothing.
use mathlib.Core.Path.{◌≡◌, sym, ap, subst, ◌∙◌}
use mathlib.Core.Option.{none}
use mathlib.Core.Bool.{false}
use mathlib.Core.List.{List, [], ◌∷◌, map, Memᴰ}
use Prim.Native.Nat.{ℕ, zero, suc, ◌+◌, ◌-◌, ◌*◌, ◌/◌, ◌%◌, ◌<◌, ◌≤◌}
use native.Mathlib.Omega.{arith}
use native.Mathlib.Decide.{dec_lt}
use lib.ListN.{length, get_or, take, drop, length-map, length-take, length-drop, get_or-eq_default, get_or-map}
use lib.Seq.{get_or-take}
use Rattle.model.specs.Base.{numbers_from}
use Rattle.model.specs.Grammar.{Variable, Rule, Grammar, variable, dimension, is_lexical}
use Rattle.model.specs.GrammarFile.{fields, field, variables, dimensions_of, rules_of, record_of, grammar_refusal, decoded, rule_of, grammar_of}
use Rattle.model.specs.WellFormed.{named, daughter_variables}
use Rattle.model.proofs.Lists.{mem_left, mem_right, map_in, map_out, numbers_in}
use Rattle.model.proofs.Perm.{perm_mem, perm_sym}
use Rattle.model.proofs.Sums.{sum_same, sum_rises}
use Rattle.model.proofs.Variables.{decode}
use Rattle.model.proofs.RuleFromRecord.{Tested, field_length, field_at, daughters_length, not_lexical, twelve, named_are, rule_right}
use Rattle.model.proofs.FromFile.{record_tested, dimensions_in, dimensions_four}
use Rattle.grammar.proofs.OfGrammar.{before_twelve, component_at, daughter_is, components_are}
use Rattle.ranking.specs.Ranks.{variable_ranks, rank_of}
use Rattle.rule_table.specs.declared.places.Stand.{Stand}
use Rattle.rule_table.specs.Places.{first_of, stand_of}
use Rattle.rule_table.specs.Cells.{width}
use Rattle.rule_table.proofs.Standing.{before, first_before, first_is, Stands, stands_at}
use Rattle.rule_table.proofs.VariableRanks.{Slot, no_slot, variable_of, ranks_named, passed_by, named_length, rank_there, rank_first}

-- what is in a list stands at a place of it
mem_place : {x : ℕ} {l : List ℕ} → Memᴰ x l → (k : ℕ) × (k < length l) × (get_or l k 0 ≡ x)
mem_place (Memᴰ.head f) = (0, omega arith, sym f)
mem_place (Memᴰ.tail m) = let (k, h, f) = mem_place m in (suc k, omega arith, f)

-- each component of each daughter has a variable
daughter_variable : (g : Grammar) (i : ℕ) (ds : List ℕ) (j c : ℕ) → j < length ds → c < dimension g (get_or ds j 0) → Memᴰ (variable (i + j) c) (daughter_variables g i ds)
daughter_variable g i [] j c h k = absurd (omega arith)
daughter_variable g i (a ∷ ds) zero c h k =
    let z : i + 0 ≡ i = omega arith in
    rw z (mem_left (daughter_variables g (suc i) ds) (map_in (variable i) (numbers_in c 0 (dimension g a) (omega arith) (omega arith))))
daughter_variable g i (a ∷ ds) (suc j) c h k =
    let z : i + suc j ≡ suc i + j = omega arith in
    rw z (mem_right (map (variable i) (numbers_from 0 (dimension g a))) (daughter_variable g (suc i) ds j c (omega arith) k))

module _ (file : List ℕ) (accepted : grammar_refusal file ≡ none) (r : ℕ) (here : r < rules_of file) (some : 0 < field (record_of file r) 1) where
  abbrev e : List ℕ
  e = record_of file r

  abbrev d : List ℕ
  d = dimensions_of file

  abbrev g : Grammar
  g = grammar_of file

  abbrev rule : Rule
  rule = rule_of d e

  abbrev cs : List (List Variable)
  cs = rule.components

  tested : Tested g e
  tested = record_tested file accepted r here

  nonlexical : is_lexical rule ≡ false
  nonlexical = not_lexical g e tested some

  -- the components, and how many variables they have
  pub few : length (rule_of (dimensions_of file) (record_of file r)).components ≤ 4
  few = omega (arith, components_are file accepted r here some, dimensions_four file accepted (field e 0))

  before_most : (k : ℕ) → k < 4 → before e k + field e (7 + k) ≤ before e 4
  before_most k h =
      let z : suc k + (4 - suc k) ≡ 4 = omega arith in
      subst (λ (i : ℕ). before e (suc k) ≤ before e i) z (sum_rises (λ j. field e (7 + j)) (suc k) (4 - suc k))

  pub component_most : (k : ℕ) → k < 4 → field (record_of file r) (7 + k) ≤ 12
  component_most k h = omega (arith, before_most k h, before_twelve file accepted r here)

  pub component_length : (k : ℕ) → k < 4 → length (get_or (rule_of (dimensions_of file) (record_of file r)).components k []) ≡ field (record_of file r) (7 + k)
  component_length k h =
      let w : length (fields e 11 12) ≡ 12 = field_length g e tested 11 12 (omega arith) in
      let l = take (field e (7 + k)) (drop (before e k) (fields e 11 12)) in
      let m = before_most k h in
      let t = before_twelve file accepted r here in
      ap length (component_at file accepted r here k h) ∙ length-map l decoded
      ∙ omega (arith, length-take (field e (7 + k)) (drop (before e k) (fields e 11 12)), length-drop (before e k) (fields e 11 12))

  passed_is : (k : ℕ) → k ≤ 4 → passed_by cs k ≡ before e k
  passed_is k h = sum_same (λ i. length (get_or cs i [])) (λ j. field e (7 + j)) k (λ j l. component_length j (omega arith))

  -- the variables, one after the other
  abbrev many : ℕ
  many = variables d e

  twelve_at_most : many ≤ 12
  twelve_at_most = twelve g e tested (dimensions_in file accepted)

  row : named cs ≡ map decode (fields e 11 many)
  row = named_are g e tested (dimensions_in file accepted) nonlexical

  row_length : length (named cs) ≡ many
  row_length = ap length row ∙ length-map (fields e 11 many) decode ∙ field_length g e tested 11 many (omega (arith, twelve_at_most))

  total_is : many ≡ before e 4
  total_is = sym row_length ∙ named_length cs 4 few ∙ passed_is 4 (omega arith)

  module _ (j c : ℕ) (h : j < field (record_of file r) 1) (k : c < width (dimensions_of file) (record_of file r) j) where
    small : c < 4
    small = omega (arith, dimensions_four file accepted (field e (2 + j)))

    there : (v : ℕ) × (v < many) × (field e (11 + v) ≡ 4 * j + c)
    there =
        let w : c < dimension g (get_or rule.daughters j 0) = subst (λ (a : ℕ). c < dimension g a) (sym (daughter_is file accepted r here j h)) k in
        let m = daughter_variable g 0 rule.daughters j c (omega (arith, daughters_length g e tested)) w in
        let i = perm_mem (perm_sym ((rule_right g e tested (dimensions_in file accepted)).complete nonlexical)) m in
        let (x, o, q) = map_out decode (fields e 11 many) (subst (λ (l : List Variable). Memᴰ (variable (0 + j) c) l) row i) in
        let (v, b, f) = mem_place o in
        let a : 0 + j ≡ x / 4 = ap (λ (y : Variable). y.daughter) q in
        let u : c ≡ x % 4 = ap (λ (y : Variable). y.component) q in
        let b' : v < many = omega (arith, field_length g e tested 11 many (omega (arith, twelve_at_most))) in
        (v, b', omega (arith, field_at g e tested 11 many v b'))

    abbrev x : ℕ
    x = 4 * j + c

    abbrev first : ℕ
    first = first_of e x 0 12

    first_low : first < many
    first_low = go (dec_lt there.0 first)
      where
        go : Dec (there.0 < first) → first < many
        go (yes l) = absurd (first_before e x 0 12 there.0 (omega arith) l there.2)
        go (no l) = omega (arith, there.1)

    first_found : field e (11 + first) ≡ x
    first_found = first_is e x 0 12 (omega (arith, first_low, twelve_at_most))

    abbrev s : Stand
    s = stand_of e j c

    stands : Stands e first s
    stands = stands_at e first

    pub position_in : (stand_of (record_of file r) j c).position < field (record_of file r) (7 + (stand_of (record_of file r) j c).component)
    position_in = stands.inside (omega (arith, first_low, total_is))

    pub component_in : (stand_of (record_of file r) j c).component < length (rule_of (dimensions_of file) (record_of file r)).components
    component_in = go (dec_lt s.component (length cs))
      where
        go : Dec (s.component < length cs) → s.component < length cs
        go (yes l) = l
        go (no l) = absurd (omega (arith, ap length (get_or-eq_default cs [] {n = s.component} (omega arith)), component_length s.component stands.four, position_in))

    -- the rank of the variable, where the components begin at the ranks bs
    module _ (bs : List ℕ) (l : length bs ≡ 4) where
      abbrev begins : List ℕ
      begins = take (length cs) bs

      begins_length : length begins ≡ length cs
      begins_length = omega (arith, length-take (length cs) bs, few)

      abbrev slots : List Slot
      slots = variable_ranks begins cs

      slots_named : map variable_of slots ≡ named cs
      slots_named = ranks_named begins cs (omega (arith, begins_length))

      slots_length : length slots ≡ many
      slots_length = sym (length-map slots variable_of) ∙ ap length slots_named ∙ row_length

      slot_at : (w : ℕ) → w < many → (get_or slots w no_slot).0 ≡ decode (field e (11 + w))
      slot_at w m =
          sym (get_or-map variable_of slots w no_slot) ∙ ap (λ (a : List Variable). get_or a w (variable 0 0)) (slots_named ∙ row)
          ∙ get_or-map decode (fields e 11 many) w 0 ∙ ap decode (field_at g e tested 11 many w m)

      is : (w : ℕ) → w < many → field e (11 + w) ≡ x → ((get_or slots w no_slot).0.daughter ≡ j) × ((get_or slots w no_slot).0.component ≡ c)
      is w m q =
          let a = slot_at w m in
          let b = small in
          (omega (arith, ap (λ (y : Variable). y.daughter) a), omega (arith, ap (λ (y : Variable). y.component) a))

      is_x : (w : ℕ) → w < many → ((get_or slots w no_slot).0.daughter ≡ j) × ((get_or slots w no_slot).0.component ≡ c) → field e (11 + w) ≡ x
      is_x w m q =
          let a = slot_at w m in
          omega (arith, ap (λ (y : Variable). y.daughter) a, ap (λ (y : Variable). y.component) a)

      at : first ≡ passed_by cs s.component + s.position
      at = omega (arith, stands.number, stands.four, passed_is s.component (omega (arith, stands.four)))

      pub rank_is : rank_of (variable_ranks (take (length (rule_of (dimensions_of file) (record_of file r)).components) bs) (rule_of (dimensions_of file) (record_of file r)).components) j c
          ≡ get_or bs (stand_of (record_of file r) j c).component 0 + (stand_of (record_of file r) j c).position
      rank_is =
          rank_first slots j c first (omega (arith, slots_length, first_low)) (is first first_low first_found)
          (λ w m q. first_before e x 0 12 w (omega arith) m (is_x w (omega (arith, m, first_low)) q))
          ∙ ap (λ (i : ℕ). (get_or slots i no_slot).1) at
          ∙ rank_there begins cs s.component s.position (omega (arith, begins_length, component_in)) (omega (arith, component_length s.component stands.four, position_in))
          ∙ ap (λ (i : ℕ). i + s.position) (get_or-take (length cs) bs s.component 0 component_in)
