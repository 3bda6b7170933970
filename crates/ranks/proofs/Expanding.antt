-- A nonlexical step in code: what is so of the queue before it and after it, and that its numbers are those of the next queue.
-- Assumes nothing.
use Rattle.std.specs.Prelude.{if◌then◌else◌}
use mathlib.Core.Path.{◌≡◌, refl, sym, ap, ap₂, subst, subst⁻¹, ◌∙◌}
use mathlib.Core.Bool.{Bool, true, false}
use mathlib.Core.Option.{Option, some}
use mathlib.Core.List.{List, [], ◌∷◌, ◌++◌, map}
use Prim.Native.Nat.{ℕ, zero, suc, ◌+◌, ◌-◌, ◌*◌, ◌/◌, ◌%◌, ◌<◌, ◌≤◌}
use native.Mathlib.Omega.{arith}
use native.Mathlib.Decide.{ℕ_discrete}
use borrow.Author.Tests.{eq-eqb, lt-ltb}
use lib.ListN.{length, get_or, take, length-map}
use lib.Seq.{slice}
use Rattle.model.specs.Base.{numbers_from}
use Rattle.model.specs.Grammar.{Rule, Grammar, rule_at, is_lexical, dimension}
use Rattle.model.specs.WellFormed.{RightRule}
use Rattle.model.proofs.Perm.{perm_sym}
use Rattle.model.proofs.Apart.{Every, every_mem, mem_every, every_append, every_perm}
use Rattle.ranking.specs.Recognizer.{stops, goes}
use Rattle.ranking.specs.Ranks.{Ranked, passed, added, shifted, lengths, least_rank, rerank, expand_ranked, predict_ranked, scan_ranked, without_front, apply_ranked, step_ranked}
use Rattle.ranking.proofs.Bounds.{Rising, ranks_rising}
use Rattle.ranking.proofs.Limits.{Reached, reached_step, predict_length}
use Rattle.ranks.specs.Prediction.{Prediction, Short, Behind, Apart, Sized, ranks, lanes, packed, unpacked, remade}
use Rattle.ranks.specs.Queue.{Steps, insert, insert_if, insert_all}
use Rattle.ranks.specs.Queue as places
use Rattle.ranks.specs.Daughters.{daughter}
use Rattle.ranks.specs.declared.prediction.Moves.{Moves}
use Rattle.ranks.specs.Moves.{moves_ranks, moves_lengths, gathered, lengths_of, Bounded, begun, Begins}
use Rattle.ranks.specs.Held.{in_lanes, number_of, prediction_of, queue_in, Fits}
use Rattle.ranks.specs.Table.{ones, daughters_in, dimension_in, of_two, marked, ready_made, daughter_of, daughters_of, RuleLengths, RuleCells, WideCells, NarrowCells}
use Rattle.ranks.specs.Step.{daughter_at, Makes, two_moves, two_begins, TwoRanks, expanded, WideStep, ExpandsWide, ExpandsTwo, expanded_wide, expanded_two, Expands, expanded_queue}
use Rattle.ranks.proofs.Fitting.{all_fit}
use Rattle.ranks.proofs.Numbers.{sized, unpacked_number, put_perm}
use Rattle.ranks.proofs.Moved.{above_zero}
use Rattle.ranks.proofs.Sorting.{insert_after}
use Rattle.ranks.proofs.Pairs.{Pairwise, Unequal}
use Rattle.ranks.proofs.Fronts.{front_least, front_takes, front_unequal}
use Rattle.ranks.proofs.Two.{two_four, other_some, two_goes, two_begins_lem, two_apart, two_bounded}
use Rattle.ranks.proofs.OfTwo.{two_is_the_dimension}
use Rattle.ranks.proofs.Scanning as alone
use Rattle.ranks.proofs.Holding.{queue_length, queue_first, front_number, others_numbers, each_held}
use Rattle.ranks.proofs.Predicting.{each_lane, goes_to, daughters_are, others_short, others_behind, gathered_goes, gathered_fits, others_apart, begun_components, front_begins, daughters_fit, predicted_numbers}
use Rattle.ranks.proofs.Stepping.{take_same}

-- a nonlexical rule of the front's category leads on
predicts : (child : ℕ → ℕ → ℕ) (g : Grammar) (x : Ranked ℕ) (R : List (Ranked ℕ)) (ws : List ℕ) (r : ℕ) (rule : Rule) → rule_at g r ≡ some rule → is_lexical rule ≡ false → rule.category ≡ x.category
    → step_ranked child g (record { queue = x ∷ R; words = ws }) r ≡ goes (record { queue = predict_ranked child g rule x R; words = ws })
predicts child g x R ws r rule is lex of_front =
    ap (λ (o : Option Rule). apply_ranked child g o (x ∷ R) ws) is
    ∙ ap (λ (b : Bool). if b then (if is_lexical rule then scan_ranked rule.word (without_front x R) ws else goes (record { queue = predict_ranked child g rule x R; words = ws })) else stops 15) (eq-eqb rule.category x.category of_front)
    ∙ ap (λ (b : Bool). if b then scan_ranked rule.word (without_front x R) ws else goes (record { queue = predict_ranked child g rule x R; words = ws })) lex

numbers_small : (g : Grammar) (rule : Rule) (bs : List ℕ) (mark j n : ℕ) → mark + (j + n) ≤ 512 → Every (λ p. p.node < 512) (map (daughter_of g rule bs mark) (numbers_from j n))
numbers_small g rule bs mark j zero h = tt
numbers_small g rule bs mark j (suc n) h = (omega arith, numbers_small g rule bs mark (suc j) n (omega arith))

reranked_small : (f : ℕ → ℕ) (mark : ℕ) (q : List (Ranked ℕ)) → mark + 3 ≤ 512 → Every (λ p. p.node < mark) q → Every (λ p. p.node < 512) (map (rerank f) q)
reranked_small f mark [] h k = tt
reranked_small f mark (p ∷ q) h k = (omega (arith, k.0), reranked_small f mark q h k.1)

-- the top of a number that is made anew, and what lies above it
remade_least : (f : ℕ → ℕ) (y : ℕ) → f (unpacked y).least * 2251799813685248 ≤ remade f y
remade_least f y = top (f (unpacked y).least) (f (unpacked y).rank0) (f (unpacked y).rank1) (f (unpacked y).rank2) (f (unpacked y).rank3) (unpacked y).number (unpacked y).category
  where
    top : (l a b c d n k : ℕ) → l * 2251799813685248 ≤ lanes a b c d (n * 64 + k) l
    top l a b c d n k = omega arith

-- numbers in rising order below all of a list are put in before it
insert_front : (e b : ℕ) (l : List ℕ) → e < b → Every (λ y. b ≤ y) l → insert e l ≡ e ∷ l
insert_front e b [] h k = refl
insert_front e b (y ∷ l) h k = ap (λ (t : Bool). insert_if t e y l (insert e l)) (lt-ltb e y (omega (arith, k.0)))

first_placed : (n d0 d1 d2 b : ℕ) (l : List ℕ) → n ≤ 3 → (1 < n → d0 ≤ d1) → (2 < n → d1 ≤ d2) → (0 < n → d0 < b) → (1 < n → d1 < b) → (2 < n → d2 < b) → Every (λ y. b ≤ y) l
    → insert_all (take n (d0 ∷ (d1 ∷ (d2 ∷ [])))) l ≡ take n (d0 ∷ (d1 ∷ (d2 ∷ []))) ++ l
first_placed zero d0 d1 d2 b l h a c p q r k = refl
first_placed (suc zero) d0 d1 d2 b l h a c p q r k = insert_front d0 b l (p (omega arith)) k
first_placed (suc (suc zero)) d0 d1 d2 b l h a c p q r k =
    ap (insert d1) (insert_front d0 b l (p (omega arith)) k) ∙ insert_after d1 d0 l (a (omega arith)) ∙ ap (λ (m : List ℕ). d0 ∷ m) (insert_front d1 b l (q (omega arith)) k)
first_placed (suc (suc (suc zero))) d0 d1 d2 b l h a c p q r k =
    ap (insert d2) (first_placed (suc (suc zero)) d0 d1 d2 b l (omega arith) (λ z. a (omega arith)) (λ z. absurd (omega arith)) (λ z. p (omega arith)) (λ z. q (omega arith)) (λ z. absurd (omega arith)) k)
    ∙ insert_after d2 d0 (d1 ∷ l) (omega (arith, a (omega arith), c (omega arith)))
    ∙ ap (λ (m : List ℕ). d0 ∷ m) (insert_after d2 d1 l (c (omega arith)) ∙ ap (λ (m : List ℕ). d1 ∷ m) (insert_front d2 b l (r (omega arith)) k))
first_placed (suc (suc (suc (suc n)))) d0 d1 d2 b l h a c p q r k = absurd (omega arith)

-- of predictions one after the other, each by its number
numbered_fit : (g : Grammar) (D : ℕ → Ranked ℕ) (n i : ℕ) → Every (Fits g) (map D (numbers_from i n)) → (j : ℕ) → i ≤ j → j < i + n → Fits g (D j)
numbered_fit g D zero i e j a b = absurd (omega arith)
numbered_fit g D (suc n) i e j a b = go (ℕ_discrete i j) (λ k. numbered_fit g D n (suc i) e.1 j k (omega arith))
  where
    go : Dec (i ≡ j) → (suc i ≤ j → Fits g (D j)) → Fits g (D j)
    go (yes z) f = subst (λ (k : ℕ). Fits g (D k)) z e.0
    go (no z) f = f (omega arith)

take_numbers : (D : ℕ → Ranked ℕ) (n d0 d1 d2 : ℕ) → n ≤ 3 → (0 < n → d0 ≡ number_of (D 0)) → (1 < n → d1 ≡ number_of (D 1)) → (2 < n → d2 ≡ number_of (D 2))
    → take n (d0 ∷ (d1 ∷ (d2 ∷ []))) ≡ map number_of (map D (numbers_from 0 n))
take_numbers D n d0 d1 d2 h a b c = take_same n d0 d1 d2 (number_of (D 0)) (number_of (D 1)) (number_of (D 2)) a b c ∙ go n h
  where
    go : (n : ℕ) → n ≤ 3 → take n (number_of (D 0) ∷ (number_of (D 1) ∷ (number_of (D 2) ∷ []))) ≡ map number_of (map D (numbers_from 0 n))
    go zero h = refl
    go (suc zero) h = refl
    go (suc (suc zero)) h = refl
    go (suc (suc (suc zero))) h = refl
    go (suc (suc (suc (suc n)))) h = absurd (omega arith)

module _ (g : Grammar) (t w : List ℕ) (r mark from to : ℕ) (h : Expands g t r mark w from to) where
  abbrev pub rule : Rule
  rule = h.rule

  abbrev pub x : Ranked ℕ
  x = prediction_of g (get_or w from 0)

  abbrev pub R : List (Ranked ℕ)
  R = queue_in g w (from + 1) to

  abbrev pub next : List (Ranked ℕ)
  next = expanded_queue g h.rule mark w from to

  split : queue_in g w from to ≡ x ∷ R
  split = queue_first g w from to h.held h.predicted

  reached : Reached g (record { queue = x ∷ R; words = h.words })
  reached = subst (λ (q : List (Ranked ℕ)). Reached g (record { queue = q; words = h.words })) split h.reached

  fit : Every (Fits g) (x ∷ R)
  fit = subst (Every (Fits g)) split h.held.fit

  right : RightRule g rule
  right = h.well.right.rules r rule h.rule_is

  few_daughters : length rule.daughters ≤ 3
  few_daughters = (h.well.ranges r rule h.rule_is).daughters_few

  some_daughters : 1 ≤ length rule.daughters
  some_daughters = go rule.daughters h.nonlexical
    where
      go : (ds : List ℕ) → ◌≡◌ {A = Bool} (elim ds [ [] ↦ true | d ∷ l ↦ false ]) false → 1 ≤ length ds
      go [] e = let z : ◌≡◌ {A = ℕ} 0 1 = cc in absurd (omega arith)
      go (d ∷ ds) e = omega arith

  next_reached : Reached g (record { queue = next; words = h.words })
  next_reached =
      reached_step (λ n j. mark + j) g h.well.right (record { queue = x ∷ R; words = h.words }) (record { queue = next; words = h.words }) r reached
      (predicts (λ n j. mark + j) g x R h.words r rule h.rule_is h.nonlexical h.of_front)

  others_length : length R ≡ to - (from + 1)
  others_length = omega (arith, ap length split, queue_length g w from to h.held, h.predicted)

  pub next_length : length next ≡ to - from - 1 + length rule.daughters
  next_length = omega (arith, predict_length (λ n j. mark + j) g rule x R, others_length)

  next_fits : Every (Fits g) next
  next_fits =
      all_fit g h.well (record { queue = next; words = h.words }) next_reached (omega (arith, next_length, h.few))
      (every_perm (λ p. p.node < 512) (perm_sym (put_perm (expand_ranked (λ n j. mark + j) g rule (rerank (goes_to rule x) x)) (map (rerank (goes_to rule x)) R)))
      (every_append (λ p. p.node < 512) (expand_ranked (λ n j. mark + j) g rule (rerank (goes_to rule x) x)) (map (rerank (goes_to rule x)) R)
      (subst⁻¹ (Every (λ p. p.node < 512)) (daughters_are g rule (rerank (goes_to rule x) x) mark) (numbers_small g rule (map (goes_to rule x) x.ranks) mark 0 (length rule.daughters) (omega (arith, few_daughters, h.small))))
      (reranked_small (goes_to rule x) mark R h.small (subst (Every (λ p. p.node < mark)) split h.numbered).1)))

  next_rising : Rising next
  next_rising = ranks_rising g next_reached.0 (record { queue = next; words = h.words }) next_reached.1

  pub cells : RuleCells g rule t (8 * r)
  cells = h.compiled r rule h.rule_is

  -- cells of dimension 1, and of another
  pub narrow_cells_lem : dimension_in t (8 * r) ≡ 1 → NarrowCells g rule t (8 * r)
  narrow_cells_lem e = cells.narrow h.nonlexical (sym cells.dimension_is ∙ e)

  pub wide_cells_lem : (dimension_in t (8 * r) ≡ 1 → ⊥) → WideCells g rule t (8 * r)
  wide_cells_lem f = cells.wide h.nonlexical (λ e. f (cells.dimension_is ∙ e))

  -- what the dimension in the table tells
  pub dimension_at : (at d k : ℕ) → at ≡ 8 * r → d ≡ dimension_in t at → d ≡ k → dimension_in t (8 * r) ≡ k
  dimension_at at d k e f z = ap (dimension_in t) (sym e) ∙ sym f ∙ z

  pub other_at : (at d k : ℕ) → at ≡ 8 * r → d ≡ dimension_in t at → (d ≡ k → ⊥) → dimension_in t (8 * r) ≡ k → ⊥
  other_at at d k e f n z = n (f ∙ ap (dimension_in t) e ∙ z)

  -- the cells of the rule, from where they begin
  pub cells_at : (at : ℕ) → at ≡ 8 * r → at + 8 ≤ 2048
  cells_at at e = omega (arith, cells.room)

  pub daughters_at : (at n : ℕ) → at ≡ 8 * r → n ≡ daughters_in t at → n ≡ length rule.daughters
  daughters_at at n e d = d ∙ ap (daughters_in t) e ∙ cells.daughters

  lens : RuleLengths rule (get_or t (8 * r + 1) 0)
  lens = cells.lengths_of_lem h.nonlexical

  front_is : get_or w from 0 ≡ number_of x
  front_is = front_number g w from to h.held h.predicted

  others_are : slice (from + 1) to w ≡ map number_of R
  others_are = others_numbers g w from to h.held h.predicted

  long : to ≤ length w
  long = omega (arith, h.held.long, h.held.within)

  -- what holds of each prediction behind the front
  others : (P : Prediction → Type 0) → Every (λ p. P (in_lanes p)) R → places.Every P w (from + 1) to
  others P e = each_held g P w (from + 1) to R long others_are fit.1 e

  pub step_fits : Steps w from to (length rule.daughters)
  step_fits = record { long = h.held.long; some = h.predicted; few = few_daughters; fits = omega (arith, h.room_behind, queue_length g w from to h.held, h.few, some_daughters) }

  pub short : places.Every Short w (from + 1) to
  short = others Short (others_short g x R h.words reached fit)

  pub behind : places.Every Behind w (from + 1) to
  behind = others Behind (others_behind g x R h.words reached fit)

  pub end_is : to + length rule.daughters + (to - (from + 1)) ≡ to + (to - from - 1 + length rule.daughters)
  end_is = omega (arith, h.predicted)

  -- a rule of dimension 2 or more
  module _ (more : dimension_in t (8 * r) ≡ 1 → ⊥) where
    wide : WideCells g rule t (8 * r)
    wide = wide_cells_lem more

    -- ranks bs at which the front's components begin, and moves m that take every rank where it goes
    module _ (bs : List ℕ) (m : Moves) (four : length bs ≡ 4) (begin : take (length rule.components) bs ≡ map (goes_to rule x) x.ranks)
        (goes-there : (n : ℕ) → shifted (moves_ranks m) (moves_lengths m) n ≡ goes_to rule x n) (bounded : Bounded m) (apart : Every (λ p. Apart (moves_ranks m) (moves_lengths m) (in_lanes p)) R) where
      -- daughter j from its cells is the daughter
      made : (j : ℕ) → j < length rule.daughters
          → daughter bs (get_or t (8 * r + 2 + 2 * j) 0) (get_or t (8 * r + 3 + 2 * j) 0) mark ≡ in_lanes (daughter_of g rule (map (goes_to rule x) x.ranks) mark j)
      made j l = wide.makes j l bs four mark ∙ ap (λ (b : List ℕ). in_lanes (daughter_of g rule b mark j)) begin

      makes : (j : ℕ) → j < length rule.daughters → Makes t (8 * r) j bs mark
      makes j l =
          record {
            sized = subst⁻¹ Sized (made j l)
                (sized g (daughter_of g rule (map (goes_to rule x) x.ranks) mark j)
                (numbered_fit g (daughter_of g rule (map (goes_to rule x) x.ranks) mark) (length rule.daughters) 0
                (daughters_fit g rule right h.nonlexical x R h.words reached fit h.of_front (get_or w from 0) (get_or t (8 * r + 1) 0) front_is lens mark next_fits next_rising) j (omega arith) (omega arith)));
            repeats = wide.repeats j l;
          }

      step_of : WideStep t (8 * r) (length rule.daughters) mark bs m w from to
      step_of =
          record {
            table = cells.long;
            rule = cells.room;
            steps = step_fits;
            some = some_daughters;
            short = short;
            behind = behind;
            apart = others (Apart (moves_ranks m) (moves_lengths m)) apart;
            bounded = bounded;
            makes = makes;
          }

      next_is : expanded t (8 * r) (length rule.daughters) mark bs m w from to ≡ map number_of next
      next_is =
          ap₂ insert_all
          (take_numbers (daughter_of g rule (map (goes_to rule x) x.ranks) mark) (length rule.daughters) (daughter_at t (8 * r) 0 bs mark) (daughter_at t (8 * r) 1 bs mark) (daughter_at t (8 * r) 2 bs mark) few_daughters
          (λ l. ap packed (made 0 l)) (λ l. ap packed (made 1 l)) (λ l. ap packed (made 2 l)))
          (ap (λ (f : ℕ → ℕ). map (remade f) (slice (from + 1) to w)) (λ i n. goes-there n i) ∙ ap (map (remade (goes_to rule x))) others_are)
          ∙ sym (predicted_numbers g rule right h.nonlexical x R h.words reached fit h.of_front (get_or w from 0) (get_or t (8 * r + 1) 0) front_is lens mark next_fits next_rising)

    abbrev front : ℕ
    front = get_or w from 0

    -- by comparing, for any rule
    wide_step : WideStep t (8 * r) (length rule.daughters) mark (ranks (begun (get_or w from 0) (get_or t (8 * r + 1) 0))) (gathered (ranks (unpacked (get_or w from 0))) (lengths_of (get_or t (8 * r + 1) 0))) w from to
    wide_step = step_of (ranks (begun front (get_or t (8 * r + 1) 0))) (gathered (ranks (unpacked front)) (lengths_of (get_or t (8 * r + 1) 0))) refl (begun_components g rule right h.nonlexical x R h.words reached fit h.of_front front (get_or t (8 * r + 1) 0) front_is lens)
        (gathered_goes g rule right h.nonlexical x R h.words reached fit h.of_front front (get_or t (8 * r + 1) 0) front_is lens)
        (gathered_fits g rule right h.nonlexical x R h.words reached fit h.of_front front (get_or t (8 * r + 1) 0) front_is lens)
        (others_apart g rule right h.nonlexical x R h.words reached fit h.of_front front (get_or t (8 * r + 1) 0) front_is lens)

    wide_begins : Begins (get_or w from 0) (get_or t (8 * r + 1) 0)
    wide_begins = front_begins g rule right h.nonlexical x R h.words reached fit h.of_front front (get_or t (8 * r + 1) 0) front_is lens

    wide_is : expanded t (8 * r) (length rule.daughters) mark (ranks (begun (get_or w from 0) (get_or t (8 * r + 1) 0))) (gathered (ranks (unpacked (get_or w from 0))) (lengths_of (get_or t (8 * r + 1) 0))) w from to ≡ map number_of next
    wide_is = next_is (ranks (begun front (get_or t (8 * r + 1) 0))) (gathered (ranks (unpacked front)) (lengths_of (get_or t (8 * r + 1) 0))) refl (begun_components g rule right h.nonlexical x R h.words reached fit h.of_front front (get_or t (8 * r + 1) 0) front_is lens)
        (gathered_goes g rule right h.nonlexical x R h.words reached fit h.of_front front (get_or t (8 * r + 1) 0) front_is lens)
        (gathered_fits g rule right h.nonlexical x R h.words reached fit h.of_front front (get_or t (8 * r + 1) 0) front_is lens)
        (others_apart g rule right h.nonlexical x R h.words reached fit h.of_front front (get_or t (8 * r + 1) 0) front_is lens)

    -- without comparing, for a rule of dimension 2
    module _ (is-two : dimension_in t (8 * r) ≡ 2) where
      abbrev len0 : ℕ
      len0 = get_or t (8 * r + 1) 0 % 65536

      abbrev len1 : ℕ
      len1 = get_or t (8 * r + 1) 0 / 65536 % 65536

      two_components : dimension g rule.category ≡ 2
      two_components = sym cells.dimension_is ∙ is-two

      ranks_two : x.ranks ≡ (unpacked front).rank0 ∷ (unpacked front).rank1 ∷ []
      ranks_two = ap (λ (d : ℕ). take d (ranks (unpacked front))) (ap (dimension g) (sym h.of_front) ∙ two_components)

      lengths_two : lengths rule ≡ len0 ∷ len1 ∷ []
      lengths_two = go (lengths rule) (length-map rule.components length ∙ right.components h.nonlexical ∙ two_components) lens.lengths_are
        where
          go : (ns : List ℕ) → length ns ≡ 2 → lengths_of (get_or t (8 * r + 1) 0) ≡ ns ++ ones (4 - length rule.components) → ns ≡ len0 ∷ len1 ∷ []
          go [] k f = absurd (omega arith)
          go (n ∷ []) k f = absurd (omega arith)
          go (n ∷ m ∷ []) k f =
              let a : n ≡ len0 = sym (ap (λ (l : List ℕ). get_or l 0 0) f) in
              let b : m ≡ len1 = sym (ap (λ (l : List ℕ). get_or l 1 0) f) in
              λ i. a i ∷ b i ∷ []
          go (n ∷ m ∷ l ∷ ns) k f = absurd (omega arith)

      goes_two : (n : ℕ) → goes_to rule x n ≡ shifted ((unpacked front).rank0 ∷ (unpacked front).rank1 ∷ []) (len0 ∷ len1 ∷ []) n
      goes_two n = λ i. shifted (ranks_two i) (lengths_two i) n

      zero_two : least_rank ((unpacked front).rank0 ∷ (unpacked front).rank1 ∷ []) ≡ 0
      zero_two = sym (ap least_rank ranks_two) ∙ front_least g x R h.words reached

      unequal_two : (unpacked front).rank0 ≡ (unpacked front).rank1 → ⊥
      unequal_two = (subst (Pairwise Unequal) ranks_two (front_unequal g x R h.words reached)).0.0

      short_two : Short (unpacked front)
      short_two =
          subst⁻¹ Short (ap unpacked front_is ∙ unpacked_number g x fit.0)
          (record { least = fit.0.least_small; rank3 = fit.0.small 3; rank2 = fit.0.small 2; rank1 = fit.0.small 1; rank0 = fit.0.small 0 })

      lengths_small : (len0 < 256) × (len1 < 256)
      lengths_small =
          let a = lens.few 0 in
          let b = lens.few 1 in
          (omega (arith, a, ap (λ (l : List ℕ). get_or l 0 0) lengths_two), omega (arith, b, ap (λ (l : List ℕ). get_or l 1 0) lengths_two))

      two_ranks : TwoRanks (get_or w from 0) (get_or t (8 * r + 1) 0)
      two_ranks = record { short = short_two; other = other_some (unpacked front).rank0 (unpacked front).rank1 len0 len1 zero_two unequal_two; len0 = lengths_small.0; len1 = lengths_small.1 }

      begin_two : take (length rule.components) (two_begins front (get_or t (8 * r + 1) 0)) ≡ map (goes_to rule x) x.ranks
      begin_two =
          ap (λ (n : ℕ). take n (two_begins front (get_or t (8 * r + 1) 0))) (right.components h.nonlexical ∙ two_components)
          ∙ two_begins_lem (unpacked front).rank0 (unpacked front).rank1 len0 len1 zero_two unequal_two
          ∙ ap₂ (λ (f : ℕ → ℕ) (l : List ℕ). map f l) (λ i n. sym (goes_two n) i) (sym ranks_two)

      goes_by_two : (n : ℕ) → shifted (moves_ranks (two_moves front (get_or t (8 * r + 1) 0))) (moves_lengths (two_moves front (get_or t (8 * r + 1) 0))) n ≡ goes_to rule x n
      goes_by_two n = two_goes (unpacked front).rank0 (unpacked front).rank1 len0 len1 zero_two unequal_two n ∙ sym (goes_two n)

      apart_two : Every (λ p. Apart (moves_ranks (two_moves front (get_or t (8 * r + 1) 0))) (moves_lengths (two_moves front (get_or t (8 * r + 1) 0))) (in_lanes p)) R
      apart_two =
          every_mem (λ p. Apart (moves_ranks (two_moves front (get_or t (8 * r + 1) 0))) (moves_lengths (two_moves front (get_or t (8 * r + 1) 0))) (in_lanes p)) R
          (λ p i.
          each_lane g (λ n. passed n (moves_ranks (two_moves front (get_or t (8 * r + 1) 0))) ≤ n + added n (moves_ranks (two_moves front (get_or t (8 * r + 1) 0))) (moves_lengths (two_moves front (get_or t (8 * r + 1) 0)))) p (mem_every (Fits g) R fit.1 p i)
          (λ n k. two_apart (unpacked front).rank0 (unpacked front).rank1 len0 len1 zero_two unequal_two n
          (subst (λ (l : List ℕ). passed n l ≤ n) ranks_two
          (mem_every (λ n. passed n x.ranks ≤ n) p.ranks (mem_every (λ (y : Ranked ℕ). Every (λ n. passed n x.ranks ≤ n) y.ranks) R (front_takes g x R h.words reached).1 p i) n k))))

      bounded_two : Bounded (two_moves front (get_or t (8 * r + 1) 0))
      bounded_two = two_bounded (unpacked front).rank0 (unpacked front).rank1 len0 len1 short_two.rank0 short_two.rank1 lengths_small.0 lengths_small.1

      two_step : WideStep t (8 * r) (length rule.daughters) mark (two_begins (get_or w from 0) (get_or t (8 * r + 1) 0)) (two_moves (get_or w from 0) (get_or t (8 * r + 1) 0)) w from to
      two_step = step_of (two_begins front (get_or t (8 * r + 1) 0)) (two_moves front (get_or t (8 * r + 1) 0)) (two_four front (get_or t (8 * r + 1) 0)) begin_two goes_by_two bounded_two apart_two

      two_is : expanded t (8 * r) (length rule.daughters) mark (two_begins (get_or w from 0) (get_or t (8 * r + 1) 0)) (two_moves (get_or w from 0) (get_or t (8 * r + 1) 0)) w from to ≡ map number_of next
      two_is = next_is (two_begins front (get_or t (8 * r + 1) 0)) (two_moves front (get_or t (8 * r + 1) 0)) (two_four front (get_or t (8 * r + 1) 0)) begin_two goes_by_two bounded_two apart_two

    -- what the two steps need, and what they write
    pub expands_wide : ExpandsWide t (8 * r) (length rule.daughters) mark w from to
    expands_wide = (wide_step, wide_begins)

    pub wide_written : expanded_wide t (8 * r) (length rule.daughters) mark w from to ≡ map number_of next
    wide_written = wide_is

    pub expands_two : of_two t (8 * r) ≡ true → ExpandsTwo t (8 * r) (length rule.daughters) mark w from to
    expands_two e = let k = two_is_the_dimension t (8 * r) e in (two_step k, two_ranks k, e)

    pub two_written : of_two t (8 * r) ≡ true → expanded_two t (8 * r) (length rule.daughters) mark w from to ≡ map number_of next
    two_written e = two_is (two_is_the_dimension t (8 * r) e)

  -- a rule of dimension 1: its front has rank 0 alone, and every other rank moves by the same
  module _ (is_one : dimension_in t (8 * r) ≡ 1) where
    one_component : dimension g rule.category ≡ 1
    one_component = sym cells.dimension_is ∙ is_one

    narrow : NarrowCells g rule t (8 * r)
    narrow = narrow_cells_lem is_one

    front_alone : x.ranks ≡ 0 ∷ []
    front_alone = alone.front_alone g x R h.words reached fit.0 (ap (dimension g) (sym h.of_front) ∙ one_component)

    lengths_alone : lengths rule ≡ get_or (lengths rule) 0 0 ∷ []
    lengths_alone = go (lengths rule) (length-map rule.components length ∙ right.components h.nonlexical ∙ one_component)
      where
        go : (ns : List ℕ) → length ns ≡ 1 → ns ≡ get_or ns 0 0 ∷ []
        go [] e = absurd (omega arith)
        go (n ∷ []) e = refl
        go (n ∷ m ∷ ns) e = absurd (omega arith)

    -- how many variables its component has
    abbrev len : ℕ
    len = get_or (lengths rule) 0 0

    goes_alone : (n : ℕ) → goes_to rule x n ≡ shifted (0 ∷ []) (len ∷ []) n
    goes_alone n = λ i. shifted (front_alone i) (lengths_alone i) n

    pub length_is : get_or t (8 * r + 1) 0 % 65536 ≡ len
    length_is =
        ap (λ (l : List ℕ). get_or l 0 0) (lens.lengths_are ∙ ap (λ (l : List ℕ). l ++ ones (4 - length rule.components)) lengths_alone)

    pub length_small : len < 256
    length_small = omega (arith, lens.few 0)

    abbrev ready : List ℕ
    ready = take (length rule.daughters) (ready_made t (8 * r) mark)

    -- the others, moved, are at least len on top
    others_above : Every (λ y. len * 2251799813685248 ≤ y) (map (remade (shifted (0 ∷ []) (len ∷ []))) (map number_of R))
    others_above = go R fit.1 (others_behind g x R h.words reached fit)
      where
        one : (p : Ranked ℕ) → Fits g p → 0 < least_rank p.ranks → len * 2251799813685248 ≤ remade (shifted (0 ∷ []) (len ∷ [])) (number_of p)
        one p f k = omega (arith, remade_least (shifted (0 ∷ []) (len ∷ [])) (number_of p), ap (λ (u : Prediction). u.least) (unpacked_number g p f), only (unpacked (number_of p)).least (omega (arith, ap (λ (u : Prediction). u.least) (unpacked_number g p f))))
          where
            only : (n : ℕ) → 0 < n → len ≤ shifted (0 ∷ []) (len ∷ []) n
            only n l = omega (arith, above_zero 1 n l, above_zero len n l)

        go : (q : List (Ranked ℕ)) → Every (Fits g) q → Every (λ p. Behind (in_lanes p)) q → Every (λ y. len * 2251799813685248 ≤ y) (map (remade (shifted (0 ∷ []) (len ∷ []))) (map number_of q))
        go [] f b = tt
        go (p ∷ q) f b = (one p f.0 b.0.least, go q f.1 b.1)

    pub narrow_is : ready ++ map (remade (shifted (0 ∷ []) (len ∷ []))) (slice (from + 1) to w) ≡ map number_of next
    narrow_is =
        ap (λ (l : List ℕ). ready ++ map (remade (shifted (0 ∷ []) (len ∷ []))) l) others_are
        ∙ sym (first_placed (length rule.daughters) (marked mark (get_or t (8 * r + 2) 0)) (marked mark (get_or t (8 * r + 4) 0)) (marked mark (get_or t (8 * r + 6) 0)) (len * 2251799813685248)
        (map (remade (shifted (0 ∷ []) (len ∷ []))) (map number_of R)) few_daughters (λ l. omega (arith, narrow.first_second l)) (λ l. omega (arith, narrow.second_third l))
        (λ l. below 0 (8 * r + 2) l (omega arith)) (λ l. below 1 (8 * r + 4) l (omega arith)) (λ l. below 2 (8 * r + 6) l (omega arith)) others_above)
        ∙ narrow.places mark h.small (map (remade (shifted (0 ∷ []) (len ∷ []))) (map number_of R))
        ∙ ap₂ (λ (b : List ℕ) (f : ℕ → ℕ). insert_all (map number_of (daughters_of g rule b mark)) (map (remade f) (map number_of R)))
        (sym (ap (map (goes_to rule x)) front_alone ∙ ap (λ (n : ℕ). n ∷ []) (goes_alone 0))) (λ i n. sym (goes_alone n) i)
        ∙ sym (predicted_numbers g rule right h.nonlexical x R h.words reached fit h.of_front (get_or w from 0) (get_or t (8 * r + 1) 0) front_is lens mark next_fits next_rising)
      where
        below : (j i : ℕ) → j < length rule.daughters → 8 * r + 2 + 2 * j ≡ i → marked mark (get_or t i 0) < len * 2251799813685248
        below j i l e = subst (λ (k : ℕ). marked mark (get_or t k 0) < len * 2251799813685248) e (narrow.within mark h.small j l)

    -- the code of a narrow step: the cells that it reads, and what it writes
    pub ready_small : (at j i : ℕ) → at ≡ 8 * r → j < 3 → at + 2 + 2 * j ≡ i → get_or t i 0 < 1152921504606846976
    ready_small at j i e l d = let z : 8 * r + 2 + 2 * j ≡ i = omega arith in subst (λ (k : ℕ). get_or t k 0 < 1152921504606846976) z (narrow.small j l)

    pub length_at : (at l : ℕ) → at ≡ 8 * r → l ≡ get_or t (at + 1) 0 % 65536 → l < 256
    length_at at l e d = omega (arith, length_small, d ∙ ap (λ (i : ℕ). get_or t (i + 1) 0 % 65536) e ∙ length_is)

    pub narrow_written : (at l : ℕ) (es : List ℕ) → at ≡ 8 * r → l ≡ get_or t (at + 1) 0 % 65536 → es ≡ ready_made t at mark
        → take (length rule.daughters) es ++ map (remade (shifted (0 ∷ []) (l ∷ []))) (slice (from + 1) to w) ≡ map number_of next
    narrow_written at l es e el d =
        let p : es ≡ ready_made t (8 * r) mark = d ∙ ap (λ (i : ℕ). ready_made t i mark) e in
        let pl : l ≡ len = el ∙ ap (λ (i : ℕ). get_or t (i + 1) 0 % 65536) e ∙ length_is in
        (λ o. take (length rule.daughters) (p o) ++ map (remade (shifted (0 ∷ []) (pl o ∷ []))) (slice (from + 1) to w)) ∙ narrow_is
