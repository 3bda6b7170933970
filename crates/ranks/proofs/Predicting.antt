-- A nonlexical step on numbers is the step on predictions: where ranks go, and what the daughters are.
-- Assumes nothing.
use mathlib.Core.Path.{◌≡◌, refl, sym, ap, ap₂, subst, subst⁻¹, ◌∙◌}
use mathlib.Core.Bool.{false}
use mathlib.Core.List.{List, [], ◌∷◌, ◌++◌, map, Memᴰ}
use Prim.Native.Nat.{ℕ, zero, suc, ◌+◌, ◌-◌, ◌<◌, ◌≤◌}
use native.Mathlib.Omega.{arith}
use lib.ListN.{length, get_or, take, length-map}
use Rattle.model.specs.Base.{numbers_from}
use Rattle.model.specs.Grammar.{Rule, Grammar, is_lexical, dimension}
use Rattle.model.specs.WellFormed.{RightRule}
use Rattle.model.proofs.Apart.{Every, every_to, every_mem, mem_every, every_left, every_perm}
use Rattle.ranking.specs.Ranks.{Ranked, passed, added, shifted, lengths, least_rank, rerank, variable_ranks, rank_of, daughters_ranked, expand_ranked, predict_ranked}
use Rattle.ranking.proofs.Bounds.{Rising, ranks_rising}
use Rattle.ranking.proofs.Limits.{Reached}
use Rattle.ranking.proofs.Moving.{LeastGoes, shifted_least}
use Rattle.ranks.specs.Prediction.{Prediction, Each, Short, Behind, Apart, ranks, packed, unpacked, remade}
use Rattle.ranks.specs.declared.prediction.Moves.{Moves}
use Rattle.ranks.specs.Queue.{insert_all}
use Rattle.ranks.specs.Moves.{moves_ranks, moves_lengths, gathered, lengths_of, Bounded, begun, Begins}
use Rattle.ranks.specs.Held.{lane_of, in_lanes, number_of, Fits}
use Rattle.ranks.specs.Table.{ones, daughter_of, daughters_of, RuleLengths}
use Rattle.ranks.proofs.Packing.{remade_packed}
use Rattle.ranks.proofs.Fitting.{least_mem, lane_mem, others_positive}
use Rattle.ranks.proofs.Numbers.{sized, unpacked_number, put_perm, put_numbers}
use Rattle.ranks.proofs.Gathering.{Fair, gathered_moves, gathered_apart}
use Rattle.ranks.proofs.Fairness.{Bytes, gathered_bounded}
use Rattle.ranks.proofs.Fronts.{lanes_of, four_lengths, OneToFour, one_to_four, fair, four_shifted, four_apart, four_bytes, shifted_small, front_least, front_takes, front_unequal}

-- a rank that moves in each lane moves in the number
lane_map : (f : ℕ → ℕ) (rs : List ℕ) (c : ℕ) → 1 ≤ length rs → lane_of (map f rs) c ≡ f (lane_of rs c)
lane_map f [] c h = absurd (omega arith)
lane_map f (a ∷ rs) c h = go c (a ∷ rs)
  where
    go : (c : ℕ) (l : List ℕ) → get_or (map f l) c (f a) ≡ f (get_or l c a)
    go c [] = refl
    go zero (x ∷ l) = refl
    go (suc c) (x ∷ l) = go c l

pub moved_number : (g : Grammar) (f : ℕ → ℕ) (p : Ranked ℕ) → Fits g p → LeastGoes f p → remade f (number_of p) ≡ number_of (rerank f p)
moved_number g f p h least =
    remade_packed f (in_lanes p) (sized g p h)
    ∙ (let l = sym least in
    let r3 = sym (lane_map f p.ranks 3 h.some_ranks) in
    let r2 = sym (lane_map f p.ranks 2 h.some_ranks) in
    let r1 = sym (lane_map f p.ranks 1 h.some_ranks) in
    let r0 = sym (lane_map f p.ranks 0 h.some_ranks) in
    λ i. packed (record { least = l i; number = p.node; category = p.category; rank3 = r3 i; rank2 = r2 i; rank1 = r1 i; rank0 = r0 i }))

pub moved_numbers : (g : Grammar) (f : ℕ → ℕ) (q : List (Ranked ℕ)) → Every (Fits g) q → Every (LeastGoes f) q → map (remade f) (map number_of q) ≡ map number_of (map (rerank f) q)
moved_numbers g f [] h k = refl
moved_numbers g f (p ∷ q) h k = ap₂ (λ (x : ℕ) (l : List ℕ). x ∷ l) (moved_number g f p h.0 k.0) (moved_numbers g f q h.1 k.1)

-- what holds of each rank holds of each lane
pub each_lane : (g : Grammar) (P : ℕ → Type 0) (p : Ranked ℕ) → Fits g p → ((r : ℕ) → Memᴰ r p.ranks → P r) → Each P (in_lanes p)
each_lane g P p h k =
    record {
      least = k (least_rank p.ranks) (least_mem p.ranks h.some_ranks);
      rank3 = k (lane_of p.ranks 3) (lane_mem p.ranks 3 h.some_ranks);
      rank2 = k (lane_of p.ranks 2) (lane_mem p.ranks 2 h.some_ranks);
      rank1 = k (lane_of p.ranks 1) (lane_mem p.ranks 1 h.some_ranks);
      rank0 = k (lane_of p.ranks 0) (lane_mem p.ranks 0 h.some_ranks);
    }

-- where ranks go at a step by a rule from the front x
abbrev pub goes_to : Rule → Ranked ℕ → ℕ → ℕ
goes_to rule x r = shifted x.ranks (lengths rule) r

-- the daughters, one after the other
daughters_from : (g : Grammar) (rule : Rule) (bs : List ℕ) (mark n j : ℕ) (ds : List ℕ) → ((i : ℕ) → get_or ds i 0 ≡ get_or rule.daughters (j + i) 0)
    → daughters_ranked (λ m k. mark + k) g n (variable_ranks bs rule.components) j ds ≡ map (daughter_of g rule bs mark) (numbers_from j (length ds))
daughters_from g rule bs mark n j [] h = refl
daughters_from g rule bs mark n j (d ∷ ds) h =
    let z : j + 0 ≡ j = omega arith in
    let e : d ≡ get_or rule.daughters j 0 = h 0 ∙ ap (λ (k : ℕ). get_or rule.daughters k 0) z in
    ap₂ (λ (a : ℕ) (l : List (Ranked ℕ)). record { category = a; ranks = map (rank_of (variable_ranks bs rule.components) j) (numbers_from 0 (dimension g a)); node = mark + j } ∷ l) e
    (daughters_from g rule bs mark n (suc j) ds (λ i. h (suc i) ∙ (let y : j + suc i ≡ suc j + i = omega arith in ap (λ (k : ℕ). get_or rule.daughters k 0) y)))

pub daughters_are : (g : Grammar) (rule : Rule) (p : Ranked ℕ) (mark : ℕ) → expand_ranked (λ m k. mark + k) g rule p ≡ daughters_of g rule p.ranks mark
daughters_are g rule p mark = daughters_from g rule p.ranks mark p.node 0 rule.daughters (λ i. let z : i ≡ 0 + i = omega arith in ap (λ (k : ℕ). get_or rule.daughters k 0) z)

-- those behind the front of a queue that steps reach
module _ (g : Grammar) (x : Ranked ℕ) (R : List (Ranked ℕ)) (ws : List ℕ) (reached : Reached g (record { queue = x ∷ R; words = ws })) (fit : Every (Fits g) (x ∷ R)) where
  pub others_short : Every (λ p. Short (in_lanes p)) R
  others_short = every_to (Fits g) (λ p. Short (in_lanes p)) (λ p h. record { least = h.least_small; rank3 = h.small 3; rank2 = h.small 2; rank1 = h.small 1; rank0 = h.small 0 }) R fit.1

  pub others_behind : Every (λ p. Behind (in_lanes p)) R
  others_behind =
      every_mem (λ p. Behind (in_lanes p)) R
      (λ p m.
      let k = mem_every (λ (y : Ranked ℕ). Every (λ r. 0 < r) y.ranks) R (others_positive x R (ranks_rising g reached.0 (record { queue = x ∷ R; words = ws }) reached.1)) p m in
      each_lane g (λ r. 0 < r) p (mem_every (Fits g) R fit.1 p m) (λ r n. mem_every (λ r. 0 < r) p.ranks k r n))

-- of a front x with R behind it, which steps reach, and a nonlexical rule of its category
module _ (g : Grammar) (rule : Rule) (right : RightRule g rule) (lex : is_lexical rule ≡ false) (x : Ranked ℕ) (R : List (Ranked ℕ)) (ws : List ℕ)
    (reached : Reached g (record { queue = x ∷ R; words = ws })) (fit : Every (Fits g) (x ∷ R)) (of_front : rule.category ≡ x.category) where
  components_are : length x.ranks ≡ length rule.components
  components_are = fit.0.sized ∙ ap (dimension g) (sym of_front) ∙ sym (right.components lex)

  few : OneToFour x.ranks (lengths rule)
  few = one_to_four x.ranks (lengths rule) (components_are ∙ sym (length-map rule.components length)) fit.0.some_ranks fit.0.few_ranks

  least_goes : Every (LeastGoes (goes_to rule x)) R
  least_goes = shifted_least (λ m k. 0) g reached.0 (record { queue = x ∷ R; words = ws }) reached.1 x R refl rule right lex components_are

  pub others_moved : map (remade (goes_to rule x)) (map number_of R) ≡ map number_of (map (rerank (goes_to rule x)) R)
  others_moved = moved_numbers g (goes_to rule x) R fit.1 least_goes

  -- the front as a number, and the cell of the rule's lengths
  module _ (front cell : ℕ) (front_is : front ≡ number_of x) (lens : RuleLengths rule cell) where
    four_ranks : ranks (unpacked front) ≡ lanes_of x.ranks
    four_ranks = ap (λ (n : ℕ). ranks (unpacked n)) front_is ∙ ap ranks (unpacked_number g x fit.0)

    four_lengths_lem : lengths_of cell ≡ four_lengths (lengths rule)
    four_lengths_lem = lens.lengths_are ∙ ap (λ (n : ℕ). lengths rule ++ ones (4 - n)) (sym (length-map rule.components length))

    all_fair : Fair (lanes_of x.ranks) (four_lengths (lengths rule))
    all_fair = fair x.ranks (lengths rule) few (front_least g x R ws reached) (front_unequal g x R ws reached)

    bytes : Bytes (lanes_of x.ranks) × Bytes (four_lengths (lengths rule))
    bytes = four_bytes x.ranks (lengths rule) few fit.0.small (λ c. omega (arith, lens.few c))

    own : (p : Ranked ℕ) → Memᴰ p (x ∷ R) → Apart (lanes_of x.ranks) (four_lengths (lengths rule)) (in_lanes p)
    own p m =
        each_lane g (λ r. passed r (lanes_of x.ranks) ≤ r + added r (lanes_of x.ranks) (four_lengths (lengths rule))) p (mem_every (Fits g) (x ∷ R) fit p m)
        (λ r n. four_apart x.ranks (lengths rule) few r
        (mem_every (λ r. passed r x.ranks ≤ r) p.ranks (mem_every (λ (y : Ranked ℕ). Every (λ r. passed r x.ranks ≤ r) y.ranks) (x ∷ R) (front_takes g x R ws reached) p m) r n))

    abbrev gather : Moves
    gather = gathered (ranks (unpacked front)) (lengths_of cell)

    gather_is : gather ≡ gathered (lanes_of x.ranks) (four_lengths (lengths rule))
    gather_is = ap₂ gathered four_ranks four_lengths_lem

    -- what is gathered moves every rank where it goes
    pub gathered_goes : (r : ℕ) → shifted (moves_ranks gather) (moves_lengths gather) r ≡ goes_to rule x r
    gathered_goes r =
        ap (λ (m : Moves). shifted (moves_ranks m) (moves_lengths m) r) gather_is
        ∙ gathered_moves (lanes_of x.ranks) (four_lengths (lengths rule)) r all_fair
        ∙ four_shifted x.ranks (lengths rule) few r

    pub gathered_fits : Bounded gather
    gathered_fits = subst⁻¹ Bounded gather_is (gathered_bounded (lanes_of x.ranks) (four_lengths (lengths rule)) bytes.0 bytes.1)

    pub others_apart : Every (λ p. Apart (moves_ranks gather) (moves_lengths gather) (in_lanes p)) R
    others_apart =
        every_mem (λ p. Apart (moves_ranks gather) (moves_lengths gather) (in_lanes p)) R
        (λ p m. subst⁻¹ (λ (n : Moves). Apart (moves_ranks n) (moves_lengths n) (in_lanes p)) gather_is
        (gathered_apart (lanes_of x.ranks) (four_lengths (lengths rule)) (in_lanes p) all_fair (own p (Memᴰ.tail m))))

    -- the ranks at which the front's components begin
    begins_at : (r : ℕ) → shifted (ranks (unpacked front)) (lengths_of cell) r ≡ goes_to rule x r
    begins_at r = (λ i. shifted (four_ranks i) (four_lengths_lem i) r) ∙ four_shifted x.ranks (lengths rule) few r

    pub begun_ranks : ranks (begun front cell) ≡ map (goes_to rule x) (lanes_of x.ranks)
    begun_ranks = go (ranks (unpacked front))
        ∙ ap (map (goes_to rule x)) four_ranks
      where
        go : (l : List ℕ) → map (shifted (ranks (unpacked front)) (lengths_of cell)) l ≡ map (goes_to rule x) l
        go [] = refl
        go (r ∷ l) = ap₂ (λ (a : ℕ) (m : List ℕ). a ∷ m) (begins_at r) (go l)

    pub begun_components : take (length rule.components) (ranks (begun front cell)) ≡ map (goes_to rule x) x.ranks
    begun_components = ap₂ take (sym components_are) begun_ranks ∙ go x.ranks fit.0.some_ranks fit.0.few_ranks
      where
        go : (rs : List ℕ) → 1 ≤ length rs → length rs ≤ 4 → take (length rs) (map (goes_to rule x) (lanes_of rs)) ≡ map (goes_to rule x) rs
        go [] h k = absurd (omega arith)
        go (a ∷ []) h k = refl
        go (a ∷ b ∷ []) h k = refl
        go (a ∷ b ∷ c ∷ []) h k = refl
        go (a ∷ b ∷ c ∷ d ∷ []) h k = refl
        go (a ∷ b ∷ c ∷ d ∷ e ∷ rs) h k = absurd (omega arith)

    pub front_begins : Begins front cell
    front_begins =
        record {
          short = all_short;
          apart = subst⁻¹ (λ (u : Prediction). Apart (ranks u) (lengths_of cell) u) parts (subst⁻¹ (λ (ns : List ℕ). Apart (lanes_of x.ranks) ns (in_lanes x)) four_lengths_lem (own x (Memᴰ.head refl)));
          len0 = lengths_small.0;
          len1 = lengths_small.1.0;
          len2 = lengths_small.1.1.0;
          len3 = lengths_small.1.1.1.0;
          after = record {
            least = small (unpacked front).least all_short.least;
            rank3 = small (unpacked front).rank3 all_short.rank3;
            rank2 = small (unpacked front).rank2 all_short.rank2;
            rank1 = small (unpacked front).rank1 all_short.rank1;
            rank0 = small (unpacked front).rank0 all_short.rank0;
          };
        }
      where
        parts : unpacked front ≡ in_lanes x
        parts = ap unpacked front_is ∙ unpacked_number g x fit.0

        all_short : Short (unpacked front)
        all_short = subst⁻¹ Short parts (record { least = fit.0.least_small; rank3 = fit.0.small 3; rank2 = fit.0.small 2; rank1 = fit.0.small 1; rank0 = fit.0.small 0 })

        lengths_small : Bytes (lengths_of cell)
        lengths_small = subst⁻¹ Bytes four_lengths_lem bytes.1

        small : (r : ℕ) → r < 256 → shifted (ranks (unpacked front)) (lengths_of cell) r < 512
        small r h = omega (arith, begins_at r, shifted_small x.ranks (lengths rule) few lens.few r h)

    -- the queue after the step, whose daughters have numbers from `mark` on
    module _ (mark : ℕ) (after : Every (Fits g) (predict_ranked (λ m k. mark + k) g rule x R)) (rising : Rising (predict_ranked (λ m k. mark + k) g rule x R)) where
      abbrev pub daughters : List (Ranked ℕ)
      daughters = daughters_of g rule (map (goes_to rule x) x.ranks) mark

      daughters_is : expand_ranked (λ m k. mark + k) g rule (rerank (goes_to rule x) x) ≡ daughters
      daughters_is = daughters_are g rule (rerank (goes_to rule x) x) mark

      -- each of them fits
      pub daughters_fit : Every (Fits g) daughters
      daughters_fit =
          subst (Every (Fits g)) daughters_is
          (every_left (Fits g) (expand_ranked (λ m k. mark + k) g rule (rerank (goes_to rule x) x)) (map (rerank (goes_to rule x)) R)
          (every_perm (Fits g) (put_perm (expand_ranked (λ m k. mark + k) g rule (rerank (goes_to rule x) x)) (map (rerank (goes_to rule x)) R)) after))

      pub predicted_numbers : map number_of (predict_ranked (λ m k. mark + k) g rule x R) ≡ insert_all (map number_of daughters) (map (remade (goes_to rule x)) (map number_of R))
      predicted_numbers =
          put_numbers g (expand_ranked (λ m k. mark + k) g rule (rerank (goes_to rule x) x)) (map (rerank (goes_to rule x)) R) after rising
          ∙ ap₂ (λ (a : List (Ranked ℕ)) (b : List ℕ). insert_all (map number_of a) b) daughters_is (sym others_moved)
