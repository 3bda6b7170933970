-- What a loop over steps keeps: the state is one that steps reach, its queue grows by at most 2 a step; so in a live prefix of at most 96 steps there are
-- at most 64 predictions, and every rank is below 256.
-- Assumes nothing.
use Rattle.std.specs.Prelude.{if◌then◌else◌}
use mathlib.Core.Path.{◌≡◌, refl, sym, ap, subst, ◌∙◌}
use mathlib.Core.Bool.{Bool, true, false}
use mathlib.Core.Option.{Option, none, some}
use mathlib.Core.List.{List, [], ◌∷◌, map, Memᴰ}
use Prim.Native.Nat.{ℕ, suc, ◌+◌, ◌-◌, ◌*◌, ◌<◌, ◌≤◌}
use native.Mathlib.Omega.{arith}
use native.Mathlib.Decide.{dec_lt}
use lib.Dec.{eqb, ltb}
use lib.ListN.{length, length-map, get_or-eq_default}
use Rattle.model.specs.Grammar.{Rule, Grammar, Variable, empty_word, rule_at, is_lexical, dimension}
use Rattle.model.specs.Step.{State, Outcome, fails, leads, step, begin, word_fits}
use Rattle.model.specs.WellFormed.{Right, WellFormed}
use Rattle.model.proofs.Apart.{every_to}
use Rattle.ranking.specs.Recognizer.{Moved, stops, goes, run_by}
use Rattle.ranking.specs.Ranks.{Ranked, RankedState, shifted, lowered, lengths, variable_ranks, least_rank, rerank, insert_ranked, put_in, read_ranked, scan_ranked, without_front, daughters_ranked, expand_ranked, predict_ranked, apply_ranked, step_ranked, begin_ranked, rank_recognizer}
use Rattle.ranking.specs.RanksAgree.{ranked_outcome}
use Rattle.ranking.proofs.Steps.{KeepsLine, Agree, step_along, begin_line}
use Rattle.ranking.proofs.Bounds.{rank_below, width_bound, ranks_sized, ranks_gapless}

pub goes_one : {S : Type 0} {s s' : S} → goes s ≡ goes s' → s ≡ s'
goes_one e = cc

pub never_goes : {S X : Type 0} {n : ℕ} {s : S} → stops n ≡ goes s → X
never_goes e = let z : ◌≡◌ {A = ℕ} 0 1 = cc in absurd (omega arith)

-- states that steps can reach

abbrev pub Reached : {A : Type 0} → Grammar → RankedState A → Type 0
Reached {A} g t = (s : State A) × Agree g s t

module _ {A : Type 0} (child : A → ℕ → A) (g : Grammar) (right : Right g) where
  pub reached_begin : (root : A) (sentence : List ℕ) → Reached g (begin_ranked child g root sentence)
  reached_begin root sentence = (begin child g root sentence, record { line = begin_line g child right root sentence; is = refl })

  pub reached_step : (t t' : RankedState A) (r : ℕ) → Reached g t → step_ranked child g t r ≡ goes t' → Reached g t'
  reached_step t t' r h e =
      let a = step_along g child right h.0 h.1.line r in
      go (step child g h.0 r) a.keeps (sym a.is ∙ ap (λ (x : RankedState A). step_ranked child g x r) (sym h.1.is) ∙ e)
    where
      go : (o : Outcome A) → KeepsLine g o → ranked_outcome o ≡ goes t' → Reached g t'
      go (fails n) k f = never_goes f
      go (leads s) k f = (s, record { line = k; is = sym (goes_one f) })

-- how long the queue is

module _ {A : Type 0} where
  insert_length : (p : Ranked A) (q : List (Ranked A)) → length (insert_ranked p q) ≡ suc (length q)
  insert_length p [] = refl
  insert_length p (y ∷ q) = go (ltb (least_rank y.ranks) (least_rank p.ranks)) (insert_length p q)
    where
      go : (b : Bool) → length (insert_ranked p q) ≡ suc (length q) → length (if b then y ∷ insert_ranked p q else p ∷ y ∷ q) ≡ suc (suc (length q))
      go true e = ap suc e
      go false e = refl

  put_length : (xs q : List (Ranked A)) → length (put_in xs q) ≡ length xs + length q
  put_length [] q = omega arith
  put_length (x ∷ xs) q = omega (arith, insert_length x (put_in xs q), put_length xs q)

  -- a step closes one prediction, and opens as many as the rule has daughters
  pub record Counts (few : ℕ) (t t' : RankedState A) : Type 0 where
    pub new : ℕ
    pub few_new : new ≤ few
    pub some_left : 1 ≤ length t.queue
    pub pending : length t'.queue ≡ length t.queue - 1 + new
    pub words : length t'.words ≤ length t.words

  scan_counts : (few w : ℕ) (p : Ranked A) (q q' : List (Ranked A)) (ws : List ℕ) (t' : RankedState A) → length q' ≡ length q → scan_ranked w q' ws ≡ goes t'
      → Counts few (record { queue = p ∷ q; words = ws }) t'
  scan_counts few w p q q' ws t' n e = go (eqb w empty_word) e
    where
      counts : (xs : List ℕ) → length xs ≤ length ws → record { queue = q'; words = xs } ≡ t' → Counts few (record { queue = p ∷ q; words = ws }) t'
      counts xs l f =
          subst (λ (x : RankedState A). Counts few (record { queue = p ∷ q; words = ws }) x) f
          (record { new = 0; few_new = omega arith; some_left = omega arith; pending = omega (arith, n); words = l })

      read : (b : Bool) (xs : List ℕ) → length xs ≤ length ws → ◌≡◌ {A = Moved (RankedState A)} (if b then goes (record { queue = q'; words = xs }) else stops 16) (goes t')
          → Counts few (record { queue = p ∷ q; words = ws }) t'
      read true xs l f = counts xs l (goes_one f)
      read false xs l f = never_goes f

      word : (us : List ℕ) → length us ≤ length ws → read_ranked w q' us ≡ goes t' → Counts few (record { queue = p ∷ q; words = ws }) t'
      word [] l f = never_goes f
      word (x ∷ xs) l f = read (word_fits w x) xs (omega arith) f

      go : (b : Bool) → (if b then goes (record { queue = q'; words = ws }) else read_ranked w q' ws) ≡ goes t' → Counts few (record { queue = p ∷ q; words = ws }) t'
      go true f = counts ws (omega arith) (goes_one f)
      go false f = word ws (omega arith) f

module _ {A : Type 0} (child : A → ℕ → A) (g : Grammar) where
  daughters_length : (n : A) (ss : List (Variable × ℕ)) (j : ℕ) (ds : List ℕ) → length (daughters_ranked child g n ss j ds) ≡ length ds
  daughters_length n ss j [] = refl
  daughters_length n ss j (d ∷ ds) = ap suc (daughters_length n ss (suc j) ds)

  pub predict_length : (r : Rule) (p : Ranked A) (q : List (Ranked A)) → length (predict_ranked child g r p q) ≡ length r.daughters + length q
  predict_length r p q = predict_by r (rerank (shifted p.ranks (lengths r)) p) (map (rerank (shifted p.ranks (lengths r))) q) ∙ ap (λ (n : ℕ). length r.daughters + n) (length-map q (rerank (shifted p.ranks (lengths r))))
    where
      predict_by : (r : Rule) (p : Ranked A) (q : List (Ranked A)) → length (put_in (expand_ranked child g r p) q) ≡ length r.daughters + length q
      predict_by r p q = put_length (expand_ranked child g r p) q ∙ ap (λ (n : ℕ). n + length q) (daughters_length p.node (variable_ranks p.ranks r.components) 0 r.daughters)

  apply_counts : (few : ℕ) (o : Option Rule) → ((r : Rule) → o ≡ some r → length r.daughters ≤ few) → (q : List (Ranked A)) (ws : List ℕ) (t' : RankedState A)
      → apply_ranked child g o q ws ≡ goes t' → Counts few (record { queue = q; words = ws }) t'
  apply_counts few none h q ws t' e = never_goes e
  apply_counts few (some r) h [] ws t' e = never_goes e
  apply_counts few (some r) h (p ∷ q) ws t' e = go (eqb r.category p.category) (is_lexical r) e
    where
      go : (b l : Bool) → (if b then (if l then scan_ranked r.word (without_front p q) ws else goes (record { queue = predict_ranked child g r p q; words = ws })) else stops 15) ≡ goes t'
          → Counts few (record { queue = p ∷ q; words = ws }) t'
      go false l f = never_goes f
      go true true f = scan_counts few r.word p q (without_front p q) ws t' (length-map q (rerank (lowered p.ranks))) f
      go true false f =
          subst (λ (x : RankedState A). Counts few (record { queue = p ∷ q; words = ws }) x) (goes_one f)
          (record { new = length r.daughters; few_new = h r refl; some_left = omega arith; pending = omega (arith, predict_length r p q); words = omega arith })

  pub step_counts : WellFormed g → (t t' : RankedState A) (r : ℕ) → step_ranked child g t r ≡ goes t' → Counts 3 t t'
  step_counts well t t' r e = apply_counts 3 (rule_at g r) (λ rule f. (well.ranges r rule f).daughters_few) t.queue t.words t' e

  -- of a run: what it reaches, and how long its queue is
  pub run_counts : WellFormed g → (rs : List ℕ) (t t' : RankedState A) → Reached g t → run_by (rank_recognizer child g) t rs ≡ some t'
      → Reached g t' × (length t'.queue ≤ length t.queue + 2 * length rs)
  run_counts well [] t t' h e =
      let k : t ≡ t' = cc in
      subst (λ (x : RankedState A). Reached g x × (length x.queue ≤ length t.queue + 2 * 0)) k (h, omega arith)
  run_counts well (r ∷ rs) t t' h e = go (step_ranked child g t r) refl e (λ u. run_counts well rs u t')
    where
      go : (o : Moved (RankedState A)) → step_ranked child g t r ≡ o → ◌≡◌ {A = Option (RankedState A)} (elim o [ stops n ↦ none | goes u ↦ run_by (rank_recognizer child g) u rs ]) (some t')
          → ((u : RankedState A) → Reached g u → run_by (rank_recognizer child g) u rs ≡ some t' → Reached g t' × (length t'.queue ≤ length u.queue + 2 * length rs))
          → Reached g t' × (length t'.queue ≤ length t.queue + 2 * suc (length rs))
      go (stops n) d f ih = let z : ◌≡◌ {A = ℕ} 0 1 = cc in absurd (omega arith)
      go (goes u) d f ih =
          let c = step_counts well t u r d in
          let k = ih u (reached_step child g well.right t u r h d) f in
          (k.0, omega (arith, k.1, c.pending, c.few_new, c.some_left))

-- at most 4 ranks to a prediction, and each rank below their number
pub dimension_four : (g : Grammar) → WellFormed g → (a : ℕ) → dimension g a ≤ 4
dimension_four g well a = go (dec_lt a (length g.dimensions))
  where
    go : Dec (a < length g.dimensions) → dimension g a ≤ 4
    go (yes h) = (well.dimensions_are a h).1
    go (no h) = omega (arith, get_or-eq_default g.dimensions 0 {n = a} (omega arith))

module _ {A : Type 0} (g : Grammar) (well : WellFormed g) (t : RankedState A) (reached : Reached g t) where
  pub ranks_below : (p : Ranked A) → Memᴰ p t.queue → (r : ℕ) → Memᴰ r p.ranks → r < 4 * length t.queue
  ranks_below p m r k =
      let four = every_to (λ x. (length x.ranks ≡ dimension g x.category) × (1 ≤ length x.ranks)) (λ x. length x.ranks ≤ 4)
      (λ x u. omega (arith, u.0, dimension_four g well x.category)) t.queue (ranks_sized g reached.0 t reached.1) in
      omega (arith, rank_below t.queue (ranks_gapless g reached.0 t reached.1) p m r k, width_bound t.queue four)

-- a live prefix: with the steps made and the predictions together at most 96, there are at most 64 predictions
module _ {A : Type 0} (child : A → ℕ → A) (g : Grammar) (well : WellFormed g) (root : A) (sentence trace : List ℕ) (t : RankedState A)
    (runs : run_by (rank_recognizer child g) (begin_ranked child g root sentence) trace ≡ some t) (live : length trace + length t.queue ≤ 96) where
  counted : Reached g t × (length t.queue ≤ 1 + 2 * length trace)
  counted = run_counts child g well trace (begin_ranked child g root sentence) t (reached_begin child g well.right root sentence) runs

  pub live_queue : length t.queue ≤ 64
  live_queue = omega (arith, counted.1, live)

  pub live_rank : (p : Ranked A) → Memᴰ p t.queue → (r : ℕ) → Memᴰ r p.ranks → r < 256
  live_rank p m r k = omega (arith, ranks_below g well t counted.0 p m r k, live_queue)
