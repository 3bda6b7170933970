-- The recognizer by ranks goes along with the digit strings of document 01, step by step: its queue is the ranked queue, in the same order.
-- Assumes nothing.
use Rattle.std.specs.Prelude.{if◌then◌else◌}
use mathlib.Core.Path.{◌≡◌, refl, sym, ap, ap₂, subst, ◌∙◌}
use mathlib.Core.Logic.{◌⊎◌}
use mathlib.Core.Bool.{Bool, true, false}
use mathlib.Core.Option.{Option, none, some}
use mathlib.Core.List.{List, [], ◌∷◌, ◌++◌, map, Memᴰ}
use Prim.Native.Nat.{ℕ, suc, ◌+◌, ◌≤◌}
use native.Mathlib.Omega.{arith}
use lib.Dec.{eqb}
use lib.ListN.{length, length-map}
use borrow.Author.Tests.{eqb-true}
use Rattle.model.specs.Base.{numbers_from}
use Rattle.model.specs.Grammar.{Variable, Rule, Grammar, empty_word, rule_at, is_lexical, dimension}
use Rattle.model.specs.Step.{Index, Prediction, State, Outcome, fails, leads, variable_indices, index_of, sort, trim, read_word, scan, daughters_from, expand, predict, apply, step, begin, word_fits}
use Rattle.model.specs.WellFormed.{Perm, RightRule, Right}
use Rattle.model.proofs.Lists.{length_numbers, mem_left, mem_right, each_in, map_append}
use Rattle.model.proofs.Marks.{indices_of}
use Rattle.model.proofs.Sorting.{sort_in}
use Rattle.model.proofs.Apart.{Every, every_left, every_right, every_mem, mem_every, Apart, AllApart, apart_perm, slots_apart, next_indices, Sized, Line, line_predict, line_read}
use Rattle.ranking.specs.Recognizer.{Moved, stops, goes}
use Rattle.ranking.specs.Ranks.{Ranked, RankedState, put_in, read_ranked, scan_ranked, without_front, predict_ranked, apply_ranked, step_ranked}
use Rattle.ranking.specs.RanksAgree.{rank_among, ranked_among, ranked, ranked_state, ranked_outcome, all_ranks, WithoutGaps}
use Rattle.ranking.proofs.Places.{place}
use Rattle.ranking.proofs.Held.{held, held_queue, held_trim, held_daughters, held_others, held_read}
use Rattle.ranking.proofs.Sorted.{same_or_apart, before_left, Of, put_held}
use Rattle.ranking.proofs.Gaps.{no_gaps}

-- ranks by `before` are ranks by `left`, in a queue whose indices are apart

rank_place : (l : List Index) (x : Index) → Every (λ j. (j ≡ x) ⊎ Apart j x) l → rank_among l x ≡ place l x
rank_place [] x h = refl
rank_place (j ∷ l) x h = ap₂ (λ (b : Bool) (n : ℕ). (if b then 1 else 0) + n) (before_left j x h.0) (rank_place l x h.1)

module _ (l : List Index) (apart : AllApart l) where
  rank_held : (is : List Index) → Every (λ i. Memᴰ i l) is → map (rank_among l) is ≡ map (place l) is
  rank_held [] h = refl
  rank_held (x ∷ is) h =
      ap₂ (λ (n : ℕ) (m : List ℕ). n ∷ m) (rank_place l x (every_mem (λ j. (j ≡ x) ⊎ Apart j x) l (λ j m. same_or_apart l j x apart m h.0))) (rank_held is h.1)

  ranked_all : {A : Type 0} (q : List (Prediction A)) → Every (λ i. Memᴰ i l) (indices_of q) → map (ranked_among l) q ≡ map (held l) q
  ranked_all [] h = refl
  ranked_all {A} (p ∷ q) h =
      ap₂ (λ (rs : List ℕ) (m : List (Ranked A)). record { category = p.category; ranks = rs; node = p.node } ∷ m)
      (rank_held p.indices (every_left (λ i. Memᴰ i l) p.indices (indices_of q) h)) (ranked_all q (every_right (λ i. Memᴰ i l) p.indices (indices_of q) h))

pub ranked_held : {A : Type 0} (q : List (Prediction A)) → AllApart (indices_of q) → ranked q ≡ held_queue q
ranked_held q a = ranked_all (indices_of q) a q (every_mem (λ i. Memᴰ i (indices_of q)) (indices_of q) (λ i m. m))

-- the ranks of a queue are those of its indices

held_ranks : {A : Type 0} (l : List Index) (q : List (Prediction A)) → all_ranks (map (held l) q) ≡ map (place l) (indices_of q)
held_ranks l [] = refl
held_ranks l (p ∷ q) = ap (λ (m : List ℕ). map (place l) p.indices ++ m) (held_ranks l q) ∙ sym (map_append (place l) p.indices (indices_of q))

pub ranked_gapless : {A : Type 0} (q : List (Prediction A)) → AllApart (indices_of q) → WithoutGaps (ranked q)
ranked_gapless q a =
    let l = indices_of q in
    let e : all_ranks (ranked q) ≡ map (place l) l = ap all_ranks (ranked_held q a) ∙ held_ranks l q in
    let n : length (all_ranks (ranked q)) ≡ length l = ap length e ∙ length-map l (place l) in
    subst (λ (m : List ℕ). Perm m (numbers_from 0 (length (all_ranks (ranked q))))) (sym e)
    (subst (λ (k : ℕ). Perm (map (place l) l) (numbers_from 0 k)) (sym n) (no_gaps l a))

-- a nonlexical step

module _ {A : Type 0} (child : A → ℕ → A) (g : Grammar) where
  daughters_fit : (n : A) (ss : List (Variable × Index)) (j : ℕ) (ds : List ℕ) → ((d : ℕ) → Memᴰ d ds → 1 ≤ dimension g d) → Every (λ p. 1 ≤ length p.indices) (daughters_from child g n ss j ds)
  daughters_fit n ss j [] h = tt
  daughters_fit n ss j (d ∷ ds) h =
      let len : length (map (index_of ss j) (numbers_from 0 (dimension g d))) ≡ dimension g d = length-map (numbers_from 0 (dimension g d)) (index_of ss j) ∙ length_numbers 0 (dimension g d) in
      (omega (arith, len, h d (Memᴰ.head refl)), daughters_fit n ss (suc j) ds (λ e m. h e (Memᴰ.tail m)))

  module _ (rule : Rule) (p : Prediction A) (q : List (Prediction A)) (right : RightRule g rule) (lex : is_lexical rule ≡ false)
      (len : length p.indices ≡ length rule.components) (h : Line g (p ∷ q)) where
    abbrev new : List (Prediction A)
    new = expand child g rule p

    abbrev S : List (Prediction A)
    S = sort (new ++ q)

    pub next_apart : AllApart (indices_of S)
    next_apart = apart_perm (next_indices child g rule p q right lex len) (slots_apart p.indices rule.components (indices_of q) h.apart)

    is_of : (x : Prediction A) → Memᴰ x (new ++ q) → 1 ≤ length x.indices → Of (indices_of S) next_apart x
    is_of x m n = record { inside = every_mem (λ i. Memᴰ i (indices_of S)) x.indices (λ i k. each_in (λ (y : Prediction A). y.indices) (sort_in m) k); inhabited = n }

    new_of : Every (Of (indices_of S) next_apart) new
    new_of =
        every_mem (Of (indices_of S) next_apart) new
        (λ x m. is_of x (mem_left q m) (mem_every (λ p. 1 ≤ length p.indices) new (daughters_fit p.node (variable_indices p.indices rule.components) 0 rule.daughters right.inhabited) x m))

    pub old_of : Every (Of (indices_of S) next_apart) q
    old_of = every_mem (Of (indices_of S) next_apart) q (λ x m. is_of x (mem_right new m) (mem_every (Sized g) q h.fit.1 x m).inhabited)

    pub predict_ranked_lem : predict_ranked child g rule (held (indices_of (p ∷ q)) p) (map (held (indices_of (p ∷ q))) q) ≡ ranked (trim S)
    predict_ranked_lem =
        sym (ranked_held (trim S) (line_predict child g rule p q right lex len h).apart
        ∙ held_trim S
        ∙ put_held (indices_of S) next_apart new q new_of old_of h.sorted.1
        ∙ ap₂ put_in (held_daughters child g rule p q right lex len h.apart) (held_others child g rule p q right lex len h.apart))

-- one step of both

module _ {A : Type 0} (g : Grammar) where
  -- the two stand at the same place
  pub record Agree (s : State A) (t : RankedState A) : Type 0 where
    pub line : Line g s.queue
    pub is : t ≡ ranked_state s

  -- what is kept of the queue of indices
  abbrev pub KeepsLine : Outcome A → Type 0
  KeepsLine (fails n) = Unit {0}
  KeepsLine (leads s) = Line g s.queue

  pub record Along (o : Outcome A) (u : Moved (RankedState A)) : Type 0 where
    pub is : u ≡ ranked_outcome o
    pub keeps : KeepsLine o

  scan_along : (w : ℕ) (q : List (Prediction A)) (ws : List ℕ) → Line g q → Along (scan w q ws) (scan_ranked w (ranked q) ws)
  scan_along w q ws h = go (eqb w empty_word)
    where
      read : (b : Bool) (xs : List ℕ) → Along (if b then leads (record { queue = q; words = xs }) else fails 16) (if b then goes (record { queue = ranked q; words = xs }) else stops 16)
      read true xs = record { is = refl; keeps = h }
      read false xs = record { is = refl; keeps = tt }

      word : (ws : List ℕ) → Along (read_word w q ws) (read_ranked w (ranked q) ws)
      word [] = record { is = refl; keeps = tt }
      word (x ∷ xs) = read (word_fits w x) xs

      go : (b : Bool) → Along (if b then leads (record { queue = q; words = ws }) else read_word w q ws) (if b then goes (record { queue = ranked q; words = ws }) else read_ranked w (ranked q) ws)
      go true = record { is = refl; keeps = h }
      go false = word ws

  module _ (child : A → ℕ → A) where
    applied : (r : Rule) (p : Prediction A) (q : List (Prediction A)) (ws : List ℕ) → RightRule g r → Line g (p ∷ q)
        → Along (apply child g (some r) (p ∷ q) ws) (apply_ranked child g (some r) (held_queue (p ∷ q)) ws)
    applied r p q ws right h = go (eqb r.category p.category) (is_lexical r) refl refl
      where
        x : Ranked A
        x = held (indices_of (p ∷ q)) p

        R : List (Ranked A)
        R = map (held (indices_of (p ∷ q))) q

        go : (b l : Bool) → eqb r.category p.category ≡ b → is_lexical r ≡ l
            → Along (if b then (if l then scan r.word q ws else predict child g r p q ws) else fails 15)
            (if b then (if l then scan_ranked r.word (without_front x R) ws else goes (record { queue = predict_ranked child g r x R; words = ws })) else stops 15)
        go false l e f = record { is = refl; keeps = tt }
        go true true e f =
            let k = line_read child g p q h in
            subst (λ (y : List (Ranked A)). Along (scan r.word q ws) (scan_ranked r.word y ws)) (ranked_held q k.apart ∙ held_read p q h.apart) (scan_along r.word q ws k)
        go true false e f =
            let n : length p.indices ≡ length r.components = h.fit.0.sized ∙ ap (dimension g) (sym (eqb-true r.category p.category e)) ∙ sym (right.components f) in
            record {
              is = ap (λ (y : List (Ranked A)). goes (record { queue = y; words = ws })) (predict_ranked_lem child g r p q right f n h);
              keeps = line_predict child g r p q right f n h;
            }

    apply_along : (o : Option Rule) → ((r : Rule) → o ≡ some r → RightRule g r) → (q : List (Prediction A)) (ws : List ℕ) → Line g q
        → Along (apply child g o q ws) (apply_ranked child g o (held_queue q) ws)
    apply_along none right q ws h = record { is = refl; keeps = tt }
    apply_along (some r) right [] ws h = record { is = refl; keeps = tt }
    apply_along (some r) right (p ∷ q) ws h = applied r p q ws (right r refl) h

    pub step_along : Right g → (s : State A) → Line g s.queue → (r : ℕ) → Along (step child g s r) (step_ranked child g (ranked_state s) r)
    step_along right s h r =
        subst (λ (y : List (Ranked A)). Along (step child g s r) (apply_ranked child g (rule_at g r) y s.words)) (sym (ranked_held s.queue h.apart))
        (apply_along (rule_at g r) (right.rules r) s.queue s.words h)

    pub begin_line : Right g → (root : A) (sentence : List ℕ) → Line g (begin child g root sentence).queue
    begin_line right root sentence =
        record { apart = (tt, tt); sorted = (λ x m t. elim m [ ], tt); fit = (record { sized = sym right.start_alone; inhabited = omega arith }, tt) }
