-- The recognizer by ranks does not look at what its predictions stand for: marks may be renamed before a step or after it. What the new name of a
-- daughter is, need be known for the front's daughters alone, so that code may number its predictions as it likes.
-- Assumes nothing.
use Rattle.std.specs.Prelude.{if◌then◌else◌}
use mathlib.Core.Path.{◌≡◌, refl, ap, ap₂, subst, ◌∙◌}
use mathlib.Core.Bool.{Bool, true, false}
use mathlib.Core.Option.{Option, none, some}
use mathlib.Core.List.{List, [], ◌∷◌, map}
use Prim.Native.Nat.{ℕ, suc, ◌+◌, ◌<◌}
use native.Mathlib.Omega.{arith}
use lib.Dec.{eqb, ltb}
use lib.ListN.{length}
use Rattle.model.specs.Base.{numbers_from}
use Rattle.model.specs.Grammar.{Variable, Rule, Grammar, empty_word, rule_at, is_lexical, dimension}
use Rattle.model.specs.Step.{word_fits}
use Rattle.ranking.specs.Recognizer.{Moved, stops, goes}
use Rattle.ranking.specs.Ranks.{Ranked, RankedState, shifted, lowered, lengths, variable_ranks, rank_of, least_rank, rerank, insert_ranked, put_in, read_ranked, scan_ranked, without_front, daughters_ranked, expand_ranked, predict_ranked, apply_ranked, step_ranked}

module _ {A B : Type 0} (f : A → B) where
  -- a prediction with its mark renamed
  abbrev pub remark : Ranked A → Ranked B
  remark p = record { category = p.category; ranks = p.ranks; node = f p.node }

  abbrev pub renamed : RankedState A → RankedState B
  renamed s = record { queue = map remark s.queue; words = s.words }

  abbrev pub renamed_moved : Moved (RankedState A) → Moved (RankedState B)
  renamed_moved (stops n) = stops n
  renamed_moved (goes s) = goes (renamed s)

  rerank_remark : (h : ℕ → ℕ) (q : List (Ranked A)) → map remark (map (rerank h) q) ≡ map (rerank h) (map remark q)
  rerank_remark h [] = refl
  rerank_remark h (p ∷ q) = ap (λ (l : List (Ranked B)). remark (rerank h p) ∷ l) (rerank_remark h q)

  insert_remark : (p : Ranked A) (q : List (Ranked A)) → map remark (insert_ranked p q) ≡ insert_ranked (remark p) (map remark q)
  insert_remark p [] = refl
  insert_remark p (y ∷ q) = go (ltb (least_rank y.ranks) (least_rank p.ranks)) (insert_remark p q)
    where
      go : (b : Bool) → map remark (insert_ranked p q) ≡ insert_ranked (remark p) (map remark q)
          → map remark (if b then y ∷ insert_ranked p q else p ∷ y ∷ q) ≡ (if b then remark y ∷ insert_ranked (remark p) (map remark q) else remark p ∷ remark y ∷ map remark q)
      go true e = ap (λ (l : List (Ranked B)). remark y ∷ l) e
      go false e = refl

  put_remark : (xs q : List (Ranked A)) → map remark (put_in xs q) ≡ put_in (map remark xs) (map remark q)
  put_remark [] q = refl
  put_remark (x ∷ xs) q = insert_remark x (put_in xs q) ∙ ap (insert_ranked (remark x)) (put_remark xs q)

  scan_remark : (w : ℕ) (q : List (Ranked A)) (q' : List (Ranked B)) (ws : List ℕ) → map remark q ≡ q' → renamed_moved (scan_ranked w q ws) ≡ scan_ranked w q' ws
  scan_remark w q q' ws e = go (eqb w empty_word)
    where
      read : (b : Bool) (xs : List ℕ) → renamed_moved (if b then goes (record { queue = q; words = xs }) else stops 16) ≡ (if b then goes (record { queue = q'; words = xs }) else stops 16)
      read true xs = ap (λ (l : List (Ranked B)). goes (record { queue = l; words = xs })) e
      read false xs = refl

      word : (ws : List ℕ) → renamed_moved (read_ranked w q ws) ≡ read_ranked w q' ws
      word [] = refl
      word (x ∷ xs) = read (word_fits w x) xs

      go : (b : Bool) → renamed_moved (if b then goes (record { queue = q; words = ws }) else read_ranked w q ws) ≡ (if b then goes (record { queue = q'; words = ws }) else read_ranked w q' ws)
      go true = ap (λ (l : List (Ranked B)). goes (record { queue = l; words = ws })) e
      go false = word ws

  module _ (child : A → ℕ → A) (child' : B → ℕ → B) (g : Grammar) where
    daughters_remark : (n : A) (ss : List (Variable × ℕ)) (j : ℕ) (ds : List ℕ) → ((k : ℕ) → k < length ds → f (child n (j + k)) ≡ child' (f n) (j + k))
        → map remark (daughters_ranked child g n ss j ds) ≡ daughters_ranked child' g (f n) ss j ds
    daughters_remark n ss j [] h = refl
    daughters_remark n ss j (d ∷ ds) h =
        let z : j + 0 ≡ j = omega arith in
        let e : f (child n j) ≡ child' (f n) j = subst (λ (k : ℕ). f (child n k) ≡ child' (f n) k) z (h 0 (omega arith)) in
        ap₂ (λ (b : B) (l : List (Ranked B)). record { category = d; ranks = map (rank_of ss j) (numbers_from 0 (dimension g d)); node = b } ∷ l) e
        (daughters_remark n ss (suc j) ds (λ k l. let m : suc j + k ≡ j + suc k = omega arith in rw m (h (suc k) (omega arith))))

    apply_remark : (o : Option Rule) (q : List (Ranked A)) (ws : List ℕ)
        → ((p : Ranked A) (q' : List (Ranked A)) (rule : Rule) → q ≡ p ∷ q' → o ≡ some rule → (j : ℕ) → j < length rule.daughters → f (child p.node j) ≡ child' (f p.node) j)
        → renamed_moved (apply_ranked child g o q ws) ≡ apply_ranked child' g o (map remark q) ws
    apply_remark none q ws h = refl
    apply_remark (some r) [] ws h = refl
    apply_remark (some r) (p ∷ q) ws h = go (eqb r.category p.category) (is_lexical r)
      where
        go : (b l : Bool) → renamed_moved (if b then (if l then scan_ranked r.word (without_front p q) ws else goes (record { queue = predict_ranked child g r p q; words = ws })) else stops 15)
            ≡ (if b then (if l then scan_ranked r.word (without_front (remark p) (map remark q)) ws else goes (record { queue = predict_ranked child' g r (remark p) (map remark q); words = ws })) else stops 15)
        go false l = refl
        go true true = scan_remark r.word (without_front p q) (without_front (remark p) (map remark q)) ws (rerank_remark (lowered p.ranks) q)
        go true false =
            ap (λ (l : List (Ranked B)). goes (record { queue = l; words = ws }))
            (put_remark (expand_ranked child g r (rerank (shifted p.ranks (lengths r)) p)) (map (rerank (shifted p.ranks (lengths r))) q)
            ∙ ap₂ put_in
            (daughters_remark p.node (variable_ranks (map (shifted p.ranks (lengths r)) p.ranks) r.components) 0 r.daughters (λ k l. let z : 0 + k ≡ k = omega arith in rw z (h p q r refl refl k l)))
            (rerank_remark (shifted p.ranks (lengths r)) q))

    -- the front's daughters are named alike: then the steps go alike
    pub step_remark : (s : RankedState A) (r : ℕ)
        → ((p : Ranked A) (q : List (Ranked A)) (rule : Rule) → s.queue ≡ p ∷ q → rule_at g r ≡ some rule → (j : ℕ) → j < length rule.daughters → f (child p.node j) ≡ child' (f p.node) j)
        → renamed_moved (step_ranked child g s r) ≡ step_ranked child' g (renamed s) r
    step_remark s r h = apply_remark (rule_at g r) s.queue s.words h
