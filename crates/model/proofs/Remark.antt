-- A step does not look at what its predictions stand for: they may be renamed before it or after it.
-- Assumes nothing.
use Rattle.std.specs.Prelude.{if◌then◌else◌}
use mathlib.Core.Path.{◌≡◌, refl, ap, ◌∙◌}
use mathlib.Core.Bool.{Bool, true, false}
use mathlib.Core.Option.{Option, none, some}
use mathlib.Core.List.{List, [], ◌∷◌, ◌++◌, map}
use Prim.Native.Nat.{ℕ, suc}
use lib.Dec.{eqb}
use Rattle.model.specs.Base.{each, numbers_from}
use Rattle.model.specs.Grammar.{Grammar, Rule, Variable, rule_at, is_lexical, empty_word, dimension}
use Rattle.model.specs.Step.{Index, before, Prediction, State, Outcome, fails, leads, least_of, insert, sort, same_first, shorten, trim, daughters_from, expand, variable_indices, index_of, read_word, scan, predict, apply, step, word_fits}

module _ {A B : Type 0} (f : A → B) where
  -- a prediction with its mark renamed
  abbrev pub remark : Prediction A → Prediction B
  remark p = record { category = p.category; indices = p.indices; node = f p.node }

  abbrev pub renamed : State A → State B
  renamed s = record { queue = map remark s.queue; words = s.words }

  abbrev pub renamed_outcome : Outcome A → Outcome B
  renamed_outcome (fails n) = fails n
  renamed_outcome (leads s) = leads (renamed s)

  pub insert_remark : (p : Prediction A) (q : List (Prediction A)) → map remark (insert p q) ≡ insert (remark p) (map remark q)
  insert_remark p [] = refl
  insert_remark p (y ∷ q) = go (before (least_of y) (least_of p)) (insert_remark p q)
    where
      go : (b : Bool) → map remark (insert p q) ≡ insert (remark p) (map remark q)
          → map remark (if b then y ∷ insert p q else p ∷ y ∷ q) ≡ (if b then remark y ∷ insert (remark p) (map remark q) else remark p ∷ remark y ∷ map remark q)
      go true e = ap (λ (l : List (Prediction B)). remark y ∷ l) e
      go false e = refl

  pub sort_remark : (q : List (Prediction A)) → map remark (sort q) ≡ sort (map remark q)
  sort_remark [] = refl
  sort_remark (p ∷ q) = insert_remark p (sort q) ∙ ap (insert (remark p)) (sort_remark q)

  pub indices_remark : (q : List (Prediction A)) → each (λ (p : Prediction B). p.indices) (map remark q) ≡ each (λ p. p.indices) q
  indices_remark [] = refl
  indices_remark (p ∷ q) = ap (λ (l : List Index). p.indices ++ l) (indices_remark q)

  pub shorten_remark : (q : List (Prediction A)) → map remark (map shorten q) ≡ map shorten (map remark q)
  shorten_remark [] = refl
  shorten_remark (p ∷ q) = ap (λ (l : List (Prediction B)). shorten (remark p) ∷ l) (shorten_remark q)

  pub trim_remark : (q : List (Prediction A)) → map remark (trim q) ≡ trim (map remark q)
  trim_remark q = rw (indices_remark q) (go (same_first (each (λ p. p.indices) q)))
    where
      go : (b : Bool) → map remark (if b then map shorten q else q) ≡ (if b then map shorten (map remark q) else map remark q)
      go true = shorten_remark q
      go false = refl

  pub append_remark : (q r : List (Prediction A)) → map remark (q ++ r) ≡ map remark q ++ map remark r
  append_remark [] r = refl
  append_remark (p ∷ q) r = ap (λ (l : List (Prediction B)). remark p ∷ l) (append_remark q r)

module _ {A B : Type 0} (f : A → B) (child : A → ℕ → A) (child' : B → ℕ → B) (natural : (a : A) (j : ℕ) → f (child a j) ≡ child' (f a) j) (g : Grammar) where
  pub daughters_remark : (n : A) (ss : List (Variable × Index)) (j : ℕ) (ds : List ℕ)
      → map (remark f) (daughters_from child g n ss j ds) ≡ daughters_from child' g (f n) ss j ds
  daughters_remark n ss j [] = refl
  daughters_remark n ss j (d ∷ ds) =
      let e : remark f (record { category = d; indices = map (index_of ss j) (numbers_from 0 (dimension g d)); node = child n j }) ≡ record { category = d; indices = map (index_of ss j) (numbers_from 0 (dimension g d)); node = child' (f n) j }
      = λ i. record { category = d; indices = map (index_of ss j) (numbers_from 0 (dimension g d)); node = natural n j i } in
      cc (e, daughters_remark n ss (suc j) ds)

  pub queue_remark : (r : Rule) (p : Prediction A) (q : List (Prediction A))
      → map (remark f) (trim (sort (expand child g r p ++ q))) ≡ trim (sort (expand child' g r (remark f p) ++ map (remark f) q))
  queue_remark r p q =
      trim_remark f (sort (expand child g r p ++ q))
      ∙ ap trim (sort_remark f (expand child g r p ++ q) ∙ ap sort (append_remark f (expand child g r p) q ∙ ap (λ (l : List (Prediction B)). l ++ map (remark f) q) (daughters_remark p.node (variable_indices p.indices r.components) 0 r.daughters)))

  word_remark : (w : ℕ) (q : List (Prediction A)) (ws : List ℕ) → renamed_outcome f (read_word w q ws) ≡ read_word w (map (remark f) q) ws
  word_remark w q [] = refl
  word_remark w q (x ∷ ws) = go (word_fits w x)
    where
      go : (b : Bool) → renamed_outcome f (if b then leads (record { queue = q; words = ws }) else fails 16) ≡ (if b then leads (record { queue = map (remark f) q; words = ws }) else fails 16)
      go true = refl
      go false = refl

  scan_remark : (w : ℕ) (q : List (Prediction A)) (ws : List ℕ) → renamed_outcome f (scan w q ws) ≡ scan w (map (remark f) q) ws
  scan_remark w q ws = go (eqb w empty_word)
    where
      go : (b : Bool) → renamed_outcome f (if b then leads (record { queue = q; words = ws }) else read_word w q ws) ≡ (if b then leads (record { queue = map (remark f) q; words = ws }) else read_word w (map (remark f) q) ws)
      go true = refl
      go false = word_remark w q ws

  apply_remark : (o : Option Rule) (q : List (Prediction A)) (ws : List ℕ) → renamed_outcome f (apply child g o q ws) ≡ apply child' g o (map (remark f) q) ws
  apply_remark none q ws = refl
  apply_remark (some r) [] ws = refl
  apply_remark (some r) (p ∷ q) ws = go (eqb r.category p.category) (is_lexical r)
    where
      go : (b l : Bool) → renamed_outcome f (if b then (if l then scan r.word q ws else predict child g r p q ws) else fails 15)
          ≡ (if b then (if l then scan r.word (map (remark f) q) ws else predict child' g r (remark f p) (map (remark f) q) ws) else fails 15)
      go false l = refl
      go true true = scan_remark r.word q ws
      go true false = ap (λ (l : List (Prediction B)). leads (record { queue = l; words = ws })) (queue_remark r p q)

  pub step_remark : (s : State A) (r : ℕ) → renamed_outcome f (step child g s r) ≡ step child' g (renamed f s) r
  step_remark s r = apply_remark (rule_at g r) s.queue s.words
