-- A step does not look at what its predictions stand for: it may be made with them, or without and then marked, in one way only.
-- Assumes nothing.
use Rattle.std.specs.Prelude.{if◌then◌else◌}
use mathlib.Core.Path.{◌≡◌, refl, ap, ◌∙◌}
use mathlib.Core.Bool.{Bool, true, false}
use mathlib.Core.Option.{Option, none, some}
use mathlib.Core.List.{List, [], ◌∷◌, ◌++◌, map}
use Prim.Native.Nat.{ℕ, suc}
use lib.Dec.{eqb}
use Rattle.model.specs.Base.{each, numbers_from}
use Rattle.model.specs.Grammar.{Grammar, Rule, Variable, rule_at, is_lexical, empty_word, dimension}
use Rattle.model.specs.Step.{Index, before, Prediction, State, Outcome, fails, leads, least_of, insert, sort, same_first, shorten, trim, daughters_from, expand, variable_indices, index_of, read_word, scan, predict, apply, step, word_fits}
use Rattle.model.specs.Trace.{no_node}

abbrev pub Bare : Type 0
Bare = Prediction (Unit {0})

module _ {A : Type 0} where
  -- a prediction without its mark
  abbrev pub bare : Prediction A → Bare
  bare p = record { category = p.category; indices = p.indices; node = tt }

  abbrev pub bare_state : State A → State (Unit {0})
  bare_state s = record { queue = map bare s.queue; words = s.words }

  abbrev pub bare_outcome : Outcome A → Outcome (Unit {0})
  bare_outcome (fails n) = fails n
  bare_outcome (leads s) = leads (bare_state s)

  pub insert_bare : (p : Prediction A) (q : List (Prediction A)) → map bare (insert p q) ≡ insert (bare p) (map bare q)
  insert_bare p [] = refl
  insert_bare p (y ∷ q) = go (before (least_of y) (least_of p)) (insert_bare p q)
    where
      go : (b : Bool) → map bare (insert p q) ≡ insert (bare p) (map bare q)
          → map bare (if b then y ∷ insert p q else p ∷ y ∷ q) ≡ (if b then bare y ∷ insert (bare p) (map bare q) else bare p ∷ bare y ∷ map bare q)
      go true e = ap (λ (l : List Bare). bare y ∷ l) e
      go false e = refl

  pub sort_bare : (q : List (Prediction A)) → map bare (sort q) ≡ sort (map bare q)
  sort_bare [] = refl
  sort_bare (p ∷ q) = insert_bare p (sort q) ∙ ap (insert (bare p)) (sort_bare q)

  abbrev pub indices_of : List (Prediction A) → List Index
  indices_of q = each (λ p. p.indices) q

  pub indices_bare : (q : List (Prediction A)) → each (λ (p : Bare). p.indices) (map bare q) ≡ indices_of q
  indices_bare [] = refl
  indices_bare (p ∷ q) = ap (λ (l : List Index). p.indices ++ l) (indices_bare q)

  pub shorten_bare : (q : List (Prediction A)) → map bare (map shorten q) ≡ map shorten (map bare q)
  shorten_bare [] = refl
  shorten_bare (p ∷ q) = ap (λ (l : List Bare). shorten (bare p) ∷ l) (shorten_bare q)

  pub trim_bare : (q : List (Prediction A)) → map bare (trim q) ≡ trim (map bare q)
  trim_bare q = rw (indices_bare q) (go (same_first (indices_of q)))
    where
      go : (b : Bool) → map bare (if b then map shorten q else q) ≡ (if b then map shorten (map bare q) else map bare q)
      go true = shorten_bare q
      go false = refl

  pub append_bare : (q r : List (Prediction A)) → map bare (q ++ r) ≡ map bare q ++ map bare r
  append_bare [] r = refl
  append_bare (p ∷ q) r = ap (λ (l : List Bare). bare p ∷ l) (append_bare q r)

module _ {A : Type 0} (child : A → ℕ → A) (g : Grammar) where
  pub daughters_bare : (n : A) (ss : List (Variable × Index)) (j : ℕ) (ds : List ℕ)
      → map bare (daughters_from child g n ss j ds) ≡ daughters_from no_node g tt ss j ds
  daughters_bare n ss j [] = refl
  daughters_bare n ss j (d ∷ ds) = ap (λ (l : List Bare). bare (record { category = d; indices = map (index_of ss j) (numbers_from 0 (dimension g d)); node = child n j }) ∷ l) (daughters_bare n ss (suc j) ds)

  pub queue_bare : (r : Rule) (p : Prediction A) (q : List (Prediction A))
      → map bare (trim (sort (expand child g r p ++ q))) ≡ trim (sort (expand no_node g r (bare p) ++ map bare q))
  queue_bare r p q =
      trim_bare (sort (expand child g r p ++ q))
      ∙ ap trim (sort_bare (expand child g r p ++ q) ∙ ap sort (append_bare (expand child g r p) q ∙ ap (λ (l : List Bare). l ++ map bare q) (daughters_bare p.node (variable_indices p.indices r.components) 0 r.daughters)))

  word_bare : (w : ℕ) (q : List (Prediction A)) (ws : List ℕ) → bare_outcome (read_word w q ws) ≡ read_word w (map bare q) ws
  word_bare w q [] = refl
  word_bare w q (x ∷ ws) = go (word_fits w x)
    where
      go : (b : Bool) → bare_outcome (if b then leads (record { queue = q; words = ws }) else fails 16) ≡ (if b then leads (record { queue = map bare q; words = ws }) else fails 16)
      go true = refl
      go false = refl

  scan_bare : (w : ℕ) (q : List (Prediction A)) (ws : List ℕ) → bare_outcome (scan w q ws) ≡ scan w (map bare q) ws
  scan_bare w q ws = go (eqb w empty_word)
    where
      go : (b : Bool) → bare_outcome (if b then leads (record { queue = q; words = ws }) else read_word w q ws) ≡ (if b then leads (record { queue = map bare q; words = ws }) else read_word w (map bare q) ws)
      go true = refl
      go false = word_bare w q ws

  apply_bare : (o : Option Rule) (q : List (Prediction A)) (ws : List ℕ) → bare_outcome (apply child g o q ws) ≡ apply no_node g o (map bare q) ws
  apply_bare none q ws = refl
  apply_bare (some r) [] ws = refl
  apply_bare (some r) (p ∷ q) ws = go (eqb r.category p.category) (is_lexical r)
    where
      go : (b l : Bool) → bare_outcome (if b then (if l then scan r.word q ws else predict child g r p q ws) else fails 15)
          ≡ (if b then (if l then scan r.word (map bare q) ws else predict no_node g r (bare p) (map bare q) ws) else fails 15)
      go false l = refl
      go true true = scan_bare r.word q ws
      go true false = ap (λ (l : List Bare). leads (record { queue = l; words = ws })) (queue_bare r p q)

  pub step_bare : (s : State A) (r : ℕ) → bare_outcome (step child g s r) ≡ step no_node g (bare_state s) r
  step_bare s r = apply_bare (rule_at g r) s.queue s.words
