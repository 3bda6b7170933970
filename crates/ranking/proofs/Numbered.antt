-- With numbers for what predictions stand for the conversions give the same.
-- Assumes nothing.
use Rattle.std.specs.Prelude.{if◌then◌else◌}
use mathlib.Core.Path.{◌≡◌, refl, sym, ap, ap₂, subst, ◌∙◌}
use mathlib.Core.Bool.{Bool, true, false}
use mathlib.Core.Option.{Option, none, some}
use mathlib.Core.List.{List, [], ◌∷◌, map}
use Prim.Native.Nat.{ℕ, zero, suc, ◌+◌, ◌-◌, ◌<◌, ◌≤◌}
use native.Mathlib.Omega.{arith}
use lib.Dec.{eqb, ltb}
use lib.ListN.{length}
use borrow.Author.Tests.{lt-ltb, le-ltb}
use Rattle.model.specs.Grammar.{Variable, Rule, Grammar, empty_word, rule_at, is_lexical}
use Rattle.model.specs.Step.{word_fits}
use Rattle.model.specs.WellFormed.{WellFormed}
use Rattle.model.specs.Trace.{no_node}
use Rattle.model.specs.GrammarFile.{grammar_refusal, grammar_of}
use Rattle.model.specs.Tree.{Tree, tree_of_list}
use Rattle.model.specs.Conversions.{label, subtree, trace_of}
use Rattle.model.proofs.WellFormed.{accepted_well}
use Rattle.model.proofs.Apart.{Every, every_to}
use Rattle.ranking.specs.Recognizer.{Moved, stops, goes, trace_by}
use Rattle.ranking.specs.Ranks.{Ranked, RankedState, shifted, lowered, lengths, variable_ranks, least_rank, rerank, insert_ranked, put_in, read_ranked, scan_ranked, without_front, daughters_ranked, expand_ranked, predict_ranked, apply_ranked, step_ranked, rank_recognizer, trace_of_ranked}
use Rattle.ranking.specs.Numbered.{made_at, number_at, plain, plain_moved, extended, names_after, begin_numbered, trace_numbered, trace_of_numbered}
use Rattle.ranking.proofs.RanksAgree.{ranks_agree}
use Rattle.ranking.proofs.Marks.{remark, renamed, renamed_moved, step_remark}

-- old numbers keep their names, and new ones have new names
module _ {A : Type 0} where
  pub extended_old : (made : ℕ) (new names : ℕ → A) (n : ℕ) → n < made → extended made new names n ≡ names n
  extended_old made new names n h = rw (lt-ltb n made h)

  pub extended_new : (made : ℕ) (new names : ℕ → A) (j : ℕ) → extended made new names (made + j) ≡ new j
  extended_new made new names j = let z : made + j - made ≡ j = omega arith in rw (le-ltb (made + j) made (omega arith), z)

-- every number is below n
abbrev pub Below : ℕ → List (Ranked ℕ) → Type 0
Below n q = Every (λ p. p.node < n) q

-- the numbers after a step

abbrev After : ℕ → Moved (RankedState ℕ) → Type 0
After n (stops m) = Unit {0}
After n (goes t) = Below n t.queue

below_rerank : (n : ℕ) (f : ℕ → ℕ) (q : List (Ranked ℕ)) → Below n q → Below n (map (rerank f) q)
below_rerank n f [] h = tt
below_rerank n f (p ∷ q) h = (h.0, below_rerank n f q h.1)

below_insert : (n : ℕ) (p : Ranked ℕ) (q : List (Ranked ℕ)) → p.node < n → Below n q → Below n (insert_ranked p q)
below_insert n p [] h k = (h, tt)
below_insert n p (y ∷ q) h k = go (ltb (least_rank y.ranks) (least_rank p.ranks)) (below_insert n p q h k.1)
  where
    go : (b : Bool) → Below n (insert_ranked p q) → Below n (if b then y ∷ insert_ranked p q else p ∷ y ∷ q)
    go true ih = (k.0, ih)
    go false ih = (h, k)

below_put : (n : ℕ) (xs q : List (Ranked ℕ)) → Below n xs → Below n q → Below n (put_in xs q)
below_put n [] q h k = k
below_put n (x ∷ xs) q h k = below_insert n x (put_in xs q) h.0 (below_put n xs q h.1 k)

below_scan : (n w : ℕ) (q : List (Ranked ℕ)) (ws : List ℕ) → Below n q → After n (scan_ranked w q ws)
below_scan n w q ws h = go (eqb w empty_word)
  where
    read : (b : Bool) (xs : List ℕ) → After n (if b then goes (record { queue = q; words = xs }) else stops 16)
    read true xs = h
    read false xs = tt

    word : (us : List ℕ) → After n (read_ranked w q us)
    word [] = tt
    word (x ∷ xs) = read (word_fits w x) xs

    go : (b : Bool) → After n (if b then goes (record { queue = q; words = ws }) else read_ranked w q ws)
    go true = h
    go false = word ws

module _ (g : Grammar) (k : ℕ) where
  below_daughters : (m : ℕ) (ss : List (Variable × ℕ)) (j : ℕ) (ds : List ℕ) → j + length ds ≤ 4 → Below (made_at (suc k)) (daughters_ranked (number_at k) g m ss j ds)
  below_daughters m ss j [] h = tt
  below_daughters m ss j (d ∷ ds) h = (omega arith, below_daughters m ss (suc j) ds (omega arith))

  below_apply : (o : Option Rule) → ((r : Rule) → o ≡ some r → length r.daughters ≤ 3) → (q : List (Ranked ℕ)) (ws : List ℕ) → Below (made_at k) q → After (made_at (suc k)) (apply_ranked (number_at k) g o q ws)
  below_apply none few q ws h = tt
  below_apply (some r) few [] ws h = tt
  below_apply (some r) few (p ∷ q) ws h = go (eqb r.category p.category) (is_lexical r)
    where
      rest : Below (made_at (suc k)) q
      rest = every_to (λ p. p.node < made_at k) (λ p. p.node < made_at (suc k)) (λ p l. omega arith) q h.1

      go : (b l : Bool) → After (made_at (suc k)) (if b then (if l then scan_ranked r.word (without_front p q) ws else goes (record { queue = predict_ranked (number_at k) g r p q; words = ws })) else stops 15)
      go false l = tt
      go true true = below_scan (made_at (suc k)) r.word (without_front p q) ws (below_rerank (made_at (suc k)) (lowered p.ranks) q rest)
      go true false =
          below_put (made_at (suc k)) (expand_ranked (number_at k) g r (rerank (shifted p.ranks (lengths r)) p)) (map (rerank (shifted p.ranks (lengths r))) q)
          (below_daughters p.node (variable_ranks (map (shifted p.ranks (lengths r)) p.ranks) r.components) 0 r.daughters (omega (arith, few r refl)))
          (below_rerank (made_at (suc k)) (shifted p.ranks (lengths r)) q rest)

  pub below_step : WellFormed g → (t t' : RankedState ℕ) (r : ℕ) → Below (made_at k) t.queue → step_ranked (number_at k) g t r ≡ goes t' → Below (made_at (suc k)) t'.queue
  below_step well t t' r h e = subst (After (made_at (suc k))) e (below_apply (rule_at g r) (λ rule f. (well.ranges r rule f).daughters_few) t.queue t.words h)

-- one step, with names for the numbers

module _ {A : Type 0} (child : A → ℕ → A) (g : Grammar) (k : ℕ) (names : ℕ → A) where
  renamed_old : (new : ℕ → A) (q : List (Ranked ℕ)) → Below (made_at k) q → map (remark (extended (made_at k) new names)) q ≡ map (remark names) q
  renamed_old new [] h = refl
  renamed_old new (p ∷ q) h =
      ap₂ (λ (a : A) (l : List (Ranked A)). record { category = p.category; ranks = p.ranks; node = a } ∷ l) (extended_old (made_at k) new names p.node h.0) (renamed_old new q h.1)

  pub step_named : (p : Ranked ℕ) (q : List (Ranked ℕ)) (ws : List ℕ) (r : ℕ) → Below (made_at k) (p ∷ q)
      → renamed_moved (names_after child k names p.node) (step_ranked (number_at k) g (record { queue = p ∷ q; words = ws }) r) ≡ step_ranked child g (renamed names (record { queue = p ∷ q; words = ws })) r
  step_named p q ws r h =
      let new = child (names p.node) in
      let names' = extended (made_at k) new names in
      step_remark names' (number_at k) child g (record { queue = p ∷ q; words = ws }) r
      (λ p' q' rule e f j l.
      let z : p' ≡ p = cc in
      extended_new (made_at k) new names j
      ∙ ap (λ (a : A). child a j) (sym (ap (λ (y : Ranked ℕ). names' y.node) z ∙ extended_old (made_at k) new names p.node h.0)))
      ∙ ap (λ (l : List (Ranked A)). step_ranked child g (record { queue = l; words = ws }) r) (renamed_old new (p ∷ q) h)

-- a step looks at no number
pub step_plain : (g : Grammar) (k : ℕ) (t : RankedState ℕ) (r : ℕ) → plain_moved (step_ranked (number_at k) g t r) ≡ step_ranked no_node g (plain t) r
step_plain g k t r = same (step_ranked (number_at k) g t r) ∙ step_remark (λ (n : ℕ). tt) (number_at k) no_node g t r (λ p q rule e f j h. refl)
  where
    same : (o : Moved (RankedState ℕ)) → plain_moved o ≡ renamed_moved (λ (n : ℕ). tt) o
    same (stops n) = refl
    same (goes u) = refl

-- the conversions

module _ (g : Grammar) (well : WellFormed g) where
  trace_from : (n k : ℕ) (names : ℕ → Tree) (t : RankedState ℕ) → Below (made_at k) t.queue → trace_numbered g n k names t ≡ trace_by (rank_recognizer subtree g) n (renamed names t)
  trace_from zero k names t h = refl
  trace_from (suc n) k names t h = go t.queue h (λ names' t' h'. trace_from n (suc k) names' t' h')
    where
      one : (names' : ℕ → Tree) (u : Moved (RankedState ℕ)) (v : Moved (RankedState Tree)) → renamed_moved names' u ≡ v → After (made_at (suc k)) u
          → ((names' : ℕ → Tree) (t' : RankedState ℕ) → Below (made_at (suc k)) t'.queue → trace_numbered g n (suc k) names' t' ≡ trace_by (rank_recognizer subtree g) n (renamed names' t'))
          → ◌≡◌ {A = List ℕ} (elim u [ stops m ↦ [] | goes t' ↦ trace_numbered g n (suc k) names' t' ]) (elim v [ stops m ↦ [] | goes s ↦ trace_by (rank_recognizer subtree g) n s ])
      one names' u v e a ih = on u a ∙ ap (λ (w : Moved (RankedState Tree)). elim w as (λ w. List ℕ) [ stops m ↦ [] | goes s ↦ trace_by (rank_recognizer subtree g) n s ]) e
        where
          on : (u : Moved (RankedState ℕ)) → After (made_at (suc k)) u
              → ◌≡◌ {A = List ℕ} (elim u [ stops m ↦ [] | goes t' ↦ trace_numbered g n (suc k) names' t' ]) (elim (renamed_moved names' u) [ stops m ↦ [] | goes s ↦ trace_by (rank_recognizer subtree g) n s ])
          on (stops m) b = refl
          on (goes t') b = ih names' t' b

      go : (q : List (Ranked ℕ)) → Below (made_at k) q
          → ((names' : ℕ → Tree) (t' : RankedState ℕ) → Below (made_at (suc k)) t'.queue → trace_numbered g n (suc k) names' t' ≡ trace_by (rank_recognizer subtree g) n (renamed names' t'))
          → trace_numbered g (suc n) k names (record { queue = q; words = t.words }) ≡ trace_by (rank_recognizer subtree g) (suc n) (renamed names (record { queue = q; words = t.words }))
      go [] h ih = refl
      go (p ∷ q) h ih =
          let r = label (names p.node) in
          ap (λ (l : List ℕ). r ∷ l)
          (one (names_after subtree k names p.node) (step_ranked (number_at k) g (record { queue = p ∷ q; words = t.words }) r)
          (step_ranked subtree g (renamed names (record { queue = p ∷ q; words = t.words })) r) (step_named subtree g k names p q t.words r h)
          (below_apply g k (rule_at g r) (λ rule f. (well.ranges r rule f).daughters_few) (p ∷ q) t.words h) ih)

  pub trace_numbered_lem : (sentence tree : List ℕ) → trace_of_numbered g sentence tree ≡ trace_of_ranked g sentence tree
  trace_numbered_lem sentence tree = trace_from (length tree) 0 (λ n. tree_of_list g tree) (begin_numbered g sentence) (omega arith, tt)

-- of a file that the reader accepts
module _ (file : List ℕ) (accepted : grammar_refusal file ≡ none) (sentence : List ℕ) where
  pub trace_agrees : (tree : List ℕ) → trace_of_numbered (grammar_of file) sentence tree ≡ trace_of (grammar_of file) sentence tree
  trace_agrees tree = trace_numbered_lem (grammar_of file) (accepted_well file accepted) sentence tree ∙ (ranks_agree file accepted sentence).traces tree
