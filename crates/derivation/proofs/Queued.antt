-- One step of the recognizer by ranks, on the numbers of the predictions: the one that it takes, those that it makes, and those that wait.
-- Assumes nothing.
use Rattle.std.specs.Prelude.{if◌then◌else◌}
use mathlib.Core.Path.{◌≡◌, refl, sym, ap, ap₂, ◌∙◌}
use mathlib.Core.Bool.{Bool, true, false}
use mathlib.Core.Option.{Option, none, some}
use mathlib.Core.List.{List, [], ◌∷◌, ◌++◌, map}
use Prim.Native.Nat.{ℕ, zero, suc, ◌+◌, ◌<◌}
use native.Mathlib.Omega.{arith}
use lib.Dec.{eqb, ltb}
use lib.ListN.{length}
use Rattle.model.specs.Base.{numbers_from}
use Rattle.model.specs.Grammar.{Variable, Rule, Grammar, empty_word, rule_at, is_lexical}
use Rattle.model.specs.Step.{word_fits}
use Rattle.model.specs.WellFormed.{Perm, same, more, swap, chain}
use Rattle.model.proofs.Apart.{Every}
use Rattle.model.proofs.Lists.{map_append}
use Rattle.model.proofs.Perm.{perm_map}
use Rattle.ranking.specs.Recognizer.{Moved, stops, goes}
use Rattle.ranking.specs.Ranks.{Ranked, RankedState, shifted, lowered, lengths, variable_ranks, least_rank, rerank, insert_ranked, put_in, read_ranked, scan_ranked, without_front, daughters_ranked, expand_ranked, predict_ranked, apply_ranked, step_ranked}
use Rattle.ranking.specs.Numbered.{made_at, number_at}
use Rattle.ranking.proofs.Limits.{goes_one, never_goes}

-- the numbers of a queue
abbrev pub numbers_of : List (Ranked ℕ) → List ℕ
numbers_of q = map (λ p. p.node) q

-- what holds of d numbers from a on
pub every_numbers : (P : ℕ → Type 0) (a d : ℕ) → ((j : ℕ) → j < d → P (a + j)) → Every P (numbers_from a d)
every_numbers P a zero h = tt
every_numbers P a (suc d) h = (subst_sum P a 0 a (omega arith) (h 0 (omega arith)), every_numbers P (suc a) d (λ j l. subst_sum P a (suc j) (suc a + j) (omega arith) (h (suc j) (omega arith))))
  where
    subst_sum : (P : ℕ → Type 0) (a j b : ℕ) → a + j ≡ b → P (a + j) → P b
    subst_sum P a j b e h = rw e at h

insert_perm : (p : Ranked ℕ) (q : List (Ranked ℕ)) → Perm (p ∷ q) (insert_ranked p q)
insert_perm p [] = same refl
insert_perm p (y ∷ q) = go (ltb (least_rank y.ranks) (least_rank p.ranks)) (insert_perm p q)
  where
    go : (b : Bool) → Perm (p ∷ q) (insert_ranked p q) → Perm (p ∷ y ∷ q) (if b then y ∷ insert_ranked p q else p ∷ y ∷ q)
    go true h = chain (swap p y) (more y h)
    go false h = same refl

put_perm : (xs q : List (Ranked ℕ)) → Perm (xs ++ q) (put_in xs q)
put_perm [] q = same refl
put_perm (x ∷ xs) q = chain (more x (put_perm xs q)) (insert_perm x (put_in xs q))

-- other ranks, the same numbers
rerank_numbers : (f : ℕ → ℕ) (q : List (Ranked ℕ)) → numbers_of (map (rerank f) q) ≡ numbers_of q
rerank_numbers f [] = refl
rerank_numbers f (p ∷ q) = ap (λ (l : List ℕ). p.node ∷ l) (rerank_numbers f q)

scan_queue : (w : ℕ) (q : List (Ranked ℕ)) (ws : List ℕ) (next : RankedState ℕ) → scan_ranked w q ws ≡ goes next → q ≡ next.queue
scan_queue w q ws next e = go (eqb w empty_word) e
  where
    read : (b : Bool) (xs : List ℕ) → ◌≡◌ {A = Moved (RankedState ℕ)} (if b then goes (record { queue = q; words = xs }) else stops 16) (goes next) → q ≡ next.queue
    read true xs f = ap (λ (s : RankedState ℕ). s.queue) (goes_one f)
    read false xs f = never_goes f

    word : (us : List ℕ) → read_ranked w q us ≡ goes next → q ≡ next.queue
    word [] f = never_goes f
    word (x ∷ xs) f = read (word_fits w x) xs f

    go : (b : Bool) → (if b then goes (record { queue = q; words = ws }) else read_ranked w q ws) ≡ goes next → q ≡ next.queue
    go true f = ap (λ (s : RankedState ℕ). s.queue) (goes_one f)
    go false f = word ws f

pub lexical_arity : (rule : Rule) → is_lexical rule ≡ true → length rule.daughters ≡ 0
lexical_arity rule e = go rule.daughters e
  where
    go : (ds : List ℕ) → ◌≡◌ {A = Bool} (elim ds [ [] ↦ true | d ∷ es ↦ false ]) true → length ds ≡ 0
    go [] f = refl
    go (d ∷ ds) f = let z : ◌≡◌ {A = ℕ} 0 1 = cc in absurd (omega arith)

-- step k
module _ (g : Grammar) (k : ℕ) where
  daughters_numbers : (n : ℕ) (ss : List (Variable × ℕ)) (j : ℕ) (ds : List ℕ) → numbers_of (daughters_ranked (number_at k) g n ss j ds) ≡ numbers_from (made_at k + j) (length ds)
  daughters_numbers n ss j [] = refl
  daughters_numbers n ss j (d ∷ ds) =
      let e : made_at k + suc j ≡ suc (made_at k + j) = omega arith in
      ap (λ (l : List ℕ). (made_at k + j) ∷ l) (daughters_numbers n ss (suc j) ds ∙ ap (λ (a : ℕ). numbers_from a (length ds)) e)

  -- it takes the front, and puts as many numbers into the queue as the rule has daughters
  pub record Queued (q : List (Ranked ℕ)) (o : Option Rule) (next : RankedState ℕ) : Type 0 where
    pub rule : Rule
    pub known : o ≡ some rule
    pub front : Ranked ℕ
    pub rest : List (Ranked ℕ)
    pub queue_is : q ≡ front ∷ rest
    pub numbers : Perm (numbers_from (made_at k) (length rule.daughters) ++ numbers_of rest) (numbers_of next.queue)

  queued : (o : Option Rule) (q : List (Ranked ℕ)) (ws : List ℕ) (next : RankedState ℕ) → apply_ranked (number_at k) g o q ws ≡ goes next → Queued q o next
  queued none q ws next e = never_goes e
  queued (some rule) [] ws next e = never_goes e
  queued (some rule) (p ∷ q) ws next e = go (eqb rule.category p.category) (is_lexical rule) refl e
    where
      made_of : Perm (numbers_from (made_at k) (length rule.daughters) ++ numbers_of q) (numbers_of next.queue) → Queued (p ∷ q) (some rule) next
      made_of h = record { rule = rule; known = refl; front = p; rest = q; queue_is = refl; numbers = h }

      shift : ℕ → ℕ
      shift = shifted p.ranks (lengths rule)

      made : numbers_of (expand_ranked (number_at k) g rule (rerank shift p)) ≡ numbers_from (made_at k) (length rule.daughters)
      made =
          let e : made_at k + 0 ≡ made_at k = omega arith in
          daughters_numbers p.node (variable_ranks (map shift p.ranks) rule.components) 0 rule.daughters ∙ ap (λ (a : ℕ). numbers_from a (length rule.daughters)) e

      go : (b l : Bool) → is_lexical rule ≡ l → (if b then (if l then scan_ranked rule.word (without_front p q) ws else goes (record { queue = predict_ranked (number_at k) g rule p q; words = ws })) else stops 15) ≡ goes next
          → Queued (p ∷ q) (some rule) next
      go false l f h = never_goes h
      go true true f h =
          made_of
          (same (ap (λ (d : ℕ). numbers_from (made_at k) d ++ numbers_of q) (lexical_arity rule f) ∙ sym (rerank_numbers (lowered p.ranks) q)
          ∙ ap numbers_of (scan_queue rule.word (without_front p q) ws next h)))
      go true false f h =
          let xs = expand_ranked (number_at k) g rule (rerank shift p) in
          let ys = map (rerank shift) q in
          made_of
          (chain (same (sym (map_append (λ (x : Ranked ℕ). x.node) xs ys ∙ ap₂ (λ (a b : List ℕ). a ++ b) made (rerank_numbers shift q))))
          (chain (perm_map (λ (x : Ranked ℕ). x.node) (put_perm xs ys)) (same (ap (λ (s : RankedState ℕ). numbers_of s.queue) (goes_one h)))))

  pub step_queued : (s next : RankedState ℕ) (r : ℕ) → step_ranked (number_at k) g s r ≡ goes next → Queued s.queue (rule_at g r) next
  step_queued s next r e = queued (rule_at g r) s.queue s.words next e
