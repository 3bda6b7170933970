-- The recognizer whose predictions hold ranks: "a prediction should hold for each component its rank among all components in the queue, from 0 without
-- gaps" (document 02, paper 7). No digit is kept, and after a step every rank is again from 0 without gaps.
-- Assumes nothing.
use Rattle.std.specs.Prelude.{ℕ, suc, ◌+◌, ◌-◌, ◌&&◌, List, [], ◌∷◌, ◌++◌, map, ltb, eqb, length, if◌then◌else◌}
use Rattle.std.proofs.Math.Option.{Option, none, some}
use Rattle.model.specs.declared.Refusal.{Refusal}
use Rattle.model.specs.Base.{numbers_from}
use Rattle.model.specs.Grammar.{Variable, Rule, Grammar, empty_word, dimension, rule_at, is_lexical}
use Rattle.model.specs.Step.{word_fits}
use Rattle.model.specs.Trace.{no_node}
use Rattle.model.specs.Tree.{tree_of_list}
use Rattle.model.specs.Conversions.{subtree, below}
use Rattle.ranking.specs.Recognizer.{Moved, stops, goes, Recognizer, refusal_by, live_by, effort_by, listing_by, count_by, entry_by, trace_by, tree_by}

-- a category with one rank per component; `node` is what the prediction stands for, and no step looks at it
pub record Ranked (A : Type 0) : Type 0 where
  pub category : ℕ
  pub ranks : List ℕ
  pub node : A

-- the predictions, in order, and the words not yet read
pub record RankedState (A : Type 0) : Type 0 where
  pub queue : List (Ranked A)
  pub words : List ℕ

-- n where rank r lies above rank k, else 0
abbrev pub above : ℕ → ℕ → ℕ → ℕ
above k n r = if ltb k r then n else 0

-- Of the front's components, whose ranks are ks, those below rank r: how many they are, and how many variables take their places. ns are the lengths of
-- the rule's components.
abbrev pub passed : ℕ → List ℕ → ℕ
passed r [] = 0
passed r (k ∷ ks) = above k 1 r + passed r ks

abbrev pub added : ℕ → List ℕ → List ℕ → ℕ
added r [] ns = 0
added r (k ∷ ks) [] = 0
added r (k ∷ ks) (n ∷ ns) = above k n r + added r ks ns

-- where rank r goes when each of those components gives way to its variables: each adds its length less 1
abbrev pub shifted : List ℕ → List ℕ → ℕ → ℕ
shifted ks ns r = r + added r ks ns - passed r ks

-- where rank r goes when the front goes: each of its components below takes 1 away
abbrev pub lowered : List ℕ → ℕ → ℕ
lowered ks r = r - passed r ks

-- the variables of each component, each with its rank: the base that the component's own rank goes to, plus the variable's position
abbrev pub from_base : ℕ → List Variable → List (Variable × ℕ)
from_base r [] = []
from_base r (v ∷ vs) = (v, r) ∷ from_base (suc r) vs

abbrev pub variable_ranks : List ℕ → List (List Variable) → List (Variable × ℕ)
variable_ranks [] components = []
variable_ranks (r ∷ rs) [] = []
variable_ranks (r ∷ rs) (vs ∷ components) = from_base r vs ++ variable_ranks rs components

-- the rank that component c of daughter j takes
abbrev pub rank_of : List (Variable × ℕ) → ℕ → ℕ → ℕ
rank_of [] j c = 0
rank_of (s ∷ ss) j c = if eqb s.0.daughter j && eqb s.0.component c then s.1 else rank_of ss j c

-- the least of some ranks
abbrev pub least_rank : List ℕ → ℕ
least_rank [] = 0
least_rank (r ∷ []) = r
least_rank (r ∷ s ∷ rs) = if ltb (least_rank (s ∷ rs)) r then least_rank (s ∷ rs) else r

-- the numbers of variables of a rule's components
abbrev pub lengths : Rule → List ℕ
lengths r = map length r.components

module _ {A : Type 0} where
  -- each rank r of a prediction becomes f r
  abbrev pub rerank : (ℕ → ℕ) → Ranked A → Ranked A
  rerank f p = record { category = p.category; ranks = map f p.ranks; node = p.node }

  -- predictions stand in order of their least rank
  abbrev pub insert_ranked : Ranked A → List (Ranked A) → List (Ranked A)
  insert_ranked p [] = p ∷ []
  insert_ranked p (q ∷ qs) = if ltb (least_rank q.ranks) (least_rank p.ranks) then q ∷ insert_ranked p qs else p ∷ q ∷ qs

  -- the new ones are put in, each by its least rank
  abbrev pub put_in : List (Ranked A) → List (Ranked A) → List (Ranked A)
  put_in [] q = q
  put_in (p ∷ ps) q = insert_ranked p (put_in ps q)

  -- "the word must be the next one": else refusal 16
  abbrev pub read_ranked : ℕ → List (Ranked A) → List ℕ → Moved (RankedState A)
  read_ranked w q [] = stops 16
  read_ranked w q (x ∷ xs) = if word_fits w x then goes (record { queue = q; words = xs }) else stops 16

  -- "(the empty word takes none), and the front prediction goes"
  abbrev pub scan_ranked : ℕ → List (Ranked A) → List ℕ → Moved (RankedState A)
  scan_ranked w q ws = if eqb w empty_word then goes (record { queue = q; words = ws }) else read_ranked w q ws

  -- the queue behind a front that goes
  abbrev pub without_front : Ranked A → List (Ranked A) → List (Ranked A)
  without_front p q = map (rerank (lowered p.ranks)) q

-- `child n j` is what daughter j of n stands for
module _ {A : Type 0} (child : A → ℕ → A) (g : Grammar) where
  abbrev pub daughters_ranked : A → List (Variable × ℕ) → ℕ → List ℕ → List (Ranked A)
  daughters_ranked n ss j [] = []
  daughters_ranked n ss j (d ∷ ds) =
      record { category = d; ranks = map (rank_of ss j) (numbers_from 0 (dimension g d)); node = child n j }
      ∷ daughters_ranked n ss (suc j) ds

  -- "each daughter becomes a prediction": the daughters of a front whose ranks have gone where they go
  abbrev pub expand_ranked : Rule → Ranked A → List (Ranked A)
  expand_ranked r p = daughters_ranked p.node (variable_ranks p.ranks r.components) 0 r.daughters

  -- the queue after a nonlexical step: every rank is shifted, and the daughters are put in
  abbrev pub predict_ranked : Rule → Ranked A → List (Ranked A) → List (Ranked A)
  predict_ranked r p q =
      let shift = rerank (shifted p.ranks (lengths r)) in
      put_in (expand_ranked r (shift p)) (map shift q)

  -- "13 no such rule; 14 queue empty; 15 other category than the front; 16 word is not next"
  abbrev pub apply_ranked : Option Rule → List (Ranked A) → List ℕ → Moved (RankedState A)
  apply_ranked none q ws = stops 13
  apply_ranked (some r) [] ws = stops 14
  apply_ranked (some r) (p ∷ q) ws =
      if eqb r.category p.category
      then (if is_lexical r then scan_ranked r.word (without_front p q) ws else goes (record { queue = predict_ranked r p q; words = ws }))
      else stops 15

  -- "A step is a rule number applied to the front prediction."
  abbrev pub step_ranked : RankedState A → ℕ → Moved (RankedState A)
  step_ranked s r = apply_ranked (rule_at g r) s.queue s.words

  -- the queue begins as the start category, whose component is the only one
  abbrev pub begin_ranked : A → List ℕ → RankedState A
  begin_ranked root sentence = record { queue = record { category = g.start; ranks = 0 ∷ []; node = root } ∷ []; words = sentence }

module _ {A : Type 0} where
  abbrev pub first_ranked : List (Ranked A) → Option A
  first_ranked [] = none
  first_ranked (p ∷ q) = some p.node

  abbrev pub rank_recognizer : (A → ℕ → A) → Grammar → Recognizer (RankedState A) A
  rank_recognizer child g = record { move = step_ranked child g; pending = λ s. length s.queue; unread = λ s. s.words; front = λ s. first_ranked s.queue }

-- the calls by ranks
module _ (g : Grammar) (sentence : List ℕ) where
  abbrev pub start_ranked : RankedState (Unit {0})
  start_ranked = begin_ranked no_node g tt sentence

  abbrev pub trace_refusal_ranked : List ℕ → Option Refusal
  trace_refusal_ranked trace = refusal_by (rank_recognizer no_node g) (length sentence) start_ranked trace

  abbrev pub live_ranked : ℕ → List (List ℕ)
  live_ranked n = live_by (rank_recognizer no_node g) (length g.rules) start_ranked n

  abbrev pub effort_ranked : ℕ → ℕ
  effort_ranked n = effort_by (rank_recognizer no_node g) (length g.rules) start_ranked n

  abbrev pub listing_ranked : ℕ → List (List ℕ)
  listing_ranked n = listing_by (rank_recognizer no_node g) (length g.rules) start_ranked n

  abbrev pub count_ranked : ℕ → ℕ
  count_ranked n = count_by (rank_recognizer no_node g) (length g.rules) start_ranked n

  abbrev pub entry_ranked : ℕ → ℕ → List ℕ
  entry_ranked n m = entry_by (rank_recognizer no_node g) (length g.rules) start_ranked n m

  abbrev pub trace_of_ranked : List ℕ → List ℕ
  trace_of_ranked tree = trace_by (rank_recognizer subtree g) (length tree) (begin_ranked subtree g (tree_of_list g tree) sentence)

  abbrev pub tree_of_ranked : List ℕ → List ℕ
  tree_of_ranked trace = tree_by (rank_recognizer below g) (begin_ranked below g [] sentence) trace
