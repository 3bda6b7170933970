-- Demand 1: every call answers by the first of its tests that meets it, in document 01's order, and leaves or writes its output accordingly.
-- Assumes nothing.
use Rattle.std.specs.Prelude.{if◌then◌else◌}
use mathlib.Core.Path.{◌≡◌, refl, sym, ap, ap₂, subst, ◌∙◌}
use mathlib.Core.Logic.{◌⊎◌, inl, inr}
use mathlib.Core.Bool.{Bool, true, false, not, ◌&&◌}
use mathlib.Core.Option.{Option, none, some}
use mathlib.Core.List.Memᴰ
use mathlib.Core.List.{List, [], ◌∷◌, ◌++◌, map, Memᴰ}
use Prim.Native.Nat.{ℕ, zero, suc, ◌-◌, ◌*◌, ◌≤◌}
use native.Mathlib.Omega.{arith}
use lib.Dec.{ltb, leb, eqb}
use lib.ListN.{length}
use Rattle.model.specs.declared.Refusal.{Refusal}
use Rattle.model.specs.declared.Refusal.TheVariants.{Grammar as OfGrammar, Analysis as OfAnalysis, Desk as OfDesk}
use Rattle.model.specs.Base.{◌or_else◌, first_from, each, numbers_from}
use Rattle.model.specs.Verdict.{Author, grammar_author, analysis_author, desk, Answer, values, refusal, refusal_answer, verdict_answer, count_answer, refuse_if, verdict, count_verdict, Verdict}
use Rattle.model.specs.Grammar.{Rule, Grammar, empty_word, rule_at, is_lexical, daughters_by}
use Rattle.model.specs.GrammarFile.{grammar_of, categories_of, grammar_refusal, rule_refusal, blocks, rules_of, dimensions_of, words_of, record_of, wrong_category, wrong_word, wrong_variables, unused_set, repeated, wrong_length, wrong_check, wrong_block, wrong_heading, wrong_blocks, wrong_count, wrong_rest}
use Rattle.model.specs.Writer.{Heading, file_of, heading_block}
use Rattle.model.specs.Step.{Prediction, State, Outcome, fails, leads, word_fits, read_word, scan, predict, apply, step, begin}
use Rattle.model.specs.Trace.{no_node, end_no_word, lowest_above, places_refusal, sentence_refusal, steps_refusal, trace_refusal}
use Rattle.model.specs.Tree.{nodes_refusal, tree_refusal, spells, tree_of_list}
use Rattle.model.specs.Conversions.{tree_of, trace_of}
use Rattle.model.specs.Counting.{count, effort, entry, limits_refusal, effort_refusal}
use Rattle.model.specs.Calls.{written, room_refusal, write_refusal, check_trace_refusal, check_tree_refusal, trace_to_tree_refusal, tree_to_trace_refusal, count_refusal, entry_call_refusal, survey_refusal}
use Rattle.model.specs.Refusals.{Test, of_grammar, of_analysis, of_desk, rule_tests, file_tests, places_tests, sentence_tests, no_such_rule, other_category, other_word, step_tests, steps_tests, trace_tests, nodes_tests, tree_tests, room_tests, limit_tests, effort_tests, write_tests, check_trace_tests, check_tree_tests, trace_to_tree_tests, tree_to_trace_tests, count_tests, entry_tests, survey_tests}
use Rattle.model.specs.Demands.{NoneMeets, First, Decided, Wrote, Demand1}
use Rattle.model.proofs.Tests.{none_some}
use Rattle.model.proofs.Room.{file_fits, tree_fits, trace_fits, entry_fits, figures_fit}

-- the refusal of an author, with a number and a place
abbrev refusal_of : Author → ℕ → ℕ → Refusal
refusal_of grammar_author n p = OfGrammar n p
refusal_of analysis_author n p = OfAnalysis n p
refusal_of desk n p = OfDesk n p

abbrev given : Test → Refusal
given t = refusal_of t.author t.number t.place

-- what the first test gives that meets the call
abbrev pub first_met : List Test → Option Refusal
first_met [] = none
first_met (t ∷ ts) = refuse_if t.meets (given t) or_else first_met ts

met_none : (ts : List Test) → first_met ts ≡ none → NoneMeets ts
met_none [] e t m = elim m [ ]
met_none (x ∷ ts) e t m = go x.meets refl e (Memᴰ.cases_cons m) (λ k d. met_none ts k t d)
  where
    go : (b : Bool) → x.meets ≡ b → refuse_if b (given x) or_else first_met ts ≡ none → (t ≡ x) ⊎ Memᴰ t ts
        → (first_met ts ≡ none → Memᴰ t ts → t.meets ≡ false) → t.meets ≡ false
    go true f k c ih = none_some k
    go false f k (inl s) ih = ap (λ (y : Test). y.meets) s ∙ f
    go false f k (inr d) ih = ih k d

none_met : (ts : List Test) → NoneMeets ts → first_met ts ≡ none
none_met [] h = refl
none_met (x ∷ ts) h = rw (h x (Memᴰ.head refl)) (none_met ts (λ t m. h t (Memᴰ.tail m)))

first_met_lem : (earlier later : List Test) (t : Test) → NoneMeets earlier → t.meets ≡ true → first_met (earlier ++ t ∷ later) ≡ some (given t)
first_met_lem [] later t h e = rw e
first_met_lem (x ∷ xs) later t h e = rw (h x (Memᴰ.head refl)) (first_met_lem xs later t (λ y m. h y (Memᴰ.tail m)) e)

first_some : (ts : List Test) (a : Author) (n p : ℕ) → First ts a n p → first_met ts ≡ some (refusal_of a n p)
first_some ts a n p f =
    ap first_met f.in_order ∙ first_met_lem f.earlier f.later f.test f.passed f.met
    ∙ ap (λ (x : Author). some (refusal_of x f.test.number f.test.place)) f.author_is
    ∙ ap₂ (λ (x y : ℕ). some (refusal_of a x y)) f.number_is f.place_is

author_back : (a : Author) (n p : ℕ) → refusal_answer (refusal_of a n p) ≡ refusal a n p
author_back grammar_author n p = refl
author_back analysis_author n p = refl
author_back desk n p = refl

answer_author : {a b : Author} {n m p q : ℕ} → refusal a n p ≡ refusal b m q → a ≡ b
answer_author e = cc

answer_number : {a b : Author} {n m p q : ℕ} → refusal a n p ≡ refusal b m q → n ≡ m
answer_number e = cc

answer_place : {a b : Author} {n m p q : ℕ} → refusal a n p ≡ refusal b m q → p ≡ q
answer_place e = cc

some_first : (ts : List Test) (a : Author) (n p : ℕ) (r : Refusal) → refusal_answer r ≡ refusal a n p → first_met ts ≡ some r → First ts a n p
some_first [] a n p r e f = none_some (sym f)
some_first (x ∷ ts) a n p r e f = go x.meets refl f (λ k. some_first ts a n p r e k)
  where
    go : (b : Bool) → x.meets ≡ b → refuse_if b (given x) or_else first_met ts ≡ some r → (first_met ts ≡ some r → First ts a n p) → First (x ∷ ts) a n p
    go true h k ih =
        let g : given x ≡ r = cc in
        let w : refusal x.author x.number x.place ≡ refusal a n p = sym (author_back x.author x.number x.place) ∙ ap refusal_answer g ∙ e in
        record {
          earlier = [];
          test = x;
          later = ts;
          in_order = refl;
          passed = λ t m. elim m [ ];
          met = h;
          author_is = answer_author w;
          number_is = answer_number w;
          place_is = answer_place w;
        }
    go false h k ih =
        let i = ih k in
        record {
          earlier = x ∷ i.earlier;
          test = i.test;
          later = i.later;
          in_order = ap (λ (l : List Test). x ∷ l) i.in_order;
          passed = λ t m. passed t i.passed (Memᴰ.cases_cons m);
          met = i.met;
          author_is = i.author_is;
          number_is = i.number_is;
          place_is = i.place_is;
        }
      where
        passed : {earlier : List Test} (t : Test) → NoneMeets earlier → (t ≡ x) ⊎ Memᴰ t earlier → t.meets ≡ false
        passed t q (inl s) = ap (λ (y : Test). y.meets) s ∙ h
        passed t q (inr d) = q t d

-- an answer by tests that refuse or pass
abbrev pub answer_by : Option Refusal → List ℕ → Answer
answer_by none result = values result
answer_by (some r) result = refusal_answer r

by_refusal : (o : Option Refusal) (result : List ℕ) (a : Author) (n p : ℕ) → answer_by o result ≡ refusal a n p → (r : Refusal) → o ≡ some r → refusal_answer r ≡ refusal a n p
by_refusal o result a n p e r f = sym (ap (λ (x : Option Refusal). answer_by x result) f) ∙ e

pub decided : (ts : List Test) (result : List ℕ) (o : Option Refusal) → first_met ts ≡ o → Decided ts result (answer_by o result)
decided ts result none e =
    record {
      refused = λ a n p. (λ f. let z : ◌≡◌ {A = ℕ} 0 1 = cc in absurd (omega arith), λ f. none_some (sym (first_some ts a n p f) ∙ e));
      accepted = λ v. (λ f. (met_none ts e, cc), λ h. ap values (sym h.1));
    }
decided ts result (some r) e =
    record {
      refused = λ a n p. (λ f. some_first ts a n p r f e, λ f. same a n p (sym e ∙ first_some ts a n p f));
      accepted = λ v. (λ f. let z : ◌≡◌ {A = ℕ} 0 1 = cc in absurd (omega arith), λ h. none_some (sym e ∙ none_met ts h.0));
    }
  where
    same : (a : Author) (n p : ℕ) → some r ≡ some (refusal_of a n p) → refusal_answer r ≡ refusal a n p
    same a n p f = let g : r ≡ refusal_of a n p = cc in ap refusal_answer g ∙ author_back a n p

verdict_by : (o : Option Refusal) (n : ℕ) → answer_by o (n ∷ []) ≡ verdict_answer (verdict o n)
verdict_by none n = refl
verdict_by (some r) n = refl

count_by : (o : Option Refusal) (c e : ℕ) → answer_by o (c ∷ e ∷ []) ≡ count_answer (count_verdict o c e)
count_by none c e = refl
count_by (some r) c e = refl

pub by_tests : (ts : List Test) (o : Option Refusal) (n : ℕ) → first_met ts ≡ o → Decided ts (n ∷ []) (verdict_answer (verdict o n))
by_tests ts o n e = subst (Decided ts (n ∷ [])) (verdict_by o n) (decided ts (n ∷ []) o e)

pub wrote : (ts : List Test) (o : Option Refusal) (list out : List ℕ) → first_met ts ≡ o → (o ≡ none → length list ≤ length out) → Wrote ts list out (written o list out)
wrote ts none list out e room = record { as_it_was = λ a n p f. none_some (sym (first_some ts a n p f) ∙ e); written = λ h. refl; fits = λ h. room refl }
wrote ts (some r) list out e room =
    record { as_it_was = λ a n p f. refl; written = λ h. none_some (sym e ∙ none_met ts h); fits = λ h. none_some (sym e ∙ none_met ts h) }

-- the tests of a call, part by part: the first that meets it gives o
pub record Gives (ts : List Test) (o : Option Refusal) : Type 0 where
  pub first : first_met ts ≡ o

met_join : (xs ys : List Test) → first_met (xs ++ ys) ≡ first_met xs or_else first_met ys
met_join [] ys = refl
met_join (x ∷ xs) ys = go x.meets (met_join xs ys)
  where
    go : (b : Bool) → first_met (xs ++ ys) ≡ first_met xs or_else first_met ys
        → refuse_if b (given x) or_else first_met (xs ++ ys) ≡ (refuse_if b (given x) or_else first_met xs) or_else first_met ys
    go true ih = refl
    go false ih = ih

infixr 20 ◌then◌
pub ◌then◌ : {xs ys : List Test} {a b : Option Refusal} → Gives xs a → Gives ys b → Gives (xs ++ ys) (a or_else b)
◌then◌ {xs} {ys} e f = record { first = met_join xs ys ∙ ap₂ ◌or_else◌ e.first f.first }

alone : (b : Bool) (r : Refusal) → refuse_if b r or_else none ≡ refuse_if b r
alone true r = refl
alone false r = refl

pub grammar_one : (n p : ℕ) (b : Bool) → Gives (of_grammar n p b ∷ []) (refuse_if b (Refusal.Grammar n p))
grammar_one n p b = record { first = alone b (Refusal.Grammar n p) }

analysis_one : (n p : ℕ) (b : Bool) → Gives (of_analysis n p b ∷ []) (refuse_if b (Refusal.Analysis n p))
analysis_one n p b = record { first = alone b (Refusal.Analysis n p) }

pub desk_one : (n p : ℕ) (b : Bool) → Gives (of_desk n p b ∷ []) (refuse_if b (Refusal.Desk n p))
desk_one n p b = record { first = alone b (Refusal.Desk n p) }

from_map : (n : ℕ) (test : ℕ → Bool) (from count : ℕ)
    → first_met (map (λ k. of_grammar n k (test k)) (numbers_from from count)) ≡ first_from (λ k. refuse_if (test k) (Refusal.Grammar n k)) from count
from_map n test from zero = refl
from_map n test from (suc count) = ap (λ (o : Option Refusal). refuse_if (test from) (Refusal.Grammar n from) or_else o) (from_map n test (suc from) count)

pub grammar_each : (n : ℕ) (test : ℕ → Bool) (from count : ℕ)
    → Gives (map (λ k. of_grammar n k (test k)) (numbers_from from count)) (first_from (λ k. refuse_if (test k) (Refusal.Grammar n k)) from count)
grammar_each n test from count = record { first = from_map n test from count }

from_each : (f : ℕ → List Test) (r : ℕ → Option Refusal) → ((k : ℕ) → Gives (f k) (r k)) → (from n : ℕ) → Gives (each f (numbers_from from n)) (first_from r from n)
from_each f r h from zero = record { first = refl }
from_each f r h from (suc n) = h from then from_each f r h (suc from) n

-- the grammar file
rule_gives : (file : List ℕ) (i : ℕ) → Gives (rule_tests file i) (rule_refusal file i)
rule_gives file i =
    grammar_one 6 i (wrong_category (dimensions_of file) (record_of file i))
    then grammar_one 7 i (wrong_word (dimensions_of file) (record_of file i) (words_of file))
    then grammar_one 8 i (wrong_variables (dimensions_of file) (record_of file i))
    then grammar_one 9 i (unused_set (dimensions_of file) (record_of file i))
    then grammar_one 10 i (repeated (record_of file) i)

file_gives : (file : List ℕ) → Gives (file_tests file) (grammar_refusal file)
file_gives file =
    grammar_one 1 0 (wrong_length file)
    then grammar_each 2 (wrong_check file) 0 (blocks file)
    then grammar_each 3 (wrong_block file) 0 (blocks file)
    then grammar_one 4 0 (wrong_heading file)
    then grammar_one 5 0 (wrong_blocks file)
    then grammar_each 5 (wrong_count file) 1 (blocks file - 1)
    then from_each (rule_tests file) (rule_refusal file) (rule_gives file) 0 (rules_of file)
    then grammar_one 9 (rules_of file) (wrong_rest file)

-- the sentence
places_give : (words k : ℕ) (ps : List ℕ) → Gives (places_tests words k ps) (places_refusal words k ps)
places_give words k [] = record { first = refl }
places_give words k (p ∷ ps) =
    (analysis_one 11 k (end_no_word words p) then analysis_one 29 k (lowest_above p)) then places_give words (suc k) ps

sentence_gives : (g : Grammar) (sentence : List ℕ) → Gives (sentence_tests g sentence) (sentence_refusal g sentence)
sentence_gives g sentence =
    analysis_one 11 96 (ltb 96 (length sentence)) then places_give g.words 0 sentence

-- one step: the tests 13 to 16 say whether it applies, and with which number it fails
abbrev failed : ℕ → Outcome (Unit {0}) → Option Refusal
failed k (fails n) = some (Refusal.Analysis n k)
failed k (leads s) = none

module _ (g : Grammar) (sentence : List ℕ) where
  word_first : (k w : ℕ) (p : Prediction (Unit {0})) (q : List (Prediction (Unit {0}))) (e : Bool) (ws : List ℕ)
      → (refuse_if (not e && other_word w ws) (Refusal.Analysis 16 k) or_else none)
      ≡ failed k (if e then leads (record { queue = q; words = ws }) else read_word w q ws)
  word_first k w p q true ws = refl
  word_first k w p q false [] = refl
  word_first k w p q false (x ∷ xs) = go (word_fits w x)
    where
      go : (b : Bool) → (refuse_if (not b) (Refusal.Analysis 16 k) or_else none) ≡ failed k (if b then leads (record { queue = q; words = xs }) else fails 16)
      go true = refl
      go false = refl

  step_first : (k : ℕ) (o : Option Rule) (q : List (Prediction (Unit {0}))) (ws : List ℕ)
      → first_met (step_tests o (record { queue = q; words = ws }) k) ≡ failed k (apply no_node g o q ws)
  step_first k none q ws = refl
  step_first k (some r) [] ws = refl
  step_first k (some r) (p ∷ q) ws = go (eqb r.category p.category) (is_lexical r)
    where
      go : (b l : Bool)
          → (refuse_if (not b) (Refusal.Analysis 15 k) or_else refuse_if (l && not (eqb r.word empty_word) && other_word r.word ws) (Refusal.Analysis 16 k) or_else none)
          ≡ failed k (if b then (if l then scan r.word q ws else predict no_node g r p q ws) else fails 15)
      go false l = refl
      go true false = refl
      go true true = word_first k r.word p q (eqb r.word empty_word) ws

  steps_first : (p : List ℕ) (k : ℕ) (s : State (Unit {0})) → first_met (steps_tests g sentence k s p) ≡ steps_refusal g sentence k s p
  steps_first [] k s = (analysis_one 18 (length sentence - length s.words) (ltb 0 (length s.words))).first
  steps_first (r ∷ p) k s =
      met_join (step_tests (rule_at g r) s k) (afterwards (step no_node g s r))
      ∙ ap (λ (o : Option Refusal). o or_else first_met (afterwards (step no_node g s r))) (step_first k (rule_at g r) s.queue s.words)
      ∙ go (step no_node g s r) (λ s'. steps_first p (suc k) s')
    where
      afterwards : Outcome (Unit {0}) → List Test
      afterwards o =
          elim o [
            | fails n ↦ []
            | leads s' ↦ of_analysis 17 (suc k) (ltb (length p) (length s'.queue)) ∷ steps_tests g sentence (suc k) s' p
          ]

      go : (o : Outcome (Unit {0})) → ((s' : State (Unit {0})) → first_met (steps_tests g sentence (suc k) s' p) ≡ steps_refusal g sentence (suc k) s' p)
          → (failed k o or_else first_met (afterwards o))
          ≡ elim o [
            | fails n ↦ some (Refusal.Analysis n k)
            | leads s' ↦ if ltb (length p) (length s'.queue) then some (Refusal.Analysis 17 (suc k)) else steps_refusal g sentence (suc k) s' p
          ]
      go (fails n) ih = refl
      go (leads s') ih = test (ltb (length p) (length s'.queue))
        where
          test : (b : Bool)
              → (refuse_if b (Refusal.Analysis 17 (suc k)) or_else first_met (steps_tests g sentence (suc k) s' p))
              ≡ (if b then some (Refusal.Analysis 17 (suc k)) else steps_refusal g sentence (suc k) s' p)
          test true = refl
          test false = ih s'

  steps_give : (p : List ℕ) (k : ℕ) (s : State (Unit {0})) → Gives (steps_tests g sentence k s p) (steps_refusal g sentence k s p)
  steps_give p k s = record { first = steps_first p k s }

  trace_gives : (trace : List ℕ) → Gives (trace_tests g sentence trace) (trace_refusal g sentence trace)
  trace_gives trace =
      analysis_one 12 0 (ltb 96 (length trace)) then analysis_one 17 0 (eqb (length trace) 0)
      then steps_give trace 0 (begin no_node g tt sentence)

  -- the nodes of a tree
  nodes_first : (list wanted : List ℕ) (k : ℕ) → first_met (nodes_tests g k wanted list) ≡ nodes_refusal g k wanted list
  nodes_first [] [] k = refl
  nodes_first [] (c ∷ wanted) k = refl
  nodes_first (r ∷ rs) [] k = refl
  nodes_first (r ∷ rs) (c ∷ wanted) k = go (rule_at g r) (λ ds. nodes_first rs (ds ++ wanted) (suc k))
    where
      go : (o : Option Rule) → ((ds : List ℕ) → first_met (nodes_tests g (suc k) (ds ++ wanted) rs) ≡ nodes_refusal g (suc k) (ds ++ wanted) rs)
          → (refuse_if (no_such_rule o) (Refusal.Analysis 13 k)
          or_else refuse_if (other_category o c) (Refusal.Analysis 20 k)
          or_else first_met (nodes_tests g (suc k) (daughters_by o ++ wanted) rs))
          ≡ elim o [
            | none ↦ some (Refusal.Analysis 13 k)
            | some rule ↦
                if eqb rule.category c then nodes_refusal g (suc k) (rule.daughters ++ wanted) rs else some (Refusal.Analysis 20 k)
          ]
      go none ih = refl
      go (some rule) ih = test (eqb rule.category c)
        where
          test : (b : Bool)
              → (refuse_if (not b) (Refusal.Analysis 20 k) or_else first_met (nodes_tests g (suc k) (rule.daughters ++ wanted) rs))
              ≡ (if b then nodes_refusal g (suc k) (rule.daughters ++ wanted) rs else some (Refusal.Analysis 20 k))
          test true = ih rule.daughters
          test false = refl

  nodes_give : (list wanted : List ℕ) (k : ℕ) → Gives (nodes_tests g k wanted list) (nodes_refusal g k wanted list)
  nodes_give list wanted k = record { first = nodes_first list wanted k }

  tree_gives : (list : List ℕ) → Gives (tree_tests g sentence list) (tree_refusal g sentence list)
  tree_gives list =
      analysis_one 12 0 (ltb 96 (length list)) then nodes_give list (g.start ∷ []) 0
      then analysis_one 22 0 (not (spells g sentence (tree_of_list g list)))

room_gives : (out : List ℕ) → Gives (room_tests out) (room_refusal out)
room_gives out = desk_one 23 0 (ltb (length out) 96)

limits_give : (n limit : ℕ) → Gives (limit_tests n limit) (limits_refusal n limit)
limits_give n limit = desk_one 24 0 (not (leb 1 n && leb n 96 && leb 1 limit && leb limit 1000000000))

effort_gives : (g : Grammar) (sentence : List ℕ) (n limit : ℕ) → Gives (effort_tests g sentence n limit) (effort_refusal g sentence n limit)
effort_gives g sentence n limit = desk_one 25 0 (ltb limit (effort g sentence n))

-- the calls
last_inside : (a b c d e f : Option Refusal) → (a or_else b or_else c or_else d or_else e or_else f) ≡ ((a or_else b or_else c or_else d or_else e) or_else f)
last_inside none none none none none f = refl
last_inside none none none none (some x) f = refl
last_inside none none none (some x) e f = refl
last_inside none none (some x) d e f = refl
last_inside none (some x) c d e f = refl
last_inside (some x) b c d e f = refl

write_gives : (h : Heading) (records out : List ℕ) → first_met (write_tests h records out) ≡ write_refusal h records out
write_gives h records out =
    (grammar_one 4 0 (not (eqb (length h.dimensions) 64)) then grammar_one 4 0 (ltb 256 h.rules) then grammar_one 4 0 (wrong_heading (heading_block h))
    then grammar_one 5 0 (not (eqb (length records) (24 * h.rules))) then file_gives (file_of h records)
    then desk_one 23 0 (ltb (length out) (length (file_of h records)))).first
    ∙ last_inside (refuse_if (not (eqb (length h.dimensions) 64)) (Refusal.Grammar 4 0)) (refuse_if (ltb 256 h.rules) (Refusal.Grammar 4 0))
    (refuse_if (wrong_heading (heading_block h)) (Refusal.Grammar 4 0)) (refuse_if (not (eqb (length records) (24 * h.rules))) (Refusal.Grammar 5 0))
    (grammar_refusal (file_of h records)) (refuse_if (ltb (length out) (length (file_of h records))) (Refusal.Desk 23 0))

module _ (file sentence : List ℕ) where
  abbrev g : Grammar
  g = grammar_of file

  check_trace_gives : (trace : List ℕ) → Gives (check_trace_tests file sentence trace) (check_trace_refusal file sentence trace)
  check_trace_gives trace = file_gives file then sentence_gives g sentence then trace_gives g sentence trace

  check_tree_gives : (tree : List ℕ) → Gives (check_tree_tests file sentence tree) (check_tree_refusal file sentence tree)
  check_tree_gives tree = file_gives file then sentence_gives g sentence then tree_gives g sentence tree

  to_tree_gives : (trace out : List ℕ) → Gives (trace_to_tree_tests file sentence trace out) (trace_to_tree_refusal file sentence trace out)
  to_tree_gives trace out = file_gives file then room_gives out then sentence_gives g sentence then trace_gives g sentence trace

  to_trace_gives : (tree out : List ℕ) → Gives (tree_to_trace_tests file sentence tree out) (tree_to_trace_refusal file sentence tree out)
  to_trace_gives tree out = file_gives file then room_gives out then sentence_gives g sentence then tree_gives g sentence tree

  count_gives : (n limit : ℕ) → Gives (count_tests file sentence n limit) (count_refusal file sentence n limit)
  count_gives n limit = file_gives file then limits_give n limit then sentence_gives g sentence then effort_gives g sentence n limit

  entry_gives : (n limit m : ℕ) (out : List ℕ) → Gives (entry_tests file sentence n limit m out) (entry_call_refusal file sentence n limit m out)
  entry_gives n limit m out =
      file_gives file then room_gives out then limits_give n limit then sentence_gives g sentence then effort_gives g sentence n limit
      then desk_one 26 0 (leb (count g sentence n) m)

-- a call that is tested as one of the checkers, whatever its value
pub trace_decided : (file sentence trace : List ℕ) (n : ℕ)
    → Decided (check_trace_tests file sentence trace) (n ∷ []) (verdict_answer (verdict (check_trace_refusal file sentence trace) n))
trace_decided file sentence trace n =
    by_tests (check_trace_tests file sentence trace) (check_trace_refusal file sentence trace) n (check_trace_gives file sentence trace).first

pub tree_decided : (file sentence tree : List ℕ) (n : ℕ)
    → Decided (check_tree_tests file sentence tree) (n ∷ []) (verdict_answer (verdict (check_tree_refusal file sentence tree) n))
tree_decided file sentence tree n =
    by_tests (check_tree_tests file sentence tree) (check_tree_refusal file sentence tree) n (check_tree_gives file sentence tree).first

survey_gives : (file out : List ℕ) → Gives (survey_tests file out) (survey_refusal file out)
survey_gives file out = file_gives file then room_gives out

pub demand_1 : Demand1
demand_1 =
    record {
      reader = λ file. by_tests (file_tests file) (grammar_refusal file) (rules_of file) (file_gives file).first;
      writer = λ h records out. (
        by_tests (write_tests h records out) (write_refusal h records out) (length (file_of h records)) (write_gives h records out),
        wrote (write_tests h records out) (write_refusal h records out) (file_of h records) out (write_gives h records out) (file_fits h records out),
      );
      trace_checker = λ file sentence trace. trace_decided file sentence trace (length trace);
      tree_checker = λ file sentence tree. tree_decided file sentence tree (length tree);
      trace_to_tree = λ file sentence trace out.
          let e = (to_tree_gives file sentence trace out).first in (
            by_tests (trace_to_tree_tests file sentence trace out) (trace_to_tree_refusal file sentence trace out) (length trace) e,
            wrote (trace_to_tree_tests file sentence trace out) (trace_to_tree_refusal file sentence trace out) (tree_of (grammar_of file) sentence trace) out e (tree_fits file sentence trace out),
          );
      tree_to_trace = λ file sentence tree out.
          let e = (to_trace_gives file sentence tree out).first in (
            by_tests (tree_to_trace_tests file sentence tree out) (tree_to_trace_refusal file sentence tree out) (length tree) e,
            wrote (tree_to_trace_tests file sentence tree out) (tree_to_trace_refusal file sentence tree out) (trace_of (grammar_of file) sentence tree) out e (trace_fits file sentence tree out),
          );
      counted = λ file sentence n limit.
          let c = count (grammar_of file) sentence n in
          let w = effort (grammar_of file) sentence n in
          let ts = count_tests file sentence n limit in
          subst (Decided ts (c ∷ w ∷ [])) (count_by (count_refusal file sentence n limit) c w)
          (decided ts (c ∷ w ∷ []) (count_refusal file sentence n limit) (count_gives file sentence n limit).first);
      entered = λ file sentence n limit m out.
          let e = (entry_gives file sentence n limit m out).first in
          let x = entry (grammar_of file) sentence n m in (
            by_tests (entry_tests file sentence n limit m out) (entry_call_refusal file sentence n limit m out) (length x) e,
            wrote (entry_tests file sentence n limit m out) (entry_call_refusal file sentence n limit m out) x out e (entry_fits file sentence n limit m out),
          );
      surveyed = λ file out answer after o.
          let e = (survey_gives file out).first in (
            subst (λ (v : Verdict). Decided (survey_tests file out) (categories_of file ∷ []) (verdict_answer v)) (sym o.verdict_is)
                (by_tests (survey_tests file out) (survey_refusal file out) (categories_of file) e),
            subst (λ (x : List ℕ). Wrote (survey_tests file out) o.figures out x) (sym o.output_is) (wrote (survey_tests file out) (survey_refusal file out) o.figures out e (λ none_is. figures_fit file out o.figures none_is (o.figures_right none_is))),
            λ h. o.figures_right (sym e ∙ none_met (survey_tests file out) h),
          );
    }
