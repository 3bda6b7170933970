-- One step of the recognizer, with indices as digit strings (document 01, "One step"), on a sentence whose places hold ranges of words (document 02, paper 5).
-- Assumes nothing.
use Rattle.std.specs.Prelude.{ℕ, suc, ◌+◌, ◌*◌, ◌/◌, ◌%◌, Bool, true, false, ◌&&◌, ◌||◌, ltb, leb, eqb, if◌then◌else◌}
use mathlib.Core.List.{List, [], ◌∷◌, ◌++◌, map, tail}
use Rattle.std.proofs.Math.Option.{Option, none, some}
use Rattle.model.specs.Base.{each, every, numbers_from}
use Rattle.model.specs.Grammar.{Variable, Rule, Grammar, empty_word, dimension, rule_at, is_lexical}

-- "an index is a string of digits 0 to 11"
abbrev pub Index : Type 0
Index = List ℕ

-- "Indices compare digit by digit, a proper prefix first." Digits are numbers: 10 comes after 9.
abbrev pub before : Index → Index → Bool
before [] [] = false
before [] (y ∷ ys) = true
before (x ∷ xs) [] = false
before (x ∷ xs) (y ∷ ys) = ltb x y || (eqb x y && before xs ys)

-- the least of some indices
abbrev pub lesser : Index → Index → Index
lesser i j = if before j i then j else i

abbrev pub least : List Index → Index
least [] = []
least (i ∷ []) = i
least (i ∷ j ∷ js) = lesser i (least (j ∷ js))

-- "A prediction is a category with one index per component"; `node` is what the prediction stands for; no step looks at it.
pub record Prediction (A : Type 0) : Type 0 where
  pub category : ℕ
  pub indices : List Index
  pub node : A

-- where a recognizer stands: the predictions, in order, and the places of the sentence whose words are not yet read
pub record State (A : Type 0) : Type 0 where
  pub queue : List (Prediction A)
  pub words : List ℕ

-- what a step does: the number of the test that it fails, or the next state
pub data Outcome (A : Type 0) : Type 0 where
  fails : ℕ → Outcome A
  leads : State A → Outcome A

-- "a variable alone in its component takes that component's index; otherwise it takes that index followed by its position in the component": the
-- variables of one component whose index is i, each with its own index
abbrev pub numbered : Index → ℕ → List Variable → List (Variable × Index)
numbered i p [] = []
numbered i p (v ∷ vs) = (v, i ++ (p ∷ [])) ∷ numbered i (suc p) vs

abbrev pub indexed : Index → List Variable → List (Variable × Index)
indexed i [] = []
indexed i (v ∷ []) = (v, i) ∷ []
indexed i (v ∷ w ∷ vs) = numbered i 0 (v ∷ w ∷ vs)

-- the variables of all components, each with its index
abbrev pub variable_indices : List Index → List (List Variable) → List (Variable × Index)
variable_indices [] components = []
variable_indices (i ∷ is) [] = []
variable_indices (i ∷ is) (vs ∷ components) = indexed i vs ++ variable_indices is components

-- the index that component c of daughter j takes
abbrev pub index_of : List (Variable × Index) → ℕ → ℕ → Index
index_of [] j c = []
index_of (s ∷ ss) j c = if eqb s.0.daughter j && eqb s.0.component c then s.1 else index_of ss j c

-- "every index begins with the same digit": an empty index begins with none
abbrev pub begins : ℕ → Index → Bool
begins d [] = false
begins d (x ∷ xs) = eqb d x

abbrev pub all_begin : Index → List Index → Bool
all_begin [] is = false
all_begin (d ∷ ds) is = every (begins d) is

abbrev pub same_first : List Index → Bool
same_first [] = false
same_first (i ∷ is) = all_begin i is

module _ {A : Type 0} where
  abbrev pub least_of : Prediction A → Index
  least_of p = least p.indices

  -- "Predictions stand in order of their least index."
  abbrev pub insert : Prediction A → List (Prediction A) → List (Prediction A)
  insert p [] = p ∷ []
  insert p (q ∷ qs) = if before (least_of q) (least_of p) then q ∷ insert p qs else p ∷ q ∷ qs

  abbrev pub sort : List (Prediction A) → List (Prediction A)
  sort [] = []
  sort (p ∷ ps) = insert p (sort ps)

  abbrev pub shorten : Prediction A → Prediction A
  shorten p = record { category = p.category; indices = map tail p.indices; node = p.node }

  -- "if every index begins with the same digit, that digit is dropped, one only"
  abbrev pub trim : List (Prediction A) → List (Prediction A)
  trim q = if same_first (each (λ p. p.indices) q) then map shorten q else q

-- "A sentence place now holds a lowest and a highest word number, lent as one 32-bit number with the highest in the upper 16 bits"
abbrev pub lowest : ℕ → ℕ
lowest place = place % 65536

abbrev pub highest : ℕ → ℕ
highest place = place / 65536

-- the place with these ends; one that holds a single word; a sentence of single words
abbrev pub range : ℕ → ℕ → ℕ
range low high = low + 65536 * high

abbrev pub single : ℕ → ℕ
single word = range word word

abbrev pub singles : List ℕ → List ℕ
singles words = map single words

-- "a scan takes it when the rule's word lies between them, ends included"
abbrev pub word_fits : ℕ → ℕ → Bool
word_fits word place = leb (lowest place) word && leb word (highest place)

module _ {A : Type 0} where
  -- "the word must be the next one", which it is where it fits the next place: else refusal 16
  abbrev pub read_word : ℕ → List (Prediction A) → List ℕ → Outcome A
  read_word w q [] = fails 16
  read_word w q (x ∷ xs) = if word_fits w x then leads (record { queue = q; words = xs }) else fails 16

  -- "(the empty word takes none), and the front prediction goes"; "A scan drops no digit"
  abbrev pub scan : ℕ → List (Prediction A) → List ℕ → Outcome A
  scan w q ws = if eqb w empty_word then leads (record { queue = q; words = ws }) else read_word w q ws

-- `child n j` is what daughter j of n stands for
module _ {A : Type 0} (child : A → ℕ → A) (g : Grammar) where
  -- a prediction for each daughter, from daughter position j on
  abbrev pub daughters_from : A → List (Variable × Index) → ℕ → List ℕ → List (Prediction A)
  daughters_from n ss j [] = []
  daughters_from n ss j (d ∷ ds) =
      record { category = d; indices = map (index_of ss j) (numbers_from 0 (dimension g d)); node = child n j }
      ∷ daughters_from n ss (suc j) ds

  -- "each daughter becomes a prediction"
  abbrev pub expand : Rule → Prediction A → List (Prediction A)
  expand r p = daughters_from p.node (variable_indices p.indices r.components) 0 r.daughters

  -- a nonlexical step: "The queue is sorted again. Then, if every index begins with the same digit, that digit is dropped, one only."
  abbrev pub predict : Rule → Prediction A → List (Prediction A) → List ℕ → Outcome A
  predict r p q ws = leads (record { queue = trim (sort (expand r p ++ q)); words = ws })

  -- "13 no such rule; 14 queue empty; 15 other category than the front; 16 word is not next"
  abbrev pub apply : Option Rule → List (Prediction A) → List ℕ → Outcome A
  apply none q ws = fails 13
  apply (some r) [] ws = fails 14
  apply (some r) (p ∷ q) ws =
      if eqb r.category p.category then (if is_lexical r then scan r.word q ws else predict r p q ws) else fails 15

  -- "A step is a rule number applied to the front prediction."
  abbrev pub step : State A → ℕ → Outcome A
  step s r = apply (rule_at g r) s.queue s.words

  -- "The queue begins as the start category with the empty index."
  abbrev pub begin : A → List ℕ → State A
  begin root sentence = record { queue = record { category = g.start; indices = [] ∷ []; node = root } ∷ []; words = sentence }
