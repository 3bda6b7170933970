-- One step of the recognizer in code, against the step of predictions that hold ranks (ranking/specs/Ranks).
-- Assumes nothing.
use Rattle.std.specs.Prelude.{◌≡◌, Bool, true, false, List, ℕ, ◌+◌, ◌-◌, ◌*◌, ◌<◌, ◌≤◌, eqb, ltb, length, get_or, take, drop, Result, Ok, Err, if◌then◌else◌}
use Rattle.std.proofs.Math.Option.{some}
use Rattle.model.specs.Grammar.{Rule, Grammar, empty_word, rule_at}
use Rattle.model.specs.Step.{word_fits}
use Rattle.model.specs.WellFormed.{WellFormed}
use Rattle.ranking.specs.Recognizer.{stops, goes}
use Rattle.ranking.specs.Ranks.{RankedState, step_ranked}
use Rattle.ranking.specs.Numbered.{made_at, number_at}
use Rattle.ranking.proofs.Limits.{Reached}
use Rattle.ranking.proofs.Numbered.{Below}
use Rattle.ranks.specs.Prediction.{unpacked}
use Rattle.ranks.specs.Held.{queue_in, Held}
use Rattle.ranks.specs.Table.{Compiled, daughters_in, word_in}
use Rattle.steps.specs.declared.Standing.{Standing}
use Rattle.steps.specs.declared.Halt.{Halt}
use Rattle.steps.specs.declared.Halt.TheVariants.{Refused, Long}

-- the state where the recognizer stands: its queue, and the words not yet read
abbrev pub state_in : Grammar → List ℕ → List ℕ → Standing → RankedState ℕ
state_in g sentence w at = record { queue = queue_in g w at.from at.to; words = drop at.read sentence }

-- The recognizer stands there: the table is the grammar's; steps reach the state; predictions have numbers that steps before gave; each step added at most
-- 2 to the queue, which is no longer than the steps left, so that it has at most 64 predictions, and read at most one word; and the queues so far, 64 cells for
-- each, have room for it.
pub record Ready (g : Grammar) (t sentence w : List ℕ) (at : Standing) : Type 0 where
  pub well : WellFormed g
  pub compiled : Compiled g t
  pub held : Held g w at.from at.to
  pub known : at.read ≤ length sentence
  pub heard : at.read ≤ at.steps
  pub reached : Reached g (state_in g sentence w at)
  pub numbered : Below (made_at at.steps) (queue_in g w at.from at.to)
  pub grown : at.to ≤ at.from + 1 + 2 * at.steps
  pub fits : at.to ≤ at.from + at.left
  pub few : at.steps + at.left ≤ 96
  pub room : at.to ≤ 64 * (at.steps + 1)

-- the recognizer at the start, with n steps
abbrev pub begin : ℕ → Standing
begin n = record { from = 0; to = 1; read = 0; steps = 0; left = n }

-- rule r is one of the category of the front prediction
pub record Fronted (g : Grammar) (w : List ℕ) (at : Standing) (r : ℕ) : Type 0 where
  pub predicted : at.from < at.to
  pub rule : Rule
  pub rule_is : rule_at g r ≡ some rule
  pub of_front : rule.category ≡ (unpacked (get_or w at.from 0)).category

-- whether the step of a lexical rule with this word leads on: it is the empty word, which takes no place, or it fits the next place
abbrev pub hears : ℕ → List ℕ → ℕ → Bool
hears word sentence read = if eqb word empty_word then true else if ltb read (length sentence) then word_fits word (get_or sentence read 0) else false

-- how many words a word takes, and the step of rule r
abbrev pub taken : ℕ → ℕ
taken word = if eqb word empty_word then 0 else 1

abbrev pub read_by : List ℕ → ℕ → ℕ
read_by t r = if eqb (daughters_in t (8 * r)) 0 then taken (word_in t (8 * r)) else 0

-- where the step of rule r leads, and where the recognizer stood before it
abbrev pub ahead : List ℕ → Standing → ℕ → Standing
ahead t at r =
    record { from = at.to; to = at.to + (at.to - at.from - 1 + daughters_in t (8 * r)); read = at.read + read_by t r; steps = at.steps + 1; left = at.left - 1 }

abbrev pub behind : List ℕ → Standing → ℕ → Standing
behind t at r =
    record {
      from = at.from - (at.to - at.from + 1 - daughters_in t (8 * r));
      to = at.from;
      read = at.read - read_by t r;
      steps = at.steps - 1;
      left = at.left + 1;
    }

-- whether the step of rule r, which is of the front's category, leads on: a lexical one by its word; another where the queue that it leads to is no longer
-- than the steps then left
abbrev pub opens : List ℕ → List ℕ → Standing → ℕ → Bool
opens t sentence at r =
    if eqb (daughters_in t (8 * r)) 0 then hears (word_in t (8 * r)) sentence at.read
    else if ltb at.left (at.to - at.from + daughters_in t (8 * r)) then false
    else true

-- a step can be made from `at`, and its numbers are small
pub record Advances (at : Standing) : Type 0 where
  pub predicted : at.from < at.to
  pub left : 1 ≤ at.left
  pub small : (at.to ≤ 6272) × (at.steps ≤ 96)
  pub few_read : at.read ≤ 96

-- the step leads there, and the recognizer stands there
pub record LeadsTo (g : Grammar) (t sentence w w' : List ℕ) (at : Standing) (r : ℕ) (next : Standing) : Type 0 where
  pub place : next ≡ ahead t at r
  pub leads_to : step_ranked (number_at at.steps) g (state_in g sentence w at) r ≡ goes (state_in g sentence w' next)
  pub ready : Ready g t sentence w' next

-- what an answer says of the step of rule r: the test that it halts by; that its queue is longer than the steps then left; or where it leads
abbrev pub Says : Grammar → List ℕ → List ℕ → List ℕ → List ℕ → Standing → ℕ → Result Standing Halt → Type 0
Says g t sentence w w' at r (Err (Refused n)) = step_ranked (number_at at.steps) g (state_in g sentence w at) r ≡ stops n
Says g t sentence w w' at r (Err Long) = (s : RankedState ℕ) × (step_ranked (number_at at.steps) g (state_in g sentence w at) r ≡ goes s) × (at.left ≤ length s.queue)
Says g t sentence w w' at r (Ok next) = LeadsTo g t sentence w w' at r next

-- the answer is right, and the queues up to this one are as they were
pub record StepSays (g : Grammar) (t sentence w w' : List ℕ) (at : Standing) (r : ℕ) (answer : Result Standing Halt) : Type 0 where
  pub kept : length w' ≡ length w
  pub below : take at.to w' ≡ take at.to w
  pub says : Says g t sentence w w' at r answer

-- the table is that of some grammar for which the recognizer stands there, and rule r is one of the front's category
pub record Applies (t sentence w : List ℕ) (at : Standing) (r : ℕ) : Type 0 where
  pub grammar : Grammar
  pub ready : Ready grammar t sentence w at
  pub fronted : Fronted grammar w at r

-- what is so for every such grammar
pub record Applied (t sentence w w' : List ℕ) (at : Standing) (r : ℕ) (answer : Result Standing Halt) : Type 0 where
  pub of_grammar : (g : Grammar) → Ready g t sentence w at → Fronted g w at r → StepSays g t sentence w w' at r answer

-- the table is that of some grammar for which the recognizer stands there before some sentence, and rule r is one of the front's category that leads on
pub record Opening (t w : List ℕ) (at : Standing) (r : ℕ) : Type 0 where
  pub grammar : Grammar
  pub sentence : List ℕ
  pub ready : Ready grammar t sentence w at
  pub fronted : Fronted grammar w at r
  pub leads_on : opens t sentence at r ≡ true

-- its step leads to `next`, for every such grammar and sentence
pub record Makes (t w w' : List ℕ) (at : Standing) (r : ℕ) (next : Standing) : Type 0 where
  pub of_grammar : (g : Grammar) (sentence : List ℕ) → Ready g t sentence w at → Fronted g w at r → opens t sentence at r ≡ true → StepSays g t sentence w w' at r (Ok next)
