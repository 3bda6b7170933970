-- What the functions of the walk require, and what they say: the rule to go on with, the step to make, the step made, and the next live prefix.
-- Assumes nothing.
use Rattle.std.specs.Prelude.{◌≡◌, true, List, [], ◌∷◌, ℕ, length, take, Option, Some, None}
use Rattle.model.specs.Grammar.{Grammar}
use Rattle.model.specs.declared.RuleNumber.{RuleNumber}
use Rattle.steps.specs.declared.Standing.{Standing}
use Rattle.steps.specs.Steps.{Ready, Fronted, opens}
use Rattle.walk.specs.Chain.{no_rule, Chained}
use Rattle.walk.specs.Named.{Names, number_of}
use Rattle.walk.specs.Rest.{live_after}
use Rattle.walk.specs.Walking.{Trailed, Walking, steps_of, remaining, ToTry}

-- the recognizer of some grammar stands there, with some array, and r is a rule to try, or none
pub record MayFind (t chain sentence : List ℕ) (at : Standing) (r : Option RuleNumber) : Type 0 where
  pub grammar : Grammar
  pub array : List ℕ
  pub ready : Ready grammar t sentence array at
  pub chained : Chained grammar chain
  pub named : Names r (number_of r)
  pub to_try : ToTry grammar array at (number_of r)

-- the recognizer of some grammar stands there, where some path led
pub record StandsAt (t chain sentence w : List ℕ) (at : Standing) : Type 0 where
  pub grammar : Grammar
  pub path : List ℕ
  pub trailed : Trailed grammar t chain sentence w path at

-- what is to come from rule r on comes from rule x on, whose step leads on; or there is no such rule
pub record OpenFrom (g : Grammar) (t sentence w path : List ℕ) (at : Standing) (r x : ℕ) : Type 0 where
  pub to_try : ToTry g w at x
  pub leads_on : (x ≡ no_rule → ⊥) → opens t sentence at x ≡ true
  pub comes : remaining g sentence w path at r ≡ remaining g sentence w path at x

-- what is so for every grammar and every path that led there
pub record FirstOpen (t chain sentence w : List ℕ) (at : Standing) (answer : Option RuleNumber) : Type 0 where
  pub named : Names answer (number_of answer)
  pub of_grammar : (g : Grammar) (path : List ℕ) → Trailed g t chain sentence w path at → OpenFrom g t sentence w path at 0 (number_of answer)

-- the step to make is that of rule r from standing `from`, where the walk stands too; `coming` is what is to come
pub record StepFrom (g : Grammar) (t chain sentence w path turns : List ℕ) (at : Standing) (coming : List (List ℕ)) (from : Standing) (r : ℕ) : Type 0 where
  pub walking : Walking g t chain sentence w path turns from
  pub fronted : Fronted g w from r
  pub leads_on : opens t sentence from r ≡ true
  pub same_steps : steps_of from ≡ steps_of at
  pub comes : coming ≡ remaining g sentence w path from r

-- what an answer says: the step to make, or that nothing is to come
abbrev pub ChoiceSays : Grammar → List ℕ → List ℕ → List ℕ → List ℕ → List ℕ → List ℕ → Standing → List (List ℕ) → Option (Standing × RuleNumber) → Type 0
ChoiceSays g t chain sentence w path turns at coming (Some (from, r)) = StepFrom g t chain sentence w path turns at coming from r.0
ChoiceSays g t chain sentence w path turns at coming None = coming ≡ []

-- with these turns, the walk of some grammar stands there
pub record MayResume (turns : List ℕ) (at : Standing) : Type 0 where
  pub grammar : Grammar
  pub t : List ℕ
  pub chain : List ℕ
  pub sentence : List ℕ
  pub array : List ℕ
  pub path : List ℕ
  pub walking : Walking grammar t chain sentence array path turns at

-- the answer is right for every such walk, where no rule from `at` is left to try
pub record Resumed (turns : List ℕ) (at : Standing) (answer : Option (Standing × RuleNumber)) : Type 0 where
  pub of_grammar : (g : Grammar) (t chain sentence w path : List ℕ) → Walking g t chain sentence w path turns at
      → ChoiceSays g t chain sentence w path turns at (remaining g sentence w path at no_rule) answer

-- the walk of some grammar stands there, with some path
pub record MayChoose (t chain sentence w turns : List ℕ) (at : Standing) : Type 0 where
  pub grammar : Grammar
  pub path : List ℕ
  pub walking : Walking grammar t chain sentence w path turns at

-- the answer is right for every such walk, where all rules from `at` are to try
pub record Chosen (t chain sentence w turns : List ℕ) (at : Standing) (answer : Option (Standing × RuleNumber)) : Type 0 where
  pub of_grammar : (g : Grammar) (path : List ℕ) → Walking g t chain sentence w path turns at → ChoiceSays g t chain sentence w path turns at (remaining g sentence w path at 0) answer

-- the walk of some grammar stands there, and rule r is one of the front's category whose step leads on
pub record MayExtend (t chain sentence w path turns : List ℕ) (at : Standing) (r : ℕ) : Type 0 where
  pub grammar : Grammar
  pub walking : Walking grammar t chain sentence w path turns at
  pub fronted : Fronted grammar w at r
  pub leads_on : opens t sentence at r ≡ true

-- what was to come began with the list where the walk now stands
pub record ComesTo (g : Grammar) (t chain sentence w' path' turns' : List ℕ) (at next : Standing) (coming : List (List ℕ)) : Type 0 where
  pub walking : Walking g t chain sentence w' path' turns' next
  pub same_steps : steps_of next ≡ steps_of at
  pub comes : coming ≡ take next.steps path' ∷ remaining g sentence w' path' next 0

-- the arrays are as long as they were
pub record SameLengths (w path turns w' path' turns' : List ℕ) : Type 0 where
  pub kept : length w' ≡ length w
  pub path_kept : length path' ≡ length path
  pub turns_kept : length turns' ≡ length turns

-- the step is made, for every such grammar
pub record Extended (t chain sentence w path turns w' path' turns' : List ℕ) (at : Standing) (r : ℕ) (next : Standing) : Type 0 where
  pub of_grammar : (g : Grammar) → Walking g t chain sentence w path turns at → Fronted g w at r → opens t sentence at r ≡ true
      → SameLengths w path turns w' path' turns' × ComesTo g t chain sentence w' path' turns' at next (remaining g sentence w path at r)

-- the walk of some grammar stands there
pub record Walks (t chain sentence w path turns : List ℕ) (at : Standing) : Type 0 where
  pub grammar : Grammar
  pub walking : Walking grammar t chain sentence w path turns at

-- The next live prefix in dictionary order after the path's, under the same node limit, is on the path, and the walk stands there.
pub record NextLive (g : Grammar) (t chain sentence w' path' turns' : List ℕ) (list : List ℕ) (at next : Standing) : Type 0 where
  pub walking : Walking g t chain sentence w' path' turns' next
  pub same_steps : steps_of next ≡ steps_of at
  pub comes : live_after g sentence (steps_of at) list ≡ take next.steps path' ∷ live_after g sentence (steps_of at) (take next.steps path')

-- what an answer says: the next live prefix, or that there is none
abbrev pub NextSays : Grammar → List ℕ → List ℕ → List ℕ → List ℕ → List ℕ → List ℕ → List ℕ → Standing → Option Standing → Type 0
NextSays g t chain sentence w' path' turns' list at (Some next) = NextLive g t chain sentence w' path' turns' list at next
NextSays g t chain sentence w' path' turns' list at None = live_after g sentence (steps_of at) list ≡ []

pub record NextFor (g : Grammar) (t chain sentence w path turns w' path' turns' : List ℕ) (at : Standing) (answer : Option Standing) : Type 0 where
  pub lengths : SameLengths w path turns w' path' turns'
  pub says : NextSays g t chain sentence w' path' turns' (take at.steps path) at answer

-- what is so for every grammar whose walk stands there
pub record WalkedOn (t chain sentence w path turns w' path' turns' : List ℕ) (at : Standing) (answer : Option Standing) : Type 0 where
  pub of_grammar : (g : Grammar) → Walking g t chain sentence w path turns at → NextFor g t chain sentence w path turns w' path' turns' at answer
