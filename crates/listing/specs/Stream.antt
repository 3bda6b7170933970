-- The listing as a stream: the first entry after a live prefix, so that a reader of the whole listing comes from each entry to the next (document 01,
-- "Counting and listing").
-- Assumes nothing.
use Rattle.std.specs.Prelude.{◌≡◌, List, [], ◌∷◌, ℕ, take, Option, Some, None}
use Rattle.model.specs.Base.{keep}
use Rattle.model.specs.Grammar.{Grammar}
use Rattle.model.specs.Step.{before}
use Rattle.model.specs.Counting.{listing}
use Rattle.steps.specs.declared.Standing.{Standing}
use Rattle.walk.specs.Walking.{Walking, steps_of}
use Rattle.walk.specs.Prefixes.{SameLengths}

-- the entries of the listing that come after a list
abbrev pub entries_after : Grammar → List ℕ → ℕ → List ℕ → List (List ℕ)
entries_after g sentence n list = keep (before list) (listing g sentence n)

-- the next entry after a list, under the same node limit, is on the path, and the walk stands there
pub record NextEntry (g : Grammar) (t chain sentence w' path' turns' list : List ℕ) (at next : Standing) : Type 0 where
  pub walking : Walking g t chain sentence w' path' turns' next
  pub same_steps : steps_of next ≡ steps_of at
  pub comes : entries_after g sentence (steps_of at) list ≡ take next.steps path' ∷ entries_after g sentence (steps_of at) (take next.steps path')

-- what an answer says of the entries after a list: the first of them, or that there is none
abbrev pub EntrySays : Grammar → List ℕ → List ℕ → List ℕ → List ℕ → List ℕ → List ℕ → List ℕ → Standing → Option Standing → Type 0
EntrySays g t chain sentence w' path' turns' list at (Some next) = NextEntry g t chain sentence w' path' turns' list at next
EntrySays g t chain sentence w' path' turns' list at None = entries_after g sentence (steps_of at) list ≡ []

-- the list is the one on the path where the walk stood, and the arrays are as long as they were
pub record EntryFor (g : Grammar) (t chain sentence w path turns w' path' turns' : List ℕ) (at : Standing) (answer : Option Standing) : Type 0 where
  pub lengths : SameLengths w path turns w' path' turns'
  pub says : EntrySays g t chain sentence w' path' turns' (take at.steps path) at answer

-- what is so for every grammar whose walk stands there
pub record WalkedToEntry (t chain sentence w path turns w' path' turns' : List ℕ) (at : Standing) (answer : Option Standing) : Type 0 where
  pub of_grammar : (g : Grammar) → Walking g t chain sentence w path turns at → EntryFor g t chain sentence w path turns w' path' turns' at answer

-- the entries one after the other from a standing on, to the last: each is the next entry after the one before
abbrev pub Streams : Grammar → List ℕ → List ℕ → List ℕ → List ℕ → List ℕ → List ℕ → Standing → List (List ℕ) → Type 0
Streams g t chain sentence w path turns at [] = (w' : List ℕ) × (path' : List ℕ) × (turns' : List ℕ) × EntryFor g t chain sentence w path turns w' path' turns' at None
Streams g t chain sentence w path turns at (p ∷ entries) =
    (w' : List ℕ) × (path' : List ℕ) × (turns' : List ℕ) × (next : Standing) × EntryFor g t chain sentence w path turns w' path' turns' at (Some next) × (take next.steps path' ≡ p)
    × Streams g t chain sentence w' path' turns' next entries
