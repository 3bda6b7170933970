-- The listing as lines, a page at a time.
-- Assumes nothing.
use Rattle.std.specs.Prelude.{◌≡◌, List, [], ◌++◌, ℕ, ◌+◌, ◌≤◌, length, take, Option, Some, None}
use Rattle.model.specs.Base.{each}
use Rattle.model.specs.Grammar.{Grammar}
use Rattle.model.specs.Program.{line}
use Rattle.walk.specs.Walking.{Walking, steps_of}
use Rattle.listing.specs.Stream.{entries_after}
use Rattle.lines.specs.Text.{Put}
use Rattle.pages.specs.declared.Pen.{Pen}
use Rattle.pages.specs.declared.Page.{Page}
use Rattle.pages.specs.declared.Page.TheVariants.{More, Last}

-- the lines of the entries after a list
abbrev pub lines_after : Grammar → List ℕ → ℕ → List ℕ → List ℕ
lines_after g sentence n list = each line (entries_after g sentence n list)

-- the entry on the path is written as a line, and the walk stands there, under the same node limit: the lines after the list are that line and those after
-- that entry
pub record LinePutTo (g : Grammar) (t chain sentence list before : List ℕ) (pen : Pen) (w path turns after : List ℕ) (next : Pen) : Type 0 where
  pub walking : Walking g t chain sentence w path turns next.at
  pub same_steps : steps_of next.at ≡ steps_of pen.at
  pub put : Put before after pen.place (line (take next.at.steps path)) next.place
  pub lines : lines_after g sentence (steps_of pen.at) list ≡ line (take next.at.steps path) ++ lines_after g sentence (steps_of pen.at) (take next.at.steps path)

-- one line is written, or there is none
abbrev pub LineSays : Grammar → List ℕ → List ℕ → List ℕ → List ℕ → List ℕ → Pen → List ℕ → List ℕ → List ℕ → List ℕ → Option Pen → Type 0
LineSays g t chain sentence list before pen w path turns after (Some next) = LinePutTo g t chain sentence list before pen w path turns after next
LineSays g t chain sentence list before pen w path turns after None = (after ≡ before) × (lines_after g sentence (steps_of pen.at) list ≡ [])

-- what is so for every grammar whose walk stands there; the list is the one on the path
pub record WroteLine (t chain sentence w path turns before : List ℕ) (pen : Pen) (w' path' turns' after : List ℕ) (answer : Option Pen) : Type 0 where
  pub of_grammar : (g : Grammar) → Walking g t chain sentence w path turns pen.at → LineSays g t chain sentence (take pen.at.steps path) before pen w' path' turns' after answer

-- lines are written from the pen's place on to that of `next`, and the last entry written is on the path, where the walk stands: the lines after the list are
-- those written and those after that entry
pub record FilledTo (g : Grammar) (t chain sentence list before : List ℕ) (pen : Pen) (w path turns after : List ℕ) (next : Pen) : Type 0 where
  pub walking : Walking g t chain sentence w path turns next.at
  pub same_steps : steps_of next.at ≡ steps_of pen.at
  pub text : List ℕ
  pub put : Put before after pen.place text next.place
  pub lines : lines_after g sentence (steps_of pen.at) list ≡ text ++ lines_after g sentence (steps_of pen.at) (take next.at.steps path)

-- a page that is not the last goes on for as long as there is room for a line of 96 numbers, of at most 576 bytes; the last has all lines that are left
abbrev pub PageSays : Grammar → List ℕ → List ℕ → List ℕ → List ℕ → List ℕ → Pen → List ℕ → List ℕ → List ℕ → List ℕ → Page → Type 0
PageSays g t chain sentence list before pen w path turns after (More next) = FilledTo g t chain sentence list before pen w path turns after next × (length after ≤ next.place + 576)
PageSays g t chain sentence list before pen w path turns after (Last p) = (l : List ℕ) × Put before after pen.place l p × (lines_after g sentence (steps_of pen.at) list ≡ l)

-- and this for every grammar whose walk stands there
pub record FilledPage (t chain sentence w path turns before : List ℕ) (pen : Pen) (w' path' turns' after : List ℕ) (answer : Page) : Type 0 where
  pub of_grammar : (g : Grammar) → Walking g t chain sentence w path turns pen.at → PageSays g t chain sentence (take pen.at.steps path) before pen w' path' turns' after answer
