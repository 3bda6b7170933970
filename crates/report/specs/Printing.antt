-- The text that the program prints, a page at a time: what a page and what is left after it say together.
-- Assumes nothing.
use Rattle.std.specs.Prelude.{◌≡◌, Bool, List, [], ◌∷◌, ◌++◌, ℕ, ◌+◌, ◌<◌, ◌≤◌, length, take, if◌then◌else◌, Option, Some, None, is_some}
use Rattle.std.proofs.Math.Option.{some}
use Rattle.model.specs.declared.Refusal.{Refusal}
use Rattle.model.specs.Base.{each}
use Rattle.model.specs.Grammar.{Grammar}
use Rattle.model.specs.GrammarFile.{grammar_of}
use Rattle.model.specs.Counting.{effort_refusal}
use Rattle.model.specs.Program.{limit_in, program_limit, printed, program}
use Rattle.ranks.specs.Table.{Compiled}
use Rattle.walk.specs.Chain.{Chained}
use Rattle.walk.specs.Walking.{Walking, steps_of}
use Rattle.lines.specs.Text.{Put}
use Rattle.pages.specs.Page.{lines_after}
use Rattle.report.specs.Whole.{words_in, text_by, text_of, ReadOf}
use Rattle.report.specs.declared.program.Rest.{Rest}
use Rattle.report.specs.declared.program.Text.{Text}

-- for a grammar, a sentence and a node limit
module _ (g : Grammar) (sentence : List ℕ) (n : ℕ) where
  -- the text that is left after a page: the lines of the entries after the list on the path, or nothing
  abbrev pub left_in : Option Rest → List ℕ
  left_in None = []
  left_in (Some rest) = lines_after g sentence n (take rest.at.steps rest.walk.path)

  abbrev pub left_of : Text → List ℕ
  left_of text = left_in text.rest

  -- how much is to come: the bytes that are left, and the page that has the last of them
  abbrev pub to_come : Text → ℕ
  to_come text = length (left_of text) + (if is_some text.rest then 1 else 0)

  -- the rest of the text can be made: the tables are the grammar's, the words the sentence's, and the walk over the listing under that node limit stands there
  pub record GoesOn (rest : Rest) : Type 0 where
    pub sentence_is : take rest.sentence.spoken rest.sentence.words ≡ sentence
    pub walking : Walking g rest.tables.rules rest.tables.chain sentence rest.walk.queues rest.walk.path rest.walk.turns rest.at
    pub steps_are : steps_of rest.at ≡ n

  -- the page at the front of the buffer, with what is left after it, is what was to be printed; a page before the last has something in it
  pub record PageOf (to_print out : List ℕ) (text : Text) : Type 0 where
    pub within : text.end ≤ length out
    pub joined : to_print ≡ take text.end out ++ left_of text
    pub goes_on : (rest : Rest) → text.rest ≡ Some rest → GoesOn rest
    pub not_empty : (rest : Rest) → text.rest ≡ Some rest → 0 < text.end

  -- lines of what was left are put from a place of the buffer on, and the rest is left
  pub record PutFrom (rest : Rest) (place : ℕ) (before after : List ℕ) (next : Text) : Type 0 where
    pub lines : List ℕ
    pub put : Put before after place lines next.end
    pub left : left_in (Some rest) ≡ lines ++ left_of next
    pub goes_on : (more : Rest) → next.rest ≡ Some more → GoesOn more
    pub not_empty : (more : Rest) → next.rest ≡ Some more → 0 < length lines

-- the text goes on, for some grammar, sentence and node limit
pub record MayGoOn (rest : Rest) : Type 0 where
  pub grammar : Grammar
  pub sentence : List ℕ
  pub limit : ℕ
  pub goes_on : GoesOn grammar sentence limit rest

-- what is so for every grammar, sentence and node limit for which the text goes on
pub record PutPage (rest : Rest) (place : ℕ) (before after : List ℕ) (next : Text) : Type 0 where
  pub of_grammar : (g : Grammar) (sentence : List ℕ) (n : ℕ) → GoesOn g sentence n rest → PutFrom g sentence n rest place before after next

pub record NextPage (rest : Rest) (out : List ℕ) (next : Text) : Type 0 where
  pub of_grammar : (g : Grammar) (sentence : List ℕ) (n : ℕ) → GoesOn g sentence n rest → PageOf g sentence n (left_in g sentence n (Some rest)) out next

-- the tables are those of the file's grammar
pub record TablesOf (file table chain : List ℕ) : Type 0 where
  pub compiled : Compiled (grammar_of file) table
  pub chained : Chained (grammar_of file) chain

-- the listing is all to come: the walk stands at the empty list
pub record Begun (file words : List ℕ) (spoken n : ℕ) (rest : Rest) : Type 0 where
  pub goes_on : GoesOn (grammar_of file) (take spoken words) n rest
  pub at_start : rest.at.steps ≡ 0

-- the first page, where no test before the walk refuses
abbrev pub CountedPage : List ℕ → List ℕ → ℕ → ℕ → List ℕ → Text → Type 0
CountedPage file words spoken n out text =
    let g = grammar_of file in
    let sentence = take spoken words in
    PageOf g sentence n (text_by (effort_refusal g sentence n program_limit) g sentence n) out text

-- the page of a refusal: its line, and nothing is left
pub record RefusedPage (r : Refusal) (out : List ℕ) (text : Text) : Type 0 where
  pub within : text.end ≤ length out
  pub line_is : take text.end out ≡ printed (some r) []
  pub no_more : text.rest ≡ None

-- the first page for what is read of the two files
abbrev pub FirstPage : List ℕ → List ℕ → Bool → List ℕ → Text → Type 0
FirstPage file bytes even out text = PageOf (grammar_of file) (words_in bytes) (limit_in bytes) (text_of file bytes even) out text

-- the pages that come one after the other, each as it stands in the buffer, to the last
module _ (g : Grammar) (sentence : List ℕ) (n : ℕ) where
  pub data Pages : List ℕ → List (List ℕ) → Type 0 where
    last : {to_print out : List ℕ} {text : Text} → PageOf g sentence n to_print out text → text.rest ≡ None → Pages to_print (take text.end out ∷ [])
    more : {to_print out : List ℕ} {text : Text} {rest : Rest} {pages : List (List ℕ)} → PageOf g sentence n to_print out text → text.rest ≡ Some rest
        → Pages (left_of g sentence n text) pages → Pages to_print (take text.end out ∷ pages)

-- the pages that follow each other from the first page on, joined, are what document 01 says is printed for the files
abbrev pub PrintsPages : Type 0
PrintsPages =
    (grammar_file sentence_file file bytes : List ℕ) (even : Bool) → ReadOf grammar_file sentence_file file bytes even → (pages : List (List ℕ))
    → Pages (grammar_of file) (words_in bytes) (limit_in bytes) (text_of file bytes even) pages → program grammar_file sentence_file ≡ each (λ l. l) pages
