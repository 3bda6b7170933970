-- What the program prints for what it reads of its files: of the grammar at most one byte more than an accepted file can have, of the sentence file N and at
-- most one word more than a sentence can have, and whether its length is even. That this is what document 01 says of the whole files is `WholeText`.
-- Assumes nothing.
use Rattle.std.specs.Prelude.{◌≡◌, Bool, List, [], ◌∷◌, ℕ, ◌%◌, eqb, length, take}
use Rattle.std.proofs.Math.Option.{Option}
use Rattle.model.specs.declared.Refusal.{Refusal}
use Rattle.model.specs.Base.{◌or_else◌}
use Rattle.model.specs.Verdict.{refuse_if}
use Rattle.model.specs.Grammar.{Grammar}
use Rattle.model.specs.GrammarFile.{grammar_refusal, grammar_of}
use Rattle.model.specs.Trace.{sentence_refusal}
use Rattle.model.specs.Counting.{limits_refusal, effort_refusal, count, effort, listing}
use Rattle.model.specs.Program.{sentence_in, limit_in, program_limit, printed, program}

-- the words read: at most 97
abbrev pub words_in : List ℕ → List ℕ
words_in bytes = take 97 (sentence_in bytes)

-- they stand at the front of an array with room for 97
pub record WordsRead (bytes words : List ℕ) (spoken : ℕ) : Type 0 where
  pub long : length words ≡ 97
  pub words_are : take spoken words ≡ words_in bytes

module _ (file sentence : List ℕ) (n : ℕ) (even : Bool) where
  -- what is tested before the walk: the grammar; "A sentence file of even length, 0 included, gives `R 11 0`, tested between the grammar and 24"; 24, 11 and 29
  abbrev pub tests_of : Option Refusal
  tests_of =
      grammar_refusal file
      or_else refuse_if even (Refusal.Analysis 11 0)
      or_else limits_refusal n program_limit
      or_else sentence_refusal (grammar_of file) sentence

  -- and 25
  abbrev pub refusal_of : Option Refusal
  refusal_of = tests_of or_else effort_refusal (grammar_of file) sentence n program_limit

-- "prints count and effort, then one trace a line, numbers parted by one blank; or `R`, number, place"
abbrev pub text_by : Option Refusal → Grammar → List ℕ → ℕ → List ℕ
text_by refusal g sentence n = printed refusal ((count g sentence n ∷ effort g sentence n ∷ []) ∷ listing g sentence n)

-- what is printed for what is read
abbrev pub text_of : List ℕ → List ℕ → Bool → List ℕ
text_of file bytes even = text_by (refusal_of file (words_in bytes) (limit_in bytes) even) (grammar_of file) (words_in bytes) (limit_in bytes)

-- what the program reads of its files
pub record ReadOf (grammar_file sentence_file file bytes : List ℕ) (even : Bool) : Type 0 where
  pub grammar_is : file ≡ take 7169 grammar_file
  pub sentence_is : bytes ≡ take 195 sentence_file
  pub parity_is : even ≡ eqb (length sentence_file % 2) 0

-- what is printed for what is read is what document 01 says is printed for the files
abbrev pub WholeText : Type 0
WholeText =
    (grammar_file sentence_file file bytes : List ℕ) (even : Bool) → ReadOf grammar_file sentence_file file bytes even
    → text_of file bytes even ≡ program grammar_file sentence_file
