-- What the program prints, byte by byte (document 01, "Counting and listing").
-- Assumes nothing.
use Rattle.std.specs.Prelude.{ℕ, zero, suc, ◌+◌, ◌*◌, ◌/◌, ◌%◌, List, [], ◌∷◌, ◌++◌, ltb, eqb, length, get_or, drop, if◌then◌else◌}
use Rattle.std.proofs.Math.Option.{Option, none, some}
use Rattle.model.specs.declared.Refusal.{Refusal}
use Rattle.model.specs.Base.{◌or_else◌, each}
use Rattle.model.specs.Verdict.{refuse_if, number, place}
use Rattle.model.specs.GrammarFile.{grammar_refusal, grammar_of}
use Rattle.model.specs.Counting.{count, effort, listing}
use Rattle.model.specs.Step.{single}
use Rattle.model.specs.Calls.{count_refusal}

-- the bytes of a blank, a newline, the letter R and the digit 0
abbrev pub blank : ℕ
blank = 32

abbrev pub newline : ℕ
newline = 10

abbrev pub letter_r : ℕ
letter_r = 82

abbrev pub digit_zero : ℕ
digit_zero = 48

-- a number in decimal digits, before the bytes that follow it; 20 digits are enough for 64 bits
abbrev pub digits_before : ℕ → ℕ → List ℕ → List ℕ
digits_before zero n rest = rest
digits_before (suc most) n rest =
    if ltb n 10 then (digit_zero + n) ∷ rest else digits_before most (n / 10) ((digit_zero + n % 10) ∷ rest)

abbrev pub decimal : ℕ → List ℕ
decimal n = digits_before 20 n []

-- "numbers parted by one blank", and a newline after them
abbrev pub line : List ℕ → List ℕ
line [] = newline ∷ []
line (n ∷ []) = decimal n ++ (newline ∷ [])
line (n ∷ m ∷ ms) = decimal n ++ (blank ∷ line (m ∷ ms))

-- "byte N, then two little-endian bytes a word"; "the program's file keeps single words"
abbrev pub limit_in : List ℕ → ℕ
limit_in sentence_file = get_or sentence_file 0 0

abbrev pub pairs : List ℕ → List ℕ
pairs [] = []
pairs (a ∷ []) = []
pairs (a ∷ b ∷ bs) = single (a + 256 * b) ∷ pairs bs

abbrev pub sentence_in : List ℕ → List ℕ
sentence_in sentence_file = pairs (drop 1 sentence_file)

-- "effort limit 1,000,000"
abbrev pub program_limit : ℕ
program_limit = 1000000

-- "A sentence file of even length, 0 included, gives `R 11 0`, tested between the grammar and 24."
abbrev pub program_refusal : List ℕ → List ℕ → Option Refusal
program_refusal file sentence_file =
    grammar_refusal file
    or_else refuse_if (eqb (length sentence_file % 2) 0) (Refusal.Analysis 11 0)
    or_else count_refusal file (sentence_in sentence_file) (limit_in sentence_file) program_limit

-- "or `R`, number, place"
abbrev pub printed : Option Refusal → List (List ℕ) → List ℕ
printed none lines = each line lines
printed (some r) lines = letter_r ∷ blank ∷ line (number r ∷ place r ∷ [])

-- "prints count and effort, then one trace a line": of the bytes of the two files; "A file that can't be opened has length 0"
abbrev pub program : List ℕ → List ℕ → List ℕ
program file sentence_file =
    let g = grammar_of file in
    let sentence = sentence_in sentence_file in
    let n = limit_in sentence_file in
    printed (program_refusal file sentence_file) ((count g sentence n ∷ effort g sentence n ∷ []) ∷ listing g sentence n)
