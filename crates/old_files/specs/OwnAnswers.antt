-- An older file without doubles on sentences of words, which all sentences were before document 02's paper 5: it has the answers of its own time. Those of
-- document 01 are by what document 01 refuses of a file (`grammar_refusal_before`), by the grammar that it reads (`grammar_before`) and by sentences whose words
-- are compared by equality (`OldSentences` in the crate `singles`); those of a file from between papers 1 and 4 by what was refused then
-- (`grammar_refusal_between`), by the grammar that it holds (`grammar_of`) and by the same sentences. Proved in proofs/OwnAnswers.antt.
-- Assumes nothing.
use Rattle.std.specs.Prelude.{◌≡◌, ℕ, List}
use Rattle.std.proofs.Math.Option.{Option, none}
use Rattle.model.specs.declared.Refusal.{Refusal}
use Rattle.model.specs.Grammar.{Grammar}
use Rattle.model.specs.GrammarFile.{grammar_of}
use Rattle.model.specs.Program.{program}
use Rattle.singles.specs.OldSentences as before
use Rattle.singles.specs.AsBefore.{Below, Words, AsBefore, SumsAsBefore}
use Rattle.old_files.specs.OldFiles.{grammar_refusal_before, grammar_refusal_between, grammar_before, WithoutSentence, WithoutDoubles}

-- every verdict and every output, and what the program prints, by what was refused of the file then and by the grammar that it held then
pub record OwnAnswers (file : List ℕ) (refused : Option Refusal) (g : Grammar) : Type 0 where
  -- reader, writer and survey
  pub without_sentence : WithoutSentence file refused g
  -- the calls that are given a sentence, here one of words of 16 bits
  pub of_words : (ws : List ℕ) → Words ws → AsBefore file refused g ws
  -- for all bytes of the sentence file
  pub program_prints : (sentence_file : List ℕ) → Below 256 sentence_file → program file sentence_file ≡ before.program refused g sentence_file

-- the sums of weights, which came with paper 1
abbrev pub OwnSums : List ℕ → Option Refusal → Grammar → Type 0
OwnSums file refused g = (ws : List ℕ) → Words ws → SumsAsBefore file refused g ws

pub record OwnTime : Type 0 where
  pub of_document_01 : (file : List ℕ) → grammar_refusal_before file ≡ none → WithoutDoubles (grammar_before file)
      → OwnAnswers file (grammar_refusal_before file) (grammar_before file)
  pub of_between : (file : List ℕ) → grammar_refusal_between file ≡ none → WithoutDoubles (grammar_of file)
      → OwnAnswers file (grammar_refusal_between file) (grammar_of file)
  pub sums_of_between : (file : List ℕ) → grammar_refusal_between file ≡ none → WithoutDoubles (grammar_of file)
      → OwnSums file (grammar_refusal_between file) (grammar_of file)
