-- "A sentence of single words has the answers it had before, and the program's file keeps single words" (document 02, paper 5): of every call that is given a
-- sentence, verdict and output, refused or not, and of what the program prints. Proved in proofs/Answers.antt.
-- Assumes nothing.
use Rattle.std.specs.Prelude.{◌≡◌, ℕ, ◌<◌, List, get_or}
use Rattle.std.proofs.Math.Option.{Option}
use Rattle.model.specs.declared.Refusal.{Refusal}
use Rattle.model.specs.Grammar.{Grammar}
use Rattle.model.specs.GrammarFile.{grammar_refusal, grammar_of}
use Rattle.model.specs.Step.{singles}
use Rattle.model.specs.Trace.{sentence_refusal, trace_refusal}
use Rattle.model.specs.Tree.{tree_refusal}
use Rattle.model.specs.Conversions.{tree_of, trace_of}
use Rattle.model.specs.Counting.{live, listing}
use Rattle.model.specs.Calls.{check_trace_verdict, check_tree_verdict, trace_to_tree_verdict, trace_to_tree_output, tree_to_trace_verdict, tree_to_trace_output, count_call, entry_verdict, entry_output}
use Rattle.model.specs.Program.{program}
use Rattle.weights.specs.Weights.{weigh_trace_verdict, weigh_tree_verdict}
use Rattle.singles.specs.OldSentences as before

-- every number of the list is below n
abbrev pub Below : ℕ → List ℕ → Type 0
Below n list = (k : ℕ) → get_or list k 0 < n

-- words are lent as numbers of 16 bits
abbrev pub Words : List ℕ → Type 0
Words ws = Below 65536 ws

-- for every grammar, also one that no accepted file holds: what each call asks of a grammar and a sentence
pub record PartsAsBefore (g : Grammar) (ws : List ℕ) : Type 0 where
  pub refused : sentence_refusal g (singles ws) ≡ before.sentence_refusal g ws
  pub trace_refused : (trace : List ℕ) → trace_refusal g (singles ws) trace ≡ before.trace_refusal g ws trace
  pub tree_refused : (tree : List ℕ) → tree_refusal g (singles ws) tree ≡ before.tree_refusal g ws tree
  pub tree_made : (trace : List ℕ) → tree_of g (singles ws) trace ≡ before.tree_of g ws trace
  pub trace_made : (tree : List ℕ) → trace_of g (singles ws) tree ≡ before.trace_of g ws tree
  pub live_prefixes : (n : ℕ) → live g (singles ws) n ≡ before.live g ws n
  pub listed : (n : ℕ) → listing g (singles ws) n ≡ before.listing g ws n

-- every call that is given a sentence answers, for the grammar file and these words as single words, what it answered before by what was refused of the file
-- (`refused`) and by the grammar that it held (`g`)
module _ (file : List ℕ) (refused : Option Refusal) (g : Grammar) (ws : List ℕ) where
  pub record AsBefore : Type 0 where
    pub checks_trace : (trace : List ℕ) → check_trace_verdict file (singles ws) trace ≡ before.check_trace_verdict refused g ws trace
    pub checks_tree : (tree : List ℕ) → check_tree_verdict file (singles ws) tree ≡ before.check_tree_verdict refused g ws tree
    pub to_tree : (trace out : List ℕ)
        → (trace_to_tree_verdict file (singles ws) trace out ≡ before.trace_to_tree_verdict refused g ws trace out)
        × (trace_to_tree_output file (singles ws) trace out ≡ before.trace_to_tree_output refused g ws trace out)
    pub to_trace : (tree out : List ℕ)
        → (tree_to_trace_verdict file (singles ws) tree out ≡ before.tree_to_trace_verdict refused g ws tree out)
        × (tree_to_trace_output file (singles ws) tree out ≡ before.tree_to_trace_output refused g ws tree out)
    pub counts : (n limit : ℕ) → count_call file (singles ws) n limit ≡ before.count_call refused g ws n limit
    pub enters : (n limit m : ℕ) (out : List ℕ)
        → (entry_verdict file (singles ws) n limit m out ≡ before.entry_verdict refused g ws n limit m out)
        × (entry_output file (singles ws) n limit m out ≡ before.entry_output refused g ws n limit m out)

  -- the two calls of paper 1
  pub record SumsAsBefore : Type 0 where
    pub weighs_trace : (trace : List ℕ) → weigh_trace_verdict file (singles ws) trace ≡ before.weigh_trace_verdict refused g ws trace
    pub weighs_tree : (tree : List ℕ) → weigh_tree_verdict file (singles ws) tree ≡ before.weigh_tree_verdict refused g ws tree

-- what is claimed for every grammar file, accepted or not, and every list of words, of any length, known to the grammar or not: what is refused of a grammar
-- file, and the grammar that it holds, are those of today
pub record SingleWords : Type 0 where
  pub parts : (g : Grammar) (ws : List ℕ) → Words ws → PartsAsBefore g ws
  pub calls : (file ws : List ℕ) → Words ws → AsBefore file (grammar_refusal file) (grammar_of file) ws
  pub sums : (file ws : List ℕ) → Words ws → SumsAsBefore file (grammar_refusal file) (grammar_of file) ws
  -- for all bytes of the two files
  pub prints : (file sentence_file : List ℕ) → Below 256 sentence_file
      → program file sentence_file ≡ before.program (grammar_refusal file) (grammar_of file) sentence_file
