-- What the count and the call for an entry test before and after the walk over the live prefixes, in their order.
-- Assumes nothing.
use Rattle.std.specs.Prelude.{List, ℕ}
use Rattle.std.proofs.Math.Option.{Option}
use Rattle.model.specs.declared.Refusal.{Refusal}
use Rattle.model.specs.Base.{◌or_else◌}
use Rattle.model.specs.GrammarFile.{grammar_refusal, grammar_of}
use Rattle.model.specs.Trace.{sentence_refusal}
use Rattle.model.specs.Counting.{limits_refusal}
use Rattle.model.specs.Calls.{room_refusal}
use Rattle.tally.specs.Answers.{after_tally}

abbrev pub before_search : List ℕ → List ℕ → ℕ → ℕ → Option Refusal
before_search file sentence n limit = grammar_refusal file or_else limits_refusal n limit or_else sentence_refusal (grammar_of file) sentence

abbrev pub before_entry : List ℕ → List ℕ → ℕ → ℕ → List ℕ → Option Refusal
before_entry file sentence n limit out =
    grammar_refusal file or_else room_refusal out or_else limits_refusal n limit or_else sentence_refusal (grammar_of file) sentence

abbrev pub after_search : List ℕ → List ℕ → ℕ → ℕ → ℕ → Option Refusal
after_search file sentence n limit m = after_tally (grammar_of file) sentence n limit m
