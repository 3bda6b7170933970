-- `sentences::sentence_refusal` meets its contract. The loop keeps: what the places give is what those from place k on give.
-- Assumes nothing.
use mathlib.Core.Path.{◌≡◌}
use lib.ListN.{drop}
use Rattle.model.specs.GrammarFile.{words_of}
use Rattle.model.specs.Trace.{places_refusal}
use Rattle.sentences.proofs.sentence_refusal.Given as goal

abbrev pub invariant-loop-k : goal.invariant-loop-k
invariant-loop-k l = places_refusal (words_of l.file) 0 l.sentence ≡ places_refusal (words_of l.file) l.k (drop l.k l.sentence)
