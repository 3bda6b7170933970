-- The measures of `trees::reading::read_daughters` and `trees::reading::read_node`: what is left of the list, read from the daughters or from the node.
-- The loop over the daughters keeps: a reading of those that are left is one of them all.
-- Assumes nothing.
use Rattle.std.proofs.Common.{◌≡◌, ℕ, List, length, drop, ◌+◌, ◌-◌, ◌*◌, ◌≤◌, Result}
use Rattle.model.specs.declared.Refusal.{Refusal}
use Rattle.model.specs.GrammarFile.{grammar_of}
use Rattle.trees.specs.Reader.{Readable, below, Reading}
use Rattle.trees.proofs.reading.+read_daughters_read_node.Given as goal

abbrev pub decreases-read_daughters : goal.decreases-read_daughters
decreases-read_daughters l = 2 * (length l.at.list.now - l.at.place) + 1

abbrev pub decreases-read_node : goal.decreases-read_node
decreases-read_node l = 2 * (length l.at.list.now - l.at.place)

abbrev pub invariant-read_daughters-loop-j : goal.invariant-read_daughters-loop-j
invariant-read_daughters-loop-j l =
    (l.at.list ≡ l.fn.at.list) × (l.fn.at.place ≤ l.at.place) × Readable l.file l.at.list.now l.at.place l.ends
    × ((after : List ℕ) (answer : Result ℕ Refusal) → Reading (grammar_of l.file) l.at.list.now (drop l.j (below (grammar_of l.file) l.r.0)) l.at.place l.ends after answer
    → Reading (grammar_of l.file) l.fn.at.list.now (below (grammar_of l.file) l.r.0) l.fn.at.place l.initial.ends after answer)
