-- `grammar::all_zero` meets its contract. The loop keeps: all bytes are 0 if those before this place are and those from there on.
-- Assumes nothing.
use mathlib.Core.Path.{◌≡◌}
use mathlib.Core.Bool.{◌&&◌}
use lib.ListN.{drop}
use Rattle.model.specs.GrammarFile.{all_zero}
use Rattle.grammar.proofs.lists.all_zero.Given as goal

abbrev pub invariant-loop-b : goal.invariant-loop-b
invariant-loop-b l = all_zero l.bytes ≡ l.zero && all_zero (drop l.b-index l.bytes)
