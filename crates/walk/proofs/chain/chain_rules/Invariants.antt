-- `walk::chain::chain_rules` meets its contract.
-- Assumes nothing.
use mathlib.Core.Path.{◌≡◌}
use mathlib.Core.Option.{none}
use Prim.Native.Nat.{◌≤◌}
use lib.ListN.{length}
use Rattle.model.specs.GrammarFile.{grammar_refusal, grammar_of, rules_of}
use Rattle.walk.proofs.Linked.{Linked}
use Rattle.walk.proofs.chain.chain_rules.Given as goal

abbrev pub invariant-loop-r : goal.invariant-loop-r
invariant-loop-r l = (l.r ≤ 256) × (length l.chain ≡ 320)
    × (grammar_refusal l.file ≡ none → (l.r ≤ rules_of l.file) × Linked (grammar_of l.file) (rules_of l.file) l.r l.chain)

abbrev pub decreases-loop-r : goal.decreases-loop-r
decreases-loop-r l = l.r
