-- Trace to tree as a whole: from the run of an accepted trace to its tree, and the tests before it.
-- Assumes nothing.
use mathlib.Core.Path.{◌≡◌, sym, ap, subst, ◌∙◌}
use mathlib.Core.Option.{Option, none, some}
use mathlib.Core.List.{List, ◌++◌}
use Prim.Native.Nat.{ℕ, ◌<◌, ◌≤◌}
use native.Mathlib.Omega.{arith}
use lib.ListN.{length, get_or, take, drop}
use Rattle.model.specs.declared.Refusal.{Refusal}
use Rattle.model.specs.Grammar.{Grammar}
use Rattle.model.specs.GrammarFile.{grammar_refusal, grammar_of}
use Rattle.model.specs.Trace.{trace_refusal}
use Rattle.model.specs.Tree.{Tree, preorder}
use Rattle.model.specs.Conversions.{tree_of}
use Rattle.model.specs.Calls.{written}
use Rattle.model.proofs.Demands.{trace_short}
use Rattle.model.proofs.FromFile.{accepted_right}
use Rattle.ranking.specs.Numbered.{begin_numbered}
use Rattle.recognizer.specs.Traces.{taken_numbered}
use Rattle.unfold.specs.Unfold.{daughter_count, Linked, Grows, Grown}
use Rattle.unfold.proofs.UnfoldRun.{Unfolded, unfolded}
use Rattle.unfold.proofs.UnfoldTables.{grows_tree}

-- a refused trace changes nothing
pub refused_kept : (o : Option Refusal) (list out : List ℕ) {x : Refusal} → o ≡ some x → out ≡ written o list out
refused_kept o list out e = sym (ap (λ (p : Option Refusal). written p list out) e)

-- an accepted trace, and the predictions that its steps take
module _ (file sentence trace taken : List ℕ) (accepted : grammar_refusal file ≡ none) (passes : trace_refusal (grammar_of file) sentence trace ≡ none) (is : take (length trace) taken ≡ taken_numbered (grammar_of file) 0 (begin_numbered (grammar_of file) sentence) trace) where
  abbrev g : Grammar
  g = grammar_of file

  steps_few : length trace ≤ 96
  steps_few = trace_short g (accepted_right file accepted) sentence trace passes

  tree_of_run : Unfolded file sentence trace accepted (take (length trace) taken)
  tree_of_run = subst (Unfolded file sentence trace accepted) (sym is) (unfolded file sentence trace accepted passes)

  abbrev front : List ℕ
  front = take (length trace) taken

  front_long : length front ≡ length trace
  front_long = tree_of_run.unfolds.sized

  pub front_few : length (take (length trace) taken) ≤ 96
  front_few = omega (arith, front_long, steps_few)

  pub front_small : (k : ℕ) → k < length (take (length trace) taken) → get_or (take (length trace) taken) k 0 < 388
  front_small k h =
      let l : k < length trace = omega (arith, h, front_long) in
      omega (arith, tree_of_run.small k l, l, steps_few)

  -- with the table that the steps fill
  module _ (steps : List ℕ) (linked : Linked (take (length trace) taken) steps (length (take (length trace) taken))) where
    stands : Grows (daughter_count file) trace steps tree_of_run.tree 0
    stands =
        let u = tree_of_run in
        grows_tree (daughter_count file) trace front steps u.names steps_few u.unfolds (λ k h. front_small k (omega (arith, h, front_long)))
        (subst (Linked front steps) front_long linked) u.tree 0 u.start u.begins

    nodes_few : length (preorder tree_of_run.tree) ≤ 96
    nodes_few = omega (arith, tree_of_run.size, steps_few)

    pub grown : Grown (daughter_count file) trace steps
    grown = record { tree = tree_of_run.tree; grows = stands; few = nodes_few }

    pub tree_written : (out last : List ℕ)
        → ((tree : Tree) → Grows (daughter_count file) trace steps tree 0 → length (preorder tree) ≤ 96 → last ≡ preorder tree ++ drop (length (preorder tree)) out)
        → last ≡ written (trace_refusal g sentence trace) (tree_of g sentence trace) out
    tree_written out last h =
        h tree_of_run.tree stands nodes_few
        ∙ ap (λ (l : List ℕ). l ++ drop (length l) out) (sym tree_of_run.is)
        ∙ sym (ap (λ (o : Option Refusal). written o (tree_of g sentence trace) out) passes)
