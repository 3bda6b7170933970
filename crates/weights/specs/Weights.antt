-- The sum of an analysis's weights (document 02, paper 1): what the two calls answer, and what is proved of their answers.
-- Assumes nothing.
use Rattle.std.specs.Prelude.{◌≡◌, ℕ, ◌*◌, ◌≤◌, List, [], ◌∷◌, map, T, Ok, Err}
use Rattle.std.proofs.Math.Option.{Option, none, some}
use Rattle.model.specs.declared.Refusal.{Refusal}
use Rattle.model.specs.Base.{total}
use Rattle.model.specs.Verdict.{verdict, verdict_answer, Verdict}
use Rattle.model.specs.Grammar.{Rule, Grammar, rule_at}
use Rattle.model.specs.GrammarFile.{weight_of, record_of, grammar_refusal, grammar_of}
use Rattle.model.specs.WellFormed.{Perm}
use Rattle.model.specs.Tree.{Tree, preorder, derives}
use Rattle.model.specs.Conversions.{BelongsTo, tree_of, trace_of}
use Rattle.model.specs.Calls.{check_trace_refusal, check_tree_refusal}
use Rattle.model.specs.Refusals.{check_trace_tests, check_tree_tests}
use Rattle.model.specs.Demands.{Decided}

-- the weight of a rule; 0 where there is none
abbrev pub weight_by : Option Rule → ℕ
weight_by none = 0
weight_by (some rule) = rule.weight

-- "A weight on each rule": that of rule r
abbrev pub weight_at : Grammar → ℕ → ℕ
weight_at g r = weight_by (rule_at g r)

-- "an accepted analysis's sum of weights, one for each step or node": of the rule numbers of a trace or of a tree
abbrev pub weight_sum : Grammar → List ℕ → ℕ
weight_sum g list = total (map (weight_at g) list)

-- the same, by byte 23 of the records of a file
abbrev pub records_sum : List ℕ → List ℕ → ℕ
records_sum file list = total (map (λ r. weight_of (record_of file r)) list)

-- at most 96 steps or nodes with a weight of at most 255 each
abbrev pub largest_sum : ℕ
largest_sum = 96 * 255

-- an accepted sum is at most n
abbrev pub AtMost : ℕ → Verdict → Type 0
AtMost n (Ok sum) = sum ≤ n
AtMost n (Err r) = Unit {0}

-- What a call promises that is tested by `refusal`: its answer is its own verdict; where that is a sum, it is also the verdict of the other call for the list
-- that belongs to the one given; and the sum is at most `largest_sum`.
pub record Weighed (refusal : Option Refusal) (own belonging answer : Verdict) : Type 0 where
  pub verdict_is : answer ≡ own
  pub same_sum : refusal ≡ none → answer ≡ belonging
  pub small : AtMost largest_sum answer

module _ (file sentence : List ℕ) where
  -- "Two new calls, tested as the trace and the tree checker, give as verdict an accepted analysis's sum of weights, one for each step or node."
  abbrev pub weigh_trace_verdict : List ℕ → Verdict
  weigh_trace_verdict trace = verdict (check_trace_refusal file sentence trace) (weight_sum (grammar_of file) trace)

  abbrev pub weigh_tree_verdict : List ℕ → Verdict
  weigh_tree_verdict tree = verdict (check_tree_refusal file sentence tree) (weight_sum (grammar_of file) tree)

  -- "The sum taken along a trace and the sum taken along the tree that belongs to it are the same number, and that sameness is part of the promise.": the
  -- promises of the two calls
  abbrev pub TraceWeighed : List ℕ → Verdict → Type 0
  TraceWeighed trace answer =
      Weighed (check_trace_refusal file sentence trace) (weigh_trace_verdict trace) (weigh_tree_verdict (tree_of (grammar_of file) sentence trace)) answer

  abbrev pub TreeWeighed : List ℕ → Verdict → Type 0
  TreeWeighed tree answer =
      Weighed (check_tree_refusal file sentence tree) (weigh_tree_verdict tree) (weigh_trace_verdict (trace_of (grammar_of file) sentence tree)) answer

-- Demand 1 for the two calls: each is refused by the tests of its checker, in their order, and else gives the sum
pub record Demand1Weighed : Type 0 where
  pub trace_weighed : (file sentence trace : List ℕ)
      → Decided (check_trace_tests file sentence trace) (weight_sum (grammar_of file) trace ∷ []) (verdict_answer (weigh_trace_verdict file sentence trace))
  pub tree_weighed : (file sentence tree : List ℕ)
      → Decided (check_tree_tests file sentence tree) (weight_sum (grammar_of file) tree ∷ []) (verdict_answer (weigh_tree_verdict file sentence tree))

-- "the tree that belongs to it": in every grammar that the reader accepts, a trace and a tree that belong to each other have the same rules, each as often, in
-- some order, and so the same sum
pub record SameRules : Type 0 where
  pub rules : (file sentence trace : List ℕ) (tree : Tree) → grammar_refusal file ≡ none → T (derives (grammar_of file) sentence tree)
      → BelongsTo (grammar_of file) sentence trace tree → Perm trace (preorder tree)
  pub sums : (file sentence trace : List ℕ) (tree : Tree) → grammar_refusal file ≡ none → T (derives (grammar_of file) sentence tree)
      → BelongsTo (grammar_of file) sentence trace tree → weight_sum (grammar_of file) trace ≡ weight_sum (grammar_of file) (preorder tree)
