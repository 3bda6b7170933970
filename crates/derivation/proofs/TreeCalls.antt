-- The tree checker and the conversion of a tree: their refusals in order, and what is written.
-- Assumes nothing.
use mathlib.Core.Path.{◌≡◌, sym, ap, ap₂, ◌∙◌}
use mathlib.Core.Bool.{Bool, true, false, not}
use mathlib.Core.Option.{Option, none, some}
use mathlib.Core.List.{List, [], ◌∷◌, ◌++◌}
use Prim.Native.Nat.{ℕ, ◌<◌, ◌≤◌}
use native.Mathlib.Omega.{arith}
use borrow.Author.Tests.{lt-ltb, le-ltb, ltb-false}
use lib.Dec.{ltb}
use lib.ListN.{length, take, drop, length-take}
use Rattle.model.specs.Base.{◌or_else◌}
use Rattle.model.specs.declared.Refusal.{Refusal}
use Rattle.model.specs.Verdict.{refuse_if, verdict, Verdict}
use Rattle.model.specs.Grammar.{Grammar}
use Rattle.model.specs.Trace.{length_refusal}
use Rattle.model.specs.Tree.{tree_of_list, spells, nodes_refusal, tree_refusal}
use Rattle.model.specs.Conversions.{trace_of}
use Rattle.model.specs.Calls.{written}
use Rattle.model.proofs.Tests.{first_of, no_refusal, none_some}
use Rattle.model.proofs.Verdicts.{refused, accepted, passed, met}
use Rattle.derivation.specs.TreeRun.{Spelled, TreeSays}
use Rattle.std.specs.Prelude.{Ok, Err}

-- a whole tree
module _ (g : Grammar) (sentence list : List ℕ) where
  abbrev N : Option Refusal
  N = nodes_refusal g 0 (g.start ∷ []) list

  pub tree_long : 96 < length list → (after : List ℕ) → TreeSays g sentence list after (Err (Refusal.Analysis 12 0))
  tree_long h after =
      let e : tree_refusal g sentence list ≡ some (Refusal.Analysis 12 0) = rw (lt-ltb 96 (length list) h) in
      record { answer = refused (tree_refusal g sentence list) (length list) (Refusal.Analysis 12 0) e; stored = λ z. none_some (sym e ∙ z) }

  module _ (few : length list ≤ 96) where
    by_nodes : (o : Option Refusal) → N ≡ o → tree_refusal g sentence list ≡ (o or_else refuse_if (not (spells g sentence (tree_of_list g list))) (Refusal.Analysis 22 0))
    by_nodes o e =
        ap₂ (λ (b : Bool) (o : Option Refusal). refuse_if b (Refusal.Analysis 12 0) or_else o or_else refuse_if (not (spells g sentence (tree_of_list g list))) (Refusal.Analysis 22 0)) (le-ltb 96 (length list) few) e

    pub tree_met : (x : Refusal) → nodes_refusal g 0 (g.start ∷ []) list ≡ some x → (after : List ℕ) → TreeSays g sentence list after (Err x)
    tree_met x e after =
        let f = by_nodes (some x) e in
        record { answer = refused (tree_refusal g sentence list) (length list) x f; stored = λ z. none_some (sym f ∙ z) }

    module _ (tested : nodes_refusal g 0 (g.start ∷ []) list ≡ none) (after : List ℕ) where
      by_yield : (b : Bool) → b ≡ spells g sentence (tree_of_list g list) → tree_refusal g sentence list ≡ refuse_if (not b) (Refusal.Analysis 22 0)
      by_yield b e = by_nodes none tested ∙ ap (λ (b : Bool). refuse_if (not b) (Refusal.Analysis 22 0)) (sym e)

      pub tree_spelled : (n : ℕ) → n ≡ length list → (b : Bool) → b ≡ true → Spelled g sentence list after b → TreeSays g sentence list after (Ok n)
      tree_spelled n e b t h =
          record { answer = accepted (tree_refusal g sentence list) (length list) n (by_yield true (sym t ∙ h.spelled)) e; stored = λ z. h.stored t }

      pub tree_other : (b : Bool) → b ≡ false → Spelled g sentence list after b → TreeSays g sentence list after (Err (Refusal.Analysis 22 0))
      tree_other b t h =
          let e = by_yield false (sym t ∙ h.spelled) in
          record { answer = refused (tree_refusal g sentence list) (length list) (Refusal.Analysis 22 0) e; stored = λ z. none_some (sym e ∙ z) }

  -- what is written
  module _ (v : Verdict) (after : List ℕ) (says : TreeSays g sentence list after v) where
    none_met : {m : ℕ} → v ≡ Ok m → tree_refusal g sentence list ≡ none
    none_met e = passed (tree_refusal g sentence list) (length list) v says.answer e

    pub list_few : {m : ℕ} → v ≡ Ok m → length list ≤ 96
    list_few e = ltb-false 96 (length list) (no_refusal (ltb 96 (length list)) (Refusal.Analysis 12 0) (first_of (length_refusal list) (N or_else refuse_if (not (spells g sentence (tree_of_list g list))) (Refusal.Analysis 22 0)) (none_met e)))

    pub trace_room : {m : ℕ} → v ≡ Ok m → length after ≡ 96
    trace_room e = (says.stored (none_met e)).0

    pub trace_written : (out last : List ℕ) → last ≡ take (length list) after ++ drop (length list) out → {m : ℕ} → v ≡ Ok m
        → (v ≡ verdict (tree_refusal g sentence list) (length list)) × (last ≡ written (tree_refusal g sentence list) (trace_of g sentence list) out)
    trace_written out last e f =
        let z = none_met f in
        let s = (says.stored z).1 in
        let n : length (trace_of g sentence list) ≡ length list = sym (ap length s) ∙ length_take_few in (
          says.answer,
          e ∙ ap₂ (λ (t : List ℕ) (n : ℕ). t ++ drop n out) s (sym n) ∙ sym (ap (λ (o : Option Refusal). written o (trace_of g sentence list) out) z),
        )
      where
        length_take_few : length (take (length list) after) ≡ length list
        length_take_few = omega (arith, length-take (length list) after, list_few f, trace_room f)

    pub none_written : (out : List ℕ) {x : Refusal} → v ≡ Err x
        → (v ≡ verdict (tree_refusal g sentence list) (length list)) × (out ≡ written (tree_refusal g sentence list) (trace_of g sentence list) out)
    none_written out e = (says.answer, sym (ap (λ (o : Option Refusal). written o (trace_of g sentence list) out) (met (tree_refusal g sentence list) (length list) v says.answer e)))
