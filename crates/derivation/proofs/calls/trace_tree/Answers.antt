-- `derivation::calls::trace_tree` meets its contract.
-- Assumes nothing.
use mathlib.Core.Path.{refl}
use mathlib.Core.List.{[], ◌∷◌}
use lib.ListN.{length}
use Rattle.model.specs.GrammarFile.{grammar_of}
use Rattle.model.specs.Tree.{nodes_refusal}
use Rattle.model.proofs.Verdicts.{handed_on, tests_pass, tests_met}
use Rattle.derivation.proofs.TreeCalls.{tree_long, tree_met, tree_spelled, tree_other}
use Rattle.derivation.proofs.calls.trace_tree.Goals as goal

pub returns-then-list-gt-MOST_STEPS : goal.returns-then-list-gt-MOST_STEPS
returns-then-list-gt-MOST_STEPS c =
    let a = c.args in
    tree_long (grammar_of a.file.now) a.sentence.now a.list.now c.if-list-gt-MOST_STEPS.true a.trace.now

pub returns-in_err-read_tree : goal.returns-in_err-read_tree
returns-in_err-read_tree c =
    let a = c.args in
    let k = c.read_tree in
    let g = grammar_of a.file.now in
    let N = nodes_refusal g 0 (g.start ∷ []) a.list.now in
    rw (handed_on c.from_residual.result c.from_residual.ensures.1) (tree_met g a.sentence.now a.list.now c.if-list-gt-MOST_STEPS.false _ (tests_met N k.result k.ensures.answer c.in_err-read_tree.was) a.trace.now)

pub spells-requires : goal.spells-requires
spells-requires c =
    let a = c.args in
    let k = c.read_tree in
    let g = grammar_of a.file.now in
    let N = nodes_refusal g 0 (g.start ∷ []) a.list.now in
    let e = tests_pass N k.result k.ensures.answer c.in_ok-read_tree.was in
    (c.requires, c.if-list-gt-MOST_STEPS.false, e, k.ensures.ended e)

pub returns-then-spells : goal.returns-then-spells
returns-then-spells c =
    let a = c.args in
    let k = c.read_tree in
    let s = c.spells in
    let g = grammar_of a.file.now in
    let N = nodes_refusal g 0 (g.start ∷ []) a.list.now in
    let e = tests_pass N k.result k.ensures.answer c.in_ok-read_tree.was in
    tree_spelled g a.sentence.now a.list.now c.if-list-gt-MOST_STEPS.false e _ (length a.list.now) refl s.result c.if-spells.true s.ensures

pub returns-else-spells : goal.returns-else-spells
returns-else-spells c =
    let a = c.args in
    let k = c.read_tree in
    let s = c.spells in
    let g = grammar_of a.file.now in
    let N = nodes_refusal g 0 (g.start ∷ []) a.list.now in
    let e = tests_pass N k.result k.ensures.answer c.in_ok-read_tree.was in
    tree_other g a.sentence.now a.list.now c.if-list-gt-MOST_STEPS.false e _ s.result c.if-spells.false s.ensures
