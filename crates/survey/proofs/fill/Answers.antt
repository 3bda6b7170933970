-- `survey::fill` meets its contract.
-- Assumes nothing.
use Prim.Native.Nat.{◌+◌, ◌≤◌}
use native.Mathlib.Omega.{arith}
use borrow.Author.Rules.{rules}
use Rattle.model.specs.GrammarFile.{categories_of}
use Rattle.survey.proofs.Rounds.{next_round, last_round, idle_round}
use Rattle.survey.proofs.fill.Goals as goal

pub loop-round-preserved : goal.loop-round-preserved
loop-round-preserved c =
    (search rules, next_round c.args.file.now c.requires.0 c.loop-round.round c.loop-round.figures _ (omega arith) c.loop-round.invariant.1 c.visit_all.ensures.0)

pub returns-then-not-visit_all : goal.returns-then-not-visit_all
returns-then-not-visit_all c =
    let v = c.visit_all in
    let below : c.loop-round.round ≤ categories_of c.args.file.now = omega arith in
    idle_round c.args.file.now c.requires.0 c.loop-round.round c.loop-round.figures _ (omega arith) below c.loop-round.invariant.1 v.ensures.0 (v.ensures.1 c.if-not-visit_all.true)

pub returns-else-not-visit_all : goal.returns-else-not-visit_all
returns-else-not-visit_all c =
    let f = c.args.file.now in
    last_round f c.requires.0 (c.loop-round.round + 1) _ (omega arith)
    (next_round f c.requires.0 c.loop-round.round c.loop-round.figures _ (omega arith) c.loop-round.invariant.1 c.visit_all.ensures.0)
