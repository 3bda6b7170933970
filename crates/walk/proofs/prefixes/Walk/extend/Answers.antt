-- `walk::prefixes::Walk::extend` meets its contract.
-- Assumes nothing.
use mathlib.Core.Path.{refl, ap, ◌∙◌}
use Prim.Native.Nat.{ℕ}
use lib.ListN.{get_or}
use Rattle.walk.specs.Turns.{turn_or}
use Rattle.steps.proofs.Applying.{rule_small}
use Rattle.walk.proofs.OneStep.{next_to_try}
use Rattle.walk.proofs.Seeking.{named_own, may_find}
use Rattle.walk.proofs.Resuming.{small_turn, extend_found, extends}
use Rattle.walk.proofs.prefixes.Walk.extend.Goals as goal

pub next_rule-requires : goal.next_rule-requires
next_rule-requires c =
    let a = c.args in
    let p = c.requires in
    rule_small p.grammar a.tables.now.rules a.sentence.now a.self.now.queues a.at p.walking.trailed.ready a.r.0 p.fronted

pub find-x-requires : goal.find-x-requires
find-x-requires c =
    let a = c.args in
    let p = c.requires in
    let k = p.walking.trailed in
    may_find p.grammar a.tables.now.rules a.tables.now.chain a.sentence.now a.self.now.queues a.at k.ready k.chained _ _ c.next_rule.ensures
    (next_to_try p.grammar a.tables.now.rules a.tables.now.chain a.sentence.now a.self.now.queues a.at k.ready k.chained a.r.0 p.fronted _ refl)

pub turn_or-requires : goal.turn_or-requires
turn_or-requires c =
    let a = c.args in
    let p = c.requires in
    let n = extend_found a.tables.now.rules a.tables.now.chain a.sentence.now a.self.now.queues a.self.now.path a.self.now.turns a.at a.r.0 p _ c.next_rule.ensures _ c.find-x.ensures in
    (named_own _ _ c.find-x.ensures, small_turn p.grammar a.tables.now.rules a.sentence.now a.self.now.queues a.at p.walking.trailed.ready _ n.1)

pub make-requires : goal.make-requires
make-requires c =
    let a = c.args in
    let p = c.requires in
    record { grammar = p.grammar; sentence = a.sentence.now; ready = p.walking.trailed.ready; fronted = p.fronted; leads_on = p.leads_on }

pub returns : goal.returns
returns c =
    let a = c.args in
    let p = c.requires in
    let n = extend_found a.tables.now.rules a.tables.now.chain a.sentence.now a.self.now.queues a.self.now.path a.self.now.turns a.at a.r.0 p _ c.next_rule.ensures _ c.find-x.ensures in
    let is = c.turn_or.ensures ∙ ap (λ (x : ℕ). turn_or a.at x (get_or a.self.now.turns a.at.steps 0)) n.0 in
    record {
      of_grammar = λ g walking fronted on.
          extends g a.tables.now.rules a.tables.now.chain a.sentence.now a.self.now.queues a.self.now.path a.self.now.turns a.at walking a.r.0 fronted _ is _ _ (c.make.ensures.of_grammar g a.sentence.now walking.trailed.ready fronted on);
    }
