-- `steps::apply` meets its contract.
-- Assumes nothing.
use mathlib.Core.Path.{sym, ap, ◌∙◌}
use native.Mathlib.Omega.{arith}
use Rattle.ranks.specs.Table.{daughters_in}
use Rattle.steps.proofs.Applying.{rule_small, advances, other_says, long_says}
use Rattle.steps.proofs.apply.Goals as goal

pub opens-requires : goal.opens-requires
opens-requires c =
    let a = c.args in
    let p = c.requires in
    (rule_small p.grammar a.t.now a.sentence.now a.w.now a.at p.ready a.r.0 p.fronted, advances p.grammar a.t.now a.sentence.now a.w.now a.at p.ready a.r.0 p.fronted)

pub make-requires : goal.make-requires
make-requires c =
    let a = c.args in
    let p = c.requires in
    record { grammar = p.grammar; sentence = a.sentence.now; ready = p.ready; fronted = p.fronted; leads_on = sym c.opens.ensures ∙ c.if-opens.true }

pub returns-then-opens : goal.returns-then-opens
returns-then-opens c =
    let a = c.args in
    record { of_grammar = λ g ready front. c.make.ensures.of_grammar g a.sentence.now ready front (sym c.opens.ensures ∙ c.if-opens.true) }

pub daughters-requires : goal.daughters-requires
daughters-requires c =
    let a = c.args in
    let p = c.requires in
    omega (arith, c.place_of.ensures, rule_small p.grammar a.t.now a.sentence.now a.w.now a.at p.ready a.r.0 p.fronted)

pub returns-then-daughters-eq0 : goal.returns-then-daughters-eq0
returns-then-daughters-eq0 c =
    let a = c.args in
    let e = sym (c.daughters.ensures.0 ∙ ap (daughters_in a.t.now) c.place_of.ensures) in
    record { of_grammar = λ g ready front. other_says g a.t.now a.sentence.now a.w.now a.at ready a.r.0 front (e ∙ c.if-daughters-eq0.true) (sym c.opens.ensures ∙ c.if-opens.false) }

pub returns : goal.returns
returns c =
    let a = c.args in
    let e = sym (c.daughters.ensures.0 ∙ ap (daughters_in a.t.now) c.place_of.ensures) in
    record { of_grammar = λ g ready front. long_says g a.t.now a.sentence.now a.w.now a.at ready a.r.0 front (λ z. c.if-daughters-eq0.false (sym e ∙ z)) (sym c.opens.ensures ∙ c.if-opens.false) }
