-- `steps::make` meets its contract.
-- Assumes nothing.
use mathlib.Core.Path.{◌≡◌, sym, ap, subst, subst⁻¹, ◌∙◌}
use Prim.Native.Nat.{ℕ, ◌*◌}
use native.Mathlib.Omega.{arith}
use Rattle.ranks.specs.Table.{daughters_in}
use Rattle.ranks.specs.Step.{Expands, Expanded}
use Rattle.steps.specs.declared.Standing.{Standing}
use Rattle.std.specs.Prelude.{Ok}
use Rattle.steps.specs.Steps.{StepSays}
use Rattle.steps.proofs.Applying.{rule_small, advances, scan_roomy, scan_short, scan_behind, scan_says, open_fits, step_left, expands, expand_says}
use Rattle.steps.proofs.make.Goals as goal

pub daughters-d-requires : goal.daughters-d-requires
daughters-d-requires c =
    let a = c.args in
    let p = c.requires in
    omega (arith, c.place_of.ensures, rule_small p.grammar a.t.now p.sentence a.w.now a.at p.ready a.r.0 p.fronted)

pub scan-requires : goal.scan-requires
scan-requires c =
    let a = c.args in
    let p = c.requires in
    let e = sym (c.daughters-d.ensures.0 ∙ ap (daughters_in a.t.now) c.place_of.ensures) ∙ c.if-d-eq0.true in
    (scan_roomy p.grammar a.t.now p.sentence a.w.now a.at p.ready a.r.0 p.fronted e, scan_short p.grammar a.t.now p.sentence a.w.now a.at p.ready a.r.0 p.fronted e, scan_behind p.grammar a.t.now p.sentence a.w.now a.at p.ready a.r.0 p.fronted e)

pub ahead-requires : goal.ahead-requires
ahead-requires c =
    let a = c.args in
    let p = c.requires in
    (rule_small p.grammar a.t.now p.sentence a.w.now a.at p.ready a.r.0 p.fronted, advances p.grammar a.t.now p.sentence a.w.now a.at p.ready a.r.0 p.fronted)

pub returns-then-d-eq0 : goal.returns-then-d-eq0
returns-then-d-eq0 c =
    let a = c.args in
    let e = sym (c.daughters-d.ensures.0 ∙ ap (daughters_in a.t.now) c.place_of.ensures) ∙ c.if-d-eq0.true in
    record {
      of_grammar = λ g sentence ready front on.
          subst (λ (n : Standing). StepSays g a.t.now sentence a.w.now c.scan.new.w a.at a.r.0 (Ok n)) (sym c.ahead.ensures)
          (scan_says g a.t.now sentence a.w.now a.at ready a.r.0 front e on c.scan.new.w c.scan.ensures);
    }

pub first_daughter-mark-requires : goal.first_daughter-mark-requires
first_daughter-mark-requires c =
    let a = c.args in
    let e = c.daughters-d.ensures.0 ∙ ap (daughters_in a.t.now) c.place_of.ensures in
    let some : daughters_in a.t.now (8 * a.r.0) ≡ 0 → ⊥ = λ z. c.if-d-eq0.false (e ∙ z) in
    let p = c.requires in
    step_left p.grammar a.t.now p.sentence a.w.now a.at p.ready a.r.0 p.fronted some (open_fits p.grammar a.t.now p.sentence a.w.now a.at p.ready a.r.0 p.fronted some p.leads_on)

pub expand-requires : goal.expand-requires
expand-requires c =
    let a = c.args in
    let e = c.daughters-d.ensures.0 ∙ ap (daughters_in a.t.now) c.place_of.ensures in
    let some : daughters_in a.t.now (8 * a.r.0) ≡ 0 → ⊥ = λ z. c.if-d-eq0.false (e ∙ z) in
    let p = c.requires in
    record {
      grammar = p.grammar;
      expands = subst⁻¹ (λ (n : ℕ). Expands p.grammar a.t.now a.r.0 n a.w.now a.at.from a.at.to) c.first_daughter-mark.ensures (expands p.grammar a.t.now p.sentence a.w.now a.at p.ready a.r.0 p.fronted some (open_fits p.grammar a.t.now p.sentence a.w.now a.at p.ready a.r.0 p.fronted some p.leads_on));
    }

pub ahead-requires-then-d-eq1 : goal.ahead-requires-then-d-eq1
ahead-requires-then-d-eq1 c =
    let a = c.args in
    let p = c.requires in
    (rule_small p.grammar a.t.now p.sentence a.w.now a.at p.ready a.r.0 p.fronted, advances p.grammar a.t.now p.sentence a.w.now a.at p.ready a.r.0 p.fronted)

pub returns-then-d-eq1 : goal.returns-then-d-eq1
returns-then-d-eq1 c =
    let a = c.args in
    let e = c.daughters-d.ensures.0 ∙ ap (daughters_in a.t.now) c.place_of.ensures in
    let some : daughters_in a.t.now (8 * a.r.0) ≡ 0 → ⊥ = λ z. c.if-d-eq0.false (e ∙ z) in
    let w' = c.expand.new.w in
    let done = subst (λ (n : ℕ). Expanded a.t.now a.r.0 n a.w.now w' a.at.from a.at.to) c.first_daughter-mark.ensures c.expand.ensures in
    record {
      of_grammar = λ g sentence ready front on.
          let fits = open_fits g a.t.now sentence a.w.now a.at ready a.r.0 front some on in
          subst (λ (n : Standing). StepSays g a.t.now sentence a.w.now w' a.at a.r.0 (Ok n)) (sym c.ahead-then-d-eq1.ensures)
          (expand_says g a.t.now sentence a.w.now a.at ready a.r.0 front some fits w' (done.of_grammar g (expands g a.t.now sentence a.w.now a.at ready a.r.0 front some fits)));
    }

pub expand-requires-2 : goal.expand-requires-2
expand-requires-2 c =
    let a = c.args in
    let e = c.daughters-d.ensures.0 ∙ ap (daughters_in a.t.now) c.place_of.ensures in
    let some : daughters_in a.t.now (8 * a.r.0) ≡ 0 → ⊥ = λ z. c.if-d-eq0.false (e ∙ z) in
    let p = c.requires in
    record {
      grammar = p.grammar;
      expands = subst⁻¹ (λ (n : ℕ). Expands p.grammar a.t.now a.r.0 n a.w.now a.at.from a.at.to) c.first_daughter-mark.ensures (expands p.grammar a.t.now p.sentence a.w.now a.at p.ready a.r.0 p.fronted some (open_fits p.grammar a.t.now p.sentence a.w.now a.at p.ready a.r.0 p.fronted some p.leads_on));
    }

pub ahead-requires-2 : goal.ahead-requires-2
ahead-requires-2 c =
    let a = c.args in
    let p = c.requires in
    (rule_small p.grammar a.t.now p.sentence a.w.now a.at p.ready a.r.0 p.fronted, advances p.grammar a.t.now p.sentence a.w.now a.at p.ready a.r.0 p.fronted)

pub returns : goal.returns
returns c =
    let a = c.args in
    let e = c.daughters-d.ensures.0 ∙ ap (daughters_in a.t.now) c.place_of.ensures in
    let some : daughters_in a.t.now (8 * a.r.0) ≡ 0 → ⊥ = λ z. c.if-d-eq0.false (e ∙ z) in
    let w' = c.expand-2.new.w in
    let done = subst (λ (n : ℕ). Expanded a.t.now a.r.0 n a.w.now w' a.at.from a.at.to) c.first_daughter-mark.ensures c.expand-2.ensures in
    record {
      of_grammar = λ g sentence ready front on.
          let fits = open_fits g a.t.now sentence a.w.now a.at ready a.r.0 front some on in
          subst (λ (n : Standing). StepSays g a.t.now sentence a.w.now w' a.at a.r.0 (Ok n)) (sym c.ahead-2.ensures)
          (expand_says g a.t.now sentence a.w.now a.at ready a.r.0 front some fits w' (done.of_grammar g (expands g a.t.now sentence a.w.now a.at ready a.r.0 front some fits)));
    }
