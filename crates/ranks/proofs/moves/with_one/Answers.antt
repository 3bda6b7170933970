-- `ranks::moves::with_one` meets its contract.
-- Assumes nothing.
use mathlib.Core.Path.{sym, ap, ◌∙◌}
use mathlib.Core.Bool.{Bool}
use native.Mathlib.Omega.{arith}
use borrow.Author.Tests.{eq-eqb, ne_eqb}
use Rattle.ranks.specs.Moves.{with_if, with_other}
use Rattle.ranks.proofs.moves.with_one.Goals as goal

pub returns-then-len-eq1 : goal.returns-then-len-eq1
returns-then-len-eq1 c =
    let a = c.args in
    sym (ap (λ (b : Bool). with_if b a.m a.f a.len) (eq-eqb a.len 1 (omega (arith, c.if-len-eq1.true))))

pub returns-then-f-eq0 : goal.returns-then-f-eq0
returns-then-f-eq0 c =
    let a = c.args in
    sym (ap (λ (b : Bool). with_if b a.m a.f a.len) (ne_eqb a.len 1 c.if-len-eq1.false) ∙ ap (λ (b : Bool). with_other b a.m a.f a.len) (eq-eqb a.f 0 c.if-f-eq0.true))

pub returns : goal.returns
returns c =
    let a = c.args in
    sym (ap (λ (b : Bool). with_if b a.m a.f a.len) (ne_eqb a.len 1 c.if-len-eq1.false) ∙ ap (λ (b : Bool). with_other b a.m a.f a.len) (ne_eqb a.f 0 c.if-f-eq0.false))
