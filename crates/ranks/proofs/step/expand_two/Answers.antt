-- `ranks::step::expand_two` meets its contract.
-- Assumes nothing.
use mathlib.Core.Path.{sym, subst, ◌∙◌}
use mathlib.Core.List.{[], ◌∷◌}
use Prim.Native.Nat.{ℕ, ◌+◌, ◌-◌}
use native.Mathlib.Omega.{arith}
use lib.ListN.{length, get_or, take}
use Rattle.ranking.specs.Ranks.{shifted}
use Rattle.ranks.specs.Prediction.{remade}
use Rattle.ranks.specs.Queue.{Placed}
use Rattle.ranks.proofs.Stepping.{made_length, others_behind}
use Rattle.ranks.proofs.TwoStep.{arm_first, arm_second, makes_two, others_go, two_next}
use Rattle.ranks.proofs.step.expand_two.Goals as goal

pub overflow_sub-f1 : goal.overflow_sub-f1
overflow_sub-f1 c = omega (arith, c.rank-f1.ensures, c.requires.1.other (sym c.rank-f0.ensures ∙ c.if-f0-eq0.true))

pub all_made_two_at-e-requires : goal.all_made_two_at-e-requires
all_made_two_at-e-requires c =
    let a = c.args in
    let p = c.requires in
    let len0 = c.first_length-len0 in
    let len1 = c.second_length-len1 in
    let f0 = c.rank-f0 in
    let f1 = c.rank-f1 in
    let arm = arm_first (get_or a.w.now a.from 0) (get_or a.t.now (a.at + 1) 0) p.1 len0.result len1.result f0.result f1.result len0.ensures len1.ensures f0.ensures f1.ensures c.if-f0-eq0.true in
    (p.0.rule, λ j _ l. makes_two a.t.now a.at a.d a.mark a.w.now a.from a.to p 0 (f1.result + len0.result - 1) len0.result f1.result len1.result arm j (omega (arith, p.0.steps.few)) l)

pub advance_two-requires : goal.advance_two-requires
advance_two-requires c =
    let a = c.args in
    let p = c.requires in
    let len0 = c.first_length-len0 in
    let len1 = c.second_length-len1 in
    let f0 = c.rank-f0 in
    let f1 = c.rank-f1 in
    let arm = arm_first (get_or a.w.now a.from 0) (get_or a.t.now (a.at + 1) 0) p.1 len0.result len1.result f0.result f1.result len0.ensures len1.ensures f0.ensures f1.ensures c.if-f0-eq0.true in
    others_go a.t.now a.at a.d a.mark a.w.now a.from a.to p 0 (f1.result + len0.result - 1) len0.result f1.result len1.result arm

pub settle_some-requires : goal.settle_some-requires
settle_some-requires c =
    let a = c.args in
    let p = c.requires.0 in
    let e = c.all_made_two_at-e in
    others_behind (remade (shifted (0 ∷ (c.rank-f1.result ∷ [])) (c.first_length-len0.result ∷ (c.second_length-len1.result ∷ [])))) a.w.now c.advance_two.new.w a.from a.to a.d (length (take a.d e.result)) c.advance_two.ensures p.steps p.some (made_length _ _ _ p.steps.few e.ensures)

pub returns-then-f0-eq0 : goal.returns-then-f0-eq0
returns-then-f0-eq0 c =
    let a = c.args in
    let p = c.requires in
    let len0 = c.first_length-len0 in
    let len1 = c.second_length-len1 in
    let f0 = c.rank-f0 in
    let f1 = c.rank-f1 in
    let arm = arm_first (get_or a.w.now a.from 0) (get_or a.t.now (a.at + 1) 0) p.1 len0.result len1.result f0.result f1.result len0.ensures len1.ensures f0.ensures f1.ensures c.if-f0-eq0.true in
    let e = c.all_made_two_at-e in
    let go = c.advance_two in
    let set = c.settle_some in
    two_next a.t.now a.at a.d a.mark a.w.now a.from a.to p 0 (f1.result + len0.result - 1) len0.result f1.result len1.result arm (take a.d e.result) go.new.w set.new.w e.ensures go.ensures
    (subst (λ (n : ℕ). Placed (take a.d e.result) go.new.w set.new.w a.to n (a.to + a.d + (a.to - (a.from + 1)))) (made_length _ _ _ p.0.steps.few e.ensures) set.ensures)

pub all_made_two_at-e-requires-2 : goal.all_made_two_at-e-requires-2
all_made_two_at-e-requires-2 c =
    let a = c.args in
    let p = c.requires in
    let len0 = c.first_length-len0 in
    let len1 = c.second_length-len1 in
    let f0 = c.rank-f0 in
    let f1 = c.rank-f1 in
    let arm = arm_second (get_or a.w.now a.from 0) (get_or a.t.now (a.at + 1) 0) p.1 len0.result len1.result f0.result f1.result len0.ensures len1.ensures f0.ensures f1.ensures c.if-f0-eq0.false in
    (p.0.rule, λ j _ l. makes_two a.t.now a.at a.d a.mark a.w.now a.from a.to p 1 (f0.result + len1.result - 1) len1.result f0.result len0.result arm j (omega (arith, p.0.steps.few)) l)

pub advance_two-requires-2 : goal.advance_two-requires-2
advance_two-requires-2 c =
    let a = c.args in
    let p = c.requires in
    let len0 = c.first_length-len0 in
    let len1 = c.second_length-len1 in
    let f0 = c.rank-f0 in
    let f1 = c.rank-f1 in
    let arm = arm_second (get_or a.w.now a.from 0) (get_or a.t.now (a.at + 1) 0) p.1 len0.result len1.result f0.result f1.result len0.ensures len1.ensures f0.ensures f1.ensures c.if-f0-eq0.false in
    others_go a.t.now a.at a.d a.mark a.w.now a.from a.to p 1 (f0.result + len1.result - 1) len1.result f0.result len0.result arm

pub settle_some-requires-2 : goal.settle_some-requires-2
settle_some-requires-2 c =
    let a = c.args in
    let p = c.requires.0 in
    let e = c.all_made_two_at-e-2 in
    others_behind (remade (shifted (0 ∷ (c.rank-f0.result ∷ [])) (c.second_length-len1.result ∷ (c.first_length-len0.result ∷ [])))) a.w.now c.advance_two-2.new.w a.from a.to a.d (length (take a.d e.result)) c.advance_two-2.ensures p.steps p.some (made_length _ _ _ p.steps.few e.ensures)

pub returns : goal.returns
returns c =
    let a = c.args in
    let p = c.requires in
    let len0 = c.first_length-len0 in
    let len1 = c.second_length-len1 in
    let f0 = c.rank-f0 in
    let f1 = c.rank-f1 in
    let arm = arm_second (get_or a.w.now a.from 0) (get_or a.t.now (a.at + 1) 0) p.1 len0.result len1.result f0.result f1.result len0.ensures len1.ensures f0.ensures f1.ensures c.if-f0-eq0.false in
    let e = c.all_made_two_at-e-2 in
    let go = c.advance_two-2 in
    let set = c.settle_some-2 in
    two_next a.t.now a.at a.d a.mark a.w.now a.from a.to p 1 (f0.result + len1.result - 1) len1.result f0.result len0.result arm (take a.d e.result) go.new.w set.new.w e.ensures go.ensures
    (subst (λ (n : ℕ). Placed (take a.d e.result) go.new.w set.new.w a.to n (a.to + a.d + (a.to - (a.from + 1)))) (made_length _ _ _ p.0.steps.few e.ensures) set.ensures)
