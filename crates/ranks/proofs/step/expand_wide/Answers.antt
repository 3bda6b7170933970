-- `ranks::step::expand_wide` meets its contract.
-- Assumes nothing.
use mathlib.Core.Path.{ap, subst, subst⁻¹, ◌∙◌}
use mathlib.Core.List.{List, map}
use Prim.Native.Nat.{ℕ, ◌+◌, ◌-◌}
use native.Mathlib.Omega.{arith}
use lib.ListN.{length, get_or, take}
use lib.Seq.{slice}
use Rattle.ranking.specs.Ranks.{shifted}
use Rattle.ranks.specs.declared.prediction.Moves.{Moves}
use Rattle.ranks.specs.Prediction.{Apart, ranks, unpacked, remade}
use Rattle.ranks.specs.Queue.{Every, Steps, Next, insert_all}
use Rattle.ranks.specs.Moves.{moves_ranks, moves_lengths, gathered, lengths_of, Bounded, begun, Begins}
use Rattle.ranks.specs.Step.{Makes}
use Rattle.ranks.proofs.Stepping.{made_length, next_as, wide_next}
use Rattle.ranks.proofs.step.expand_wide.Goals as goal

pub bases-b-requires : goal.bases-b-requires
bases-b-requires c =
    let a = c.args in
    subst⁻¹ (λ (n : ℕ). Begins (get_or a.w.now a.from 0) n) c.lengths-lens.ensures c.requires.1

pub all_made_at-e-requires : goal.all_made_at-e-requires
all_made_at-e-requires c =
    let a = c.args in
    let is = c.bases-b.ensures ∙ ap (λ (n : ℕ). ranks (begun (get_or a.w.now a.from 0) n)) c.lengths-lens.ensures in
    (c.requires.0.rule, ap length is, λ j _ l. subst⁻¹ (λ (bs : List ℕ). Makes a.t.now a.at j bs a.mark) is (c.requires.0.makes j l))

pub replace-requires : goal.replace-requires
replace-requires c =
    let a = c.args in
    let p = c.requires.0 in
    let is = c.moves_of.ensures ∙ ap (λ (n : ℕ). gathered (ranks (unpacked (get_or a.w.now a.from 0))) (lengths_of n)) c.lengths-lens.ensures in (
      subst⁻¹ (λ (n : ℕ). Steps a.w.now a.from a.to n) (made_length _ _ _ p.steps.few c.all_made_at-e.ensures) p.steps,
      omega (arith, made_length _ _ _ p.steps.few c.all_made_at-e.ensures, p.some),
      p.short,
      p.behind,
      subst⁻¹ (λ (n : Moves). Every (Apart (moves_ranks n) (moves_lengths n)) a.w.now (a.from + 1) a.to) is p.apart,
      subst⁻¹ Bounded is p.bounded,
    )

pub returns : goal.returns
returns c =
    let a = c.args in
    let p = c.requires.0 in
    let l = c.lengths-lens in
    let b = c.bases-b in
    let e = c.all_made_at-e in
    let m = c.moves_of in
    let es = take a.d e.result in
    let next = subst (λ (n : ℕ). Next (insert_all es (map (remade (shifted (moves_ranks m.result) (moves_lengths m.result))) (slice (a.from + 1) a.to a.w.now))) a.w.now c.replace.new.w a.to (a.to + n + (a.to - (a.from + 1)))) (made_length _ _ _ p.steps.few e.ensures) c.replace.ensures in
    next_as a.w.now c.replace.new.w a.to
    (wide_next a.t.now a.at a.d a.mark b.result m.result a.w.now a.from a.to es e.ensures
    (b.ensures ∙ ap (λ (n : ℕ). ranks (begun (get_or a.w.now a.from 0) n)) l.ensures)
    (m.ensures ∙ ap (λ (n : ℕ). gathered (ranks (unpacked (get_or a.w.now a.from 0))) (lengths_of n)) l.ensures))
    next
