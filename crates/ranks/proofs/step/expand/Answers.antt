-- `ranks::step::expand` meets its contract.
-- Assumes nothing.
use mathlib.Core.Path.{◌≡◌, refl, sym, ap, ap₂, subst, subst⁻¹, ◌∙◌}
use mathlib.Core.Bool.{Bool, true}
use mathlib.Core.List.{List, [], ◌∷◌, ◌++◌, map}
use Prim.Native.Nat.{ℕ, ◌+◌, ◌-◌, ◌*◌}
use native.Mathlib.Omega.{arith}
use lib.ListN.{length, take}
use lib.Seq.{slice}
use Rattle.ranking.specs.Ranks.{shifted}
use Rattle.ranks.specs.Prediction.{remade}
use Rattle.ranks.specs.Queue.{Steps, Next}
use Rattle.ranks.specs.Table.{of_two}
use Rattle.ranks.specs.Step.{ExpandsWide, expanded_wide, ExpandsTwo, expanded_two}
use Rattle.ranks.proofs.Expanding.{dimension_at, other_at, cells_at, daughters_at, step_fits, short, behind, end_is, expands_wide, wide_written, expands_two, two_written, ready_small, length_at, narrow_written}
use Rattle.ranks.proofs.Stepping.{read_as}
use Rattle.ranks.proofs.step.expand.Goals as goal

-- what is written under other names
written_as : (w w' : List ℕ) (to : ℕ) {l m : List ℕ} {e f : ℕ} → l ≡ m → e ≡ f → Next l w w' to e → Next m w w' to f
written_as w w' to {m = m} {e = e} p q h = subst (λ (x : ℕ). Next m w w' to x) q (subst (λ (x : List ℕ). Next x w w' to e) p h)

-- what `of_two_lem` answers, of the cells of rule r
of_two_at : (t : List ℕ) (at r : ℕ) (b : Bool) → b ≡ of_two t at → at ≡ 8 * r → b ≡ true → of_two t (8 * r) ≡ true
of_two_at t at r b e f h = sym (ap (of_two t) f) ∙ sym e ∙ h

pub daughters-d-requires : goal.daughters-d-requires
daughters-d-requires c =
    let a = c.args in
    let p = c.requires in
    cells_at p.grammar a.t.now a.w.now a.r.0 a.mark a.from a.to p.expands c.place_of-at.result c.place_of-at.ensures

pub dimension-requires : goal.dimension-requires
dimension-requires c =
    let a = c.args in
    let p = c.requires in
    cells_at p.grammar a.t.now a.w.now a.r.0 a.mark a.from a.to p.expands c.place_of-at.result c.place_of-at.ensures

pub first_length-len-requires : goal.first_length-len-requires
first_length-len-requires c =
    let a = c.args in
    let p = c.requires in
    cells_at p.grammar a.t.now a.w.now a.r.0 a.mark a.from a.to p.expands c.place_of-at.result c.place_of-at.ensures

pub all_ready_made-requires : goal.all_ready_made-requires
all_ready_made-requires c =
    let a = c.args in
    let p = c.requires in
    let at = c.place_of-at in
    let d = c.dimension in
    let is_one = dimension_at p.grammar a.t.now a.w.now a.r.0 a.mark a.from a.to p.expands at.result d.result 1 at.ensures d.ensures c.if-dimension-eq1.true in
    (cells_at p.grammar a.t.now a.w.now a.r.0 a.mark a.from a.to p.expands at.result at.ensures, λ j l. ready_small p.grammar a.t.now a.w.now a.r.0 a.mark a.from a.to p.expands is_one at.result j (at.result + 2 + 2 * j) at.ensures l refl, omega (arith, p.expands.small))

pub expand_narrow-requires : goal.expand_narrow-requires
expand_narrow-requires c =
    let a = c.args in
    let p = c.requires in
    let at = c.place_of-at in
    let n = c.daughters-d in
    let d = c.dimension in
    let f = c.first_length-len in
    let is_one = dimension_at p.grammar a.t.now a.w.now a.r.0 a.mark a.from a.to p.expands at.result d.result 1 at.ensures d.ensures c.if-dimension-eq1.true in (
      subst⁻¹ (λ (n : ℕ). Steps a.w.now a.from a.to n) (daughters_at p.grammar a.t.now a.w.now a.r.0 a.mark a.from a.to p.expands at.result n.result at.ensures n.ensures.0) (step_fits p.grammar a.t.now a.w.now a.r.0 a.mark a.from a.to p.expands),
      short p.grammar a.t.now a.w.now a.r.0 a.mark a.from a.to p.expands,
      behind p.grammar a.t.now a.w.now a.r.0 a.mark a.from a.to p.expands,
      length_at p.grammar a.t.now a.w.now a.r.0 a.mark a.from a.to p.expands is_one at.result f.result at.ensures f.ensures,
    )

pub returns-then-dimension-eq1 : goal.returns-then-dimension-eq1
returns-then-dimension-eq1 c =
    let a = c.args in
    let at = c.place_of-at in
    let n = c.daughters-d in
    let d = c.dimension in
    let f = c.first_length-len in
    let e = c.all_ready_made in
    record {
      of_grammar = λ g h.
          let k : n.result ≡ length h.rule.daughters = daughters_at g a.t.now a.w.now a.r.0 a.mark a.from a.to h at.result n.result at.ensures n.ensures.0 in
          let is_one = dimension_at g a.t.now a.w.now a.r.0 a.mark a.from a.to h at.result d.result 1 at.ensures d.ensures c.if-dimension-eq1.true in
          written_as a.w.now c.expand_narrow.new.w a.to
          (ap (λ (m : ℕ). take m e.result ++ map (remade (shifted (0 ∷ []) (f.result ∷ []))) (slice (a.from + 1) a.to a.w.now)) k
          ∙ narrow_written g a.t.now a.w.now a.r.0 a.mark a.from a.to h is_one at.result f.result e.result at.ensures f.ensures e.ensures)
          (ap (λ (m : ℕ). a.to + m + (a.to - (a.from + 1))) k ∙ end_is g a.t.now a.w.now a.r.0 a.mark a.from a.to h) c.expand_narrow.ensures;
    }

pub of_two-requires : goal.of_two-requires
of_two-requires c =
    let a = c.args in
    let p = c.requires in
    cells_at p.grammar a.t.now a.w.now a.r.0 a.mark a.from a.to p.expands c.place_of-at.result c.place_of-at.ensures

pub expand_wide-requires : goal.expand_wide-requires
expand_wide-requires c =
    let a = c.args in
    let p = c.requires in
    let at = c.place_of-at in
    let n = c.daughters-d in
    let d = c.dimension in
    let more = other_at p.grammar a.t.now a.w.now a.r.0 a.mark a.from a.to p.expands at.result d.result 1 at.ensures d.ensures c.if-dimension-eq1.false in
    read_as (λ (i m : ℕ). ExpandsWide a.t.now i m a.mark a.w.now a.from a.to) at.ensures (daughters_at p.grammar a.t.now a.w.now a.r.0 a.mark a.from a.to p.expands at.result n.result at.ensures n.ensures.0) (expands_wide p.grammar a.t.now a.w.now a.r.0 a.mark a.from a.to p.expands more)

pub returns-then-not-of_two : goal.returns-then-not-of_two
returns-then-not-of_two c =
    let a = c.args in
    let at = c.place_of-at in
    let n = c.daughters-d in
    let d = c.dimension in
    record {
      of_grammar = λ g h.
          let k : n.result ≡ length h.rule.daughters = daughters_at g a.t.now a.w.now a.r.0 a.mark a.from a.to h at.result n.result at.ensures n.ensures.0 in
          let more = other_at g a.t.now a.w.now a.r.0 a.mark a.from a.to h at.result d.result 1 at.ensures d.ensures c.if-dimension-eq1.false in
          written_as a.w.now c.expand_wide.new.w a.to
          (ap₂ (λ (i m : ℕ). expanded_wide a.t.now i m a.mark a.w.now a.from a.to) at.ensures k ∙ wide_written g a.t.now a.w.now a.r.0 a.mark a.from a.to h more)
          (ap (λ (m : ℕ). a.to + m + (a.to - (a.from + 1))) k ∙ end_is g a.t.now a.w.now a.r.0 a.mark a.from a.to h) c.expand_wide.ensures;
    }

pub expand_two-requires : goal.expand_two-requires
expand_two-requires c =
    let a = c.args in
    let p = c.requires in
    let at = c.place_of-at in
    let n = c.daughters-d in
    let d = c.dimension in
    let i = c.of_two in
    let more = other_at p.grammar a.t.now a.w.now a.r.0 a.mark a.from a.to p.expands at.result d.result 1 at.ensures d.ensures c.if-dimension-eq1.false in
    let two = of_two_at a.t.now at.result a.r.0 i.result i.ensures at.ensures c.if-not-of_two.false in
    read_as (λ (i m : ℕ). ExpandsTwo a.t.now i m a.mark a.w.now a.from a.to) at.ensures (daughters_at p.grammar a.t.now a.w.now a.r.0 a.mark a.from a.to p.expands at.result n.result at.ensures n.ensures.0) (expands_two p.grammar a.t.now a.w.now a.r.0 a.mark a.from a.to p.expands more two)

pub returns : goal.returns
returns c =
    let a = c.args in
    let at = c.place_of-at in
    let n = c.daughters-d in
    let d = c.dimension in
    let i = c.of_two in
    record {
      of_grammar = λ g h.
          let k : n.result ≡ length h.rule.daughters = daughters_at g a.t.now a.w.now a.r.0 a.mark a.from a.to h at.result n.result at.ensures n.ensures.0 in
          let more = other_at g a.t.now a.w.now a.r.0 a.mark a.from a.to h at.result d.result 1 at.ensures d.ensures c.if-dimension-eq1.false in
          let two = of_two_at a.t.now at.result a.r.0 i.result i.ensures at.ensures c.if-not-of_two.false in
          written_as a.w.now c.expand_two.new.w a.to
          (ap₂ (λ (i m : ℕ). expanded_two a.t.now i m a.mark a.w.now a.from a.to) at.ensures k ∙ two_written g a.t.now a.w.now a.r.0 a.mark a.from a.to h more two)
          (ap (λ (m : ℕ). a.to + m + (a.to - (a.from + 1))) k ∙ end_is g a.t.now a.w.now a.r.0 a.mark a.from a.to h) c.expand_two.ensures;
    }
