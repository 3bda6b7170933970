-- `survey::visit_rule` meets its contract.
-- Assumes nothing.
use mathlib.Core.Path.{◌≡◌, refl, sym, ap, ◌∙◌}
use Prim.Native.Nat.{ℕ}
use native.Mathlib.Omega.{arith}
use lib.ListN.{get_or, set}
use Rattle.model.specs.GrammarFile.{field, record_of}
use Rattle.survey.proofs.Visit.{category_below, visit_figured, visit_unready, visit_due}
use Rattle.model.proofs.Tests.{not_both}
use Rattle.survey.proofs.visit_rule.Goals as goal
use Rattle.survey.proofs.visit_rule.Goals.{then-number_at-ne0-via-then-number_at-ne0, then-number_at-ne0-via-else-number_at-ne0+then-not-daughters_ready}

pub returns-then-number_at-ne0 : goal.returns-then-number_at-ne0
returns-then-number_at-ne0 c =
    let f = c.args.file.now in
    let r = c.args.r.0 in
    let F = c.args.figures.now in
    let a = c.from-i.ensures ∙ c.category_of.ensures in
    let x : c.number_at.result ≡ get_or F (field (record_of f r) 0) 0 = c.number_at.ensures ∙ ap (λ (k : ℕ). get_or F k 0) a in
    elim c.then-number_at-ne0.branch [
      | then-number_at-ne0-via-then-number_at-ne0 w ↦
          (sym (visit_figured f c.requires.0 r c.requires.1 c.args.round F (λ z. w.if-number_at-ne0.true (x ∙ z))), λ n. refl)
      | then-number_at-ne0-via-else-number_at-ne0+then-not-daughters_ready w ↦
          (sym (visit_unready f c.requires.0 r c.requires.1 c.args.round F (sym x ∙ w.if-number_at-ne0.false) (sym w.daughters_ready.ensures ∙ w.if-not-daughters_ready.true)), λ n. refl)
    ]

pub bounds-figures-i : goal.bounds-figures-i
bounds-figures-i c =
    omega (arith, category_below c.args.file.now c.requires.0 c.args.r.0 c.requires.1, c.category_of.ensures, c.from-i.ensures)

pub returns : goal.returns
returns c =
    let f = c.args.file.now in
    let r = c.args.r.0 in
    let F = c.args.figures.now in
    let a = c.from-i.ensures ∙ c.category_of.ensures in
    let x : c.number_at.result ≡ get_or F (field (record_of f r) 0) 0 = c.number_at.ensures ∙ ap (λ (k : ℕ). get_or F k 0) a in
    (sym (visit_due f c.requires.0 r c.requires.1 c.args.round F (sym x ∙ c.if-number_at-ne0.false) (sym c.daughters_ready.ensures ∙ c.if-not-daughters_ready.false) ∙ ap (λ (k : ℕ). set F k c.args.round) (sym a)), λ n. not_both n)
