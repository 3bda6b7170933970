-- `survey::visit_all` meets its contract.
-- Assumes nothing.
use mathlib.Core.Path.{◌≡◌, sym, ap, ◌∙◌}
use mathlib.Core.List.{List}
use native.Mathlib.Omega.{arith}
use native.Mathlib.Numerals.{add-one}
use Prim.Native.Nat.{ℕ}
use borrow.Author.Rules.{rules}
use lib.ListN.{length}
use Rattle.model.specs.GrammarFile.{grammar_of}
use Rattle.model.specs.Survey.{visit, visits}
use Rattle.model.proofs.WellFormed.{rules_length}
use Rattle.model.proofs.Tests.{not_both}
use Rattle.survey.proofs.visit_all.Goals as goal
use Rattle.survey.proofs.visit_all.Goals.{then-visit_rule, else-visit_rule}

pub loop-r-preserved : goal.loop-r-preserved
loop-r-preserved c =
    let v = c.visit_rule in (
      search rules,
      rw add-one (v.ensures.0 ∙ ap (λ (F : List ℕ). visit (grammar_of c.args.file.now) c.args.round F c.loop-r.r) c.loop-r.invariant.1),
      elim c.if-visit_rule.branch [
        | then-visit_rule w ↦ λ n. not_both (sym w.changed-is ∙ n)
        | else-visit_rule w ↦ λ n. v.ensures.1 w.if-visit_rule.false ∙ c.loop-r.invariant.2 (sym w.changed-is ∙ n)
      ],
    )

pub returns : goal.returns
returns c =
    let f = c.args.file.now in
    let e : c.loop-r.r ≡ length (grammar_of f).rules = omega (arith, rules_length f) in
    (c.loop-r.invariant.1 ∙ ap (visits (grammar_of f) c.args.round c.args.figures.now) e, c.loop-r.invariant.2)
