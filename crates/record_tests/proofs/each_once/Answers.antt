-- `record_tests::each_once` meets its contract. The loops keep: each variable of the daughters before j occurs once, and of daughter j those before c.
-- Assumes nothing.
use mathlib.Core.Path.{◌≡◌, refl, sym, ap, ap₂, ◌∙◌}
use mathlib.Core.List.{List}
use Prim.Native.Nat.{ℕ, ◌+◌, ◌*◌}
use borrow.Author.Tests.{eq-eqb, ne_eqb}
use Rattle.model.specs.Base.{all_below, occurrences}
use Rattle.model.specs.GrammarFile.{field, fields, dimension_in}
use Rattle.grammar.proofs.Below.{all_more, all_miss}
use native.Mathlib.Omega.{arith}
use Rattle.record_tests.proofs.each_once.Goals as goal
use Rattle.record_tests.proofs.each_once.Invariants.{once_at, daughter_once}

pub daughters-init : goal.daughters-init
daughters-init c = (omega arith, refl, refl)

pub loop-c-init : goal.loop-c-init
loop-c-init c = (omega arith, c.daughters.invariant.1, refl)

pub loop-c-preserved : goal.loop-c-preserved
loop-c-preserved c =
    let named = c.fields-named.result.now in
    let j = c.daughters.j in
    let i = c.loop-c.c in
    let here = eq-eqb (occurrences (4 * j + i) named) 1 (sym c.occurrences.ensures ∙ c.if-occurrences-ne1.false) in
    (omega arith, c.loop-c.invariant.1, all_more (once_at named j) i c.loop-c.invariant.2 here)

pub daughters-preserved : goal.daughters-preserved
daughters-preserved c =
    let dims = c.args.dimensions.now in
    let e = c.args.e.now in
    let named = c.fields-named.result.now in
    let j = c.daughters.j in
    let d = c.from-d.ensures ∙ c.dimension_in.ensures ∙ ap (dimension_in dims) c.record_daughter.ensures in
    let end : c.loop-c.c ≡ c.from-d.result = omega arith in
    let here = ap (all_below (once_at named j)) (sym (end ∙ d)) ∙ c.loop-c.invariant.2 in
    (omega arith, c.loop-c.invariant.1, all_more (daughter_once dims e named) j c.daughters.invariant.2 here)

pub returns-after-daughters : goal.returns-after-daughters
returns-after-daughters c =
    let dims = c.args.dimensions.now in
    let e = c.args.e.now in
    let named = c.fields-named.result.now in
    let all = c.fields-named.ensures ∙ ap (fields e 11) (c.from.ensures ∙ c.variables.ensures) in
    let end : c.daughters.j ≡ c.from-n.result = omega arith in
    c.daughters.invariant.1
    ∙ sym (ap₂ (λ (l : List ℕ) (n : ℕ). all_below (daughter_once dims e l) n) (sym all) (sym (end ∙ c.from-n.ensures ∙ c.record_daughters.ensures)) ∙ c.daughters.invariant.2)

pub returns-then-occurrences-ne1 : goal.returns-then-occurrences-ne1
returns-then-occurrences-ne1 c =
    let dims = c.args.dimensions.now in
    let e = c.args.e.now in
    let named = c.fields-named.result.now in
    let j = c.daughters.j in
    let d = c.from-d.ensures ∙ c.dimension_in.ensures ∙ ap (dimension_in dims) c.record_daughter.ensures in
    let all = c.fields-named.ensures ∙ ap (fields e 11) (c.from.ensures ∙ c.variables.ensures) in
    let i = c.loop-c.c in
    let missing = ne_eqb (occurrences (4 * j + i) named) 1 (λ one. c.if-occurrences-ne1.true (c.occurrences.ensures ∙ one)) in
    let daughter = all_miss (once_at named j) i (dimension_in dims (field e (2 + j))) (omega arith) missing in
    sym
    (ap (λ (l : List ℕ). all_below (daughter_once dims e l) (field e 1)) (sym all)
    ∙ all_miss (daughter_once dims e named) j (field e 1) (omega (arith, c.from-n.ensures, c.record_daughters.ensures)) daughter)
