-- `steps::step` meets its contract.
-- Assumes nothing.
use mathlib.Core.Path.{◌≡◌, refl, sym, ap, ◌∙◌}
use mathlib.Core.Bool.{Bool, true, false, not}
use Prim.Native.Nat.{ℕ}
use borrow.Author.Tests.{eqb-true, eq-eqb}
use lib.Dec.{eqb}
use native.Mathlib.Omega.{arith}
use Rattle.model.specs.GrammarFile.{grammar_of}
use Rattle.model.proofs.FromFile.{rule_read, rule_read_lem}
use Rattle.ranks.specs.Table.{category_in}
use Rattle.grammar.proofs.OfGrammar.{rule_none}
use Rattle.steps.proofs.Applying.{no_rule, no_prediction, other_category}
use Rattle.steps.proofs.step.Goals as goal

-- what a comparison by `!=` says of two numbers
same : (b : Bool) (x y : ℕ) → b ≡ not (eqb x y) → b ≡ false → x ≡ y
same b x y e f = go (eqb x y) refl (sym e ∙ f)
  where
    go : (t : Bool) → eqb x y ≡ t → not t ≡ false → x ≡ y
    go true h k = eqb-true x y h
    go false h k = cc

other : (b : Bool) (x y : ℕ) → b ≡ not (eqb x y) → b ≡ true → x ≡ y → ⊥
other b x y e f q = go (eqb x y) (eq-eqb x y q) (sym e ∙ f)
  where
    go : (t : Bool) → t ≡ true → not t ≡ true → ⊥
    go true h k = cc
    go false h k = cc

pub returns-then-rules-r : goal.returns-then-rules-r
returns-then-rules-r c =
    let a = c.args in
    no_rule (grammar_of a.file.now) a.t.now a.sentence.now a.w.now a.at c.requires a.r.0 (rule_none a.file.now a.r.0 (omega (arith, c.rules.ensures, c.if-rules-r.true)))

pub returns-then-at-from : goal.returns-then-at-from
returns-then-at-from c =
    let a = c.args in
    no_prediction (grammar_of a.file.now) a.t.now a.sentence.now a.w.now a.at c.requires a.r.0 (rule_read a.file.now a.r.0) (rule_read_lem a.file.now a.r.0 (omega (arith, c.rules.ensures, c.if-rules-r.false))) c.if-at-from.true

pub category-requires : goal.category-requires
category-requires c =
    let a = c.args in
    let is = rule_read_lem a.file.now a.r.0 (omega (arith, c.rules.ensures, c.if-rules-r.false)) in
    omega (arith, c.place_of.ensures, (c.requires.compiled a.r.0 (rule_read a.file.now a.r.0) is).room)

pub returns-then-ne : goal.returns-then-ne
returns-then-ne c =
    let a = c.args in
    let is = rule_read_lem a.file.now a.r.0 (omega (arith, c.rules.ensures, c.if-rules-r.false)) in
    let cell = c.category.ensures ∙ ap (category_in a.t.now) c.place_of.ensures ∙ (c.requires.compiled a.r.0 (rule_read a.file.now a.r.0) is).category in
    other_category (grammar_of a.file.now) a.t.now a.sentence.now a.w.now a.at c.requires a.r.0 (rule_read a.file.now a.r.0) is c.if-at-from.false (λ e. other _ _ _ c.ne.ensures c.if-ne.true (cell ∙ e ∙ sym c.category-2.ensures.0))

pub apply-requires : goal.apply-requires
apply-requires c =
    let a = c.args in
    let is = rule_read_lem a.file.now a.r.0 (omega (arith, c.rules.ensures, c.if-rules-r.false)) in
    let cell = c.category.ensures ∙ ap (category_in a.t.now) c.place_of.ensures ∙ (c.requires.compiled a.r.0 (rule_read a.file.now a.r.0) is).category in
    record {
      grammar = grammar_of a.file.now;
      ready = c.requires;
      fronted = record { predicted = c.if-at-from.false; rule = rule_read a.file.now a.r.0; rule_is = is; of_front = sym cell ∙ same _ _ _ c.ne.ensures c.if-ne.false ∙ c.category-2.ensures.0 };
    }

pub returns : goal.returns
returns c =
    let a = c.args in
    let is = rule_read_lem a.file.now a.r.0 (omega (arith, c.rules.ensures, c.if-rules-r.false)) in
    let cell = c.category.ensures ∙ ap (category_in a.t.now) c.place_of.ensures ∙ (c.requires.compiled a.r.0 (rule_read a.file.now a.r.0) is).category in
    c.apply.ensures.of_grammar (grammar_of a.file.now) c.requires
    (record { predicted = c.if-at-from.false; rule = rule_read a.file.now a.r.0; rule_is = is; of_front = sym cell ∙ same _ _ _ c.ne.ensures c.if-ne.false ∙ c.category-2.ensures.0 })
