-- `writer::given_refusal` meets its contract.
-- Assumes nothing.
use mathlib.Core.Path.{sym, ap, ◌∙◌}
use mathlib.Core.Bool.{not}
use mathlib.Core.List.{List}
use Prim.Native.Nat.{ℕ, ◌*◌}
use native.Mathlib.Omega.{arith}
use borrow.Author.Tests.{lt-ltb, le-ltb, eq-eqb, ne_eqb}
use lib.ListN.{length}
use Rattle.model.specs.Verdict.{tested}
use Rattle.model.specs.GrammarFile.{fields}
use Rattle.rule_tests.specs.declared.layout.Layout.{Layout}
use Rattle.rule_tests.specs.Layout.{record_in}
use Rattle.rule_tests.specs.Rules.{rules_refusal}
use Rattle.writer.specs.Writing.{heading}
use Rattle.writer.proofs.Outcome.{bytes_given, given_fits, no_dimensions, too_many_rules, no_heading, no_records, records_decide}
use Rattle.writer.proofs.writer.given_refusal.Goals as goal
use Rattle.writer.proofs.writer.given_refusal.Goals.{then-dimensions-ne64-via-then-dimensions-ne64, then-dimensions-ne64-via-else-dimensions-ne64+then-rules-gt256, then-dimensions-ne64-via-else-dimensions-ne64+else-rules-gt256+then-wrong_numbers}

pub returns-then-dimensions-ne64 : goal.returns-then-dimensions-ne64
returns-then-dimensions-ne64 c =
    let a = c.args in
    let h = heading a.categories a.start a.words a.rules a.dimensions.now in
    let own = bytes_given a.dimensions.now (λ i l. omega (arith, c.type_inv.dimensions i)) in
    let bytes = bytes_given a.records.now (λ i l. omega (arith, c.type_inv.records i)) in
    let fits = given_fits a.categories a.start a.words a.rules a.dimensions.now (omega arith) (omega arith) (omega arith) (omega arith) own in
    elim c.then-dimensions-ne64.branch [
      | then-dimensions-ne64-via-then-dimensions-ne64 w ↦ no_dimensions h a.records.now fits bytes (ap not (ne_eqb (length a.dimensions.now) 64 w.if-dimensions-ne64.true))
      | then-dimensions-ne64-via-else-dimensions-ne64+then-rules-gt256 w ↦
          too_many_rules h a.records.now fits bytes (ap not (eq-eqb (length a.dimensions.now) 64 w.if-dimensions-ne64.false)) (lt-ltb 256 a.rules w.if-rules-gt256.true)
      | then-dimensions-ne64-via-else-dimensions-ne64+else-rules-gt256+then-wrong_numbers w ↦
          no_heading h a.records.now fits bytes (ap not (eq-eqb (length a.dimensions.now) 64 w.if-dimensions-ne64.false)) (le-ltb 256 a.rules w.if-rules-gt256.false) (sym w.wrong_numbers.ensures ∙ w.if-wrong_numbers.true)
    ]

pub returns-then-records-from : goal.returns-then-records-from
returns-then-records-from c =
    let a = c.args in
    let h = heading a.categories a.start a.words a.rules a.dimensions.now in
    let own = bytes_given a.dimensions.now (λ i l. omega (arith, c.type_inv.dimensions i)) in
    let bytes = bytes_given a.records.now (λ i l. omega (arith, c.type_inv.records i)) in
    let fits = given_fits a.categories a.start a.words a.rules a.dimensions.now (omega arith) (omega arith) (omega arith) (omega arith) own in
    let named = ap not (eq-eqb (length a.dimensions.now) 64 c.if-dimensions-ne64.false) in
    let few = le-ltb 256 a.rules c.if-rules-gt256.false in
    let right = sym c.wrong_numbers.ensures ∙ c.if-wrong_numbers.false in
    no_records h a.records.now fits bytes named few right (ap not (ne_eqb (length a.records.now) (24 * a.rules) (λ e. c.if-records-from.true (e ∙ ap (λ (n : ℕ). 24 * n) (sym c.from.ensures)))))

pub returns : goal.returns
returns c =
    let a = c.args in
    let h = heading a.categories a.start a.words a.rules a.dimensions.now in
    let own = bytes_given a.dimensions.now (λ i l. omega (arith, c.type_inv.dimensions i)) in
    let bytes = bytes_given a.records.now (λ i l. omega (arith, c.type_inv.records i)) in
    let fits = given_fits a.categories a.start a.words a.rules a.dimensions.now (omega arith) (omega arith) (omega arith) (omega arith) own in
    let named = ap not (eq-eqb (length a.dimensions.now) 64 c.if-dimensions-ne64.false) in
    let few = le-ltb 256 a.rules c.if-rules-gt256.false in
    let right = sym c.wrong_numbers.ensures ∙ c.if-wrong_numbers.false in
    c.rules_refusal.ensures
    ∙ ap (λ (l : List ℕ). tested (rules_refusal l a.words (record_in Layout.Packed a.records.now) a.rules)) (c.fields.ensures ∙ ap (fields a.dimensions.now 0) c.from-2.ensures)
    ∙ records_decide h a.records.now fits bytes named few right (ap not (eq-eqb (length a.records.now) (24 * a.rules) (c.if-records-from.false ∙ ap (λ (n : ℕ). 24 * n) c.from.ensures)))
