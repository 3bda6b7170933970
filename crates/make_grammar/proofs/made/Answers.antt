-- `make_grammar::made` meets its contract.
-- Assumes nothing.
use native.Mathlib.Omega.{arith}
use mathlib.Core.Path.{refl, ap}
use Rattle.std.specs.Prelude.{ℕ, Option, Some}
use Rattle.make_grammar.specs.Making.{told_of, told_with}
use Rattle.make_grammar.proofs.Outcome.{over_forms, over_rules, few_rows, few_rules, written_made}
use Rattle.make_grammar.proofs.made.Goals as goal

pub returns-then-table-gt-FORMS : goal.returns-then-table-gt-FORMS
returns-then-table-gt-FORMS c =
    let a = c.args in
    let pass = c.requires.1 in
    over_forms a.lexicon.now a.words a.start c.requires.0 pass a.out.now _ c.derivable_forms.ensures.1 (omega arith)

pub returns-in_default : goal.returns-in_default
returns-in_default c =
    let a = c.args in
    let pass = c.requires.1 in
    let derived = c.derivable_forms.ensures.1 in
    over_rules a.lexicon.now a.words a.start c.requires.0 pass a.out.now _ derived (omega arith) c.forms-forms.ensures c.put_rules.ensures (ap (λ (o : Option ℕ). told_of (told_with o c.put_rules.new.records)) c.in_default.is)

pub overflow_cast-rules : goal.overflow_cast-rules
overflow_cast-rules c =
    let a = c.args in
    let pass = c.requires.1 in
    let derived = c.derivable_forms.ensures.1 in
    let many = few_rules a.lexicon.now a.words a.start c.requires.0 pass a.out.now _ derived (omega arith) c.forms-forms.ensures c.put_rules.ensures (ap (λ (o : Option ℕ). told_of (told_with o c.put_rules.new.records)) c.in-Some.is) in
    omega (arith, many)

pub overflow_mul-rules : goal.overflow_mul-rules
overflow_mul-rules c =
    let a = c.args in
    let pass = c.requires.1 in
    let derived = c.derivable_forms.ensures.1 in
    let many = few_rules a.lexicon.now a.words a.start c.requires.0 pass a.out.now _ derived (omega arith) c.forms-forms.ensures c.put_rules.ensures (ap (λ (o : Option ℕ). told_of (told_with o c.put_rules.new.records)) c.in-Some.is) in
    omega (arith, many)

pub shared_ref_as_front-write_made : goal.shared_ref_as_front-write_made
shared_ref_as_front-write_made c =
    let a = c.args in
    let pass = c.requires.1 in
    let derived = c.derivable_forms.ensures.1 in
    let many = few_rules a.lexicon.now a.words a.start c.requires.0 pass a.out.now _ derived (omega arith) c.forms-forms.ensures c.put_rules.ensures (ap (λ (o : Option ℕ). told_of (told_with o c.put_rules.new.records)) c.in-Some.is) in
    omega (arith, many)

pub returns : goal.returns
returns c =
    let a = c.args in
    let pass = c.requires.1 in
    let derived = c.derivable_forms.ensures.1 in
    written_made a.lexicon.now a.words a.start c.requires.0 pass a.out.now _ derived (omega arith) c.forms-forms.ensures c.put_rules.ensures
    (record { bytes = c.put_rules.new.records.bytes; count = Some c.in-Some.rules }) (ap (λ (o : Option ℕ). told_with o c.put_rules.new.records) c.in-Some.is) c.in-Some.rules refl c.write_made.ensures

pub write_made-requires : goal.write_made-requires
write_made-requires c =
    let a = c.args in
    let pass = c.requires.1 in
    let derived = c.derivable_forms.ensures.1 in
    let few = few_rows a.lexicon.now a.words a.start c.requires.0 pass a.out.now _ derived (omega arith) c.forms-forms.ensures in
    let many = few_rules a.lexicon.now a.words a.start c.requires.0 pass a.out.now _ derived (omega arith) c.forms-forms.ensures c.put_rules.ensures (ap (λ (o : Option ℕ). told_of (told_with o c.put_rules.new.records)) c.in-Some.is) in
    (few, omega (arith, many))
