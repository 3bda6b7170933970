-- `make_grammar::put_rules` meets its contract.
-- Assumes nothing.
use mathlib.Core.Path.{refl, sym, ap, ◌∙◌}
use Rattle.std.specs.Prelude.{ℕ, Option, Some, eqb}
use Rattle.std.specs.Option.{option_eq}
use Rattle.model.proofs.Tests.{not_both}
use Rattle.make_grammar.proofs.RulesOfAll.{puts_all, puts_told}
use Rattle.make_grammar.proofs.put_rules.Goals as goal

pub returns : goal.returns
returns c =
    let a = c.args in
    puts_told a.forms.now a.lexicon.now a.start c.add_scheme_rules.new.records refl
    (puts_all a.forms.now a.lexicon.now a.start c.add_starts.ensures
    (λ z. not_both (sym (ap (λ (o : Option ℕ). option_eq eqb o (Some 0)) z) ∙ sym c.eq.ensures ∙ c.if-eq.false)) c.add_entry_rules.ensures c.add_scheme_rules.ensures)
