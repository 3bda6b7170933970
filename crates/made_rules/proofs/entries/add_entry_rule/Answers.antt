-- `made_rules::add_entry_rule` meets its contract.
-- Assumes nothing.
use Rattle.made_rules.proofs.RuleLaws.{entry_rule}
use Rattle.made_rules.proofs.entries.add_entry_rule.Goals as goal

pub returns : goal.returns
returns c = entry_rule c.args.e.now c.entry_row-row.ensures c.number_of.ensures c.entry_word.ensures c.add_rule.ensures
