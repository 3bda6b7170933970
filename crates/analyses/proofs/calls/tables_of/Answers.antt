-- `analyses::calls::tables_of` meets its contract.
-- Assumes nothing.
use Rattle.analyses.proofs.calls.tables_of.Goals as goal

pub returns-clause-tables : goal.returns-clause-tables
returns-clause-tables c = λ accepted. (c.compile.ensures accepted, c.chain_rules.ensures accepted)
