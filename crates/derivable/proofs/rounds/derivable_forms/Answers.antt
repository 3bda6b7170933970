-- `derivable::derivable_forms` meets its contract.
-- Assumes nothing.
use Rattle.derivable.proofs.Growing.{derived_by}
use Rattle.derivable.proofs.rounds.derivable_forms.Goals as goal

pub returns : goal.returns
returns c = (c.all_rounds.ensures.most, derived_by c.args.bytes.now c.entry_forms.ensures.1 c.all_rounds.ensures)
