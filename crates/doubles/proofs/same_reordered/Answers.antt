-- `doubles::same_reordered` meets its contract.
-- Assumes nothing.
use Rattle.std.proofs.Common.{sym, ◌∙◌}
use Rattle.doubles.proofs.Reordering.{other_components}
use Rattle.doubles.proofs.same_reordered.Goals as goal

pub returns-else-same_components : goal.returns-else-same_components
returns-else-same_components c =
    let a = c.args in
    c.if-same_components.false ∙ sym (other_components a.earlier.now a.e.now (sym c.same_components.ensures ∙ c.if-same_components.false))
