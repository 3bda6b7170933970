-- `writer::check_from` meets its contract.
-- Assumes nothing.
use mathlib.Core.Path.{ap, ◌∙◌}
use mathlib.Core.List.{List}
use Prim.Native.Nat.{ℕ}
use Rattle.model.specs.GrammarFile.{fields, weighted}
use Rattle.grammar.proofs.Parts.{part_again}
use Rattle.writer.proofs.blocks.check_from.Goals as goal

pub returns : goal.returns
returns c =
    let a = c.args in
    c.block_check.ensures ∙ ap (λ (l : List ℕ). weighted 1 (fields l 0 508)) c.fields.ensures ∙ ap (weighted 1) (part_again a.bytes.now a.from 508)
