-- `reader::wrong_check` meets its contract.
-- Assumes nothing.
use mathlib.Core.Path.{ap, ap₂, ◌∙◌}
use mathlib.Core.Bool.{not}
use mathlib.Core.List.{List}
use Prim.Native.Nat.{ℕ, ◌*◌}
use lib.Dec.{eqb}
use Rattle.model.specs.GrammarFile.{fields, weighted, wrong_check}
use Rattle.grammar.proofs.Parts.{part_again}
use Rattle.reader.proofs.BlockTests.{four_check}
use Rattle.reader.proofs.blocks.wrong_check.Goals as goal

pub returns : goal.returns
returns c =
    let file = c.args.file.now in
    let k = c.from-from.result in
    let sum = c.block_check.ensures ∙ ap (λ (l : List ℕ). weighted 1 (fields l 0 508)) c.fields.ensures ∙ ap (weighted 1) (part_again file (512 * k) 508) in
    ap₂ (λ (x y : ℕ). not (eqb x y)) sum (c.four_bytes.ensures ∙ four_check file k) ∙ ap (wrong_check file) c.from-from.ensures
