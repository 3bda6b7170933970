-- `grammar::daughter` meets its contract: a record has no daughter past its end.
-- Assumes nothing.
use Rattle.std.proofs.Common.{◌≡◌, ◌+◌, arith, sym}
use Rattle.model.specs.GrammarFile.{record_place}
use Rattle.grammar.proofs.Parts.{part_past}
use Rattle.grammar.proofs.rule.daughter.Goals as goal

pub returns-else-j-lt22 : goal.returns-else-j-lt22
returns-else-j-lt22 c =
    let a = c.args in
    sym (part_past a.file.now (record_place a.r.0) 24 (2 + a.j) (omega (arith, c.if-j-lt22.false)))
