-- `reader::dimensions_right` meets its contract.
-- Assumes nothing.
use Rattle.std.proofs.Common.{◌∙◌, rules, tests}
use Rattle.std.proofs.lemmas.Iterator.{YieldsList-from_slice}
use Rattle.std.proofs.lemmas.Iterator.Search.{all_from_yields_List}
use Rattle.model.specs.GrammarFile.{within}
use Rattle.grammar.proofs.FromStd.{every_is}
use Rattle.reader.proofs.heading.dimensions_right.Goals as goal

pub returns : goal.returns
returns c =
    all_from_yields_List (within 1 4) _ _ c.all.result c.all.ensures.ran (YieldsList-from_slice c.args.bytes.now (cc)) (λ x b q k. search (rules, tests))
    ∙ every_is (within 1 4) c.args.bytes.now
