-- `lexicon::before_zero` meets its contract.
-- Assumes nothing.
use Rattle.std.proofs.Common.{rules, tests, eqb, ◌∙◌}
use Rattle.std.proofs.lemmas.Iterator.{YieldsList-from_slice}
use Rattle.std.proofs.lemmas.Iterator.Search.{position_from_yields_List}
use Rattle.lexicon.proofs.EntryWalks.{before_found}
use Rattle.lexicon.proofs.entries.before_zero.Goals as goal

pub returns : goal.returns
returns c =
    let l = c.args.bytes.now in
    c.unwrap_or.ensures
    ∙ before_found l c.position.result (position_from_yields_List (λ b. eqb b 0) _ _ c.position.result c.position.ensures.ran (YieldsList-from_slice l cc) (λ x b q k. search (rules, tests)))
