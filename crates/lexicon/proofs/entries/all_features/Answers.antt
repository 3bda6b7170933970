-- `lexicon::all_features` meets its contract.
-- Assumes nothing.
use Rattle.std.proofs.Common.{rules, tests, eqb, not, ◌∙◌}
use Rattle.std.proofs.lemmas.Iterator.{YieldsList-from_slice}
use Rattle.std.proofs.lemmas.Iterator.Search.{all_from_yields_List, YieldsList-from_take_while}
use Rattle.minimalist.specs.Lexicon.{is_feature}
use Rattle.lexicon.proofs.EntryWalks.{features_are}
use Rattle.lexicon.proofs.entries.all_features.Goals as goal

pub returns : goal.returns
returns c =
    let l = c.args.bytes.now in
    all_from_yields_List is_feature _ _ c.all.result c.all.ensures.ran
    (YieldsList-from_take_while _ (λ b. not (eqb b 0)) (YieldsList-from_slice l cc) c.take_while.ensures.closure c.take_while.ensures.done (λ x b q k. search (rules, tests)))
    (λ x b q k. search (rules, tests))
    ∙ features_are l
