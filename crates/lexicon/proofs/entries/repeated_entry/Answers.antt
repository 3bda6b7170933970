-- `lexicon::repeated_entry` meets its contract.
-- Assumes nothing.
use Rattle.std.proofs.Common.{refl, ◌∙◌, arith, rules, tests, ℕ}
use Rattle.std.proofs.lemmas.Iterator.{YieldsList-from_range}
use Rattle.std.proofs.lemmas.Iterator.Search.{any_from_yields_List}
use Rattle.model.specs.Base.{same_list}
use Rattle.grammar.proofs.Below.{any_below_is}
use Rattle.minimalist.specs.Lexicon.{entry_bytes}
use Rattle.lexicon.proofs.entries.repeated_entry.Goals as goal

pub returns : goal.returns
returns c =
    let a = c.args in
    let test = λ (j : ℕ). same_list (entry_bytes a.bytes.now j) (entry_bytes a.bytes.now a.i) in
    any_from_yields_List test _ _ c.any.result c.any.ensures.ran (YieldsList-from_range 0 a.i a.i refl (omega arith)) (λ x b q k. search (rules, tests))
    ∙ any_below_is test a.i
