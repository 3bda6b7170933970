-- `survey::daughters_ready` meets its contract.
-- Assumes nothing.
use Rattle.std.proofs.Common.{refl, ◌∙◌, arith, rules, tests, ltb, get_or, ℕ, ◌+◌, ◌&&◌}
use Rattle.std.proofs.lemmas.Iterator.{YieldsList-from_range}
use Rattle.std.proofs.lemmas.Iterator.Search.{all_from_yields_List}
use Rattle.model.specs.GrammarFile.{record_of, field}
use Rattle.survey.proofs.Ready.{ready_places}
use Rattle.survey.proofs.daughters_ready.Goals as goal

pub returns : goal.returns
returns c =
    let round = c.args.round in
    let figures = c.args.figures.now in
    let e = record_of c.args.file.now c.args.r.0 in
    let n = c.from.result in
    let test = λ (j : ℕ). ltb 0 (get_or figures (field e (2 + j)) 0) && ltb (get_or figures (field e (2 + j)) 0) round in
    all_from_yields_List test _ _ c.all.result c.all.ensures.ran (YieldsList-from_range 0 n n refl (omega arith)) (λ x b q k. search (rules, tests))
    ∙ ready_places c.args.file.now c.requires.0 c.args.r.0 c.requires.1 round figures n (c.from.ensures ∙ c.daughter_count.ensures)
