-- `grammar::variables` meets its contract.
-- Assumes nothing.
use Rattle.std.proofs.Common.{◌≡◌, ◌∙◌, rules, arith, ap, ◌≤◌, length}
use Rattle.std.specs.List.{sum_by}
use Rattle.std.proofs.iter.runs.Made.{chains}
use Rattle.std.proofs.lemmas.Iterator.{YieldsList-from_slice, YieldsList-from_map}
use Rattle.std.proofs.lemmas.Iterator.Consumers.{fits_by_from_yields_list}
use Rattle.model.specs.GrammarFile.{dimension_in, field}
use Rattle.grammar.proofs.Parts.{part_length}
use Rattle.grammar.proofs.FromStd.{total_map_is, sum_by_few}
use Rattle.grammar.proofs.records.variables.Goals as goal

pub sum-requires-clause-fits : goal.sum-requires-clause-fits
sum-requires-clause-fits c =
    let few : length c.daughters_of.result.now ≤ 255 = omega (arith, part_length c.args.e.now 2 (field c.args.e.now 1), ap length c.daughters_of.ensures, c.type_inv.e 1) in
    let d = dimension_in c.args.dimensions.now in
    fits_by_from_yields_list d c.daughters_of.result.now c.map.result _
    (YieldsList-from_map _ d (YieldsList-from_slice c.daughters_of.result.now (cc)) c.map.ensures.closure (λ x r q k. search rules))
    (omega (arith, sum_by_few d c.daughters_of.result.now (λ x. omega (arith, c.type_inv.dimensions x))))

pub returns : goal.returns
returns c =
    let e : c.sum.result ≡ sum_by (dimension_in c.args.dimensions.now) c.daughters_of.result.now = search (rules, chains) in
    rw c.daughters_of.ensures at (e ∙ total_map_is (dimension_in c.args.dimensions.now) c.daughters_of.result.now)
