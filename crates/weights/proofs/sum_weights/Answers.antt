-- `weights::sum_weights` meets its contract.
-- Assumes nothing.
use Rattle.std.proofs.Common.{◌≡◌, rules, arith, sum_by}
use Rattle.model.specs.GrammarFile.{weight_of, record_of}
use Rattle.weights.proofs.Sums.{records_by, records_small}
use Rattle.weights.proofs.sum_weights.Goals as goal

pub returns : goal.returns
returns c =
    let a = c.args in
    let s : c.sum.result ≡ sum_by (λ r. weight_of (record_of a.file.now r)) a.list.now = search rules in
    let small = records_small a.file.now (λ i. omega (arith, c.type_inv.file i)) a.list.now in
    (omega (arith, s, records_by a.file.now a.list.now), omega (arith, s, records_by a.file.now a.list.now, small))
