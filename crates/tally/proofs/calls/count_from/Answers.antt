-- `tally::calls::count_from` meets its contract.
-- Assumes nothing.
use native.Mathlib.Omega.{arith}
use Rattle.model.proofs.Verdicts.{handed_on}
use Rattle.tally.proofs.Says.{count_over, count_all}
use Rattle.tally.proofs.calls.count_from.Goals as goal

pub tally_all-requires : goal.tally_all-requires
tally_all-requires c =
    let p = c.requires in
    (p.0, λ w f. let may = p.1 w f in record { grammar = may.grammar; starts = may.starts; limited = may.limited; room = omega arith })

pub returns-in_err-so : goal.returns-in_err-so
returns-in_err-so c =
    let a = c.args in
    let k = rw c.in_err-so.was at c.tally_all.ensures in
    rw (handed_on c.from_residual.result c.from_residual.ensures.1) (k.0, k.1, count_over a.tables.now.rules a.tables.now.chain a.sentence.now k.0 a.n a.limit 0 _ _ _ k.2)

pub returns : goal.returns
returns c =
    let a = c.args in
    let k = rw c.in_ok-so.was at c.tally_all.ensures in
    (k.0, k.1, count_all a.tables.now.rules a.tables.now.chain a.sentence.now k.0 a.n a.limit 0 _ _ c.in_ok-so.so k.2)
