-- `tally::calls::entry_from` meets its contract.
-- Assumes nothing.
use native.Mathlib.Omega.{arith}
use lib.Seq.{length-take-le}
use Rattle.tally.proofs.Says.{entry_over, entry_beyond, entry_writes}
use Rattle.tally.proofs.calls.entry_from.Goals as goal

pub tally_all-requires : goal.tally_all-requires
tally_all-requires c =
    let p = c.requires in
    (p.0, λ w f. let may = p.1 w f in record { grammar = may.grammar; starts = may.starts; limited = may.limited; room = omega arith })

pub returns-in-Err : goal.returns-in-Err
returns-in-Err c =
    let a = c.args in
    let k = rw c.in-Err.is at c.tally_all.ensures in
    (k.0, k.1, entry_over a.tables.now.rules a.tables.now.chain a.sentence.now k.0 a.n a.limit a.m _ _ a.out.now _ k.2)

pub returns-then-so-m : goal.returns-then-so-m
returns-then-so-m c =
    let a = c.args in
    let k = rw c.in-Ok.is at c.tally_all.ensures in
    (k.0, k.1, entry_beyond a.tables.now.rules a.tables.now.chain a.sentence.now k.0 a.n a.limit a.m _ _ a.out.now _ k.2 (omega (arith, c.if-so-m.true)))

pub returns : goal.returns
returns c =
    let a = c.args in
    let k = rw c.in-Ok.is at c.tally_all.ensures in
    let may = c.requires.1 k.0 k.1 in
    let short = (k.2.of_grammar may.grammar may.starts).short in
    let w = rw (length-take-le c.in-Ok.so.steps c.tally_all.new.held (omega (arith, short, k.2.kept))) at c.write_front.ensures in
    (k.0, k.1, entry_writes a.tables.now.rules a.tables.now.chain a.sentence.now k.0 a.n a.limit a.m _ _ a.out.now _ k.2 (omega (arith, c.if-so-m.false)) k.2.kept _ w)
