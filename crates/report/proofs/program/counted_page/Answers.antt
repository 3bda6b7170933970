-- `report::counted_page` meets its contract.
-- Assumes nothing.
use native.Mathlib.Omega.{arith}
use Rattle.model.specs.GrammarFile.{grammar_of}
use Rattle.model.specs.Program.{program_limit}
use Rattle.analyses.proofs.Tables.{start_small, file_starts, file_counts}
use Rattle.lines.proofs.Placed.{put_long, verdict_short}
use Rattle.report.proofs.Printing.{counted_page, costly_page}
use Rattle.report.proofs.program.counted_page.Goals as goal

pub count_from-v-requires : goal.count_from-v-requires
count_from-v-requires c =
    let a = c.args in
    let e = c.tables_of-tables.ensures in
    let t = e.tables c.requires.0 in
    (start_small a.file.now c.requires.0 _ e.start, λ w f. file_counts a.file.now c.requires.0 _ _ _ w a.n program_limit _ t.0 t.1 e.start f c.requires.1)

pub begun-requires : goal.begun-requires
begun-requires c = (start_small c.args.file.now c.requires.0 _ c.tables_of-tables.ensures.start, c.requires.1)

pub put_page-requires : goal.put_page-requires
put_page-requires c =
    let p = c.put_verdict-end.ensures in
    let e = c.tables_of-tables.ensures in
    let t = e.tables c.requires.0 in
    let b = c.begun.ensures c.args.file.now c.requires.0 (record { compiled = t.0; chained = t.1 }) e.start in
    (record { grammar = _; sentence = _; limit = _; goes_on = b.goes_on }, omega (arith, c.requires.2, p.place, put_long p, verdict_short c.count_from-v.result))

pub returns-in-Ok : goal.returns-in-Ok
returns-in-Ok c =
    let a = c.args in
    let e = c.tables_of-tables.ensures in
    let t = e.tables c.requires.0 in
    let b = c.begun.ensures a.file.now c.requires.0 (record { compiled = t.0; chained = t.1 }) e.start in
    let k = c.count_from-v.ensures in
    counted_page a.file.now a.sentence.words a.sentence.spoken a.n c.count_from-v.result a.out.now _ _ c.put_verdict-end.ensures _ c.heard.ensures
    (k.2.of_grammar (grammar_of a.file.now) (file_starts a.file.now c.requires.0 _ _ _ k.0 a.n program_limit _ t.0 t.1 e.start k.1 c.requires.1))
    c.in-Ok.is b c.put_page.ensures

pub returns-in-Err : goal.returns-in-Err
returns-in-Err c =
    let a = c.args in
    let e = c.tables_of-tables.ensures in
    let t = e.tables c.requires.0 in
    let k = c.count_from-v.ensures in
    costly_page a.file.now a.sentence.words a.sentence.spoken a.n c.count_from-v.result a.out.now _ _ c.put_verdict-end.ensures _ c.heard.ensures
    (k.2.of_grammar (grammar_of a.file.now) (file_starts a.file.now c.requires.0 _ _ _ k.0 a.n program_limit _ t.0 t.1 e.start k.1 c.requires.1))
    c.in-Err.is
