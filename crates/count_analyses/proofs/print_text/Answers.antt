-- Of a page that `count_analyses::print_text` writes there is more, so that the next one can be made.
use Rattle.std.proofs.Common.{arith, rules}
use Rattle.report.proofs.Printing.{page_less}
use Rattle.count_analyses.proofs.print_text.Goals as goal

pub loop-rest-init : goal.loop-rest-init
loop-rest-init g c = (_, c.first_page-text.ensures, search rules)

pub slice_bounds-write_text-end : goal.slice_bounds-write_text-end
slice_bounds-write_text-end g c = omega (arith, c.loop-rest.invariant.1.within)

pub next_page-text-requires : goal.next_page-text-requires
next_page-text-requires g c =
    let i = c.loop-rest in
    (record { grammar = _; sentence = _; limit = _; goes_on = i.invariant.1.goes_on _ c.in-Some.is }, omega (arith, i.invariant.2))

pub loop-rest-smaller : goal.loop-rest-smaller
loop-rest-smaller g c =
    let i = c.loop-rest in
    page_less _ _ _ i.text c.next_page-text.result c.in-Some.is (c.next_page-text.ensures.of_grammar _ _ _ (i.invariant.1.goes_on _ c.in-Some.is))

pub loop-rest-preserved : goal.loop-rest-preserved
loop-rest-preserved g c =
    let i = c.loop-rest in
    (_, c.next_page-text.ensures.of_grammar _ _ _ (i.invariant.1.goes_on _ c.in-Some.is), search rules)
