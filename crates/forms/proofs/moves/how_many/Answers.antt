-- `forms::how_many` meets its contract.
-- Assumes nothing.
use Rattle.std.proofs.Common.{rules, eqb, ◌≡◌, ◌+◌, ◌-◌, ◌∙◌, arith}
use Rattle.std.specs.List.{range_with_len}
use Rattle.std.proofs.lemmas.Iterator.{YieldsList-from_range}
use Rattle.std.proofs.lemmas.Iterator.Consumers.{YieldsList-from_filter, count_from_yields_List}
use Rattle.std.proofs.lemmas.List.Sums.{length-filter}
use Rattle.forms.proofs.Made.{first_at, by_partner, many_is}
use Rattle.forms.proofs.moves.how_many.Goals as goal

pub returns : goal.returns
returns c =
    let a = c.args in
    let e : a.n - 0 ≡ a.n = omega arith in
    count_from_yields_List _ _ c.count.ensures.ran (YieldsList-from_filter _ (λ j. eqb (a.p + 16) (first_at a.row.now j)) (YieldsList-from_range 0 a.n a.n c.filter.ensures.source e) c.filter.ensures.closure (λ x b q k. by_partner a.p (first_at a.row.now x) c.requires.1 (search rules)))
    ∙ length-filter (λ j. eqb (a.p + 16) (first_at a.row.now j)) (range_with_len 0 a.n)
    ∙ many_is a.row.now (a.p + 16) 0 a.n
