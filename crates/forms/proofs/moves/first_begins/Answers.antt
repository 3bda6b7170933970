-- `forms::first_begins` meets its contract.
-- Assumes nothing.
use Rattle.std.proofs.Common.{rules, eqb, refl, ◌≡◌, ◌+◌, ◌-◌, arith}
use Rattle.std.proofs.lemmas.Iterator.{YieldsList-from_range}
use Rattle.std.proofs.lemmas.Iterator.Search.{position_from_yields_List}
use Rattle.std.proofs.lemmas.List.FromFn.{length-range_with_len}
use Rattle.forms.proofs.Made.{first_at, by_partner, place_is, place_found}
use Rattle.forms.proofs.moves.first_begins.Goals as goal

pub returns : goal.returns
returns c =
    let a = c.args in
    let e : a.n - 0 ≡ a.n = omega arith in
    let r = position_from_yields_List (λ j. eqb (a.p + 16) (first_at a.row.now j)) _ _ c.position.result c.position.ensures.ran (YieldsList-from_range 0 a.n a.n refl e) (λ x b q k. by_partner a.p (first_at a.row.now x) c.requires.1 (search rules)) in
    place_found _ _ _ a.n r (place_is a.row.now (a.p + 16) 0 a.n) (length-range_with_len 0 a.n)
