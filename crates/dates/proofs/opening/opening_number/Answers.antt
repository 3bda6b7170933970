-- `dates::opening::opening_number` meets its contract: the opening date that is found is one of the span.
-- Assumes nothing.
use mathlib.Core.Path.{◌≡◌}
use Prim.Native.Nat.{◌≤◌}
use Rattle.calendar.specs.declared.Date.{Date}
use Rattle.calendar.specs.Calendar.{last_year}
use Rattle.calendar.proofs.Calendar.{is_date_lem, date_is}
use Rattle.dates.specs.Dates.{opening}
use Rattle.dates.proofs.OneDate.{opening_is}
use Rattle.dates.proofs.opening.opening_number.Goals as goal

early : {a b : Date} → a ≡ b → a.year ≤ last_year → b.year ≤ last_year
early e l = rw e at l

pub number_of-requires : goal.number_of-requires
number_of-requires c =
    let a = c.args in
    let o = opening_is a.d a.term (is_date_lem a.d c.requires) (early c.opening_date-opened.ensures c.if-opened-gt-LAST_YEAR.false) in
    rw c.opening_date-opened.ensures (date_is (opening a.d a.term) o)
