-- `dates::numbers::is_date` meets its contract: each range tells by its two ends, and a month that is none makes the chain false whatever comes after it.
-- Assumes nothing.
use mathlib.Core.Path.{◌≡◌, sym, ap, ◌∙◌}
use mathlib.Core.Bool.{Bool, true, false, ◌&&◌}
use Prim.Native.Nat.{ℕ}
use lib.Dec.{leb}
use Rattle.std.proofs.Common.{rules, tests}
use Rattle.calendar.specs.declared.Date.{Date}
use Rattle.calendar.specs.Calendar.{first_year, last_year, month_length, is_date}
use Rattle.calendar.proofs.Calendar.{length_in_lem}
use Rattle.dates.proofs.numbers.is_date.Goals as goal
use Rattle.dates.proofs.numbers.is_date.Goals.{then-contains, else-contains}

abbrev year_fits : Date → Bool
year_fits d = leb first_year d.year && leb d.year last_year

-- the year's test, before the two of the month
met : {x v : Bool} (y z : Bool) → x ≡ true → v ≡ (y && z) → v ≡ (x && y && z)
met y z e f = rw e f

not_met : {x v : Bool} (y z : Bool) → x ≡ false → v ≡ false → v ≡ (x && y && z)
not_met y z e f = rw e f

-- by the day, where year and month are in their ranges
by_day : (d : Date) {before result : Bool} {length : ℕ} → before ≡ (year_fits d && leb 1 d.month && leb d.month 12) → before ≡ true
    → length ≡ month_length d.year d.month → result ≡ (leb 1 d.day && leb d.day length) → result ≡ is_date d
by_day d e t l r = rw (sym e ∙ t) (r ∙ ap (λ (n : ℕ). leb 1 d.day && leb d.day n) l)

pub returns-then-contains-2 : goal.returns-then-contains-2
returns-then-contains-2 c =
    let d = c.args.d in
    let year : c.contains.result ≡ year_fits d
    = rw (c.contains.ensures.value, c.new.ensures.start, c.new.ensures.end, c.new.ensures.exhausted) (search (rules, tests)) in
    let month : c.if-contains.value ≡ (year_fits d && leb 1 d.month && leb d.month 12) = elim c.if-contains.branch [
      | then-contains w ↦
          let month : w.contains-then-contains.result ≡ (leb 1 d.month && leb d.month 12)
          = rw (w.contains-then-contains.ensures.value, w.new-then-contains.ensures.start, w.new-then-contains.ensures.end, w.new-then-contains.ensures.exhausted)
          (search (rules, tests)) in
          met _ _ (sym year ∙ w.if-contains.true) (w.value-is ∙ month)
      | else-contains w ↦ not_met _ _ (sym year ∙ w.if-contains.false) (w.value-is ∙ w.if-contains.false)
    ] in
    let day : c.contains-then-contains-2.result ≡ (leb 1 d.day && leb d.day c.month_length.result)
    = rw (c.contains-then-contains-2.ensures.value, c.new-then-contains-2.ensures.start, c.new-then-contains-2.ensures.end, c.new-then-contains-2.ensures.exhausted)
    (search (rules, tests)) in
    by_day d month c.if-contains-2.true (length_in_lem d.year d.month c.month_length.ensures c.is_leap.ensures) day
