-- The opening month by division: the months since the January of the deposit's year, in years of twelve.
-- Assumes nothing.
use mathlib.Core.Path.{◌≡◌, sym, ap, ◌∙◌}
use Prim.Native.Nat.{ℕ, min, ◌+◌, ◌-◌, ◌/◌, ◌%◌}
use native.Mathlib.Omega.{arith}
use Rattle.calendar.specs.declared.Date.{Date}
use Rattle.calendar.specs.Calendar.{date, month_length, Month, month_of}
use Rattle.calendar.proofs.Calendar.{Is}
use Rattle.dates.specs.Dates.{opening_month, date_in_month, opening}
use Rattle.dates.proofs.Months.{one_month}
use Rattle.dates.proofs.OneDate.{after}

module _ (d : Date) (term months : ℕ) (r : Is d) (e : months ≡ (d.month - 1) + term) where
  abbrev divided : Month
  divided = record { year = d.year + months / 12; month = months % 12 + 1 }

  divided_is : opening_month d term ≡ divided
  divided_is =
      one_month (month_of d) (opening_month d term) divided term (after d term r)
      (record { first = omega arith; last = omega arith; months = omega (arith, r.month_from) })

  -- the date in that month, by the length that the month was found to have
  pub opening_by : (length day : ℕ) → length ≡ month_length divided.year divided.month → day ≡ min d.day length
      → date divided.year divided.month day ≡ opening d term
  opening_by length day l s =
      ap (date divided.year divided.month) (s ∙ ap (min d.day) l) ∙ sym (ap (λ (m : Month). date_in_month m d.day) divided_is)
