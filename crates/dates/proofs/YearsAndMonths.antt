-- The year and the month that a day lies in give its date.
-- Assumes nothing.
use mathlib.Core.Path.{◌≡◌, sym, ap, ◌∙◌}
use Prim.Native.Nat.{ℕ, suc, ◌+◌, ◌-◌, ◌/◌, ◌<◌, ◌≤◌}
use native.Mathlib.Omega.{arith}
use Rattle.calendar.specs.Calendar.{date, first_year, last_year, years, year_length, month_length, days_of_year, days_of_years, days_of_month, days_of_months, Passed, years_passed, date_in, date_of}
use Rattle.calendar.proofs.Passed.{passed_is}
use Rattle.calendar.proofs.Calendar.{years_most, month_more}

-- ---- the year: as many years as 366 goes into the number have begun, since none has more days
pub years_begun : (number : ℕ) → days_of_years (first_year + number / 366 - first_year) ≤ number
years_begun number =
    let e : first_year + number / 366 - first_year ≡ number / 366 = omega arith in
    omega (arith, ap days_of_years e, years_most (number / 366))

-- after the years before it, `left` days of the number are left
module _ (number year left : ℕ) (from : first_year ≤ year) (sum : days_of_years (year - first_year) + left ≡ number) where
  year_is : first_year + (year - first_year) ≡ year
  year_is = omega arith

  pub date_of_year : year ≤ last_year → left < year_length year → date_in year left ≡ date_of number
  date_of_year to inside =
      let y : years_passed number ≡ record { whole = year - first_year; left = left } =
      passed_is days_of_year years (year - first_year) left number (omega arith) (omega (arith, ap year_length year_is)) sum in
      sym (ap (λ (p : Passed). date_in (first_year + p.whole) p.left) y ∙ ap (λ (n : ℕ). date_in n left) year_is)

-- ---- the month: after the months before it, `left` days of the number are left
module _ (year number month left : ℕ) (from : 1 ≤ month) (sum : days_of_months year (month - 1) + left ≡ number) where
  pub month_over : (length : ℕ) → length ≡ month_length year month → length ≤ left → days_of_months year (month + 1 - 1) + (left - length) ≡ number
  month_over length e l =
      let same : month + 1 - 1 ≡ month = omega arith in
      omega (arith, ap (days_of_months year) same, month_more year month from)

  pub date_found : month ≤ 12 → left < month_length year month → date year month (left + 1) ≡ date_in year number
  date_found to inside =
      let e : suc (month - 1) ≡ month = omega arith in
      let f : suc left ≡ left + 1 = omega arith in
      let m = passed_is (days_of_month year) 12 (month - 1) left number (omega arith) (omega (arith, ap (month_length year) e)) sum in
      sym (ap (λ (p : Passed). date year (suc p.whole) (suc p.left)) m ∙ (λ i. date year (e i) (f i)))
