-- The calendar: months make up years and years the span, and a number has one date, a date one number (`both_ways`).
-- Assumes nothing.
use Rattle.std.specs.Prelude.{if◌then◌else◌}
use mathlib.Core.Path.{◌≡◌, refl, sym, ap, ap₂, ◌∙◌}
use mathlib.Core.Bool.{Bool, true, false, ◌||◌}
use Prim.Native.Nat.{ℕ, zero, suc, ◌+◌, ◌*◌, ◌-◌, ◌<◌, ◌≤◌}
use native.Mathlib.Omega.{arith}
use lib.Dec.{eqb}
use borrow.Author.Tests.{le-leb, leb-true}
use Rattle.model.specs.Base.{sum_below}
use Rattle.model.proofs.Tests.{both_true}
use Rattle.calendar.specs.declared.Date.{Date}
use Rattle.calendar.specs.Calendar.{date, leap, length_in, year_length, month_length, first_year, last_year, years, days, is_date, days_of_year, days_of_years, days_of_month, days_of_months, day_number, Passed, years_passed, months_passed, date_in, date_of, BothWays}
use Rattle.calendar.proofs.Passed.{At, found, sum_up_to, passed_is}

-- ---- the lengths of years and months
lengths_sum : (b : Bool) → sum_below (λ k. length_in b (suc k)) 12 ≡ (if b then 366 else 365)
lengths_sum true = refl
lengths_sum false = refl

pub months_sum : (year : ℕ) → days_of_months year 12 ≡ year_length year
months_sum year = lengths_sum (leap year)

pub years_sum : days_of_years years ≡ days
years_sum = refl

-- a year has 366 days at most
year_most : (year : ℕ) → year_length year ≤ 366
year_most year = go (leap year)
  where
    go : (b : Bool) → (if b then 366 else 365) ≤ 366
    go true = omega arith
    go false = omega arith

pub years_most : (n : ℕ) → days_of_years n ≤ 366 * n
years_most zero = omega arith
years_most (suc n) = omega (arith, years_most n, year_most (first_year + n))

-- a month's length, by whether the year is a leap year
pub length_in_lem : (year month : ℕ) {length : ℕ} {b : Bool} → length ≡ length_in b month → b ≡ leap year → length ≡ month_length year month
length_in_lem year month e f = e ∙ ap (λ (x : Bool). length_in x month) f

-- a month has 28 to 31 days
pub length_within : (b : Bool) (month : ℕ) → (28 ≤ length_in b month) × (length_in b month ≤ 31)
length_within b month = go (eqb month 2) b (eqb month 4 || eqb month 6 || eqb month 9 || eqb month 11)
  where
    go : (x y z : Bool) → let n : ℕ = if x then (if y then 29 else 28) else (if z then 30 else 31) in (28 ≤ n) × (n ≤ 31)
    go true true z = (omega arith, omega arith)
    go true false z = (omega arith, omega arith)
    go false y true = (omega arith, omega arith)
    go false y false = (omega arith, omega arith)

pub length_most : (year month : ℕ) → month_length year month ≤ 31
length_most year month = (length_within (leap year) month).1

-- the months before the next one
pub month_more : (year month : ℕ) → 1 ≤ month → days_of_months year month ≡ days_of_months year (month - 1) + month_length year month
month_more year month l =
    let e : suc (month - 1) ≡ month = omega arith in
    sym (ap (days_of_months year) e) ∙ ap (λ (n : ℕ). days_of_months year (month - 1) + n) (ap (month_length year) e)

-- ---- what a date is, fact by fact
pub record Is (d : Date) : Type 0 where
  pub from_first : first_year ≤ d.year
  pub to_last : d.year ≤ last_year
  pub month_from : 1 ≤ d.month
  pub month_to : d.month ≤ 12
  pub day_from : 1 ≤ d.day
  pub day_to : d.day ≤ month_length d.year d.month

module _ (d : Date) where
  pub is_date_lem : is_date d ≡ true → Is d
  is_date_lem h =
      let h₅ = both_true _ _ h in
      let h₄ = both_true _ _ h₅.0 in
      let h₃ = both_true _ _ h₄.0 in
      let h₂ = both_true _ _ h₃.0 in
      let h₁ = both_true _ _ h₂.0 in
      record {
        from_first = leb-true _ _ h₁.0;
        to_last = leb-true _ _ h₁.1;
        month_from = leb-true _ _ h₂.1;
        month_to = leb-true _ _ h₃.1;
        day_from = leb-true _ _ h₄.1;
        day_to = leb-true _ _ h₅.1;
      }

  pub date_is : Is d → is_date d ≡ true
  date_is r =
      rw (le-leb _ _ r.from_first, le-leb _ _ r.to_last, le-leb _ _ r.month_from, le-leb _ _ r.month_to, le-leb _ _ r.day_from, le-leb _ _ r.day_to) refl

-- ---- a number's date
module _ (number : ℕ) (l : number < days) where
  abbrev y : Passed
  y = years_passed number

  abbrev year : ℕ
  year = first_year + y.whole

  abbrev m : Passed
  m = months_passed year y.left

  in_years : At days_of_year 0 years number y
  in_years = found days_of_year 0 years number (omega (arith, years_sum))

  in_months : At (days_of_month year) 0 12 y.left m
  in_months = found (days_of_month year) 0 12 y.left (omega (arith, in_years.inside, months_sum year))

  pub dated_is : Is (date_of number)
  dated_is = record {
    from_first = omega arith;
    to_last = omega (arith, in_years.there);
    month_from = omega arith;
    month_to = omega (arith, in_months.there);
    day_from = omega arith;
    day_to = omega (arith, in_months.inside);
  }

  pub dated_number : day_number (date_of number) ≡ number
  dated_number =
      let e : (first_year + y.whole) - first_year ≡ y.whole = omega arith in
      let f : suc m.whole - 1 ≡ m.whole = omega arith in
      omega (arith, ap days_of_years e, ap (days_of_months year) f, in_years.same, in_months.same)

-- ---- a date's number
module _ (d : Date) (r : Is d) where
  abbrev k : ℕ
  k = d.year - first_year

  abbrev j : ℕ
  j = d.month - 1

  pub year_is : first_year + k ≡ d.year
  year_is = omega (arith, r.from_first)

  month_is : suc j ≡ d.month
  month_is = omega (arith, r.month_from)

  pub in_month : d.day - 1 < days_of_month d.year j
  in_month = omega (arith, r.day_from, r.day_to, ap (month_length d.year) month_is)

  abbrev in_its_year : ℕ
  in_its_year = days_of_months d.year j + (d.day - 1)

  pub in_year : in_its_year < days_of_year k
  in_year =
      omega (arith, in_month, sum_up_to (days_of_month d.year) j 12 (omega (arith, r.month_to, r.month_from)), months_sum d.year, ap year_length year_is)

  pub number_below : day_number d < days
  number_below = omega (arith, in_year, sum_up_to days_of_year k years (omega (arith, r.to_last)), years_sum)

  pub same_date : date_of (day_number d) ≡ d
  same_date =
      let y : years_passed (day_number d) ≡ record { whole = k; left = in_its_year } =
      passed_is days_of_year years k in_its_year (day_number d) (omega (arith, r.to_last)) in_year (omega arith) in
      let m : months_passed d.year in_its_year ≡ record { whole = j; left = d.day - 1 } =
      passed_is (days_of_month d.year) 12 j (d.day - 1) in_its_year (omega (arith, r.month_to)) in_month (omega arith) in
      ap (λ (p : Passed). date_in (first_year + p.whole) p.left) y ∙ ap (λ (n : ℕ). date_in n in_its_year) year_is
      ∙ ap (λ (p : Passed). date d.year (suc p.whole) (suc p.left)) m
      ∙ ap₂ (date d.year) month_is (omega (arith, r.day_from))

pub both_ways : BothWays
both_ways = record {
  number_back = λ number l. (date_is (date_of number) (dated_is number l), dated_number number l);
  date_back = λ d h. (number_below d (is_date_lem d h), same_date d (is_date_lem d h));
}
