-- The Gregorian calendar by its rule, with no table (document 02, paper 3): leap years, the lengths of months and years, the number of a date as a sum over years
-- and months, and the date of a number.
-- Assumes nothing.
use Rattle.std.specs.Prelude.{◌≡◌, ℕ, zero, suc, ◌+◌, ◌-◌, ◌%◌, ◌<◌, Bool, true, ◌&&◌, ◌||◌, not, eqb, ltb, leb, if◌then◌else◌}
use Rattle.model.specs.Base.{sum_below}
use Rattle.calendar.specs.declared.Date.{Date}

-- the date of a year, a month and a day
abbrev pub date : ℕ → ℕ → ℕ → Date
date year month day = record { year = year; month = month; day = day }

abbrev pub divides : ℕ → ℕ → Bool
divides d n = eqb (n % d) 0

-- "in the Gregorian calendar"; "2100 is a common year"
abbrev pub leap : ℕ → Bool
leap year = divides 4 year && (not (divides 100 year) || divides 400 year)

abbrev pub year_length : ℕ → ℕ
year_length year = if leap year then 366 else 365

-- "month lengths come from a table for common and leap years": February has 28 days, in a leap year 29; April, June, September and November have 30, the others
-- 31. Months are counted from 1
abbrev pub length_in : Bool → ℕ → ℕ
length_in leap_year month =
    if eqb month 2 then (if leap_year then 29 else 28)
    else (if eqb month 4 || eqb month 6 || eqb month 9 || eqb month 11 then 30 else 31)

abbrev pub month_length : ℕ → ℕ → ℕ
month_length year month = length_in (leap year) month

-- "Dates run from 1 January 2000, which is day 0, to 31 December 2399": 400 years, and as many days as `days_counted` says
abbrev pub first_year : ℕ
first_year = 2000

abbrev pub last_year : ℕ
last_year = 2399

abbrev pub years : ℕ
years = 400

abbrev pub days : ℕ
days = 146097

abbrev pub is_date : Date → Bool
is_date d =
    leb first_year d.year && leb d.year last_year && leb 1 d.month && leb d.month 12
    && leb 1 d.day && leb d.day (month_length d.year d.month)

-- the days of year number k, counted from 0 for 2000, and of the first n years, which is "The day number of 1 January" of the year after them
abbrev pub days_of_year : ℕ → ℕ
days_of_year k = year_length (first_year + k)

abbrev pub days_of_years : ℕ → ℕ
days_of_years n = sum_below days_of_year n

-- the days of month number k of a year, counted from 0 for January, and of the first n months
abbrev pub days_of_month : ℕ → ℕ → ℕ
days_of_month year k = month_length year (suc k)

abbrev pub days_of_months : ℕ → ℕ → ℕ
days_of_months year n = sum_below (days_of_month year) n

-- "a date's number": the days of the years before its year, of the months before its month, and of its month before it
abbrev pub day_number : Date → ℕ
day_number d = days_of_years (d.year - first_year) + days_of_months d.year (d.month - 1) + (d.day - 1)

-- How many whole years (or months) of f 0, f 1, .. days go into a number of days, and how many days are left
pub record Passed : Type 0 where
  pub whole : ℕ
  pub left : ℕ

-- from number k on, and n of them at most
abbrev pub passed_from : (ℕ → ℕ) → ℕ → ℕ → ℕ → Passed
passed_from f k zero number = record { whole = k; left = number }
passed_from f k (suc n) number = if ltb number (f k) then record { whole = k; left = number } else passed_from f (suc k) n (number - f k)

abbrev pub years_passed : ℕ → Passed
years_passed number = passed_from days_of_year 0 years number

abbrev pub months_passed : ℕ → ℕ → Passed
months_passed year number = passed_from (days_of_month year) 0 12 number

-- the date of a year by its day, counted from 0
abbrev pub date_in : ℕ → ℕ → Date
date_in year number = date year (suc (months_passed year number).whole) (suc (months_passed year number).left)

-- "a number's one date"
abbrev pub date_of : ℕ → Date
date_of number = date_in (first_year + (years_passed number).whole) (years_passed number).left

-- a month of a year, and the month after it
pub record Month : Type 0 where
  pub year : ℕ
  pub month : ℕ

abbrev pub month_of : Date → Month
month_of d = record { year = d.year; month = d.month }

abbrev pub next_month : Month → Month
next_month m = if ltb m.month 12 then record { year = m.year; month = suc m.month } else record { year = suc m.year; month = 1 }

-- the date after a date: the next day of its month, or the first of the next month
abbrev pub first_of : Month → Date
first_of m = date m.year m.month 1

abbrev pub next_date : Date → Date
next_date d = if ltb d.day (month_length d.year d.month) then date d.year d.month (suc d.day) else first_of (next_month (month_of d))

-- The numbers count the days: 0 is 1 January 2000, the date of the next number is the next date, and the last is 31 December 2399
pub record DaysCounted : Type 0 where
  pub first : date_of 0 ≡ date 2000 1 1
  pub next : (number : ℕ) → suc number < days → date_of (suc number) ≡ next_date (date_of number)
  pub last : date_of (days - 1) ≡ date 2399 12 31

-- Number to date to number, and date to number to date, are the identity on the whole span
pub record BothWays : Type 0 where
  pub number_back : (number : ℕ) → number < days → (is_date (date_of number) ≡ true) × (day_number (date_of number) ≡ number)
  pub date_back : (d : Date) → is_date d ≡ true → (day_number d < days) × (date_of (day_number d) ≡ d)
