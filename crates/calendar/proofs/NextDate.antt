-- The date after a date has the next number, so that the numbers count the days (`days_counted`).
-- Assumes nothing.
use Rattle.std.specs.Prelude.{if◌then◌else◌}
use mathlib.Core.Path.{◌≡◌, refl, sym, ap, ◌∙◌}
use mathlib.Core.Bool.{Bool, true, false}
use Prim.Native.Nat.{ℕ, suc, ◌+◌, ◌-◌, ◌<◌, ◌≤◌}
use native.Mathlib.Omega.{arith}
use lib.Dec.{ltb}
use borrow.Author.Tests.{ltb-true, ltb-false}
use Rattle.calendar.specs.declared.Date.{Date}
use Rattle.calendar.specs.Calendar.{date, leap, year_length, month_length, first_year, last_year, years, days, days_of_years, days_of_months, day_number, date_of, first_of, next_date, DaysCounted}
use Rattle.calendar.proofs.Calendar.{Is, months_sum, years_sum, length_within, month_more, dated_is, dated_number, year_is, same_date}

module _ (d : Date) (r : Is d) where
  abbrev y : ℕ
  y = d.year

  abbrev m : ℕ
  m = d.month

  -- after the last day of a month, all of its days have passed
  ends_month : month_length y m ≤ d.day → days_of_months y (m - 1) + d.day ≡ days_of_months y m
  ends_month l = omega (arith, month_more y m r.month_from, r.day_to)

  -- what the date after this one is: it has the next number, and it is a date unless this one is the last
  record Next (n : Date) : Type 0 where
    counts : day_number n ≡ suc (day_number d)
    is : suc (day_number d) < days → Is n

  next_day : d.day < month_length y m → Next (date y m (suc d.day))
  next_day l = record {
    counts = omega (arith, r.day_from);
    is = λ few. record {
      from_first = r.from_first;
      to_last = r.to_last;
      month_from = r.month_from;
      month_to = r.month_to;
      day_from = omega arith;
      day_to = l;
    };
  }

  next_month : month_length y m ≤ d.day → m < 12 → Next (date y (suc m) 1)
  next_month l early =
      let e : suc m - 1 ≡ m = omega arith in
      record {
        counts = omega (arith, ap (days_of_months y) e, ends_month l, r.day_from);
        is = λ few. record {
          from_first = r.from_first;
          to_last = r.to_last;
          month_from = omega arith;
          month_to = early;
          day_from = omega arith;
          day_to = omega (arith, (length_within (leap y) (suc m)).0);
        };
      }

  next_year : month_length y m ≤ d.day → 12 ≤ m → Next (date (suc y) 1 1)
  next_year l late = record {
    counts = counts;
    is = λ few. record {
      from_first = omega (arith, r.from_first);
      to_last = early few (ltb y last_year) refl;
      month_from = omega arith;
      month_to = omega arith;
      day_from = omega arith;
      day_to = omega (arith, (length_within (leap (suc y)) 1).0);
    };
  }
    where
      counts : day_number (date (suc y) 1 1) ≡ suc (day_number d)
      counts =
          let e : suc y - first_year ≡ suc (y - first_year) = omega (arith, r.from_first) in
          let december : m ≡ 12 = omega (arith, r.month_to) in
          omega (arith, ap days_of_years e, ends_month l, ap (days_of_months y) december, months_sum y, ap year_length (year_is d r), r.day_from)

      -- after the last year there is no number
      early : suc (day_number d) < days → (b : Bool) → ltb y last_year ≡ b → suc y ≤ last_year
      early few true e = ltb-true y last_year e
      early few false e =
          let f : suc y - first_year ≡ years = omega (arith, ltb-false y last_year e, r.to_last) in
          absurd (omega (arith, counts, ap days_of_years f, years_sum))

  next_is : Next (next_date d)
  next_is = go (ltb d.day (month_length y m)) refl (ltb m 12) refl
    where
      go : (a : Bool) → ltb d.day (month_length y m) ≡ a → (b : Bool) → ltb m 12 ≡ b
          → Next (if a then date y m (suc d.day) else first_of (if b then record { year = y; month = suc m } else record { year = suc y; month = 1 }))
      go true x b z = next_day (ltb-true _ _ x)
      go false x true z = next_month (ltb-false _ _ x) (ltb-true _ _ z)
      go false x false z = next_year (ltb-false _ _ x) (ltb-false _ _ z)

module _ (number : ℕ) (l : suc number < days) where
  abbrev at : Date
  at = date_of number

  is_at : Is at
  is_at = dated_is number (omega arith)

  counted : day_number (next_date at) ≡ suc number
  counted = (next_is at is_at).counts ∙ ap suc (dated_number number (omega arith))

  next_of : date_of (suc number) ≡ next_date at
  next_of = sym (ap date_of counted) ∙ same_date (next_date at) ((next_is at is_at).is (omega (arith, dated_number number (omega arith))))

pub days_counted : DaysCounted
days_counted = record { first = refl; next = next_of; last = refl }
