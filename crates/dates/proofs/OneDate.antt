-- Numbers and dates go both ways, the opening day is a date, and with a longer term a deposit opens later (`one_date`).
-- Assumes nothing.
use mathlib.Core.Path.{◌≡◌, refl, sym, ap}
use mathlib.Core.Bool.{Bool, true, false, not}
use mathlib.Core.Option.{none}
use Prim.Native.Nat.{ℕ, ◌-◌, ◌<◌, ◌≤◌}
use native.Mathlib.Omega.{arith}
use lib.Dec.{ltb}
use borrow.Author.Tests.{le-leb, lt-leb, le-ltb, ltb-true, ltb-false, not-false}
use Rattle.model.specs.declared.Refusal.{Refusal}
use Rattle.model.specs.Verdict.{refuse_if}
use Rattle.model.proofs.Tests.{no_refusal, three_none}
use Rattle.calendar.specs.declared.Date.{Date}
use Rattle.calendar.specs.Calendar.{date, leap, first_year, last_year, days, is_date, days_of_year, days_of_years, days_of_month, days_of_months, day_number, Month, month_of}
use Rattle.calendar.proofs.Passed.{sum_up_to}
use Rattle.calendar.proofs.Calendar.{Is, is_date_lem, date_is, both_ways, in_month, in_year, number_below, years_sum, length_within}
use Rattle.dates.specs.Dates.{opening_month, opening, no_day, longest_term, too_long, too_late, date_refusal, opening_refusal, OneDate}
use Rattle.dates.proofs.Months.{After, month_after_lem}

-- ---- what is not refused
pub record Passes (d : Date) (term : ℕ) : Type 0 where
  pub right : Is d
  pub few : term ≤ longest_term
  pub early : (opening d term).year ≤ last_year

-- a date that is not refused
pub kept_date : (d : Date) → date_refusal d ≡ none → is_date d ≡ true
kept_date d e = not-false _ (no_refusal (not (is_date d)) (Refusal.Desk 27 0) e)

pub passes : (d : Date) (term : ℕ) → opening_refusal d term ≡ none → Passes d term
passes d term h =
    let t = three_none (date_refusal d) (refuse_if (too_long term) (Refusal.Desk 28 0)) (refuse_if (too_late d term) (Refusal.Desk 28 0)) h in
    record {
      right = is_date_lem d (kept_date d t.0);
      few = ltb-false longest_term term (no_refusal (too_long term) (Refusal.Desk 28 0) t.1);
      early = ltb-false last_year (opening d term).year (no_refusal (too_late d term) (Refusal.Desk 28 0) t.2);
    }

passing : (d : Date) (term : ℕ) → Passes d term → opening_refusal d term ≡ none
passing d term p = rw (date_is d p.right, le-ltb longest_term term p.few, le-ltb last_year (opening d term).year p.early) refl

-- ---- the opening day
module _ (d : Date) (term : ℕ) (r : Is d) where
  abbrev m : Month
  m = opening_month d term

  pub after : After (month_of d) term m
  after = month_after_lem (month_of d) term r.month_from r.month_to

  pub opening_is : (opening d term).year ≤ last_year → Is (opening d term)
  opening_is l =
      record {
        from_first = omega (arith, after.first, after.last, after.months, r.from_first, r.month_from);
        to_last = l;
        month_from = after.first;
        month_to = after.last;
        day_from = omega (arith, r.day_from, (length_within (leap m.year) m.month).0);
        day_to = omega arith;
      }

  -- an opening day after the last year has a number past the last
  number_late : last_year < (opening d term).year → days ≤ day_number (opening d term)
  number_late l = omega (arith, sum_up_to days_of_year 399 (m.year - first_year) (omega arith), years_sum)

  late_alike : too_late d term ≡ no_day (day_number (opening d term))
  late_alike = go (ltb last_year (opening d term).year) refl
    where
      go : (b : Bool) → ltb last_year (opening d term).year ≡ b → b ≡ no_day (day_number (opening d term))
      go true e = sym (le-leb _ _ (number_late (ltb-true _ _ e)))
      go false e = sym (lt-leb _ _ (number_below (opening d term) (opening_is (ltb-false _ _ e))))

-- ---- dates in order
module _ (a b : Date) (r : Is a) where
  -- of a later year
  by_year : a.year < b.year → day_number a < day_number b
  by_year l = omega (arith, in_year a r, sum_up_to days_of_year (a.year - first_year) (b.year - first_year) (omega (arith, r.from_first)))

  -- of a later month of the year
  by_month : a.year ≡ b.year → a.month < b.month → day_number a < day_number b
  by_month e l =
      omega (
        arith,
        ap (λ (y : ℕ). days_of_years (y - first_year)) e,
        ap (λ (y : ℕ). days_of_months y (b.month - 1)) e,
        sum_up_to (days_of_month a.year) (a.month - 1) (b.month - 1) (omega (arith, r.month_from)),
        in_month a r,
      )

module _ (d : Date) (shorter longer : ℕ) (l : shorter < longer) (p : Passes d longer) where
  abbrev a : Date
  a = opening d shorter

  abbrev b : Date
  b = opening d longer

  u : After (month_of d) shorter (opening_month d shorter)
  u = after d shorter p.right

  v : After (month_of d) longer (opening_month d longer)
  v = after d longer p.right

  earlier : Passes d shorter
  earlier =
      record {
        right = p.right;
        few = omega (arith, p.few);
        early = omega (arith, p.early, u.first, u.months, v.last, v.months);
      }

  in_order : day_number a < day_number b
  in_order = go (ltb a.year b.year) refl
    where
      x : Is a
      x = opening_is d shorter p.right earlier.early

      go : (s : Bool) → ltb a.year b.year ≡ s → day_number a < day_number b
      go true e = by_year a b x (ltb-true _ _ e)
      go false e =
          let same : a.year ≡ b.year = omega (arith, ltb-false a.year b.year e, u.first, u.months, v.last, v.months) in
          by_month a b x same (omega (arith, same, u.months, v.months))

pub one_date : OneDate
one_date = record {
  both_ways = both_ways;
  opens = λ d term h. let p = passes d term h in date_is (opening d term) (opening_is d term p.right p.early);
  at_once = λ d h. ap (date d.year d.month) (omega (arith, (is_date_lem d h).day_to));
  later = λ d shorter longer l h.
      let p = passes d longer h in
      (passing d shorter (earlier d shorter longer l p), in_order d shorter longer l p);
  after_last = λ d term h. late_alike d term (is_date_lem d h);
}
