-- Dates of numbers that are wider than a date's fields: a number that is too large for its field is no date.
-- Assumes nothing.
use Rattle.std.specs.Prelude.{◌≡◌, true}
use Rattle.calendar.specs.declared.Date.{Date}
use Rattle.calendar.specs.Calendar.{is_date}

-- `kept` stands for the date given: it is a date of the span exactly when that is one, and then it is that date
pub record StandsFor (given kept : Date) : Type 0 where
  pub same_test : is_date kept ≡ is_date given
  pub same_date : is_date given ≡ true → kept ≡ given
