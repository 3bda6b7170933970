-- A date as text.
-- Assumes nothing.
use Rattle.std.specs.Prelude.{List, ℕ, ◌∷◌, ◌++◌}
use Rattle.std.specs.Fmt.{decimal}
use Rattle.calendar.specs.declared.Date.{Date}

-- year, month and day in decimal digits, parted by blanks
abbrev pub date_text : Date → List ℕ
date_text d = decimal d.year ++ (32 ∷ (decimal d.month ++ (32 ∷ decimal d.day)))
