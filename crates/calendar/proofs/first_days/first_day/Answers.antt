-- `calendar::first_days::first_day` meets its contract: one test over the 400 entries, that each one after the first is a year's length more than the one before,
-- by the leap-year rule. The prover computes it, and it is carried to each entry.
-- Assumes nothing.
use Prim.Native.Nat.{◌-◌}
use borrow.Author.Rules.{rules}
use Rattle.calendar.specs.Calendar.{first_year, years, days_of_year}
use Rattle.calendar.proofs.Table.{sum_entry}
use Rattle.calendar.proofs.first_days.first_day.Goals as goal

pub returns : goal.returns
returns c = rw c.from.ensures (sum_entry days_of_year years (c.args.year - first_year) (search rules))
