-- `dates::wide::date_from` meets its contract: each field is the number, or the largest of its bits.
-- Assumes nothing.
use Rattle.std.proofs.Common.{◌≡◌, ℕ, suc, ◌<◌, min, arith}
use Rattle.std.specs.Prelude.{Result, Ok, Err}
use Rattle.std.specs.Result.{OkIff, result_unwrap_or}
use Rattle.dates.proofs.WideDates.{cut_stands}
use Rattle.dates.proofs.wide.date_from.Goals as goal

cut : {E : Type 0} (r : Result ℕ E) (x most : ℕ) → OkIff r (x < suc most) x → result_unwrap_or r most ≡ min x most
cut (Ok v) x most h = omega (arith, h.0, h.1)
cut (Err e) x most h = grind (arith, h)

pub returns : goal.returns
returns c =
    let a = c.args in
    rw (
      c.unwrap_or.ensures,
      c.unwrap_or-2.ensures,
      c.unwrap_or-3.ensures,
      cut c.try_from.result a.year 65535 c.try_from.ensures,
      cut c.try_from-2.result a.month 255 c.try_from-2.ensures,
      cut c.try_from-3.result a.day 255 c.try_from-3.ensures,
    ) (cut_stands a.year a.month a.day)
