-- Months after months: twelve make a year.
-- Assumes nothing.
use Rattle.std.specs.Prelude.{if◌then◌else◌}
use mathlib.Core.Path.{◌≡◌, refl}
use mathlib.Core.Bool.{Bool, true, false}
use Prim.Native.Nat.{ℕ, zero, suc, ◌+◌, ◌*◌, ◌≤◌}
use native.Mathlib.Omega.{arith}
use lib.Dec.{ltb}
use borrow.Author.Tests.{ltb-true, ltb-false}
use Rattle.calendar.specs.Calendar.{Month, next_month}
use Rattle.dates.specs.Dates.{month_after}

-- a is the month that is `term` months after m
pub record After (m : Month) (term : ℕ) (a : Month) : Type 0 where
  pub first : 1 ≤ a.month
  pub last : a.month ≤ 12
  pub months : a.year * 12 + a.month ≡ m.year * 12 + m.month + term

next_is : (m a : Month) (term : ℕ) → After m term a → After m (suc term) (next_month a)
next_is m a term r = go (ltb a.month 12) refl
  where
    go : (b : Bool) → ltb a.month 12 ≡ b → After m (suc term) (if b then record { year = a.year; month = suc a.month } else record { year = suc a.year; month = 1 })
    go true e = record { first = omega arith; last = ltb-true a.month 12 e; months = omega (arith, r.months) }
    go false e = record { first = omega arith; last = omega arith; months = omega (arith, r.months, r.last, ltb-false a.month 12 e) }

pub month_after_lem : (m : Month) (term : ℕ) → 1 ≤ m.month → m.month ≤ 12 → After m term (month_after term m)
month_after_lem m zero a b = record { first = a; last = b; months = omega arith }
month_after_lem m (suc term) a b = next_is m (month_after term m) term (month_after_lem m term a b)

-- no other month is that far off
pub one_month : (m a b : Month) (term : ℕ) → After m term a → After m term b → a ≡ b
one_month m a b term r s =
    let e₁ : a.year ≡ b.year = omega (arith, r.first, r.last, r.months, s.first, s.last, s.months) in
    let e₂ : a.month ≡ b.month = omega (arith, r.months, s.months) in
    λ i. record { year = e₁ i; month = e₂ i }
