-- Demand 1 for the calls on dates: each answers by the first of its tests that meets it.
-- Assumes nothing.
use mathlib.Core.Path.{◌≡◌, refl, ap, subst}
use mathlib.Core.List.{[], ◌∷◌}
use mathlib.Core.Option.{Option, none, some}
use Prim.Native.Nat.{ℕ}
use native.Mathlib.Omega.{arith}
use Rattle.model.specs.declared.Refusal.{Refusal}
use Rattle.model.specs.Demands.{Decided}
use Rattle.model.proofs.Verdicts.{same_refusal}
use Rattle.model.proofs.Refusals.{answer_by, decided, by_tests, Gives, ◌then◌, desk_one}
use Rattle.calendar.specs.declared.Date.{Date}
use Rattle.calendar.specs.Calendar.{date, day_number, date_of}
use Rattle.dates.specs.Dates.{opening, open_on, no_date, no_day, too_long, too_late, date_refusal, day_refusal, term_refusal, opening_refusal, open_refusal, date_verdict, date_answer, date_tests, day_tests, term_tests, Demand1Dated, DateVerdict}
use Rattle.std.specs.Prelude.{Ok, Err}

date_gives : (d : Date) → Gives (date_tests d) (date_refusal d)
date_gives d = desk_one 27 0 (no_date d)

day_gives : (number : ℕ) → Gives (day_tests number) (day_refusal number)
day_gives number = desk_one 27 0 (no_day number)

term_gives : (d : Date) (term : ℕ) → Gives (term_tests d term) (term_refusal d term)
term_gives d term = desk_one 28 0 (too_long term) then desk_one 28 0 (too_late d term)

date_by : (o : Option Refusal) (d : Date) → answer_by o (d.year ∷ d.month ∷ d.day ∷ []) ≡ date_answer (date_verdict o d)
date_by none d = refl
date_by (some r) d = refl

pub demand_1_dated : Demand1Dated
demand_1_dated =
    record {
      day_number_lem = λ d. by_tests (date_tests d) (date_refusal d) (day_number d) (date_gives d).first;
      its_date = λ number.
          let d = date_of number in
          subst (Decided (day_tests number) (d.year ∷ d.month ∷ d.day ∷ [])) (date_by (day_refusal number) d)
          (decided (day_tests number) (d.year ∷ d.month ∷ d.day ∷ []) (day_refusal number) (day_gives number).first);
      opening_day = λ d term. by_tests _ (opening_refusal d term) (day_number (opening d term)) (date_gives d then term_gives d term).first;
      is_open = λ d term asked.
          by_tests _ (open_refusal d term asked) (open_on d term asked) (date_gives d then day_gives asked then term_gives d term).first;
    }

-- an answer in the paper's terms says which value of the enum it is
pub same_dated : (v w : DateVerdict) → date_answer v ≡ date_answer w → v ≡ w
same_dated (Ok d) (Ok f) e =
    let y : d.year ≡ f.year = cc in
    let m : d.month ≡ f.month = cc in
    let n : d.day ≡ f.day = cc in
    λ i. Ok (date (y i) (m i) (n i))
same_dated (Err r) (Err s) e = ap Err (same_refusal r s e)
same_dated (Ok d) (Err s) e = let z : ◌≡◌ {A = ℕ} 0 1 = cc in absurd (omega arith)
same_dated (Err r) (Ok f) e = let z : ◌≡◌ {A = ℕ} 0 1 = cc in absurd (omega arith)
