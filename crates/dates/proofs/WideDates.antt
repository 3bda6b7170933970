-- A date that stands for the one given has its answers; numbers cut to the largest of a field stand for those given.
-- Assumes nothing.
use mathlib.Core.Path.{◌≡◌, refl, sym, ap, ◌∙◌, subst}
use mathlib.Core.Bool.{Bool, true, false}
use Prim.Native.Nat.{ℕ, min, ◌≤◌}
use native.Mathlib.Omega.{arith}
use lib.Dec.{T}
use Rattle.model.specs.declared.Refusal.{Refusal}
use Rattle.model.proofs.Tests.{passes, same_test}
use Rattle.calendar.specs.declared.Date.{Date}
use Rattle.calendar.specs.Calendar.{date, is_date}
use Rattle.calendar.proofs.Calendar.{is_date_lem, length_most}
use Rattle.dates.specs.Dates.{number_verdict, opening_verdict, open_verdict}
use Rattle.dates.specs.WideDates.{StandsFor}
use Rattle.model.specs.Verdict.{Verdict}
use Rattle.std.specs.Prelude.{Err}

module _ {given kept : Date} (s : StandsFor given kept) where
  -- a verdict that is 27 for whatever is no date
  alike : (F : Date → Verdict) → ((d : Date) → is_date d ≡ false → F d ≡ Err (Refusal.Desk 27 0)) → F kept ≡ F given
  alike F refuses = go (is_date given) refl
    where
      go : (b : Bool) → is_date given ≡ b → F kept ≡ F given
      go true e = ap F (s.same_date e)
      go false e = refuses kept (s.same_test ∙ e) ∙ sym (refuses given e)

  pub number_alike : number_verdict kept ≡ number_verdict given
  number_alike = alike number_verdict (λ d e. rw e refl)

  pub opening_alike : (term : ℕ) → opening_verdict kept term ≡ opening_verdict given term
  opening_alike term = alike (λ d. opening_verdict d term) (λ d e. rw e refl)

  pub open_alike : (term asked : ℕ) → open_verdict kept term asked ≡ open_verdict given term asked
  open_alike term asked = alike (λ d. open_verdict d term asked) (λ d e. rw e refl)

-- ---- numbers cut to the largest of their field
module _ (year month day : ℕ) where
  abbrev whole : Date
  whole = date year month day

  abbrev cut : Date
  cut = date (min year 65535) (min month 255) (min day 255)

  same : year ≤ 65535 → month ≤ 255 → day ≤ 255 → cut ≡ whole
  same y m d =
      let e₁ : min year 65535 ≡ year = omega arith in
      let e₂ : min month 255 ≡ month = omega arith in
      let e₃ : min day 255 ≡ day = omega arith in
      λ i. date (e₁ i) (e₂ i) (e₃ i)

  whole_is : is_date whole ≡ true → cut ≡ whole
  whole_is h = let r = is_date_lem whole h in same (omega (arith, r.to_last)) (omega (arith, r.month_to)) (omega (arith, r.day_to, length_most year month))

  cut_is : is_date cut ≡ true → cut ≡ whole
  cut_is h =
      let r = is_date_lem cut h in
      same (omega (arith, r.to_last)) (omega (arith, r.month_to)) (omega (arith, r.day_to, length_most cut.year cut.month))

  pub cut_stands : StandsFor whole cut
  cut_stands =
      record {
        same_test = same_test (is_date cut) (is_date whole) (λ t. subst T (ap is_date (cut_is (passes _ t))) t) (λ t. subst T (sym (ap is_date (whole_is (passes _ t)))) t);
        same_date = whole_is;
      }
