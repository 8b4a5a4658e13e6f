-- The day of a civil date is the one that the date library gives it, and civil dates and days name one another.
use Rattle.std.proofs.Common.{◌≡◌, ℕ, zero, suc, ◌+◌, ◌-◌, ◌*◌, ◌<◌, ◌≤◌, true, inl, inr, Some, refl, sym, ap, ◌∙◌, arith, ℤ, pos, ◌<ℤ◌}
use Rattle.std.proofs.lemmas.Option.{cond_some}
use Rattle.std.proofs.lemmas.Bool.{cond-true, cases_lt}
use Rattle.std.specs.Int.{IsInRange}
use Rattle.jiff_core.specs.Calendar.{day_count, days_from_civil, days_of_months as months_of_library}
use Rattle.jiff_core.proofs.SignedLemmas.{signed_arith}
use Rattle.jiff_core.proofs.MarchLemmas.{day_count-early}
use Rattle.jiff_core.proofs.CalendarLemmas.{day_count-later_year, day_count-day_of_year, days_from_civil-day_count, day_count-next_year, day_count-end}
use Rattle.jiff_core.proofs.DateLemmas.{days_from_civil-day}
use Rattle.jiff_span.proofs.MonthLemmas.{days_from_civil-month}
use Rattle.ofx_types.specs.Calendar.{CivilDate, days_of_month, civil_of, IsDay}
use Rattle.ofx_types.specs.DateReading.{is_civil, day_number}
use Rattle.ofx_values.proofs.CivilLemmas.{Valid, is_civil_from, is_civil_valid, number_takes, number_again}
use Rattle.bank_model.specs.Recurrence.{days_of_years, days_of_months, day_on}

-- the library counts the same days before a year
years_before : (n : ℕ) → days_of_years n + 4346386 ≡ day_count (pos (1900 + n)) 1 1
unfolding days_of_years
years_before zero = sym (day_count-early (pos 1900) 11899 1 1 refl (omega arith) (omega arith) (omega arith))
years_before (suc n) =
    omega (arith, years_before n, day_count-next_year (pos (1900 + n)) (pos (1900 + suc n)) (omega (arith, signed_arith)) (omega (arith, signed_arith)))

-- and before a month
months_before : (y m : ℕ) → days_of_months y m ≡ months_of_library (pos y) m
unfolding days_of_months months_of_library
months_before y zero = refl
months_before y (suc m) = ap (λ n. n + days_of_month y (suc m)) (months_before y m)

pub day_on_is : (date : CivilDate) → 1900 ≤ date.year → 1 ≤ date.day → day_on date ≡ days_from_civil (pos date.year) date.month date.day
unfolding day_on
day_on_is date low first =
    let whole : 1900 + (date.year - 1900) ≡ date.year = omega arith in
    let years = rw whole at (years_before (date.year - 1900)) in
    omega (arith, signed_arith, years, months_before date.year (date.month - 1), day_count-day_of_year (pos date.year) date.month date.day first, days_from_civil-day_count (pos date.year) date.month date.day)

-- the civil date of a day is one of the calendar
pub civil_of_valid : (day : ℤ) → IsDay day → Valid (civil_of day).year (civil_of day).month (civil_of day).day
unfolding day_number
civil_of_valid day h = is_civil_valid _ _ _ (cond_some _ _ _ (number_again day h)).0

pub day_on-civil_of : (day : ℤ) → IsDay day → day_on (civil_of day) ≡ day
unfolding day_number
day_on-civil_of day h =
    let v = civil_of_valid day h in
    day_on_is (civil_of day) v.low v.day_in.0 ∙ (cond_some _ _ _ (number_again day h)).1

abbrev made : ℕ → ℕ → ℕ → CivilDate
made year month day = record { year = year; month = month; day = day }

-- dates with the same parts are the same
pub same_date : (a b : CivilDate) → a.year ≡ b.year → a.month ≡ b.month → a.day ≡ b.day → a ≡ b
same_date a b year month day =
    ap (λ y. made y a.month a.day) year ∙ ap (λ m. made b.year m a.day) month ∙ ap (λ d. made b.year b.month d) day

-- what is read of a date of the calendar is its day
reads : (date : CivilDate) → Valid date.year date.month date.day → day_number date.year date.month date.day ≡ Some (day_on date)
unfolding day_number
reads date v =
    cond-true _ _ _ (is_civil_from date.year date.month date.day v) ∙ ap Some (sym (day_on_is date v.low v.day_in.0))

pub civil_of-day_on : (date : CivilDate) → is_civil date.year date.month date.day ≡ true → civil_of (day_on date) ≡ date
civil_of-day_on date e =
    let is = number_takes date.year date.month date.day (day_on date) (reads date (is_civil_valid _ _ _ e)) in
    same_date _ _ is.1 is.2 is.3

-- a date of the calendar, in 1900 or later
pub record IsLate (date : CivilDate) : Type 0 where
  pub low : 1900 ≤ date.year
  pub month_in : IsInRange 1 12 date.month
  pub day_in : IsInRange 1 (days_of_month date.year date.month) date.day

-- from the year 10000 on its day is after the calendar
pub late_past_end : (date : CivilDate) → IsLate date → 9999 < date.year → pos 2932896 <ℤ day_on date
late_past_end date late high =
    let first = day_count-day_of_year (pos date.year) date.month date.day late.day_in.0 in
    let begins : 7304850 ≤ day_count (pos date.year) 1 1 = elim (cases_lt 10000 date.year) [
      | inl lt ↦ omega (arith, day_count-end, day_count-later_year (pos 10000) (pos date.year) (omega (arith, signed_arith)) (omega (arith, signed_arith)))
      | inr ge ↦ let is : date.year ≡ 10000 = omega arith in rw is (omega (arith, day_count-end))
    ] in
    rw (day_on_is date late.low late.day_in.0) (omega (arith, signed_arith, begins, first, late.day_in, days_from_civil-day_count (pos date.year) date.month date.day))

-- a date in an earlier month has an earlier day
pub day_on-month : (a b : CivilDate) → IsLate a → IsLate b → a.year ≤ 9999 → 12 * a.year + a.month < 12 * b.year + b.month → day_on a <ℤ day_on b
day_on-month a b late_a late_b high before =
    rw (day_on_is a late_a.low late_a.day_in.0, day_on_is b late_b.low late_b.day_in.0) (days_from_civil-month (pos a.year) (pos b.year) a.month b.month a.day b.day (omega (arith, signed_arith, late_a.low), late_a.month_in, late_a.day_in) late_b.month_in.0 late_b.month_in.1 late_b.day_in.0 (omega (arith, signed_arith, late_a.month_in, late_b.month_in)))

-- and so has an earlier date of the same month
pub day_on-day : (a b : CivilDate) → IsLate a → IsLate b → a.year ≡ b.year → a.month ≡ b.month → a.day < b.day → day_on a <ℤ day_on b
day_on-day a b late_a late_b year month before =
    rw (day_on_is a late_a.low late_a.day_in.0, day_on_is b late_b.low late_b.day_in.0, year, month) (omega (arith, signed_arith, days_from_civil-day (pos b.year) b.month a.day b.day late_a.day_in.0 late_b.day_in.0))
