-- The date library's months are those of a series.
use Rattle.std.proofs.Common.{◌≡◌, ℕ, ◌≤◌, inl, inr, min, Some, None, refl, sym, ap, ◌∙◌, arith, ℤ, pos, ◌+ℤ◌, ◌≤ℤ◌}
use Rattle.std.proofs.lemmas.Bool.{cases_lt}
use Rattle.jiff_core.specs.declared.civil.date.Date.{Date}
use Rattle.jiff_core.specs.Calendar.{days_in_month}
use Rattle.jiff_core.specs.Date.{epoch_day}
use Rattle.jiff_core.proofs.SignedLemmas.{signed_arith}
use Rattle.jiff_core.proofs.DateLemmas.{epoch_day_range}
use Rattle.jiff_span.specs.Months.{month_number, IsShiftable}
use Rattle.jiff_span.proofs.MonthLemmas.{shift_parts}
use Rattle.ofx_types.specs.Calendar.{civil_of, IsDay}
use Rattle.ofx_values.specs.Civil.{IsCivilOf}
use Rattle.bank_model.specs.Recurrence.{in_month, after_months, if_in_calendar}
use Rattle.bank_recur.proofs.CivilDays.{day_on_is, late_past_end}
use Rattle.bank_recur.proofs.SeriesDays.{some_within, none_past, in_month_is, civil_of_late}

-- no month of the calendar lies so many months later
pub none_after_all : (first : ℤ) (day months : ℕ) → IsDay first → 1 ≤ day → 97200 ≤ months → None ≡ if_in_calendar (after_months first day months)
none_after_all first day months h one many =
    let late = civil_of_late first h in
    let at = in_month_is (civil_of first) day months late one in
    sym (none_past _ (late_past_end _ at.late (omega (arith, at.number, at.late.month_in, late.low, late.month_in))))

-- where the library has no such month the calendar has none
pub none_unshifted : (first : ℤ) (day months : ℕ) (date : Date) → IsDay first → 1 ≤ day → IsCivilOf (civil_of first) date → (IsShiftable date (pos months) → ⊥) → None ≡ if_in_calendar (after_months first day months)
none_unshifted first day months date h one is fails =
    let at = in_month_is (civil_of first) day months (civil_of_late first h) one in
    let later = in_month (civil_of first) day months in
    elim (cases_lt 9999 later.year) [
      | inl past ↦ sym (none_past _ (late_past_end _ at.late past))
      | inr high ↦
          let parts = shift_parts date (pos months) (pos later.year) later.month (omega (arith, signed_arith, is.year, is.month, date.month_in, at.number, at.late.month_in)) at.late.month_in.0 at.late.month_in.1 in
          absurd (fails (omega (arith, signed_arith, parts.0, at.late.low)))
    ]

-- the day of a month that the library found, or its last day, is the day so many months later
pub some_in_month : (first : ℤ) (day months : ℕ) (date month given : Date) (number : ℤ) → IsDay first → 1 ≤ day → IsCivilOf (civil_of first) date → month_number month ≡ month_number date +ℤ pos months → given.year ≡ month.year → given.month ≡ month.month → given.day ≡ min day (days_in_month month.year month.month) → number ≡ epoch_day given → Some (record { 0 = number }) ≡ if_in_calendar (after_months first day months)
some_in_month first day months date month given number h one is shifted year month_is day_is number_is =
    let at = in_month_is (civil_of first) day months (civil_of_late first h) one in
    let later = in_month (civil_of first) day months in
    let year_at : month.year ≡ pos later.year = omega (arith, signed_arith, is.year, is.month, date.month_in, month.month_in, at.number, at.late.month_in) in
    let month_at : month.month ≡ later.month = omega (arith, signed_arith, is.year, is.month, date.month_in, month.month_in, at.number, at.late.month_in) in
    let day_at : given.day ≡ later.day = rw (year_at, month_at) at day_is in
    let on : after_months first day months ≡ number = day_on_is later at.late.low at.late.day_in.0 ∙ rw (number_is, year, month_is, year_at, month_at, day_at) refl in
    let within : number ≤ℤ pos 2932896 = omega (arith, signed_arith, number_is, epoch_day_range given) in
    sym (ap if_in_calendar on ∙ some_within number within)
