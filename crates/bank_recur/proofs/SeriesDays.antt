-- The days of a series: where they lie, and that they rise.
use Rattle.std.proofs.Common.{◌≡◌, true, false, nat_le, add-zero, ℕ, zero, suc, ◌+◌, ◌-◌, ◌*◌, ◌/◌, ◌%◌, ◌<◌, ◌≤◌, inl, inr, Some, None, refl, sym, ap, ◌∙◌, arith, ℤ, pos, ◌+ℤ◌, ◌<ℤ◌, ◌≤ℤ◌}
use Rattle.std.proofs.lemmas.Bool.{cases_lt}
use Rattle.std.proofs.lemmas.Bool.Decides.{nat_tests}
use Rattle.std.proofs.lemmas.Int.{by_lt_z, ints}
use Rattle.jiff_core.proofs.SignedLemmas.{signed_arith}
use Rattle.jiff_core.proofs.CalendarLemmas.{days_in_month_bounds}
use Rattle.ofx_types.specs.Calendar.{CivilDate, civil_of, IsDay}
use Rattle.ofx_types.specs.declared.number.Day.{Day}
use Rattle.ofx_types.specs.declared.recurring.Freq.{Freq}
use Rattle.ofx_types.specs.declared.recurring.Freq.TheVariants.{Weekly, Biweekly, TwiceMonthly, Monthly, FourWeeks, Bimonthly, Quarterly, Semiannually, Annually}
use Rattle.bank_model.specs.Recurrence.{day_on, in_month, after_months, months_later, twice_monthly, day_in_series, if_in_calendar, kth_date}
use Rattle.bank_recur.proofs.CivilDays.{civil_of_valid, day_on-civil_of, same_date, IsLate, late_past_end, day_on-month, day_on-day}

-- ---- the days of the calendar

pub some_within : (day : ℤ) → day ≤ℤ pos 2932896 → if_in_calendar day ≡ Some (record { 0 = day })
some_within day h = grind (arith, ints)

pub none_past : (day : ℤ) → pos 2932896 <ℤ day → if_in_calendar day ≡ None
none_past day h = grind (arith, ints)

within_some : (day : ℤ) (date : Day) → if_in_calendar day ≡ Some date → (date.0 ≡ day) × (day ≤ℤ pos 2932896)
within_some day date e = by_lt_z (pos 2932896) day (λ lt. let none = none_past day lt in absurd (let no : None ≡ Some date = sym none ∙ e in cc)) (λ le. let some = some_within day le in (let is : Some (record { 0 = day }) ≡ Some date = sym some ∙ e in cc, le))

-- ---- days of later months

-- that day of a later month is a date of the calendar, and its month so much later
pub record IsMonthsLater (date later : CivilDate) (months : ℕ) : Type 0 where
  pub late : IsLate later
  pub number : 12 * later.year + later.month ≡ 12 * date.year + date.month + months

pub in_month_is : (date : CivilDate) (day months : ℕ) → IsLate date → 1 ≤ day → IsMonthsLater date (in_month date day months) months
in_month_is date day months late first =
    let long = days_in_month_bounds (pos (in_month date day months).year) (in_month date day months).month in
    record {
      late = record { low = omega (arith, late.low); month_in = omega arith; day_in = omega arith };
      number = omega (arith, late.month_in);
    }

pub civil_of_late : (day : ℤ) → IsDay day → IsLate (civil_of day)
civil_of_late day h =
    let v = civil_of_valid day h in record { low = v.low; month_in = v.month_in; day_in = v.day_in }

-- a month that begins after another has later days, as far as the calendar goes
after_rises : (first : ℤ) (day₁ day₂ months₁ months₂ : ℕ) → IsDay first → 1 ≤ day₁ → 1 ≤ day₂ → months₁ < months₂ → after_months first day₂ months₂ ≤ℤ pos 2932896 → after_months first day₁ months₁ <ℤ after_months first day₂ months₂
after_rises first day₁ day₂ months₁ months₂ h one two lt within =
    let late = civil_of_late first h in
    let a = in_month_is (civil_of first) day₁ months₁ late one in
    let b = in_month_is (civil_of first) day₂ months₂ late two in
    elim (cases_lt 9999 (in_month (civil_of first) day₂ months₂).year) [
      | inl past ↦ absurd (omega (arith, signed_arith, late_past_end _ b.late past))
      | inr high ↦
          day_on-month _ _ a.late b.late (omega (arith, a.number, b.number, a.late.month_in, b.late.month_in)) (omega (arith, a.number, b.number))
    ]

months_rise : (first : ℤ) (months₁ months₂ : ℕ) → IsDay first → months₁ < months₂ → months_later first months₂ ≤ℤ pos 2932896 → months_later first months₁ <ℤ months_later first months₂
months_rise first months₁ months₂ h lt within =
    let one = (civil_of_late first h).day_in.0 in
    after_rises first _ _ months₁ months₂ h one one lt within

-- ---- twice a month

-- the days of a series whose first half of a month has the day `base`
abbrev half_day : ℤ → ℕ → ℕ → ℤ
half_day first base occurrence = after_months first (base + 15 * (occurrence % 2)) (occurrence / 2)

half_days_rise : (first : ℤ) (base i j : ℕ) → IsDay first → 1 ≤ base → base ≤ 16 → i < j → half_day first base j ≤ℤ pos 2932896 → half_day first base i <ℤ half_day first base j
half_days_rise first base i j h low high lt within = elim (cases_lt (i / 2) (j / 2)) [
  | inl before ↦
      after_rises first (base + 15 * (i % 2)) (base + 15 * (j % 2)) (i / 2) (j / 2) h (omega arith) (omega arith) before within
  | inr ge ↦ let same : j / 2 ≡ i / 2 = omega arith in
      let early : i % 2 ≡ 0 = omega arith in
      let later : j % 2 ≡ 1 = omega arith in
      let late = civil_of_late first h in
      let a = in_month_is (civil_of first) base (i / 2) late low in
      let b = in_month_is (civil_of first) (base + 15) (i / 2) late (omega arith) in
      let long = days_in_month_bounds (pos (in_month (civil_of first) base (i / 2)).year) (in_month (civil_of first) base (i / 2)).month in
      let first_half : base + 15 * (i % 2) ≡ base = omega arith in
      let second_half : base + 15 * (j % 2) ≡ base + 15 = omega arith in
      rw (first_half, second_half, same) (day_on-day _ _ a.late b.late refl refl (omega arith))
]

twice_even : (first : ℤ) (day k : ℕ) → k % 2 ≡ 0 → twice_monthly first day k ≡ after_months first day (k / 2)
twice_even first day k even = rw even refl

pub twice_odd_early : (first : ℤ) (day k : ℕ) → day ≤ 15 → k % 2 ≡ 1 → twice_monthly first day k ≡ after_months first (day + 15) (k / 2)
twice_odd_early first day k small odd =
    let test : nat_le day 15 ≡ true = grind (arith, nat_tests) in
    let back : (k - 1) / 2 ≡ k / 2 = omega arith in
    rw (odd, test, back) refl

pub twice_odd_late : (first : ℤ) (day k : ℕ) → 15 < day → k % 2 ≡ 1 → twice_monthly first day k ≡ after_months first (day - 15) (k / 2 + 1)
twice_odd_late first day k large odd =
    let test : nat_le day 15 ≡ false = grind (arith, nat_tests) in
    let forth : (k + 1) / 2 ≡ k / 2 + 1 = omega arith in
    rw (odd, test, forth) refl

-- the places of a series that begins in the first half of a month are those of its half months
twice_from_early : (first : ℤ) (day k : ℕ) → day ≤ 15 → twice_monthly first day k ≡ half_day first day k
twice_from_early first day k small = elim (cases_lt 0 (k % 2)) [
  | inl lt ↦ let odd : k % 2 ≡ 1 = omega arith in twice_odd_early first day k small odd ∙ rw odd refl
  | inr ge ↦ let even : k % 2 ≡ 0 = omega arith in twice_even first day k even ∙ rw (even, add-zero) refl
]

-- and where it begins in the second half they are one after
twice_from_late : (first : ℤ) (day k : ℕ) → 15 < day → twice_monthly first day k ≡ half_day first (day - 15) (k + 1)
twice_from_late first day k large = elim (cases_lt 0 (k % 2)) [
  | inl lt ↦ let odd : k % 2 ≡ 1 = omega arith in
      let even : (k + 1) % 2 ≡ 0 = omega arith in
      let forth : (k + 1) / 2 ≡ k / 2 + 1 = omega arith in
      twice_odd_late first day k large odd ∙ rw (even, forth, add-zero) refl
  | inr ge ↦ let even : k % 2 ≡ 0 = omega arith in
      let odd : (k + 1) % 2 ≡ 1 = omega arith in
      let forth : (k + 1) / 2 ≡ k / 2 = omega arith in
      let whole : day - 15 + 15 ≡ day = omega arith in
      twice_even first day k even ∙ rw (odd, forth, whole) refl
]

twice_rises : (first : ℤ) (j k : ℕ) → IsDay first → j < k → twice_monthly first (civil_of first).day k ≤ℤ pos 2932896 → twice_monthly first (civil_of first).day j <ℤ twice_monthly first (civil_of first).day k
twice_rises first j k h lt within =
    let v = civil_of_late first h in
    let long = days_in_month_bounds (pos (civil_of first).year) (civil_of first).month in
    elim (cases_lt 15 (civil_of first).day) [
      | inl large ↦
          let at_j = twice_from_late first (civil_of first).day j large in
          let at_k = twice_from_late first (civil_of first).day k large in
          let rise = half_days_rise first ((civil_of first).day - 15) (j + 1) (k + 1) h (omega arith) (omega (arith, v.day_in)) (omega arith) (omega (arith, signed_arith, at_k)) in
          omega (arith, signed_arith, at_j, at_k, rise)
      | inr small ↦
          let at_j = twice_from_early first (civil_of first).day j small in
          let at_k = twice_from_early first (civil_of first).day k small in
          let rise = half_days_rise first (civil_of first).day j k h v.day_in.0 (omega arith) lt (omega (arith, signed_arith, at_k)) in
          omega (arith, signed_arith, at_j, at_k, rise)
    ]

-- ---- a series

rises : (first : ℤ) (freq : Freq) (j k : ℕ) → IsDay first → j < k → day_in_series first freq k ≤ℤ pos 2932896 → day_in_series first freq j <ℤ day_in_series first freq k
unfolding day_in_series
rises first Weekly j k h lt within = omega (arith, signed_arith)
rises first Biweekly j k h lt within = omega (arith, signed_arith)
rises first TwiceMonthly j k h lt within = twice_rises first j k h lt within
rises first Monthly j k h lt within = months_rise first j k h lt within
rises first FourWeeks j k h lt within = omega (arith, signed_arith)
rises first Bimonthly j k h lt within = months_rise first (2 * j) (2 * k) h (omega arith) within
rises first Quarterly j k h lt within = months_rise first (3 * j) (3 * k) h (omega arith) within
rises first Semiannually j k h lt within = months_rise first (6 * j) (6 * k) h (omega arith) within
rises first Annually j k h lt within = months_rise first (12 * j) (12 * k) h (omega arith) within

in_month_zero : (date : CivilDate) → IsLate date → in_month date date.day 0 ≡ date
in_month_zero date late =
    let year : date.year + (date.month - 1 + 0) / 12 ≡ date.year = omega (arith, late.month_in) in
    let month : (date.month - 1 + 0) % 12 + 1 ≡ date.month = omega (arith, late.month_in) in
    same_date _ _ year month (rw (year, month) (omega (arith, late.day_in)))

months_zero : (first : ℤ) → IsDay first → months_later first 0 ≡ first
months_zero first h = ap day_on (in_month_zero (civil_of first) (civil_of_late first h)) ∙ day_on-civil_of first h

day_in_series-zero : (first : ℤ) (freq : Freq) → IsDay first → day_in_series first freq 0 ≡ first
unfolding day_in_series
day_in_series-zero first Weekly h = omega (arith, signed_arith)
day_in_series-zero first Biweekly h = omega (arith, signed_arith)
day_in_series-zero first TwiceMonthly h = months_zero first h
day_in_series-zero first Monthly h = months_zero first h
day_in_series-zero first FourWeeks h = omega (arith, signed_arith)
day_in_series-zero first Bimonthly h = months_zero first h
day_in_series-zero first Quarterly h = months_zero first h
day_in_series-zero first Semiannually h = months_zero first h
day_in_series-zero first Annually h = months_zero first h

pub series_begins : (first : Day) (freq : Freq) → IsDay first.0 → kth_date first freq 0 ≡ Some first
unfolding kth_date
series_begins first freq h =
    ap if_in_calendar (day_in_series-zero first.0 freq h) ∙ some_within first.0 h.1

pub series_rises : (first a b : Day) (freq : Freq) (j k : ℕ) → IsDay first.0 → kth_date first freq j ≡ Some a → kth_date first freq k ≡ Some b → j < k → a.0 <ℤ b.0
unfolding kth_date
series_rises first a b freq j k h at_j at_k lt =
    let is_a = within_some (day_in_series first.0 freq j) a at_j in
    let is_b = within_some (day_in_series first.0 freq k) b at_k in
    omega (arith, signed_arith, is_a.0, is_b.0, rises first.0 freq j k h lt is_b.1)

pub series_ends : (first : Day) (freq : Freq) (j k : ℕ) → IsDay first.0 → kth_date first freq j ≡ None → j ≤ k → kth_date first freq k ≡ None
unfolding kth_date
series_ends first freq j k h none le =
    by_lt_z (pos 2932896) (day_in_series first.0 freq k) (λ past. none_past _ past)
    (λ within. let before : day_in_series first.0 freq j ≤ℤ pos 2932896 = elim (cases_lt j k) [
      | inl lt ↦ omega (arith, signed_arith, rises first.0 freq j k h lt within)
      | inr ge ↦ let same : j ≡ k = omega arith in rw same within
    ] in
    let some = some_within _ before in absurd cc)

-- each place is at least a day later
at_least : (first : ℤ) (freq : Freq) (k : ℕ) → IsDay first → day_in_series first freq k ≤ℤ pos 2932896 → (first +ℤ pos k) ≤ℤ day_in_series first freq k
at_least first freq zero h within = omega (arith, signed_arith, day_in_series-zero first freq h)
at_least first freq (suc k) h within =
    let rise = rises first freq k (suc k) h (omega arith) within in
    let before = at_least first freq k h (omega (arith, signed_arith, rise)) in
    omega (arith, signed_arith, rise, before)

pub few_occurrences : (first date : Day) (freq : Freq) (k : ℕ) → IsDay first.0 → kth_date first freq k ≡ Some date → (k ≤ 2958463) × IsDay date.0
unfolding kth_date
few_occurrences first date freq k h at_k =
    let is = within_some (day_in_series first.0 freq k) date at_k in
    let least = at_least first.0 freq k h is.1 in
    (omega (arith, signed_arith, is.1, least), (omega (arith, signed_arith, is.0, least), omega (arith, signed_arith, is.0, is.1)))
