-- The dates of a recurring transfer, each from the first date alone (OFX 1.6, "Recurring Transactions", FREQ).
use Rattle.std.specs.Prelude.{ℕ, zero, suc, ◌+◌, ◌-◌, ◌*◌, ◌/◌, ◌%◌, min, nat_le, ◌==◌, if◌then◌else◌, ℤ, pos, ◌+ℤ◌, ◌-ℤ◌, int_le, Option, None, Some}
use Rattle.ofx_types.specs.Calendar.{CivilDate, is_leap_year, days_of_month, civil_of}
use Rattle.ofx_types.specs.declared.number.Day.{Day}
use Rattle.ofx_types.specs.declared.recurring.Freq.{Freq}
use Rattle.ofx_types.specs.declared.recurring.Freq.TheVariants.{Weekly, Biweekly, TwiceMonthly, Monthly, FourWeeks, Bimonthly, Quarterly, Semiannually, Annually}

-- ---- the day of a civil date

abbrev pub days_of_year : ℕ → ℕ
days_of_year y = if is_leap_year y then 366 else 365

-- the days of that many years from 1900 on
unfoldable pub days_of_years : ℕ → ℕ
days_of_years zero = 0
days_of_years (suc n) = days_of_years n + days_of_year (1900 + n)

-- the days of that many months from January on
unfoldable pub days_of_months : ℕ → ℕ → ℕ
days_of_months y zero = 0
days_of_months y (suc m) = days_of_months y m + days_of_month y (suc m)

-- The day of a civil date, counted from 1 January 1970: the days of the years since 1900 and of the months before it, and
-- its days of the month, less the 25,568 from 1 January 1900 to 1 January 1970, both counted.
unfoldable pub day_on : CivilDate → ℤ
day_on date = pos (days_of_years (date.year - 1900) + days_of_months date.year (date.month - 1) + date.day) -ℤ pos 25568

-- ---- the dates of a series

-- the day of the month, or the month's last where it has fewer
abbrev pub clipped : ℕ → ℕ → ℕ → CivilDate
clipped year month day = record { year = year; month = month; day = min day (days_of_month year month) }

-- that day of the month which lies so many months after a date's month, the months counted from January on
abbrev pub in_month : CivilDate → ℕ → ℕ → CivilDate
in_month date day months =
    clipped (date.year + (date.month - 1 + months) / 12) ((date.month - 1 + months) % 12 + 1) day

abbrev pub after_months : ℤ → ℕ → ℕ → ℤ
after_months first day months = day_on (in_month (civil_of first) day months)

-- the same day of the month, so many months later
abbrev pub months_later : ℤ → ℕ → ℤ
months_later first months = after_months first (civil_of first).day months

-- Twice a month: on the first date's day of the month, and 15 days later in the month or, where that day is after the
-- 15th, 15 days earlier in the month that follows.
abbrev pub twice_monthly : ℤ → ℕ → ℕ → ℤ
twice_monthly first day k =
    if k % 2 == 0 then after_months first day (k / 2)
    else (if nat_le day 15 then after_months first (day + 15) ((k - 1) / 2)
    else after_months first (day - 15) ((k + 1) / 2))

-- the k-th day of a series, from 0
unfoldable pub day_in_series : ℤ → Freq → ℕ → ℤ
day_in_series first Weekly k = first +ℤ pos (7 * k)
day_in_series first Biweekly k = first +ℤ pos (14 * k)
day_in_series first TwiceMonthly k = twice_monthly first (civil_of first).day k
day_in_series first Monthly k = months_later first k
day_in_series first FourWeeks k = first +ℤ pos (28 * k)
day_in_series first Bimonthly k = months_later first (2 * k)
day_in_series first Quarterly k = months_later first (3 * k)
day_in_series first Semiannually k = months_later first (6 * k)
day_in_series first Annually k = months_later first (12 * k)

-- A date after 31 December 9999 doesn't exist.
abbrev pub if_in_calendar : ℤ → Option Day
if_in_calendar day = if int_le day (pos 2932896) then Some (record { 0 = day }) else None

unfoldable pub kth_date : Day → Freq → ℕ → Option Day
kth_date first freq k = if_in_calendar (day_in_series first.0 freq k)
