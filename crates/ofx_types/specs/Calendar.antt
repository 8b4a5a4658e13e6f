-- Moments and days of the years 1900 to 9999.
use Rattle.std.specs.Prelude.{ℤ, pos, negsuc, ◌≤ℤ◌, ◌+ℤ◌, ◌*ℤ◌, unsigned_abs, ℕ, zero, suc, ◌+◌, ◌%◌, Bool, not, ◌&&◌, ◌||◌, ◌==◌, nat_lt, if◌then◌else◌}
use Rattle.std.specs.Int.{int_div_euclid, int_rem_euclid}

-- seconds since 1 January 1970 that lie in the years 1900 to 9999
abbrev pub IsMoment : ℤ → Type 0
IsMoment m = (negsuc 2208988799 ≤ℤ m) × (m ≤ℤ pos 253402300799)

-- days since 1 January 1970 that lie in the years 1900 to 9999
abbrev pub IsDay : ℤ → Type 0
IsDay d = (negsuc 25566 ≤ℤ d) × (d ≤ℤ pos 2932896)

-- A day has 86,400 seconds. The day of a moment is counted downwards, also before 1970.
abbrev pub day_of : ℤ → ℤ
day_of m = int_div_euclid m (pos 86400)

-- the seconds of a moment since the midnight that its day begins with
abbrev pub second_of_day : ℤ → ℕ
second_of_day m = unsigned_abs (int_rem_euclid m (pos 86400))

-- the moment at which a day begins
abbrev pub midnight : ℤ → ℤ
midnight d = d *ℤ pos 86400

-- a date of the Gregorian calendar
pub record CivilDate : Type 0 where
  pub year : ℕ
  pub month : ℕ
  pub day : ℕ

-- Every fourth year is a leap year, but of the centuries only every fourth.
abbrev pub is_leap_year : ℕ → Bool
is_leap_year y = (y % 4 == 0) && (not (y % 100 == 0) || (y % 400 == 0))

-- Thirty days have April, June, September and November. February has 28, and 29 in a leap year.
abbrev pub days_of_month : ℕ → ℕ → ℕ
days_of_month y m =
    if m == 2 then (if is_leap_year y then 29 else 28)
    else (if (m == 4) || (m == 6) || (m == 9) || (m == 11) then 30 else 31)

-- the next day of the month, else the first of the next month, else 1 January of the next year
unfoldable pub date_after : CivilDate → CivilDate
date_after d =
    if nat_lt d.day (days_of_month d.year d.month) then record { year = d.year; month = d.month; day = d.day + 1 }
    else (if nat_lt d.month 12 then record { year = d.year; month = d.month + 1; day = 1 }
    else record { year = d.year + 1; month = 1; day = 1 })

-- the date that many days after 1 January 1900
unfoldable pub date_at : ℕ → CivilDate
date_at zero = record { year = 1900; month = 1; day = 1 }
date_at (suc n) = date_after (date_at n)

-- the days between 1 January 1900 and a day that isn't earlier
abbrev pub days_since_1900 : ℤ → ℕ
days_since_1900 d = unsigned_abs (d +ℤ pos 25567)

-- the civil date of a day
abbrev pub civil_of : ℤ → CivilDate
civil_of d = date_at (days_since_1900 d)
