-- Reading a date from left to right.
use Rattle.std.specs.Prelude.{ℕ, ◌+◌, ◌-◌, ◌*◌, ◌%◌, Bool, true, ◌&&◌, ◌==◌, nat_lt, nat_le, if◌then◌else◌, ℤ, pos, negsuc, ◌+ℤ◌, ◌-ℤ◌, int_le, List, [], ◌∷◌, length, take, slice_index, Option, Some, None}
use Rattle.std.specs.List.{list_all}
use Rattle.std.specs.Char.{is_ascii_digit}
use Rattle.jiff_core.specs.Calendar.{days_from_civil}
use Rattle.ofx_types.specs.Calendar.{days_of_month, midnight}
use Rattle.ofx_types.specs.Digits.{signed}
use Rattle.ofx_types.specs.DateForm.{is_name_byte}
use Rattle.ofx_types.specs.ValueReading.{◌>>=◌, pair_at, sign_at}

-- the calendar has this day, in a year from 1900 to 9999
abbrev pub is_civil : ℕ → ℕ → ℕ → Bool
is_civil y m d =
    nat_le 1900 y && nat_le y 9999 && nat_le 1 m && nat_le m 12 && nat_le 1 d && nat_le d (days_of_month y m)

-- its day number
unfoldable pub day_number : ℕ → ℕ → ℕ → Option ℤ
day_number y m d = if is_civil y m d then Some (days_from_civil (pos y) m d) else None

-- the year that four digits stand for
unfoldable pub year_at : List ℕ → Option (ℕ × List ℕ)
year_at text = do
  century ← pair_at text
  year ← pair_at century.1
  Some (100 * century.0 + year.0, year.1)

unfoldable pub day_at : List ℕ → Option (ℤ × List ℕ)
day_at text = do
  year ← year_at text
  month ← pair_at year.1
  day ← pair_at month.1
  number ← day_number year.0 month.0 day.0
  Some (number, day.1)

-- the seconds that a clock shows
unfoldable pub clock_seconds : ℕ → ℕ → ℕ → Option ℕ
clock_seconds h m s =
    if nat_lt h 24 && nat_lt m 60 && nat_lt s 60 then Some (3600 * h + 60 * m + s) else None

unfoldable pub clock_at : List ℕ → Option (ℕ × List ℕ)
clock_at text = do
  hour ← pair_at text
  minute ← pair_at hour.1
  second ← pair_at minute.1
  seconds ← clock_seconds hour.0 minute.0 second.0
  Some (seconds, second.1)

-- what follows three digits
unfoldable pub after_three : List ℕ → Option (List ℕ)
after_three [] = None
after_three (a ∷ []) = None
after_three (a ∷ b ∷ []) = None
after_three (a ∷ b ∷ c ∷ rest) =
    if is_ascii_digit a && is_ascii_digit b && is_ascii_digit c then Some rest else None

-- what follows a point and three digits, or all of it where there is no point
unfoldable pub after_fraction : List ℕ → Option (List ℕ)
after_fraction [] = Some []
after_fraction (b ∷ rest) = if b == 46 then after_three rest else Some (b ∷ rest)

-- no time of day is here
abbrev pub is_timeless : List ℕ → Bool
is_timeless [] = true
is_timeless (b ∷ rest) = b == 91

unfoldable pub clock_and_fraction_at : List ℕ → Option (ℕ × List ℕ)
clock_and_fraction_at text = do
  clock ← clock_at text
  rest ← after_fraction clock.1
  Some (clock.0, rest)

unfoldable pub time_at : List ℕ → Option (ℕ × List ℕ)
time_at text = if is_timeless text then Some (0, text) else clock_and_fraction_at text

-- a second digit may follow the first
abbrev pub hours_after : ℕ → List ℕ → ℕ × List ℕ
hours_after h [] = (h, [])
hours_after h (b ∷ rest) = if is_ascii_digit b then (10 * h + (b - 48), rest) else (h, b ∷ rest)

-- whole hours, of one or two digits
unfoldable pub hours_at : List ℕ → Option (ℕ × List ℕ)
hours_at [] = None
hours_at (a ∷ rest) = if is_ascii_digit a then Some (hours_after (a - 48) rest) else None

-- hundredths of an hour after a digit of tenths
abbrev pub tenths_after : ℕ → List ℕ → ℕ × List ℕ
tenths_after t [] = (10 * t, [])
tenths_after t (b ∷ rest) = if is_ascii_digit b then (10 * t + (b - 48), rest) else (10 * t, b ∷ rest)

unfoldable pub tenths_at : List ℕ → Option (ℕ × List ℕ)
tenths_at [] = None
tenths_at (a ∷ rest) = if is_ascii_digit a then Some (tenths_after (a - 48) rest) else None

-- hundredths of an hour after a point, or 0 where there is no point
unfoldable pub part_at : List ℕ → Option (ℕ × List ℕ)
part_at [] = Some (0, [])
part_at (b ∷ rest) = if b == 46 then tenths_at rest else Some (0, b ∷ rest)

-- a colon and a name, or nothing
unfoldable pub is_name : List ℕ → Bool
is_name [] = true
is_name (b ∷ name) = b == 58 && nat_le (length name) 32 && list_all is_name_byte name

-- the offset in seconds of hours and hundredths of an hour
unfoldable pub offset_seconds : Bool → ℕ → ℕ → Option ℤ
offset_seconds negative hour hundredth =
    if hundredth % 5 == 0 && nat_le (100 * hour + hundredth) (if negative then 1200 else 1400)
    then Some (signed negative (3600 * hour + 36 * hundredth)) else None

-- what is between the brackets of a zone
unfoldable pub offset_at : List ℕ → Option ℤ
offset_at text = do
  hour ← hours_at (sign_at text).1
  part ← part_at hour.1
  if is_name part.1 then offset_seconds (sign_at text).0 hour.0 part.0 else None

-- the bytes before a last `]`
unfoldable pub before_bracket : List ℕ → Option (List ℕ)
before_bracket text =
    if slice_index text (length text - 1) == 93 then Some (take (length text - 1) text) else None

unfoldable pub zone_at : List ℕ → Option ℤ
zone_at [] = Some (pos 0)
zone_at (b ∷ rest) = if b == 91 then before_bracket rest >>= offset_at else None

-- the moment, where it lies in the years 1900 to 9999
unfoldable pub lawful : ℤ → Option ℤ
lawful m = if int_le (negsuc 2208988799) m && int_le m (pos 253402300799) then Some m else None

unfoldable pub moment_at : List ℕ → Option ℤ
moment_at text = do
  day ← day_at text
  time ← time_at day.1
  offset ← zone_at time.1
  lawful (midnight day.0 +ℤ pos time.0 -ℤ offset)
