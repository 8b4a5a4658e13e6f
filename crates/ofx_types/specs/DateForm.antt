-- Dates as texts: what spells a moment, and how a moment is printed.
use Rattle.std.specs.Prelude.{◌≡◌, ℕ, ◌+◌, ◌*◌, ◌/◌, ◌%◌, ◌<◌, ◌≤◌, ◌⊎◌, Bool, IsTrue, not, ◌||◌, ◌==◌, if◌then◌else◌, ℤ, pos, ◌+ℤ◌, ◌-ℤ◌, List, [], ◌∷◌, ◌++◌, length}
use Rattle.std.specs.List.{list_all}
use Rattle.ofx_types.specs.TextRules.{trimmed}
use Rattle.ofx_types.specs.Calendar.{CivilDate, IsMoment, IsDay, civil_of, day_of, second_of_day, midnight}
use Rattle.ofx_types.specs.Digits.{IsSign, signed, two_digits, three_digits, four_digits}

-- YYYYMMDD
abbrev pub date_text : CivilDate → List ℕ
date_text d = four_digits d.year ++ (two_digits d.month ++ two_digits d.day)

-- HHMMSS, of the seconds since midnight
abbrev pub clock_text : ℕ → List ℕ
clock_text seconds = two_digits (seconds / 3600) ++ (two_digits (seconds / 60 % 60) ++ two_digits (seconds % 60))

-- A moment is printed as YYYYMMDDHHMMSS in GMT.
unfoldable pub moment_text : ℤ → List ℕ
moment_text m = date_text (civil_of (day_of m)) ++ clock_text (second_of_day m)

-- HHMMSS stands for the seconds since midnight. Hours are 0 to 23, minutes and seconds 0 to 59.
pub record IsClock (text : List ℕ) (seconds : ℕ) : Type 0 where
  pub hour : ℕ
  pub minute : ℕ
  pub second : ℕ
  pub hours : hour < 24
  pub minutes : minute < 60
  pub seconds_of_minute : second < 60
  pub spelled : text ≡ two_digits hour ++ (two_digits minute ++ two_digits second)
  pub meant : seconds ≡ 3600 * hour + 60 * minute + second

-- After the seconds a point and three digits may follow, which mean nothing.
abbrev pub IsFraction : List ℕ → Type 0
IsFraction text = (text ≡ []) ⊎ ((n : ℕ) × (n < 1000) × (text ≡ 46 ∷ three_digits n))

-- Without a time of day it is midnight.
abbrev pub IsTime : List ℕ → ℕ → Type 0
IsTime text seconds =
    ((text ≡ []) × (seconds ≡ 0))
    ⊎ ((clock fraction : List ℕ) × IsClock clock seconds × IsFraction fraction × (text ≡ clock ++ fraction))

-- Whole hours have one or two digits.
abbrev pub IsHours : List ℕ → ℕ → Type 0
IsHours text hour = ((hour < 10) × (text ≡ (48 + hour) ∷ [])) ⊎ ((hour < 100) × (text ≡ two_digits hour))

-- After them a point and one or two digits may follow: tenths or hundredths of an hour.
abbrev pub IsPart : List ℕ → ℕ → Type 0
IsPart text hundredth =
    ((text ≡ []) × (hundredth ≡ 0))
    ⊎ (((tenth : ℕ) × (tenth < 10) × (text ≡ 46 ∷ (48 + tenth) ∷ []) × (hundredth ≡ 10 * tenth))
    ⊎ ((hundredth < 100) × (text ≡ 46 ∷ two_digits hundredth)))

-- the bytes that a zone's name is made of: all but the brackets
abbrev pub is_name_byte : ℕ → Bool
is_name_byte b = not ((b == 91) || (b == 93))

-- A colon and a name of at most 32 bytes may follow the offset.
abbrev pub IsName : List ℕ → Type 0
IsName text =
    (text ≡ []) ⊎ ((name : List ℕ) × (text ≡ 58 ∷ name) × (length name ≤ 32) × IsTrue (list_all is_name_byte name))

-- A zone in brackets stands for its offset in seconds. Parts of an hour are multiples of 0.05, and the offset
-- lies from -12 to +14 hours.
pub record IsBracketed (text : List ℕ) (offset : ℤ) : Type 0 where
  pub sign : List ℕ
  pub hours : List ℕ
  pub part : List ℕ
  pub name : List ℕ
  pub negative : Bool
  pub hour : ℕ
  pub hundredth : ℕ
  pub spelled : text ≡ 91 ∷ sign ++ (hours ++ (part ++ (name ++ 93 ∷ [])))
  pub is_sign : IsSign sign negative
  pub is_hours : IsHours hours hour
  pub is_part : IsPart part hundredth
  pub is_name : IsName name
  pub is_twentieth : hundredth % 5 ≡ 0
  pub is_bounded : 100 * hour + hundredth ≤ (if negative then 1200 else 1400)
  pub meant : offset ≡ signed negative (3600 * hour + 36 * hundredth)

-- Without a zone it is GMT.
abbrev pub IsZone : List ℕ → ℤ → Type 0
IsZone text offset = ((text ≡ []) × (offset ≡ pos 0)) ⊎ IsBracketed text offset

-- A date is a day of the years 1900 to 9999, and after it perhaps a time of that day and perhaps a zone. The moment
-- is the civil time minus the zone's offset, and lies in those years too.
pub record IsDate (raw : List ℕ) (moment : ℤ) : Type 0 where
  pub day : ℤ
  pub time : List ℕ
  pub zone : List ℕ
  pub seconds : ℕ
  pub offset : ℤ
  pub is_day : IsDay day
  pub spelled : trimmed raw ≡ date_text (civil_of day) ++ (time ++ zone)
  pub is_time : IsTime time seconds
  pub is_zone : IsZone zone offset
  pub meant : moment ≡ midnight day +ℤ pos seconds -ℤ offset
  pub is_moment : IsMoment moment
