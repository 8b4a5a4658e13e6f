-- The date that many days after 1 January 1900 is the one to which the date library gives that day number.
use Rattle.std.proofs.Common.{◌≡◌, ℕ, zero, suc, ◌+◌, ◌<◌, ◌≤◌, inl, inr, Bool, true, false, cond, nat_lt, Some, None, refl, sym, ap, ◌∙◌, arith, ℤ, pos, negsuc, ◌+ℤ◌, ◌≤ℤ◌, unsigned_abs}
use Rattle.std.proofs.lemmas.Bool.Decides.{nat_tests}
use Rattle.std.proofs.lemmas.Option.{cond_some}
use Rattle.std.proofs.lemmas.Bool.{cond-true, false_from_ne_true, cases_lt}
use borrow.Author.Tests.{ltb-true, ltb-false}
use Rattle.std.specs.Int.{IsInRange}
use Rattle.jiff_core.specs.declared.civil.date.Date.{Date}
use Rattle.jiff_core.specs.Calendar.{IsDate, IsCivilDate, days_from_civil, day_count}
use Rattle.jiff_core.specs.Date.{epoch_day}
use Rattle.jiff_core.proofs.SignedLemmas.{signed_arith}
use Rattle.jiff_core.proofs.MarchLemmas.{day_count-early}
use Rattle.jiff_core.proofs.CalendarLemmas.{day_count_bounds, day_count-later_year, day_count-day_of_year, days_from_civil-day_count, days_in_month_bounds, day_count-day, day_count-next_month, day_count-next_year, day_count-last_of_year, day_count-end}
use Rattle.jiff_core.proofs.DateLemmas.{epoch_day_injective}
use Rattle.ofx_values.specs.Civil.{IsCivilOf}
use Rattle.ofx_types.specs.DateReading.{is_civil, day_number}
use Rattle.ofx_types.specs.Calendar.{CivilDate, date_after, date_at, days_of_month, days_since_1900, civil_of, IsDay}

-- a date of the years 1900 to 9999 that lies n days after 1 January 1900
pub record IsDateAt (n : ℕ) (c : CivilDate) : Type 0 where
  pub low : 1900 ≤ c.year
  pub high : c.year ≤ 9999
  pub month_in : IsInRange 1 12 c.month
  pub day_in : IsInRange 1 (days_of_month c.year c.month) c.day
  pub count : day_count (pos c.year) c.month c.day ≡ n + 4346386

first_count : day_count (pos 1900) 1 1 ≡ 4346386
first_count = day_count-early (pos 1900) 11899 1 1 refl (omega arith) (omega arith) (omega arith)

-- 31 December 9999 is the last day
not_last : (y n : ℕ) → y ≤ 9999 → n < 2958463 → day_count (pos y) 12 31 ≡ n + 4346386 → y < 9999
not_last y n high small e = elim (cases_lt y 9999) [
  | inl lt ↦ lt
  | inr ge ↦ let is : y ≡ 9999 = omega arith in
      absurd (omega (arith, day_count-end, rw is at e, day_count-last_of_year (pos 9999), day_count-next_year (pos 9999) (pos 10000) (omega (arith, signed_arith)) refl))
]

by_truth : {A : Type 0} (P : A → Type 0) (b : Bool) (x y : A) → (b ≡ true → P x) → (b ≡ false → P y) → P (cond b x y)
by_truth P true x y f g = f refl
by_truth P false x y f g = g refl

-- what holds of either answer of a test for `<` holds of the one that it chooses
by_less : {A : Type 0} (P : A → Type 0) (m n : ℕ) (x y : A) → (m < n → P x) → (n ≤ m → P y) → P (cond (nat_lt m n) x y)
by_less P m n x y f g =
    by_truth P (nat_lt m n) x y (λ e. f (omega (arith, ltb-true, e))) (λ e. g (omega (arith, ltb-false, e)))

-- the date after has one day more before it
next_is : (n : ℕ) (c : CivilDate) → n < 2958463 → IsDateAt n c → IsDateAt (suc n) (date_after c)
unfolding date_after
next_is n c small at =
    let long = days_in_month_bounds (pos c.year) c.month in
    by_less (IsDateAt (suc n)) c.day (days_of_month c.year c.month) _ _
    (λ lt. record {
      low = at.low;
      high = at.high;
      month_in = at.month_in;
      day_in = omega arith;
      count = omega (arith, day_count-day (pos c.year) c.month c.day (c.day + 1) at.day_in.0 (omega arith));
    })
    (λ ge. let last_day : c.day ≡ days_of_month c.year c.month = omega arith in
    let of_month = day_count-day (pos c.year) c.month c.day 1 at.day_in.0 (omega arith) in
    by_less (IsDateAt (suc n)) c.month 12 _ _
    (λ lt. record {
      low = at.low;
      high = at.high;
      month_in = omega arith;
      day_in = omega (arith, days_in_month_bounds (pos c.year) (c.month + 1));
      count = omega (arith, day_count-next_month (pos c.year) c.month at.month_in.0);
    })
    (λ last. let december : c.month ≡ 12 = omega arith in
    let thirty_one : c.day ≡ 31 = last_day ∙ ap (days_of_month c.year) december in
    let end : day_count (pos c.year) 12 31 ≡ n + 4346386 = rw (← december, ← thirty_one) at.count in
    let before = not_last c.year n at.high small end in
    record {
      low = omega arith;
      high = omega arith;
      month_in = omega arith;
      day_in = omega arith;
      count = omega (arith, end, day_count-last_of_year (pos c.year), day_count-next_year (pos c.year) (pos (c.year + 1)) (omega (arith, signed_arith)) (omega (arith, signed_arith)));
    }))

first_is : IsDateAt 0 (record { year = 1900; month = 1; day = 1 })
first_is = record { low = omega arith; high = omega arith; month_in = omega arith; day_in = omega arith; count = first_count }

pub date_at_is : (n : ℕ) → n ≤ 2958463 → IsDateAt n (date_at n)
unfolding date_at
date_at_is zero h = first_is
date_at_is (suc n) h = next_is n (date_at n) (omega arith) (date_at_is n (omega arith))

-- the library's date with these parts
library_date : (n : ℕ) (c : CivilDate) → IsDateAt n c → Date
library_date n c at = record {
  year = pos c.year;
  month = c.month;
  day = c.day;
  year_in = omega (arith, signed_arith, at.low, at.high);
  month_in = at.month_in;
  day_in = at.day_in;
}

pub size_is : (z : ℤ) → pos 0 ≤ℤ z → pos (unsigned_abs z) ≡ z
size_is (pos n) h = refl
size_is (negsuc n) h = absurd (omega (arith, signed_arith))

-- a day of the years 1900 to 9999 is as many days after 1 January 1900
pub since_1900_is : (day : ℤ) → IsDay day → (pos (days_since_1900 day) ≡ day +ℤ pos 25567) × (days_since_1900 day ≤ 2958463)
since_1900_is day h =
    let size = size_is (day +ℤ pos 25567) (omega (arith, signed_arith)) in (size, omega (arith, signed_arith, size))

-- The library's date of a day is the civil date of that day.
pub civil_date_is : (day : ℤ) (date : Date) → IsDay day → epoch_day date ≡ day → IsCivilOf (civil_of day) date
unfolding library_date
civil_date_is day date h e =
    let since = since_1900_is day h in
    let c = date_at (days_since_1900 day) in
    let at = date_at_is (days_since_1900 day) since.1 in
    let same = epoch_day_injective date (library_date _ c at) (e ∙ omega (arith, signed_arith, since.0, days_from_civil-day_count (pos c.year) c.month c.day, at.count)) in
    record { year = same.0; month = same.1; day = same.2; low = at.low; high = at.high }

-- the calendar has this day, in a year from 1900 to 9999
pub record Valid (y m d : ℕ) : Type 0 where
  pub low : 1900 ≤ y
  pub high : y ≤ 9999
  pub month_in : IsInRange 1 12 m
  pub day_in : IsInRange 1 (days_of_month y m) d

pub is_civil_from : (y m d : ℕ) → Valid y m d → is_civil y m d ≡ true
is_civil_from y m d v = grind (arith, nat_tests)

pub is_civil_valid : (y m d : ℕ) → is_civil y m d ≡ true → Valid y m d
is_civil_valid y m d e = grind (arith, nat_tests)

-- no earlier year has days after 1 January 1900
count_low : (y m d : ℕ) → Valid y m d → 4346386 ≤ day_count (pos y) m d
count_low y m d v = elim (cases_lt 1900 y) [
  | inl lt ↦ omega (arith, first_count, day_count-later_year (pos 1900) (pos y) (omega (arith, signed_arith)) (omega (arith, signed_arith)), day_count-day_of_year (pos y) m d v.day_in.0)
  | inr ge ↦ let is : y ≡ 1900 = omega (arith, v.low) in
      rw is (omega (arith, first_count, day_count-day_of_year (pos 1900) m d v.day_in.0))
]

civil_of_valid : (y m d : ℕ) → Valid y m d → IsCivilDate (pos y) m d
civil_of_valid y m d v = (omega (arith, signed_arith, v.low, v.high), v.month_in, v.day_in)

number_in_range : (y m d : ℕ) → Valid y m d → IsDay (days_from_civil (pos y) m d)
number_in_range y m d v =
    omega (arith, signed_arith, count_low y m d v, day_count_bounds (pos y) m d (civil_of_valid y m d v), days_from_civil-day_count (pos y) m d)

-- the library's date is read where its year isn't below 1900
pub number_some : (y m d : ℕ) (date : Date) → 1900 ≤ y → date.year ≡ pos y → date.month ≡ m → date.day ≡ d → (day_number y m d ≡ Some (epoch_day date)) × IsDay (epoch_day date)
unfolding day_number
number_some y m d date low year month day =
    let month_in : IsInRange 1 12 m = rw month at date.month_in in
    let day_in : IsInRange 1 (days_of_month y m) d = rw (year, month, day) at date.day_in in
    let v : Valid y m d = record { low = low; high = omega (arith, signed_arith, date.year_in, year); month_in = month_in; day_in = day_in } in
    (rw (is_civil_from y m d v, year, month, day) refl, rw (year, month, day) (number_in_range y m d v))

-- and the library has each such day
pub library_has : (y m d : ℕ) (y₂ m₂ d₂ : ℤ) → y₂ ≡ pos y → m₂ ≡ pos m → d₂ ≡ pos d → Valid y m d → IsDate y₂ m₂ d₂
library_has y m d y₂ m₂ d₂ year month day v =
    rw (year, month, day) (omega (arith, signed_arith, v.low, v.high), omega (arith, signed_arith, v.month_in), omega (arith, signed_arith, v.day_in))

-- where the calendar hasn't the day, nothing is read
pub number_none : (y m d : ℕ) → (Valid y m d → ⊥) → day_number y m d ≡ None
unfolding day_number
number_none y m d h =
    rw (false_from_ne_true (is_civil y m d) (λ e. h (is_civil_valid y m d e))) refl

-- the day number that is read is that of the civil date
pub number_takes : (y m d : ℕ) (z : ℤ) → day_number y m d ≡ Some z → IsDay z × ((civil_of z).year ≡ y) × ((civil_of z).month ≡ m) × ((civil_of z).day ≡ d)
unfolding day_number
number_takes y m d z e =
    let h = cond_some _ _ _ e in
    let v = is_civil_valid y m d h.0 in
    let date : Date = record { year = pos y; month = m; day = d; year_in = omega (arith, signed_arith, v.low, v.high); month_in = v.month_in; day_in = v.day_in } in
    let in_range : IsDay z = rw (← h.1) (number_in_range y m d v) in
    let same = civil_date_is z date in_range h.1 in
    (in_range, omega (arith, signed_arith, same.year), sym same.month, sym same.day)

-- and the civil date of a day is read as that day
pub number_again : (z : ℤ) → IsDay z → day_number (civil_of z).year (civil_of z).month (civil_of z).day ≡ Some z
unfolding day_number
number_again z h =
    let since = since_1900_is z h in
    let c = date_at (days_since_1900 z) in
    let at = date_at_is (days_since_1900 z) since.1 in
    let v : Valid c.year c.month c.day = record { low = at.low; high = at.high; month_in = at.month_in; day_in = at.day_in } in
    let number : days_from_civil (pos c.year) c.month c.day ≡ z = omega (arith, signed_arith, since.0, days_from_civil-day_count (pos c.year) c.month c.day, at.count) in
    cond-true _ _ _ (is_civil_from c.year c.month c.day v) ∙ ap Some number

-- the parts of a civil date have four, two and two digits
pub civil_bounds : (z : ℤ) → IsDay z → ((civil_of z).year < 10000) × ((civil_of z).month < 100) × ((civil_of z).day < 100)
civil_bounds z h =
    let at = date_at_is (days_since_1900 z) (since_1900_is z h).1 in
    let c = date_at (days_since_1900 z) in
    (omega (arith, at.high), omega (arith, at.month_in), omega (arith, at.day_in, days_in_month_bounds (pos c.year) c.month))
