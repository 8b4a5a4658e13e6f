-- Values in which nothing is escaped: numbers, amounts and moments.
use Rattle.std.proofs.Common.{◌≡◌, ℕ, ◌+◌, ◌/◌, ◌%◌, ◌^◌, ◌<◌, ◌≤◌, Bool, true, false, cond, List, [], ◌∷◌, ◌++◌, length, nat_eq, refl, arith, ◌||◌, append_assoc, ℤ, pos, negsuc, unsigned_abs, FitsSigned}
use Rattle.std.specs.Fmt.{decimal}
use Rattle.std.proofs.lemmas.Fmt.{decimal_by_steps, decimal_nonempty}
use Rattle.std.proofs.lemmas.Grind.{common_steps}
use Rattle.std.specs.Int.{w64, is_negative}
use Rattle.ofx_types.specs.Sheet.{tag, escaped, escaped_byte, ended, element}
use Rattle.ofx_types.specs.AmountForm.{amount_text}
use Rattle.ofx_types.specs.DateForm.{moment_text, date_text, clock_text}
use Rattle.ofx_types.specs.Calendar.{CivilDate, IsMoment, IsDay, civil_of, day_of, second_of_day, days_since_1900, days_of_month, is_leap_year}
use Rattle.ofx_types.specs.Digits.{two_digits, four_digits}
use Rattle.std.specs.List.{list_any}
use Rattle.ofx_tree.specs.Marks.{is_mark}
use Rattle.ofx_values.proofs.CivilLemmas.{date_at_is, since_1900_is}
use Rattle.std.proofs.lemmas.Int.{ints}

-- digits, `-` and `.` are among these bytes
abbrev pub IsPlain : List ℕ → Type 0
IsPlain [] = Unit {0}
IsPlain (b ∷ bs) = (38 < b) × (b < 60) × IsPlain bs

pub IsPlain-append : (xs ys : List ℕ) → IsPlain xs → IsPlain ys → IsPlain (xs ++ ys)
IsPlain-append [] ys p q = q
IsPlain-append (x ∷ xs) ys (low, high, p) q = (low, high, IsPlain-append xs ys p q)

unmarked_byte : (b : ℕ) → is_mark b ≡ false → escaped_byte b ≡ b ∷ []
unmarked_byte b h = grind (arith, common_steps)

unmarked : (b : ℕ) (bs : List ℕ) → list_any is_mark (b ∷ bs) ≡ false → (is_mark b ≡ false) × (list_any is_mark bs ≡ false)
unmarked b bs h = grind (arith, common_steps)

-- without a marked byte nothing is escaped
pub escaped-unmarked : (xs : List ℕ) → list_any is_mark xs ≡ false → escaped xs ≡ xs
escaped-unmarked [] h = refl
escaped-unmarked (x ∷ xs) h =
    let parts = unmarked x xs h in rw (unmarked_byte x parts.0, escaped-unmarked xs parts.1) refl

plain_byte : (b : ℕ) → 38 < b → b < 60 → escaped_byte b ≡ b ∷ []
plain_byte b low high = grind (arith, common_steps)

escaped-plain : (xs : List ℕ) → IsPlain xs → escaped xs ≡ xs
escaped-plain [] p = refl
escaped-plain (x ∷ xs) (low, high, p) = rw (plain_byte x low high, escaped-plain xs p) refl

regrouped : (out name value : List ℕ) → ended ((out ++ tag name) ++ value) ≡ out ++ ended (tag name ++ value)
regrouped out name value = simp append_assoc

-- what is appended for an element whose value has nothing to escape
plain_element : (out name value : List ℕ) → 0 < length value → IsPlain value → ended ((out ++ tag name) ++ value) ≡ out ++ element name value
unfolding element
plain_element out name value h p =
    let there : nat_eq (length value) 0 ≡ false = grind (arith, common_steps) in
    rw (there, escaped-plain value p) (regrouped out name value)

pub decimal_plain : (n : ℕ) → n < 2 ^ 64 → IsPlain (decimal n)
decimal_plain = decimal_by_steps (λ n ds. IsPlain ds)
    (λ n h. (omega arith, omega arith, tt))
    (λ n ds h p. IsPlain-append ds ((48 + n % 10) ∷ []) p (omega arith, omega arith, tt))

pub number_element : (out name : List ℕ) (n : ℕ) → n < 2 ^ 64 → ended ((out ++ tag name) ++ decimal n) ≡ out ++ element name (decimal n)
number_element out name n h = plain_element out name (decimal n) (decimal_nonempty n h) (decimal_plain n h)

-- a sign, if any, before plain bytes
sign_plain : (negative : Bool) (digits : List ℕ) → IsPlain digits → IsPlain (cond negative (45 ∷ []) [] ++ digits)
sign_plain true digits p = (omega arith, omega arith, p)
sign_plain false digits p = p

two_digits_plain : (n : ℕ) → n < 100 → IsPlain (two_digits n)
two_digits_plain n h = (omega arith, omega arith, (omega arith, omega arith, tt))

pub amount_plain : (negative : Bool) (n : ℕ) → n ≤ 2 ^ 63 → IsPlain (cond negative (45 ∷ []) [] ++ (decimal (n / 100) ++ 46 ∷ two_digits (n % 100)))
amount_plain negative n h =
    sign_plain negative _ (IsPlain-append (decimal (n / 100)) _ (decimal_plain (n / 100) (omega arith)) (omega arith, omega arith, two_digits_plain (n % 100) (omega arith)))

not_nil : (xs ys : List ℕ) (b : ℕ) → 0 < length (xs ++ b ∷ ys)
not_nil [] ys b = omega arith
not_nil (x ∷ xs) ys b = omega arith

magnitude : (c : ℤ) → FitsSigned w64 c → unsigned_abs c ≤ 2 ^ 63
magnitude c h = omega (arith, ints)

pub amount_some : (c : ℤ) → 0 < length (amount_text c)
unfolding amount_text
amount_some c =
    rw (← append_assoc) (not_nil (cond (is_negative c) (45 ∷ []) [] ++ decimal (unsigned_abs c / 100)) (two_digits (unsigned_abs c % 100)) 46)

pub amount_element : (out name : List ℕ) (c : ℤ) → FitsSigned w64 c → ended ((out ++ tag name) ++ amount_text c) ≡ out ++ element name (amount_text c)
unfolding amount_text
amount_element out name c h =
    plain_element out name _ (amount_some c)
    (amount_plain (is_negative c) (unsigned_abs c) (magnitude c h))

four_digits_plain : (n : ℕ) → n < 10000 → IsPlain (four_digits n)
four_digits_plain n h = IsPlain-append (two_digits (n / 100)) (two_digits (n % 100)) (two_digits_plain (n / 100) (omega arith)) (two_digits_plain (n % 100) (omega arith))

date_plain : (d : CivilDate) → d.year < 10000 → d.month < 100 → d.day < 100 → IsPlain (date_text d)
date_plain d year month day =
    IsPlain-append (four_digits d.year) (two_digits d.month ++ two_digits d.day) (four_digits_plain d.year year)
    (IsPlain-append (two_digits d.month) (two_digits d.day) (two_digits_plain d.month month) (two_digits_plain d.day day))

clock_plain : (seconds : ℕ) → seconds < 86400 → IsPlain (clock_text seconds)
clock_plain seconds h =
    IsPlain-append (two_digits (seconds / 3600)) (two_digits (seconds / 60 % 60) ++ two_digits (seconds % 60)) (two_digits_plain (seconds / 3600) (omega arith))
    (IsPlain-append (two_digits (seconds / 60 % 60)) (two_digits (seconds % 60)) (two_digits_plain (seconds / 60 % 60) (omega arith)) (two_digits_plain (seconds % 60) (omega arith)))

chosen_within : (most : ℕ) (b : Bool) (x y : ℕ) → x ≤ most → y ≤ most → cond b x y ≤ most
chosen_within most true x y p q = p
chosen_within most false x y p q = q

month_is_short : (y m : ℕ) → days_of_month y m ≤ 31
month_is_short y m =
    chosen_within 31 (nat_eq m 2) _ _
    (chosen_within 31 (is_leap_year y) 29 28 (omega arith) (omega arith))
    (chosen_within 31 (nat_eq m 4 || nat_eq m 6 || nat_eq m 9 || nat_eq m 11) 30 31 (omega arith) (omega arith))

civil_plain : (day : ℤ) → IsDay day → IsPlain (date_text (civil_of day))
civil_plain day h =
    let at = date_at_is (days_since_1900 day) (since_1900_is day h).1 in
    date_plain (civil_of day) (omega (arith, at.high)) (omega (arith, at.month_in)) (omega (arith, at.day_in, month_is_short (civil_of day).year (civil_of day).month))

day_is : (m : ℤ) → IsMoment m → IsDay (day_of m)
day_is (pos a) h = omega (arith, ints)
day_is (negsuc a) h = omega (arith, ints)

second_is : (m : ℤ) → second_of_day m < 86400
second_is (pos a) = omega arith
second_is (negsuc a) = omega arith

pub moment_plain : (m : ℤ) → IsMoment m → IsPlain (moment_text m)
unfolding moment_text
moment_plain m h = IsPlain-append (date_text (civil_of (day_of m))) (clock_text (second_of_day m)) (civil_plain (day_of m) (day_is m h)) (clock_plain (second_of_day m) (second_is m))

pub moment_element : (out name : List ℕ) (m : ℤ) → IsMoment m → ended ((out ++ tag name) ++ moment_text m) ≡ out ++ element name (moment_text m)
unfolding moment_text
moment_element out name m h = plain_element out name (moment_text m) (omega arith) (moment_plain m h)

pub ruleset escapes = (escaped-unmarked)
