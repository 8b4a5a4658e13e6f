-- Digits and the numbers that they stand for, and bounds of numbers.
use Rattle.std.proofs.Common.{◌≡◌, ℕ, zero, suc, ◌<◌, ◌≤◌, ◌^◌, Bool, true, false, ◌&&◌, nat_le, ℤ, unsigned_abs, List, length, refl, ap, ◌∙◌, arith, rules}
use Rattle.std.specs.Char.{is_ascii_digit}
use Rattle.std.specs.Fmt.{decimal}
use Rattle.std.specs.Int.{IsInRange}
use Rattle.std.specs.List.{list_all}
use Rattle.std.specs.Prelude.{int_le, ◌≤ℤ◌}
use Rattle.std.specs.Str.Parse.{digits_value}
use Rattle.std.proofs.lemmas.Bool.{and_parts, leb-true}
use Rattle.std.proofs.lemmas.Bool.Decides.{nat_tests}
use Rattle.std.proofs.lemmas.Fmt.{digits_decimal}
use Rattle.std.proofs.lemmas.Int.{ints}
use Rattle.std.proofs.lemmas.Str.Parse.{IsNumeralModel, numerals_by_value, digits_value_short}
use Rattle.ofx_types.specs.AmountForm.{IsAmount}
use Rattle.ofx_types.specs.Digits.{signed}
use Rattle.ofx_types.specs.NumberReading.{is_number_within}

-- ---- digits

pub digit_in : (b : ℕ) → is_ascii_digit b ≡ true → IsInRange 48 57 b
digit_in b is = grind (arith, nat_tests)

pub numerals : IsNumeralModel (λ ds. list_all is_ascii_digit ds ≡ true) (digits_value 10)
numerals = numerals_by_value _ (search rules)

-- What is printed of a number are digits.
pub decimal_digits : (n : ℕ) → n < 2 ^ 64 → list_all is_ascii_digit (decimal n) ≡ true
decimal_digits n small = digits_decimal numerals n small

-- A number of so many digits stays below the power of ten with as many zeros.
pub digits_within : (most : ℕ) (text : List ℕ) → is_number_within most text ≡ true → digits_value 10 text < 10 ^ most
digits_within most text h =
    let parts = and_parts (nat_le 1 (length text) && nat_le (length text) most) (list_all is_ascii_digit text) h in
    let short : length text ≤ most = leb-true (length text) most (and_parts (nat_le 1 (length text)) _ parts.0).1 in
    digits_value_short numerals text most parts.1 short

-- ---- signed numbers

pub le_from : (a b : ℤ) → a ≤ℤ b → int_le a b ≡ true
le_from a b h = grind (arith, ints)

pub le_holds : (a b : ℤ) → int_le a b ≡ true → a ≤ℤ b
le_holds a b h = grind (arith, ints)

signed_size : (negative : Bool) (magnitude : ℕ) → unsigned_abs (signed negative magnitude) ≡ magnitude
signed_size true zero = refl
signed_size true (suc n) = refl
signed_size false n = refl

at_most : (a b most : ℕ) → a ≡ b → b ≤ most → a ≤ most
at_most a b most same h = rw same h

-- An amount that is spelled has at most 13 digits.
pub amount_within : (raw : List ℕ) (cents : ℤ) → IsAmount raw cents → unsigned_abs cents ≤ 9999999999999
amount_within raw cents a = at_most _ _ 9999999999999 (ap unsigned_abs a.meant ∙ signed_size a.negative _) a.is_bounded
