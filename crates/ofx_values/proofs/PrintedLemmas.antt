-- What is printed is spelled so, and no two values are printed alike.
use Rattle.std.proofs.Common.{◌≡◌, ℕ, ◌+◌, ◌*◌, ◌/◌, ◌%◌, ◌^◌, ◌<◌, ◌≤◌, Bool, true, false, cond, List, [], ◌∷◌, ◌++◌, length, get_or, reverse, Some, refl, sym, ap, subst, ◌∙◌, inl, inr, arith, append_assoc, ℤ, pos, negsuc, unsigned_abs, ◌+ℤ◌, ◌-ℤ◌}
use Rattle.std.specs.Int.{is_negative, int_rem_euclid}
use Rattle.std.specs.Char.{is_ascii_digit}
use Rattle.std.specs.Fmt.{decimal}
use Rattle.std.specs.List.{list_all}
use Rattle.std.specs.Str.Parse.{digits_value}
use Rattle.std.proofs.lemmas.Bool.{cond-true, cond-false, and_from, and_parts, le-leb}
use Rattle.std.proofs.lemmas.Bool.Decides.{nat_tests}
use Rattle.std.proofs.lemmas.Fmt.{digits_decimal, digits_value-decimal, decimal_nonempty, length-decimal-le}
use Rattle.std.proofs.lemmas.List.{reverse-append, reverse-reverse, length-append}
use Rattle.jiff_core.proofs.SignedLemmas.{signed_arith, int_div_euclid-parts, int_rem_euclid-parts}
use Rattle.ofx_types.specs.TextRules.{trimmed, trim_start, trim_end, is_white}
use Rattle.ofx_types.specs.Calendar.{CivilDate, IsMoment, IsDay, civil_of, day_of, second_of_day, midnight}
use Rattle.ofx_types.specs.Digits.{IsSign, signed, two_digits}
use Rattle.ofx_types.specs.AmountForm.{IsAmount, amount_text, cents_after}
use Rattle.ofx_types.specs.DateForm.{IsDate, IsClock, date_text, clock_text, moment_text}
use Rattle.ofx_types.specs.NumberReading.{number_at}
use Rattle.ofx_types.proofs.Numbers.{numerals, decimal_digits}
use Rattle.ofx_values.proofs.AmountLemmas.{amount_once}
use Rattle.ofx_values.proofs.CivilLemmas.{size_is}
use Rattle.ofx_values.proofs.DateLemmas.{date_once}
use Rattle.ofx_values.proofs.PartLemmas.{digit_in, digit_from}
use Rattle.ofx_values.proofs.DigitLemmas.{digit_value_is}

start_kept : (text : List ℕ) → is_white (get_or text 0 0) ≡ false → trim_start text ≡ text
start_kept [] h = refl
start_kept (b ∷ rest) h = cond-false _ _ _ h

-- nothing is trimmed from a text whose first and last bytes aren't white
trimmed_same : (prefix : List ℕ) (x : ℕ) → is_white (get_or (prefix ++ x ∷ []) 0 0) ≡ false → is_white x ≡ false → trimmed (prefix ++ x ∷ []) ≡ prefix ++ x ∷ []
trimmed_same prefix x first last =
    let text = prefix ++ x ∷ [] in
    let turned : reverse text ≡ x ∷ reverse prefix = reverse-append prefix (x ∷ []) in
    let kept : trim_start (reverse text) ≡ reverse text = rw turned (start_kept (x ∷ reverse prefix) last) in
    ap trim_end (start_kept text first) ∙ ap reverse kept ∙ reverse-reverse text

digit_kept : (b : ℕ) → 47 < b → is_white b ≡ false
digit_kept b h = grind (arith, nat_tests)

-- ---- amounts

-- a number that is printed is read, where the limit has room for it
pub number_printed : (most n : ℕ) → 0 < most → n < 10 ^ most → n < 2 ^ 64 → number_at most (decimal n) ≡ Some n
unfolding number_at
number_printed most n some room h =
    let there = le-leb 1 (length (decimal n)) (decimal_nonempty n h) in
    let short = le-leb (length (decimal n)) most (length-decimal-le most n some room h) in
    cond-true _ _ _ (and_from _ _ (and_from _ _ there short) (decimal_digits n h)) ∙ ap Some (digits_value-decimal numerals n h)

signed_is : (c : ℤ) → signed (is_negative c) (unsigned_abs c) ≡ c
signed_is (pos n) = grind (arith, nat_tests)
signed_is (negsuc n) = refl

minus : Bool → List ℕ
minus negative = cond negative (45 ∷ []) []

minus_is : (negative : Bool) → IsSign (minus negative) negative
unfolding minus
minus_is true = inr (inr (refl, refl))
minus_is false = inl (refl, refl)

minus_length : (negative : Bool) → length (minus negative) ≤ 1
unfolding minus
minus_length true = omega arith
minus_length false = omega arith

cents_are : (n : ℕ) → n < 100 → list_all is_ascii_digit (two_digits n) ≡ true
cents_are n h = and_from _ _ (digit_from (n / 10) (omega arith)) (and_from _ _ (digit_from (n % 10) (omega arith)) refl)

cents_value : (n : ℕ) → n < 100 → cents_after (two_digits n) ≡ n
cents_value n h =
    omega (arith, digit_value_is (48 + n / 10) (omega arith), digit_value_is (48 + n % 10) (omega arith))

first_kept : (negative : Bool) (digits rest : List ℕ) → 0 < length digits → list_all is_ascii_digit digits ≡ true → is_white (get_or (minus negative ++ (digits ++ rest)) 0 0) ≡ false
unfolding minus
first_kept true digits rest h all = refl
first_kept false [] rest h all = absurd (omega arith)
first_kept false (d ∷ digits) rest h all =
    let is = digit_in d (and_parts _ _ all).0 in digit_kept d (omega arith)

amount_kept : (sign dollars : List ℕ) (cents : ℕ) → is_white (get_or (sign ++ (dollars ++ 46 ∷ two_digits cents)) 0 0) ≡ false → trimmed (sign ++ (dollars ++ 46 ∷ two_digits cents)) ≡ sign ++ (dollars ++ 46 ∷ two_digits cents)
amount_kept sign dollars cents first =
    let prefix = sign ++ (dollars ++ 46 ∷ (48 + cents / 10) ∷ []) in
    let ends : sign ++ (dollars ++ 46 ∷ two_digits cents) ≡ prefix ++ (48 + cents % 10) ∷ [] = simp append_assoc in
    ap trimmed ends ∙ trimmed_same prefix (48 + cents % 10) (rw (← ends) first) (digit_kept (48 + cents % 10) (omega arith)) ∙ sym ends

-- a sign, dollars and two digits of cents spell an amount
amount_spelled : (negative : Bool) (d r : ℕ) → r < 100 → 100 * d + r ≤ 9999999999999 → IsAmount (minus negative ++ (decimal d ++ 46 ∷ two_digits r)) (signed negative (100 * d + r))
amount_spelled negative d r small h =
    let all = digits_decimal numerals d (omega arith) in
    let some = decimal_nonempty d (omega arith) in
    let short = length-decimal-le 12 d (omega arith) (omega arith) (omega arith) in
    let value = digits_value-decimal numerals d (omega arith) in
    let same = amount_kept (minus negative) (decimal d) r (first_kept negative (decimal d) (46 ∷ two_digits r) some all) in
    let size : length (minus negative ++ (decimal d ++ 46 ∷ two_digits r)) ≤ 32 = omega (arith, length-append (minus negative) (decimal d ++ 46 ∷ two_digits r), length-append (decimal d) (46 ∷ two_digits r), minus_length negative) in
    let total : 100 * digits_value 10 (decimal d) + cents_after (two_digits r) ≡ 100 * d + r = omega (arith, value, cents_value r small) in
    record {
      sign = minus negative;
      negative = negative;
      dollars = decimal d;
      fraction = 46 ∷ two_digits r;
      suffix = two_digits r;
      spelled = same;
      is_sign = minus_is negative;
      is_fraction = inr (inl refl);
      are_dollars = all;
      are_cents = cents_are r small;
      is_something = omega arith;
      is_short = rw same size;
      is_whole_cents = refl;
      is_bounded = omega (arith, total);
      meant = ap (signed negative) (sym total);
    }

-- an amount within the limit is spelled as it is printed
pub amount_printed : (c : ℤ) → unsigned_abs c ≤ 9999999999999 → IsAmount (amount_text c) c
unfolding amount_text minus
amount_printed c h =
    let n = unsigned_abs c in
    let whole : 100 * (n / 100) + n % 100 ≡ n = omega arith in
    let spelled = amount_spelled (is_negative c) (n / 100) (n % 100) (omega arith) (omega arith) in
    subst (λ (z : ℤ). IsAmount (amount_text c) z) (ap (signed (is_negative c)) whole ∙ signed_is c) spelled

pub amounts_apart : (a b : ℤ) → unsigned_abs a ≤ 9999999999999 → unsigned_abs b ≤ 9999999999999 → amount_text a ≡ amount_text b → a ≡ b
amounts_apart a b h k e =
    amount_once (amount_text b) a b (subst (λ (t : List ℕ). IsAmount t a) e (amount_printed a h)) (amount_printed b k)

-- ---- moments

clock_spelled : (s : ℕ) → s < 86400 → IsClock (clock_text s) s
clock_spelled s h = record { hour = s / 3600; minute = s / 60 % 60; second = s % 60; hours = omega arith; minutes = omega arith; seconds_of_minute = omega arith; spelled = refl; meant = omega arith }

-- a moment is its day's midnight and the seconds since then
moment_parts : (m : ℤ) → IsMoment m → IsDay (day_of m) × (second_of_day m < 86400) × (m ≡ midnight (day_of m) +ℤ pos (second_of_day m) -ℤ pos 0)
moment_parts m h =
    let day = int_div_euclid-parts m 86400 (omega arith) in
    let second = int_rem_euclid-parts m 86400 (omega arith) in
    let size = size_is (int_rem_euclid m (pos 86400)) (omega (arith, signed_arith)) in
    (omega (arith, signed_arith, day), omega (arith, signed_arith, second, size), omega (arith, signed_arith, day, second, size))

-- fourteen digits aren't trimmed
stamp_kept : (c : CivilDate) (s : ℕ) → trimmed (date_text c ++ clock_text s) ≡ date_text c ++ clock_text s
stamp_kept c s =
    trimmed_same (date_text c ++ (two_digits (s / 3600) ++ (two_digits (s / 60 % 60) ++ (48 + s % 60 / 10) ∷ []))) (48 + s % 60 % 10) (digit_kept (48 + c.year / 100 / 10) (omega arith)) (digit_kept (48 + s % 60 % 10) (omega arith))

-- a moment is spelled as it is printed
pub moment_printed : (m : ℤ) → IsMoment m → IsDate (moment_text m) m
unfolding moment_text
moment_printed m h =
    let parts = moment_parts m h in
    let second = second_of_day m in
    record {
      day = day_of m;
      time = clock_text second;
      zone = [];
      seconds = second;
      offset = pos 0;
      is_day = parts.0;
      spelled = stamp_kept (civil_of (day_of m)) second;
      is_time = inr (clock_text second, [], clock_spelled second parts.1, inl refl, refl);
      is_zone = inl (refl, refl);
      meant = parts.2;
      is_moment = h;
    }

pub moments_apart : (a b : ℤ) → IsMoment a → IsMoment b → moment_text a ≡ moment_text b → a ≡ b
moments_apart a b h k e =
    date_once (moment_text b) a b (subst (λ (t : List ℕ). IsDate t a) e (moment_printed a h)) (moment_printed b k)
