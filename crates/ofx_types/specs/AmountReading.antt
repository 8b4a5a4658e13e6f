-- Reading an amount: a sign, the digits of dollars, and what follows them.
use Rattle.std.specs.Prelude.{ℕ, ◌+◌, ◌*◌, Bool, ◌&&◌, ◌||◌, ◌==◌, nat_lt, nat_le, if◌then◌else◌, ℤ, List, [], ◌∷◌, length, drop, Option, Some, None}
use Rattle.std.specs.List.{list_all, take_while}
use Rattle.std.specs.Char.{is_ascii_digit}
use Rattle.std.specs.Str.Parse.{digits_value}
use Rattle.ofx_types.specs.Digits.{signed}
use Rattle.ofx_types.specs.AmountForm.{cents_after}
use Rattle.ofx_types.specs.ValueReading.{◌>>=◌, sign_at}

-- the digits at the start
abbrev pub prefix_digits : List ℕ → List ℕ
prefix_digits text = take_while is_ascii_digit text

-- what follows them
abbrev pub after_digits : List ℕ → List ℕ
after_digits text = drop (length (prefix_digits text)) text

-- the digits after a mark, or none where there is no mark
unfoldable pub after_mark : List ℕ → Option (List ℕ)
after_mark [] = Some []
after_mark (b ∷ digits) =
    if (b == 46 || b == 44) && list_all is_ascii_digit digits then Some digits else None

-- the cents of the digits before and after the mark
abbrev pub total : List ℕ → List ℕ → ℕ
total dollars suffix = 100 * digits_value 10 dollars + cents_after suffix

-- There is a digit, after the second digit after the mark are only zeros, and the limit is kept.
abbrev pub is_counted : List ℕ → List ℕ → Bool
is_counted dollars suffix =
    nat_lt 0 (length dollars + length suffix) && list_all (λ b. b == 48) (drop 2 suffix)
    && nat_le (total dollars suffix) 9999999999999

unfoldable pub magnitude_of : List ℕ → List ℕ → Option ℕ
magnitude_of dollars suffix = if is_counted dollars suffix then Some (total dollars suffix) else None

-- the magnitude of what is there after the sign
unfoldable pub magnitude_at : List ℕ → Option ℕ
magnitude_at text = do
  suffix ← after_mark (after_digits text)
  magnitude_of (prefix_digits text) suffix

unfoldable pub amount_at : List ℕ → Option ℤ
amount_at text =
    if nat_le (length text) 32
    then (magnitude_at (sign_at text).1 >>= λ magnitude. Some (signed (sign_at text).0 magnitude))
    else None
