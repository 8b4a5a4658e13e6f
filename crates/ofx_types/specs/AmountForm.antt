-- Amounts as texts: what spells an amount of cents, and how an amount is printed.
use Rattle.std.specs.Prelude.{◌≡◌, ℕ, ◌+◌, ◌*◌, ◌/◌, ◌%◌, ◌<◌, ◌≤◌, ◌⊎◌, Bool, IsTrue, ◌==◌, if◌then◌else◌, ℤ, unsigned_abs, List, [], ◌∷◌, ◌++◌, length, take, drop}
use Rattle.std.specs.List.{list_all}
use Rattle.std.specs.Char.{is_ascii_digit}
use Rattle.std.specs.Str.Parse.{digits_value}
use Rattle.std.specs.Fmt.{decimal}
use Rattle.std.specs.Int.{is_negative}
use Rattle.ofx_types.specs.TextRules.{trimmed}
use Rattle.ofx_types.specs.Digits.{IsSign, signed, two_digits}

-- The mark after the dollars is a point or a comma. Without a mark no digit comes after it.
abbrev pub IsFractionPart : List ℕ → List ℕ → Type 0
IsFractionPart text digits =
    ((text ≡ []) × (digits ≡ [])) ⊎ ((text ≡ 46 ∷ digits) ⊎ (text ≡ 44 ∷ digits))

-- The first two digits after the mark are cents; a digit that isn't there is 0.
abbrev pub cents_after : List ℕ → ℕ
cents_after digits = digits_value 10 (take 2 (digits ++ 48 ∷ 48 ∷ []))

-- An amount has an optional sign and digits with at most one mark among, before or after them, at least one digit,
-- at most 32 bytes, only 0 after the second digit after the mark, and a magnitude of at most 99,999,999,999.99.
pub record IsAmount (raw : List ℕ) (cents : ℤ) : Type 0 where
  pub sign : List ℕ
  pub negative : Bool
  pub dollars : List ℕ
  pub fraction : List ℕ
  pub suffix : List ℕ
  pub spelled : trimmed raw ≡ sign ++ (dollars ++ fraction)
  pub is_sign : IsSign sign negative
  pub is_fraction : IsFractionPart fraction suffix
  pub are_dollars : IsTrue (list_all is_ascii_digit dollars)
  pub are_cents : IsTrue (list_all is_ascii_digit suffix)
  pub is_something : 0 < length dollars + length suffix
  pub is_short : length (trimmed raw) ≤ 32
  pub is_whole_cents : IsTrue (list_all (λ b. b == 48) (drop 2 suffix))
  pub is_bounded : 100 * digits_value 10 dollars + cents_after suffix ≤ 9999999999999
  pub meant : cents ≡ signed negative (100 * digits_value 10 dollars + cents_after suffix)

-- An amount is printed as `-` where it is negative, the dollars, a point and two digits of cents.
unfoldable pub amount_text : ℤ → List ℕ
amount_text c =
    (if is_negative c then 45 ∷ [] else [])
    ++ (decimal (unsigned_abs c / 100) ++ 46 ∷ two_digits (unsigned_abs c % 100))
