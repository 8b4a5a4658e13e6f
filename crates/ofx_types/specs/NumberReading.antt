-- Numbers of digits, as ids and codes have them. Leading zeros are let pass.
use Rattle.std.specs.Prelude.{ℕ, Bool, ◌&&◌, nat_le, if◌then◌else◌, List, length, Option, Some, None}
use Rattle.std.specs.List.{list_all}
use Rattle.std.specs.Char.{is_ascii_digit}
use Rattle.std.specs.Str.Parse.{digits_value}

-- 1 digit up to the limit
abbrev pub is_number_within : ℕ → List ℕ → Bool
is_number_within most text = nat_le 1 (length text) && nat_le (length text) most && list_all is_ascii_digit text

unfoldable pub number_at : ℕ → List ℕ → Option ℕ
number_at most text = if is_number_within most text then Some (digits_value 10 text) else None
