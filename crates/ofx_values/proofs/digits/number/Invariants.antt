use Rattle.std.proofs.Common.{◌≡◌, ℕ, ◌<◌, ◌^◌, List, take}
use Rattle.std.specs.Str.Parse.{digits_value}
use Rattle.ofx_values.proofs.digits.number.Given as goal

-- the number of the digits so far
pub record IsNumberOf (value count : ℕ) (digits : List ℕ) : Type 0 where
  pub is : value ≡ digits_value 10 (take count digits)
  pub below : value < 10 ^ count

abbrev pub invariant-loop-digit : goal.invariant-loop-digit
invariant-loop-digit l = IsNumberOf l.value l.digit-index l.digits
