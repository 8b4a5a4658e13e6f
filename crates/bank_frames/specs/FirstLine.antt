-- The first line of a frame: the digits of its length, read from the left, and where it ends.
use Rattle.std.specs.Prelude.{◌≡◌, ℕ, ◌<◌, ◌≤◌, ◌+◌, ◌-◌, ◌*◌, List, [], ◌∷◌, length, slice_index, ◌≢◌}

-- the number that digits stand for after what was read so far
abbrev pub number_from : ℕ → List ℕ → ℕ
number_from value [] = value
number_from value (digit ∷ digits) = number_from (value * 10 + (digit - 48)) digits

-- A length has one to eight digits, and no leading zero but in `0` itself.
pub record MayBeLength (digits : List ℕ) : Type 0 where
  pub there : 0 < length digits
  pub short : length digits ≤ 8
  pub lead : slice_index digits 0 ≡ 48 → length digits ≡ 1

-- The first line of a frame has at most 12 bytes. Its LF is the first one among them.
pub record EndsLine (bytes : List ℕ) (end : ℕ) : Type 0 where
  pub near : end < 12
  pub there : end < length bytes
  pub is_end : slice_index bytes end ≡ 10
  pub is_first : (k : ℕ) → k < end → slice_index bytes k ≢ 10

abbrev pub HasNoLineEnd : List ℕ → Type 0
HasNoLineEnd bytes = (k : ℕ) → k < 12 → k < length bytes → slice_index bytes k ≢ 10
