-- The bytes that are escaped in a value.
use Rattle.std.specs.Prelude.{ℕ, Bool, ◌||◌, ◌==◌}

-- `&`, `<` and `>`
abbrev pub is_mark : ℕ → Bool
is_mark b = (b == 38) || (b == 60) || (b == 62)
