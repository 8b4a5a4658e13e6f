-- What the readers give, as functions on lists. A part that is read is a value and the bytes after it.
use Rattle.std.specs.Prelude.{◌≡◌, ℕ, ◌+◌, ◌-◌, ◌*◌, Bool, true, false, ◌&&◌, ◌==◌, if◌then◌else◌, List, [], ◌∷◌, Option, Some, None}
use Rattle.std.specs.Char.{is_ascii_digit}

infixl 10 ◌>>=◌
abbrev pub ◌>>=◌ : {A B : Type 0} → Option A → (A → Option B) → Option B
(Some x) >>= f = f x
None >>= f = None

-- what a function returned, seen by view, is what reading gives
abbrev pub ReadsValue : {X Y : Type 0} → (X → Y) → Option X → Option Y → Type 0
ReadsValue view (Some x) read = read ≡ Some (view x)
ReadsValue view None read = read ≡ None

-- the number that two digits stand for
unfoldable pub pair_at : List ℕ → Option (ℕ × List ℕ)
pair_at [] = None
pair_at (a ∷ []) = None
pair_at (a ∷ b ∷ rest) =
    if is_ascii_digit a && is_ascii_digit b then Some (10 * (a - 48) + (b - 48), rest) else None

-- whether a minus is here, and what follows a sign
unfoldable pub sign_at : List ℕ → Bool × List ℕ
sign_at [] = (false, [])
sign_at (b ∷ rest) = if b == 45 then (true, rest) else (if b == 43 then (false, rest) else (false, b ∷ rest))
