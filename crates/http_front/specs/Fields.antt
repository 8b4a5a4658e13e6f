-- What the fields of a head say (RFC 9110; RFC 9112). A field is its name and its value, and the value has no space or tab at
-- either end.
use Rattle.std.specs.Prelude.{ℕ, Bool, ◌&&◌, ◌||◌, ◌==◌, List, [], ◌∷◌, map, filter, codes, if◌then◌else◌, Option, Some, None}
use Rattle.std.specs.Option.{option_and_then}
use Rattle.std.specs.List.{list_any}
use Rattle.std.specs.Str.{str_eq_ignore_ascii_case}
use Rattle.ofx_types.specs.NumberReading.{number_at}

-- names are compared without regard to the case of their letters
abbrev pub is_named : List ℕ → List ℕ × List ℕ → Bool
is_named name field = str_eq_ignore_ascii_case field.0 name

-- the values of the fields of one name, in order
abbrev pub values_of : List ℕ → List (List ℕ × List ℕ) → List (List ℕ)
values_of name fields = map (λ field. field.1) (filter (is_named name) fields)

-- the value of the one field of this name; none where no field has it, or more than one
abbrev pub only : List (List ℕ) → Option (List ℕ)
only [] = None
only (value ∷ []) = Some value
only (value ∷ another ∷ values) = None

-- The length of the body: what the one Content-Length field says in 1 to 9 digits. None is usable where that field occurs
-- twice, whether or not both agree, or where there is a Transfer-Encoding field.
unfoldable pub usable_length : List (List ℕ × List ℕ) → Option ℕ
usable_length fields =
    if list_any (is_named (codes "Transfer-Encoding")) fields then None
    else option_and_then (number_at 9) (only (values_of (codes "Content-Length") fields))

-- a Connection field whose whole value is `close`, in any letter case
abbrev pub is_close : List ℕ × List ℕ → Bool
is_close field = is_named (codes "Connection") field && str_eq_ignore_ascii_case field.1 (codes "close")

-- one of the fields is such a one
unfoldable pub says_close : List (List ℕ × List ℕ) → Bool
says_close fields = list_any is_close fields

-- the sender's connection ends after this message: it is HTTP/1.0, or says so
abbrev pub is_last : ℕ → List (List ℕ × List ℕ) → Bool
is_last minor fields = minor == 0 || says_close fields
