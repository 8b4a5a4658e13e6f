-- The fields that messages are made of: how each is written, and how it is read from the start of bytes. Reading gives the value
-- and the bytes after it, or how many bytes are left from the start of the first field that has no form.
use Rattle.std.specs.Prelude.{◌≡◌, ℕ, zero, suc, ◌+◌, ◌<◌, ◌==◌, nat_lt, Bool, true, false, if◌then◌else◌, List, [], ◌∷◌, ◌++◌, length, take, drop, position, slice_index, Option, None, Some, Result, Ok, Err}
use Rattle.std.specs.List.{flat_map, list_any}
use Rattle.std.specs.Str.{bytes_eq}
use Rattle.std.specs.Int.{w16, w32, to_be_bytes, from_be_bytes}

infixl 10 ◌>>=◌
abbrev pub ◌>>=◌ : {A B : Type 0} → Result A ℕ → (A → Result B ℕ) → Result B ℕ
Err left >>= f = Err left
(Ok x) >>= f = f x

-- ---- numbers

-- Numbers are big-endian.
abbrev pub u16_bytes : ℕ → List ℕ
u16_bytes n = to_be_bytes w16 n

abbrev pub u32_bytes : ℕ → List ℕ
u32_bytes n = to_be_bytes w32 n

unfoldable pub u16_in : List ℕ → Result (ℕ × List ℕ) ℕ
u16_in (a ∷ b ∷ rest) = Ok (from_be_bytes w16 (a ∷ b ∷ []), rest)
u16_in bytes = Err (length bytes)

unfoldable pub u32_in : List ℕ → Result (ℕ × List ℕ) ℕ
u32_in (a ∷ b ∷ c ∷ d ∷ rest) = Ok (from_be_bytes w32 (a ∷ b ∷ c ∷ d ∷ []), rest)
u32_in bytes = Err (length bytes)

-- ---- texts

abbrev pub is_zero : ℕ → Bool
is_zero b = b == 0

-- A text has no zero byte, and one ends it.
abbrev pub IsText : List ℕ → Type 0
IsText text = (k : ℕ) → k < length text → is_zero (slice_index text k) ≡ false

abbrev pub text_bytes : List ℕ → List ℕ
text_bytes text = text ++ 0 ∷ []

abbrev pub cut_at : List ℕ → Option ℕ → Result (List ℕ × List ℕ) ℕ
cut_at bytes None = Err (length bytes)
cut_at bytes (Some n) = Ok (take n bytes, drop (n + 1) bytes)

unfoldable pub text_in : List ℕ → Result (List ℕ × List ℕ) ℕ
text_in bytes = cut_at bytes (position is_zero bytes)

-- A list of texts, none of them empty, ends by an empty one.
abbrev pub texts_bytes : List (List ℕ) → List ℕ
texts_bytes texts = flat_map text_bytes texts ++ 0 ∷ []

abbrev pub is_empty : List ℕ → Bool
is_empty [] = true
is_empty (x ∷ xs) = false

-- what follows a list of at most so many texts
unfoldable pub after_texts : (most : ℕ) → List ℕ → Result (List ℕ) ℕ
after_texts zero bytes = Err (length bytes)
after_texts (suc most) bytes = do
  text ← text_in bytes
  if is_empty text.0 then Ok text.1 else after_texts most text.1

abbrev pub texts_from : (List ℕ → List (List ℕ)) → Result (List ℕ × List ℕ) ℕ → List (List ℕ)
texts_from more (Err left) = []
texts_from more (Ok text) = if is_empty text.0 then [] else text.0 ∷ more text.1

-- the texts of a list of at most so many
unfoldable pub texts_of : (most : ℕ) → List ℕ → List (List ℕ)
texts_of zero bytes = []
texts_of (suc most) bytes = texts_from (texts_of most) (text_in bytes)

-- the rest of a text, where this byte leads it
abbrev pub led_by : (kind : ℕ) → List ℕ → Option (List ℕ) → Option (List ℕ)
led_by kind [] otherwise = otherwise
led_by kind (b ∷ rest) otherwise = if b == kind then Some rest else otherwise

-- The field of this kind in a report: what follows the byte in the first text that it leads.
abbrev pub field : (kind : ℕ) → List (List ℕ) → Option (List ℕ)
field kind [] = None
field kind (text ∷ texts) = led_by kind text (field kind texts)

abbrev pub has_text : (wanted : List ℕ) → List (List ℕ) → Bool
has_text wanted texts = list_any (λ text. bytes_eq text wanted) texts

-- ---- values

-- The size that marks a value as absent: -1.
abbrev pub absent : ℕ
absent = 4294967295

-- A value is its size in four bytes, and its bytes.
abbrev pub value_bytes : Option (List ℕ) → List ℕ
value_bytes None = u32_bytes absent
value_bytes (Some value) = u32_bytes (length value) ++ value

abbrev pub sized : (left size : ℕ) → List ℕ → Result (Option (List ℕ) × List ℕ) ℕ
sized left size rest =
    if size == absent then Ok (None, rest)
    else (if nat_lt (length rest) size then Err left else Ok (Some (take size rest), drop size rest))

unfoldable pub value_in : List ℕ → Result (Option (List ℕ) × List ℕ) ℕ
value_in bytes = do
  size ← u32_in bytes
  sized (length bytes) size.0 size.1

-- what follows so many values
unfoldable pub after_values : (count : ℕ) → List ℕ → Result (List ℕ) ℕ
after_values zero bytes = Ok bytes
after_values (suc count) bytes = do
  value ← value_in bytes
  after_values count value.1

abbrev pub values_from : (List ℕ → List (Option (List ℕ))) → Result (Option (List ℕ) × List ℕ) ℕ → List (Option (List ℕ))
values_from more (Err left) = []
values_from more (Ok value) = value.0 ∷ more value.1

unfoldable pub values_of : (count : ℕ) → List ℕ → List (Option (List ℕ))
values_of zero bytes = []
values_of (suc count) bytes = values_from (values_of count) (value_in bytes)
