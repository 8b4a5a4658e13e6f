-- Reading a record from left to right: the value that is at an offset and the offset after it, or the offset of the first
-- field that has no form. A field is a number, a flag, a text or a uid with its length, or the byte that leads a choice.
use Rattle.std.specs.Prelude.{ℕ, ◌+◌, ℤ, pos, negsuc, unsigned_abs, int_le, nat_lt, nat_le, ◌==◌, ◌&&◌, Bool, true, false, if◌then◌else◌, List, length, slice_get, slice_index, slice_range, codes, Option, None, Some, is_none, Result, Ok, Err}
use Rattle.std.specs.Str.{bytes_eq}
use Rattle.std.specs.Int.{Width, w16, w32, w64, byte_len, from_be_bytes, cast_signed}
pub use Rattle.ofx_types.specs.InOrder.{◌>>=◌}
use Rattle.ofx_types.specs.TextRules.{trimmed, is_refused_in_text}
use Rattle.ofx_types.specs.TextOutcome.{text_fault, trnuid_fault, file_uid_fault}
use Rattle.ofx_types.specs.declared.number.Moment.{Moment}
use Rattle.ofx_types.specs.declared.number.Day.{Day}
use Rattle.ofx_types.specs.declared.number.Cents.{Cents}

-- ---- numbers

-- A field that is cut by the end of the record has no form.
unfoldable pub u8_at : List ℕ → ℕ → Result (ℕ × ℕ) ℕ
u8_at rec at = if nat_lt at (length rec) then Ok (slice_index rec at, at + 1) else Err at

-- this many bytes from an offset on, in a field that begins there or earlier
unfoldable pub bytes_at : ℕ → List ℕ → ℕ → ℕ → Result (List ℕ × ℕ) ℕ
bytes_at size rec at start =
    if nat_lt (length rec) (start + size) then Err at else Ok (slice_range rec start (start + size), start + size)

unfoldable pub number_at : Width → List ℕ → ℕ → Result (ℕ × ℕ) ℕ
number_at w rec at = do
  bytes ← bytes_at (byte_len w) rec at at
  Ok (from_be_bytes w bytes.0, bytes.1)

abbrev pub u16_at : List ℕ → ℕ → Result (ℕ × ℕ) ℕ
u16_at = number_at w16

abbrev pub u32_at : List ℕ → ℕ → Result (ℕ × ℕ) ℕ
u32_at = number_at w32

abbrev pub u64_at : List ℕ → ℕ → Result (ℕ × ℕ) ℕ
u64_at = number_at w64

-- a number with a sign
unfoldable pub signed_at : Width → List ℕ → ℕ → Result (ℤ × ℕ) ℕ
signed_at w rec at = do
  n ← number_at w rec at
  Ok (cast_signed w n.0, n.1)

abbrev pub i32_at : List ℕ → ℕ → Result (ℤ × ℕ) ℕ
i32_at = signed_at w32

abbrev pub i64_at : List ℕ → ℕ → Result (ℤ × ℕ) ℕ
i64_at = signed_at w64

-- A flag is 0 or 1.
unfoldable pub flag_at : List ℕ → ℕ → Result (Bool × ℕ) ℕ
flag_at rec at = do
  flag ← u8_at rec at
  if flag.0 == 0 then Ok (false, flag.1) else (if flag.0 == 1 then Ok (true, flag.1) else Err at)

-- A choice is the number of its case, from 0.
abbrev pub chosen : {A : Type 0} → ℕ → ℕ → Option A → Result (A × ℕ) ℕ
chosen at next None = Err at
chosen at next (Some case) = Ok (case, next)

unfoldable pub choice_at : {A : Type 0} → List A → List ℕ → ℕ → Result (A × ℕ) ℕ
choice_at cases rec at = do
  n ← u8_at rec at
  chosen at n.1 (slice_get cases n.0)

-- What may be absent is led by a flag.
unfoldable pub optional_at : {A : Type 0} → (List ℕ → ℕ → Result (A × ℕ) ℕ) → List ℕ → ℕ → Result (Option A × ℕ) ℕ
optional_at field rec at = do
  there ← flag_at rec at
  if there.0 then (field rec there.1 >>= λ x. Ok (Some x.0, x.1)) else Ok (None, there.1)

-- An id has at most ten digits.
unfoldable pub id_at : List ℕ → ℕ → Result (ℕ × ℕ) ℕ
id_at rec at = do
  id ← u64_at rec at
  if nat_le id.0 9999999999 then Ok id else Err at

-- An amount is at most 99,999,999,999.99 either way.
unfoldable pub amount_at : List ℕ → ℕ → Result (Cents × ℕ) ℕ
amount_at rec at = do
  cents ← i64_at rec at
  if nat_le (unsigned_abs cents.0) 9999999999999 then Ok (record { 0 = cents.0 }, cents.1) else Err at

-- Moments and days lie in the years 1900 to 9999.
abbrev pub is_moment : ℤ → Bool
is_moment z = int_le (negsuc 2208988799) z && int_le z (pos 253402300799)

unfoldable pub moment_at : List ℕ → ℕ → Result (Moment × ℕ) ℕ
moment_at rec at = do
  seconds ← i64_at rec at
  if is_moment seconds.0 then Ok (record { 0 = seconds.0 }, seconds.1) else Err at

abbrev pub is_day : ℤ → Bool
is_day z = int_le (negsuc 25566) z && int_le z (pos 2932896)

unfoldable pub day_at : List ℕ → ℕ → Result (Day × ℕ) ℕ
day_at rec at = do
  days ← i32_at rec at
  if is_day days.0 then Ok (record { 0 = days.0 }, days.1) else Err at

-- A series has 1 to 999 transfers, where it has an end.
unfoldable pub count_at : List ℕ → ℕ → Result (ℕ × ℕ) ℕ
count_at rec at = do
  count ← u16_at rec at
  if nat_le 1 count.0 && nat_le count.0 999 then Ok count else Err at

-- ---- texts and uids

-- A text is proper as it is: nothing is left to trim, it isn't above the limit, and no byte is refused.
abbrev pub is_text : ℕ → List ℕ → Bool
is_text most text = bytes_eq (trimmed text) text && is_none (text_fault is_refused_in_text most text)

unfoldable pub text_at : ℕ → List ℕ → ℕ → Result (List ℕ × ℕ) ℕ
text_at most rec at = do
  size ← u16_at rec at
  text ← bytes_at size.0 rec at size.1
  if is_text most text.0 then Ok text else Err at

-- In an event no text is empty.
unfoldable pub filled_text_at : ℕ → List ℕ → ℕ → Result (List ℕ × ℕ) ℕ
filled_text_at most rec at = do
  text ← text_at most rec at
  if length text.0 == 0 then Err at else Ok text

abbrev pub is_trnuid : List ℕ → Bool
is_trnuid uid = bytes_eq (trimmed uid) uid && is_none (trnuid_fault uid)

unfoldable pub trnuid_at : List ℕ → ℕ → Result (List ℕ × ℕ) ℕ
trnuid_at rec at = do
  size ← u8_at rec at
  uid ← bytes_at size.0 rec at size.1
  if is_trnuid uid.0 then Ok uid else Err at

-- A client's uid isn't `0`, which marks what the bank does by itself.
unfoldable pub given_uid_at : List ℕ → ℕ → Result (List ℕ × ℕ) ℕ
given_uid_at rec at = do
  uid ← trnuid_at rec at
  if bytes_eq uid.0 (codes "0") then Err at else Ok uid

abbrev pub is_file_uid : List ℕ → Bool
is_file_uid uid = bytes_eq (trimmed uid) uid && is_none (file_uid_fault uid)

-- No file uid has the length 0.
unfoldable pub file_uid_at : List ℕ → ℕ → Result (Option (List ℕ) × ℕ) ℕ
file_uid_at rec at = do
  size ← u8_at rec at
  uid ← bytes_at size.0 rec at size.1
  if size.0 == 0 then Ok (None, uid.1) else (if is_file_uid uid.0 then Ok (Some uid.0, uid.1) else Err at)
