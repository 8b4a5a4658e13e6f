-- How a server reads a client's messages, as far as it needs for those that the client writes.
use Rattle.std.specs.Prelude.{ℕ, zero, suc, ◌-◌, ◌<◌, ◌^◌, nat_lt, ◌==◌, ◌&&◌, ◌||◌, if◌then◌else◌, List, [], ◌∷◌, ◌++◌, length, take, drop, codes, slice_index, Option, option_to_list, Result, Ok, Err}
use Rattle.std.specs.List.{flat_map}
use Rattle.std.specs.Str.{bytes_eq}
use Rattle.postgres_messages.specs.Fields.{◌>>=◌, u16_in, u32_in, text_in, after_values, values_of}
use Rattle.postgres_messages.specs.Requests.{Request, Startup, SignOn, Reply, Parse, Bind, Execute, Sync, Terminate, session_bytes, execute_bytes}

-- The first message has no kind, and the kind 112 is of both messages of a sign-on. So what bytes say depends on which message
-- is due: the first, one of the sign-on, or a later one.
pub data Due : Type 0 where
  First : Due
  OfSignOn : Due
  OfReply : Due
  Later : Due

abbrev pub due : Request → Due
due (Startup user database) = First
due (SignOn first) = OfSignOn
due (Reply last) = OfReply
due _ = Later

-- ---- bodies

abbrev pub startup_in : List ℕ → Result Request ℕ
startup_in body = do
  version ← u32_in body
  first ← text_in version.1
  user ← text_in first.1
  second ← text_in user.1
  database ← text_in second.1
  if version.0 == 196608 && bytes_eq first.0 (codes "user") && bytes_eq second.0 (codes "database") && bytes_eq database.1 (session_bytes ++ 0 ∷ []) then Ok (Startup user.0 database.0) else Err 0

abbrev pub sign_on_in : List ℕ → Result Request ℕ
sign_on_in body = do
  method ← text_in body
  size ← u32_in method.1
  if bytes_eq method.0 (codes "SCRAM-SHA-256") && size.0 == length size.1 then Ok (SignOn size.1) else Err 0

-- so many numbers of four bytes
unfoldable pub numbers_in : (count : ℕ) → List ℕ → Result (List ℕ × List ℕ) ℕ
numbers_in zero bytes = Ok ([], bytes)
numbers_in (suc count) bytes = do
  number ← u32_in bytes
  more ← numbers_in count number.1
  Ok (number.0 ∷ more.0, more.1)

abbrev pub parse_in : List ℕ → Result Request ℕ
parse_in body = do
  name ← text_in body
  sql ← text_in name.1
  count ← u16_in sql.1
  types ← numbers_in count.0 count.1
  if length types.1 == 0 then Ok (Parse name.0 sql.0 types.0) else Err 0

-- the values that are there
abbrev pub present : List (Option (List ℕ)) → List (List ℕ)
present values = flat_map option_to_list values

-- One format for all values, and one for all results: binary.
abbrev pub bind_in : List ℕ → Result Request ℕ
bind_in body = do
  portal ← text_in body
  name ← text_in portal.1
  formats ← u16_in name.1
  format ← u16_in formats.1
  count ← u16_in format.1
  rest ← after_values count.0 count.1
  results ← u16_in rest
  result ← u16_in results.1
  if length portal.0 == 0 && formats.0 == 1 && format.0 == 1 && results.0 == 1 && result.0 == 1 && length result.1 == 0 then Ok (Bind name.0 (present (values_of count.0 count.1))) else Err 0

abbrev pub whole_in : Request → (wanted body : List ℕ) → Result Request ℕ
whole_in r wanted body = if bytes_eq body wanted then Ok r else Err 0

abbrev pub later_in : (kind : ℕ) → List ℕ → Result Request ℕ
later_in kind body =
    if kind == 80 then parse_in body
    else (if kind == 66 then bind_in body
    else (if kind == 69 then whole_in Execute execute_bytes body
    else (if kind == 83 then whole_in Sync [] body
    else (if kind == 88 then whole_in Terminate [] body else Err 0))))

abbrev pub kind_in_turn : Due → (kind : ℕ) → List ℕ → Result Request ℕ
kind_in_turn First kind body = Err 0
kind_in_turn OfSignOn kind body = if kind == 112 then sign_on_in body else Err 0
kind_in_turn OfReply kind body = if kind == 112 then Ok (Reply body) else Err 0
kind_in_turn Later kind body = later_in kind body

-- ---- messages

-- the body whose length begins these bytes, and what follows it
abbrev pub sized_body : (size : ℕ) → List ℕ → Result (List ℕ × List ℕ) ℕ
sized_body size rest =
    if nat_lt size 4 || nat_lt (length rest) (size - 4) then Err 0 else Ok (take (size - 4) rest, drop (size - 4) rest)

unfoldable pub body_at : List ℕ → Result (List ℕ × List ℕ) ℕ
body_at bytes = do
  size ← u32_in bytes
  sized_body size.0 size.1

abbrev pub read_kinded : Due → List ℕ → Result (Request × List ℕ) ℕ
read_kinded turn [] = Err 0
read_kinded turn (kind ∷ bytes) = do
  body ← body_at bytes
  said ← kind_in_turn turn kind body.0
  Ok (said, body.1)

abbrev pub read_first : List ℕ → Result (Request × List ℕ) ℕ
read_first bytes = do
  body ← body_at bytes
  said ← startup_in body.0
  Ok (said, body.1)

-- The message that is due, and what follows it.
abbrev pub read_turn : Due → List ℕ → Result (Request × List ℕ) ℕ
read_turn First bytes = read_first bytes
read_turn OfSignOn bytes = read_kinded OfSignOn bytes
read_turn OfReply bytes = read_kinded OfReply bytes
read_turn Later bytes = read_kinded Later bytes

-- The types of parameters are numbers of four bytes.
abbrev pub HasTypes : Request → Type 0
HasTypes (Parse name sql types) = (k : ℕ) → k < length types → slice_index types k < 2 ^ 32
HasTypes _ = Unit {0}
