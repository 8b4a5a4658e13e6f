-- The messages of a client, as lists of bytes, and how each is written.
use Rattle.std.specs.Prelude.{ℕ, ◌+◌, nat_lt, nat_le, ◌&&◌, Bool, true, List, [], ◌∷◌, ◌++◌, length, codes, position, Option, None, Some, is_none}
use Rattle.std.specs.List.{flat_map, list_all}
use Rattle.postgres_messages.specs.Fields.{u16_bytes, u32_bytes, is_zero, text_bytes, absent}
use Rattle.postgres_messages.specs.Messages.{framed}
use Rattle.postgres_messages.specs.Reading.{max_length}

-- What a client asks: to begin, with its name and the database; to sign on by SCRAM-SHA-256, with its first message, and then
-- with its last; to parse a statement under a name, whose parameters have these types; to bind the statement of a name to values;
-- to execute what is bound; to be told when all of that is done; and to end.
pub data Request : Type 0 where
  Startup : (user database : List ℕ) → Request
  SignOn : (first : List ℕ) → Request
  Reply : (last : List ℕ) → Request
  Parse : (name sql types : List ℕ) → Request
  Bind : (name : List ℕ) (values : List (List ℕ)) → Request
  Execute : Request
  Sync : Request
  Terminate : Request

-- ---- bodies

unfoldable pub setting_bytes : (name value : List ℕ) → List ℕ
setting_bytes name value = text_bytes name ++ text_bytes value

-- Each transaction sees what was committed before each of its statements, is committed on the standbys too, and is told by a
-- notice where that is broken off. This is set here, since a role or a database may have set otherwise.
abbrev pub session_bytes : List ℕ
session_bytes =
    setting_bytes (codes "application_name") (codes "ofxbank")
    ++ setting_bytes (codes "default_transaction_isolation") (codes "read committed")
    ++ setting_bytes (codes "client_min_messages") (codes "notice")
    ++ setting_bytes (codes "synchronous_commit") (codes "on")

-- The version 3.0, and then settings up to an empty name.
abbrev pub startup_bytes : (user database : List ℕ) → List ℕ
startup_bytes user database =
    u32_bytes 196608 ++ setting_bytes (codes "user") user ++ setting_bytes (codes "database") database ++ session_bytes ++ 0 ∷ []

abbrev pub sign_on_bytes : (first : List ℕ) → List ℕ
sign_on_bytes first = text_bytes (codes "SCRAM-SHA-256") ++ u32_bytes (length first) ++ first

abbrev pub parse_bytes : (name sql types : List ℕ) → List ℕ
parse_bytes name sql types = text_bytes name ++ text_bytes sql ++ u16_bytes (length types) ++ flat_map u32_bytes types

abbrev pub sized_bytes : List ℕ → List ℕ
sized_bytes value = u32_bytes (length value) ++ value

-- The portal without a name. All values and all results are in their binary form, which is the number 1.
abbrev pub bind_bytes : (name : List ℕ) → (values : List (List ℕ)) → List ℕ
bind_bytes name values =
    0 ∷ [] ++ text_bytes name ++ u16_bytes 1 ++ u16_bytes 1 ++ u16_bytes (length values) ++ flat_map sized_bytes values ++ u16_bytes 1 ++ u16_bytes 1

-- The portal without a name, and all its rows.
abbrev pub execute_bytes : List ℕ
execute_bytes = 0 ∷ [] ++ u32_bytes 0

abbrev pub request_body : Request → List ℕ
request_body (Startup user database) = startup_bytes user database
request_body (SignOn first) = sign_on_bytes first
request_body (Reply last) = last
request_body (Parse name sql types) = parse_bytes name sql types
request_body (Bind name values) = bind_bytes name values
request_body Execute = execute_bytes
request_body Sync = []
request_body Terminate = []

-- ---- messages

-- The first message has no kind.
abbrev pub request_kind : Request → Option ℕ
request_kind (Startup user database) = None
request_kind (SignOn first) = Some 112
request_kind (Reply last) = Some 112
request_kind (Parse name sql types) = Some 80
request_kind (Bind name values) = Some 66
request_kind Execute = Some 69
request_kind Sync = Some 83
request_kind Terminate = Some 88

abbrev pub with_kind : Option ℕ → (body : List ℕ) → List ℕ
with_kind None body = u32_bytes (length body + 4) ++ body
with_kind (Some kind) body = framed kind body

abbrev pub request_bytes : Request → List ℕ
request_bytes r = with_kind (request_kind r) (request_body r)

abbrev pub is_text : List ℕ → Bool
is_text text = is_none (position is_zero text)

abbrev pub is_sized : List ℕ → Bool
is_sized value = nat_lt (length value) absent

-- No text has a zero byte, and each size and count has room in its field.
abbrev pub has_form : Request → Bool
has_form (Startup user database) = is_text user && is_text database
has_form (SignOn first) = is_sized first
has_form (Reply last) = true
has_form (Parse name sql types) = is_text name && is_text sql && nat_lt (length types) 65536
has_form (Bind name values) = is_text name && nat_lt (length values) 65536 && list_all is_sized values
has_form Execute = true
has_form Sync = true
has_form Terminate = true

abbrev pub is_within : (body : List ℕ) → Bool
is_within body = nat_le (length body + 4) max_length

-- A message that can be written: of a form, and within the longest length.
abbrev pub is_writable : Request → Bool
is_writable r = has_form r && is_within (request_body r)

-- ---- arrays

-- An array of byte strings as a value: one dimension, no value absent, the type of a byte string, how many there are, and that
-- they are counted from 1.
unfoldable pub array_head : (count : ℕ) → List ℕ
array_head count = u32_bytes 1 ++ u32_bytes 0 ++ u32_bytes 17 ++ u32_bytes count ++ u32_bytes 1

abbrev pub array_bytes : List (List ℕ) → List ℕ
array_bytes records = array_head (length records) ++ flat_map sized_bytes records
