-- Reading a server's next message from the bytes that have come.
use Rattle.std.specs.Prelude.{ℕ, ◌+◌, ◌-◌, nat_lt, ◌==◌, ◌||◌, if◌then◌else◌, List, [], ◌∷◌, length, take, Option, None, Some, Result, Ok, Err}
use Rattle.postgres_messages.specs.declared.kind.Kind.{Kind}
use Rattle.postgres_messages.specs.declared.kind.Kind.TheVariants as kinds
use Rattle.postgres_messages.specs.Fields.{◌>>=◌, u16_in, u32_in, text_in, after_texts, texts_of, after_values, values_of}
use Rattle.postgres_messages.specs.Messages.{Message, SignedOn, Methods, Challenge, Verifier, ProcessKey, Setting, Ready, Parsed, Bound, Row, Completed, Failed, Notice}

-- A whole message, with the count of its bytes; the beginning of one, of which more has to come; or bytes that are none, with
-- the offset of the first field that has no form.
pub data Reading : Type 0 where
  Whole : Message → (size : ℕ) → Reading
  Cut : Reading
  Refused : (place : ℕ) → Reading

abbrev pub kind_of : ℕ → Option Kind
kind_of b =
    if b == 82 then Some kinds.Authentication
    else (if b == 75 then Some kinds.KeyData
    else (if b == 83 then Some kinds.ParameterStatus
    else (if b == 90 then Some kinds.ReadyForQuery
    else (if b == 49 then Some kinds.ParseComplete
    else (if b == 50 then Some kinds.BindComplete
    else (if b == 68 then Some kinds.DataRow
    else (if b == 67 then Some kinds.CommandComplete
    else (if b == 69 then Some kinds.ErrorResponse
    else (if b == 78 then Some kinds.NoticeResponse else None)))))))))

-- ---- bodies

-- Nothing may follow.
abbrev pub ended : {A : Type 0} → A → List ℕ → Result A ℕ
ended x [] = Ok x
ended x (b ∷ rest) = Err (length (b ∷ rest))

abbrev pub report_in : List ℕ → Result (List (List ℕ)) ℕ
report_in body = after_texts (length body) body >>= λ rest. ended (texts_of (length body) body) rest

-- A way to sign on other than SCRAM is refused, as a password in clear.
abbrev pub sign_on_in : (left code : ℕ) → List ℕ → Result Message ℕ
sign_on_in left code rest =
    if code == 0 then ended SignedOn rest
    else (if code == 10 then (report_in rest >>= λ names. Ok (Methods names))
    else (if code == 11 then Ok (Challenge rest)
    else (if code == 12 then Ok (Verifier rest) else Err left)))

abbrev pub authentication_in : List ℕ → Result Message ℕ
authentication_in body = u32_in body >>= λ code. sign_on_in (length body) code.0 code.1

abbrev pub key_data_in : List ℕ → Result Message ℕ
key_data_in body = do
  process ← u32_in body
  key ← u32_in process.1
  ended (ProcessKey process.0 key.0) key.1

abbrev pub setting_in : List ℕ → Result Message ℕ
setting_in body = do
  name ← text_in body
  value ← text_in name.1
  ended (Setting name.0 value.0) value.1

-- Ready, outside of any transaction.
abbrev pub ready_in : List ℕ → Result Message ℕ
ready_in [] = Err 0
ready_in (status ∷ rest) = if status == 73 then ended Ready rest else Err (length (status ∷ rest))

abbrev pub row_in : List ℕ → Result Message ℕ
row_in body = do
  count ← u16_in body
  rest ← after_values count.0 count.1
  ended (Row (values_of count.0 count.1)) rest

abbrev pub completed_in : List ℕ → Result Message ℕ
completed_in body = do
  tag ← text_in body
  ended (Completed tag.0) tag.1

unfoldable pub body_in : Kind → List ℕ → Result Message ℕ
body_in kinds.Authentication body = authentication_in body
body_in kinds.KeyData body = key_data_in body
body_in kinds.ParameterStatus body = setting_in body
body_in kinds.ReadyForQuery body = ready_in body
body_in kinds.ParseComplete body = ended Parsed body
body_in kinds.BindComplete body = ended Bound body
body_in kinds.DataRow body = row_in body
body_in kinds.CommandComplete body = completed_in body
body_in kinds.ErrorResponse body = report_in body >>= λ report. Ok (Failed report)
body_in kinds.NoticeResponse body = report_in body >>= λ report. Ok (Notice report)

-- ---- messages

-- The longest length that is taken: 64 MiB.
abbrev pub max_length : ℕ
max_length = 67108864

abbrev pub placed : (size : ℕ) → Result Message ℕ → Reading
placed size (Ok message) = Whole message (size + 5)
placed size (Err left) = Refused (size + 5 - left)

abbrev pub sized_in : Kind → (size : ℕ) → List ℕ → Reading
sized_in kind size rest = if nat_lt (length rest) size then Cut else placed size (body_in kind (take size rest))

abbrev pub length_in : Kind → Result (ℕ × List ℕ) ℕ → Reading
length_in kind (Err left) = Cut
length_in kind (Ok found) =
    if nat_lt found.0 4 || nat_lt max_length found.0 then Refused 1 else sized_in kind (found.0 - 4) found.1

abbrev pub kind_in : Option Kind → List ℕ → Reading
kind_in None rest = Refused 0
kind_in (Some kind) rest = length_in kind (u32_in rest)

unfoldable pub read : List ℕ → Reading
read [] = Cut
read (b ∷ rest) = kind_in (kind_of b) rest
