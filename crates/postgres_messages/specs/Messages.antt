-- The messages of a server, as lists of bytes, and how each is written (PostgreSQL's protocol 3.0, those that are taken).
use Rattle.std.specs.Prelude.{ℕ, ◌+◌, List, [], ◌∷◌, ◌++◌, length, Option}
use Rattle.std.specs.List.{flat_map}
use Rattle.postgres_messages.specs.Fields.{u16_bytes, u32_bytes, text_bytes, texts_bytes, value_bytes}

-- What a server says: that the client is signed on, how it may sign on, what it is asked, and the server's own proof; the number
-- and the key of its process; a setting and its value; that it is ready; that a statement is parsed, or bound; a row; that a
-- statement was done, with its tag; why it failed; and a notice. A report is a list of texts, each led by the byte that says
-- what it tells.
pub data Message : Type 0 where
  SignedOn : Message
  Methods : (names : List (List ℕ)) → Message
  Challenge : (text : List ℕ) → Message
  Verifier : (text : List ℕ) → Message
  ProcessKey : (process key : ℕ) → Message
  Setting : (name value : List ℕ) → Message
  Ready : Message
  Parsed : Message
  Bound : Message
  Row : (values : List (Option (List ℕ))) → Message
  Completed : (tag : List ℕ) → Message
  Failed : (report : List (List ℕ)) → Message
  Notice : (report : List (List ℕ)) → Message

-- A message is its kind, its length in four bytes, which counts itself, and its body.
abbrev pub framed : (kind : ℕ) → (body : List ℕ) → List ℕ
framed kind body = kind ∷ u32_bytes (length body + 4) ++ body

abbrev pub kind_byte : Message → ℕ
kind_byte SignedOn = 82
kind_byte (Methods names) = 82
kind_byte (Challenge text) = 82
kind_byte (Verifier text) = 82
kind_byte (ProcessKey process key) = 75
kind_byte (Setting name value) = 83
kind_byte Ready = 90
kind_byte Parsed = 49
kind_byte Bound = 50
kind_byte (Row values) = 68
kind_byte (Completed tag) = 67
kind_byte (Failed report) = 69
kind_byte (Notice report) = 78

abbrev pub body_bytes : Message → List ℕ
body_bytes SignedOn = u32_bytes 0
body_bytes (Methods names) = u32_bytes 10 ++ texts_bytes names
body_bytes (Challenge text) = u32_bytes 11 ++ text
body_bytes (Verifier text) = u32_bytes 12 ++ text
body_bytes (ProcessKey process key) = u32_bytes process ++ u32_bytes key
body_bytes (Setting name value) = text_bytes name ++ text_bytes value
body_bytes Ready = 73 ∷ []
body_bytes Parsed = []
body_bytes Bound = []
body_bytes (Row values) = u16_bytes (length values) ++ flat_map value_bytes values
body_bytes (Completed tag) = text_bytes tag
body_bytes (Failed report) = texts_bytes report
body_bytes (Notice report) = texts_bytes report

abbrev pub message_bytes : Message → List ℕ
message_bytes m = framed (kind_byte m) (body_bytes m)
