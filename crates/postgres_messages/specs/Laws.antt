-- What it means that a field is read as it is written, and which messages can be written.
use Rattle.std.specs.Prelude.{◌≡◌, ℕ, ◌+◌, ◌<◌, ◌≤◌, ◌^◌, false, List, [], ◌∷◌, ◌++◌, length, take, slice_index, Option, None, Some, Result, Ok}
use Rattle.postgres_messages.specs.Fields.{IsText, is_empty, absent}
use Rattle.postgres_messages.specs.Messages.{Message, SignedOn, Methods, Challenge, Verifier, ProcessKey, Setting, Ready, Parsed, Bound, Row, Completed, Failed, Notice, body_bytes, message_bytes}
use Rattle.postgres_messages.specs.Reading.{max_length}

abbrev pub IsBytes : List ℕ → Type 0
IsBytes bytes = (i : ℕ) → slice_index bytes i < 256

-- What is read is what the bytes begin with, and what is written is read again, whatever follows it.
pub record IsField {A : Type 0} (read : List ℕ → Result (A × List ℕ) ℕ) (coding : A → List ℕ) (Fits : A → Type 0) : Type 0 where
  pub holds : (bytes : List ℕ) (found : A × List ℕ) → IsBytes bytes → read bytes ≡ Ok found → (bytes ≡ coding found.0 ++ found.1) × Fits found.0
  pub again : (value : A) (rest : List ℕ) → Fits value → read (coding value ++ rest) ≡ Ok (value, rest)

-- No text of a list is empty.
abbrev pub AreTexts : List (List ℕ) → Type 0
AreTexts [] = Unit {0}
AreTexts (text ∷ texts) = IsText text × (is_empty text ≡ false) × AreTexts texts

abbrev pub IsValue : Option (List ℕ) → Type 0
IsValue None = Unit {0}
IsValue (Some value) = length value < absent

abbrev pub AreValues : List (Option (List ℕ)) → Type 0
AreValues [] = Unit {0}
AreValues (value ∷ values) = IsValue value × AreValues values

-- The bounds of a message's fields.
abbrev pub Fits : Message → Type 0
Fits SignedOn = Unit {0}
Fits (Methods names) = AreTexts names
Fits (Challenge text) = Unit {0}
Fits (Verifier text) = Unit {0}
Fits (ProcessKey process key) = (process < 2 ^ 32) × (key < 2 ^ 32)
Fits (Setting name value) = IsText name × IsText value
Fits Ready = Unit {0}
Fits Parsed = Unit {0}
Fits Bound = Unit {0}
Fits (Row values) = (length values < 2 ^ 16) × AreValues values
Fits (Completed tag) = IsText tag
Fits (Failed report) = AreTexts report
Fits (Notice report) = AreTexts report

-- A message that can be written: its fields are within their bounds, and its length too.
abbrev pub IsWritable : Message → Type 0
IsWritable m = Fits m × (length (body_bytes m) + 4 ≤ max_length)

-- These bytes begin with a message of so many bytes.
pub record BeginsWith (bytes : List ℕ) (m : Message) (size : ℕ) : Type 0 where
  pub spelled : take size bytes ≡ message_bytes m
  pub within : size ≤ length bytes
  pub writable : IsWritable m
