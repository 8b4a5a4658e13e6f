-- What calls answer, beside the definitions.
use Rattle.std.specs.Prelude.{◌≡◌, ℕ, List, [], ◌∷◌, length, Option, None, Some, Result, Ok, Err}
use Rattle.postgres_messages.specs.declared.texts.Texts.{Texts}
use Rattle.postgres_messages.specs.declared.values.Values.{Values}
use Rattle.postgres_messages.specs.declared.message.BackendMessage.{BackendMessage}
use Rattle.postgres_messages.specs.declared.message.BackendMessage.TheVariants as code
use Rattle.postgres_messages.specs.declared.message.Reading as code_reading
use Rattle.postgres_messages.specs.declared.message.Reading.TheVariants as readings
use Rattle.postgres_messages.specs.Fields.{texts_of, values_of}
use Rattle.postgres_messages.specs.Messages.{Message, SignedOn, Methods, Challenge, Verifier, ProcessKey, Setting, Ready, Parsed, Bound, Row, Completed, Failed, Notice}
use Rattle.postgres_messages.specs.Reading.{Reading, Whole, Cut, Refused}

-- A call gives what reading gives, seen by a view.
abbrev pub Gives : {A B : Type 0} → (A → B) → Result A ℕ → Result B ℕ → Type 0
Gives view (Ok x) read = read ≡ Ok (view x)
Gives view (Err left) read = read ≡ Err left

abbrev pub texts : Texts → List (List ℕ)
texts t = texts_of (length t.bytes.now) t.bytes.now

abbrev pub values : Values → List (Option (List ℕ))
values v = values_of v.count v.bytes.now

abbrev pub some_unless_empty : {A : Type 0} → List A → Option (List A)
some_unless_empty [] = None
some_unless_empty (x ∷ xs) = Some (x ∷ xs)

abbrev pub message_of : BackendMessage → Message
message_of code.SignedOn = SignedOn
message_of (code.Methods names) = Methods (texts names)
message_of (code.Challenge text) = Challenge text.now
message_of (code.Verifier text) = Verifier text.now
message_of (code.ProcessKey process key) = ProcessKey process key
message_of (code.Setting name value) = Setting name.now value.now
message_of code.Ready = Ready
message_of code.Parsed = Parsed
message_of code.Bound = Bound
message_of (code.Row row) = Row (values row)
message_of (code.Completed tag) = Completed tag.now
message_of (code.Failed report) = Failed (texts report)
message_of (code.Notice report) = Notice (texts report)

abbrev pub reading_of : code_reading.Reading → Reading
reading_of (readings.Whole message size) = Whole (message_of message) size
reading_of readings.Cut = Cut
reading_of (readings.Refused place) = Refused place
