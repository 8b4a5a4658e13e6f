-- Reading a whole record: its event and moment, or its fault.
use Rattle.std.specs.Prelude.{◌≡◌, ℕ, nat_le, ◌==◌, ◌&&◌, ◌||◌, if◌then◌else◌, List, [], ◌∷◌, length, Option, None, Some, Result, Ok, Err}
use Rattle.ofx_types.specs.declared.number.Moment.{Moment}
use Rattle.bank_model.specs.declared.event.Event.{Event}
use Rattle.bank_model.specs.declared.event.Event.TheVariants.{File, Post, Spawn, Letter}
use Rattle.record_fields.specs.declared.fault.RecordFault.{RecordFault}
use Rattle.record_fields.specs.declared.fault.RecordFault.TheVariants as faults
use Rattle.record_fields.specs.FieldReading.{◌>>=◌, u8_at, u16_at, u32_at, id_at, moment_at, filled_text_at, file_uid_at}
use Rattle.event_codec.specs.AskReading.{asks_at}

-- The versions of the header that a file may have.
unfoldable pub version_at : List ℕ → ℕ → Result (ℕ × ℕ) ℕ
version_at rec at = do
  version ← u16_at rec at
  if (version.0 == 102) || (version.0 == 103) || (version.0 == 151) || (version.0 == 160) then Ok version else Err at

-- The name and the password of a file's user aren't kept: they are read as empty.
unfoldable pub file_event_at : List ℕ → ℕ → Result (Event × ℕ) ℕ
file_event_at rec at = do
  user ← u32_at rec at
  version ← version_at rec user.1
  older ← file_uid_at rec version.1
  newer ← file_uid_at rec older.1
  asks ← asks_at rec newer.1
  Ok (File (record { 0 = user.0 }) (record { version = version.0; older = older.0; newer = newer.0; user = []; pass = []; asks = asks.0 }), asks.1)

unfoldable pub post_at : List ℕ → ℕ → Result (Event × ℕ) ℕ
post_at rec at = do
  id ← id_at rec at
  Ok (Post id.0, id.1)

unfoldable pub spawn_at : List ℕ → ℕ → Result (Event × ℕ) ℕ
spawn_at rec at = do
  model ← id_at rec at
  offset ← u32_at rec model.1
  Ok (Spawn model.0 offset.0, offset.1)

unfoldable pub letter_at : List ℕ → ℕ → Result (Event × ℕ) ℕ
letter_at rec at = do
  user ← u32_at rec at
  subject ← filled_text_at 64 rec user.1
  body ← filled_text_at 10000 rec subject.1
  Ok (Letter (record { 0 = user.0 }) subject.0 body.0, body.1)

-- an event of a kind from 1 to 4
unfoldable pub event_of : ℕ → List ℕ → ℕ → Result (Event × ℕ) ℕ
event_of kind rec at =
    if kind == 1 then file_event_at rec at
    else (if kind == 2 then post_at rec at
    else (if kind == 3 then spawn_at rec at
    else letter_at rec at))

-- The kind is looked at before the moment.
unfoldable pub kind_at : List ℕ → ℕ → Result (ℕ × ℕ) ℕ
kind_at rec at = do
  kind ← u8_at rec at
  if nat_le 1 kind.0 && nat_le kind.0 4 then Ok kind else Err at

-- What follows the version, with nothing after it.
unfoldable pub after_version : List ℕ → Result (Event × Moment) ℕ
after_version rec = do
  kind ← kind_at rec 1
  at ← moment_at rec kind.1
  event ← event_of kind.0 rec at.1
  if event.1 == length rec then Ok (event.0, at.0) else Err event.1

abbrev pub located : {A : Type 0} → Result A ℕ → Result A RecordFault
located (Ok x) = Ok x
located (Err offset) = Err (faults.Bad offset)

-- The version is looked at before all else.
unfoldable pub record_read : List ℕ → Result (Event × Moment) RecordFault
record_read [] = Err (faults.Bad 0)
record_read (version ∷ rest) =
    if version == 1 then located (after_version (version ∷ rest)) else Err (faults.Version version)

-- the fault of a record, if it has one
abbrev pub fault_of : {A : Type 0} → Result A RecordFault → Option RecordFault
fault_of (Ok x) = None
fault_of (Err fault) = Some fault

abbrev pub record_fault : List ℕ → Option RecordFault
record_fault rec = fault_of (record_read rec)

abbrev pub IsRecordFault : List ℕ → RecordFault → Type 0
IsRecordFault rec fault = record_fault rec ≡ Some fault

-- The offset that is reported of a fault: of a version it is the first byte. Want of memory has none; 0 stands for it.
abbrev pub fault_offset : RecordFault → ℕ
fault_offset (faults.Version n) = 0
fault_offset (faults.Bad at) = at
fault_offset faults.OutOfMemory = 0
