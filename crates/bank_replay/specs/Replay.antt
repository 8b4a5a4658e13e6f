-- One kept record, and why a bank doesn't take it.
use Rattle.std.specs.Prelude.{◌≡◌, ℕ, ◌-◌, List, slice_get, Option, Some, ⊤}
use Rattle.std.specs.Option.{IfSome}
use Rattle.ofx_types.specs.declared.number.Moment.{Moment}
use Rattle.bank_model.specs.Rules.{IsLegal}
use Rattle.bank_model.specs.declared.setup.Setup.{Setup}
use Rattle.bank_model.specs.declared.event.State.{State}
use Rattle.bank_model.specs.declared.event.Event.{Event}
use Rattle.event_codec.specs.Reading.{IsRecordFault, fault_offset}
use Rattle.event_codec.specs.Records.{Codes}
use Rattle.record_fields.specs.declared.fault.RecordFault.{RecordFault}
use Rattle.bank_replay.specs.declared.fault.OpenFault.{OpenFault}
use Rattle.bank_replay.specs.declared.fault.OpenFault.TheVariants.{Read, Record, Illegal, OutOfMemory}

-- Where the records are known, this is the one of this number, from 1.
abbrev pub IsKept : Option (List (List ℕ)) → ℕ → List ℕ → Type 0
IsKept known number rec = IfSome known (λ all. slice_get all (number - 1) ≡ Some rec)

-- The record codes no event, and its first fault is at this offset.
pub record IsUnformed (rec : List ℕ) (offset : ℕ) : Type 0 where
  pub cause : RecordFault
  pub is_cause : IsRecordFault rec cause
  pub offset_is : offset ≡ fault_offset cause

-- The record codes an event that isn't legal in this state.
pub record IsUnlawful (setup : Setup) (state : State) (rec : List ℕ) : Type 0 where
  pub at : Moment
  pub event : Event
  pub codes : Codes rec at event
  pub illegal : IsLegal setup state at event → ⊥

-- Why no event is read from the record of a number.
abbrev pub IsUnread : ℕ → List ℕ → OpenFault → Type 0
IsUnread number rec Read = ⊥
IsUnread number rec (Record known offset) = (known ≡ number) × IsUnformed rec offset
IsUnread number rec (Illegal known) = ⊥
IsUnread number rec OutOfMemory = ⊤

-- Why a bank in this state doesn't take the record of a number.
abbrev pub IsNotTaken : Setup → State → ℕ → List ℕ → OpenFault → Type 0
IsNotTaken setup state number rec Read = ⊥
IsNotTaken setup state number rec (Record known offset) = (known ≡ number) × IsUnformed rec offset
IsNotTaken setup state number rec (Illegal known) = (known ≡ number) × IsUnlawful setup state rec
IsNotTaken setup state number rec OutOfMemory = ⊤

-- A read failed, or memory was refused: nothing is said of the records.
abbrev pub IsOfTheOutside : OpenFault → Type 0
IsOfTheOutside Read = ⊤
IsOfTheOutside (Record known offset) = ⊥
IsOfTheOutside (Illegal known) = ⊥
IsOfTheOutside OutOfMemory = ⊤
