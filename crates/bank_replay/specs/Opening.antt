-- A bank that opens from its kept records, and why it doesn't.
use Rattle.std.specs.Prelude.{◌≡◌, ℕ, ◌+◌, List, ◌∷◌, ◌++◌, length, Option, ⊤}
use Rattle.std.specs.Option.{IfSome}
use Rattle.ofx_types.specs.declared.number.Moment.{Moment}
use Rattle.bank_model.specs.Rules.{opening_state, IsLegal}
use Rattle.bank_model.specs.declared.setup.Setup.{Setup}
use Rattle.bank_model.specs.declared.event.State.{State}
use Rattle.bank_model.specs.declared.event.Event.{Event}
use Rattle.event_codec.specs.Reading.{IsRecordFault, fault_offset}
use Rattle.event_codec.specs.Records.{Codes, Reopens}
use Rattle.record_fields.specs.declared.fault.RecordFault.{RecordFault}
use Rattle.bank_replay.specs.declared.fault.OpenFault.{OpenFault}
use Rattle.bank_replay.specs.declared.fault.OpenFault.TheVariants.{Read, Record, Illegal, OutOfMemory}

-- The bank is in the state after a list of records, each of which codes an event that is legal after those before it. Where the
-- records are known they are that list.
pub record RecordsGive (setup : Setup) (known : Option (List (List ℕ))) (state : State) : Type 0 where
  pub records : List (List ℕ)
  pub are_known : IfSome known (λ all. all ≡ records)
  pub reopens : Reopens setup opening_state records state

-- Where the records are known, they begin with these, and this one is the next.
abbrev pub BeginWith : Option (List (List ℕ)) → List (List ℕ) → List ℕ → Type 0
BeginWith known before rec = IfSome known (λ all. (more : List (List ℕ)) × (all ≡ before ++ rec ∷ more))

-- The record of this number is the first that codes no event: the ones before it bring the bank to a state.
pub record HasNoForm (setup : Setup) (known : Option (List (List ℕ))) (number offset : ℕ) : Type 0 where
  pub before : List (List ℕ)
  pub rec : List ℕ
  pub state : State
  pub cause : RecordFault
  pub begin : BeginWith known before rec
  pub reopens : Reopens setup opening_state before state
  pub number_is : number ≡ length before + 1
  pub is_cause : IsRecordFault rec cause
  pub offset_is : offset ≡ fault_offset cause

-- The record of this number is the first whose event isn't legal in the state that those before it brought the bank to.
pub record IsNotLegal (setup : Setup) (known : Option (List (List ℕ))) (number : ℕ) : Type 0 where
  pub before : List (List ℕ)
  pub rec : List ℕ
  pub state : State
  pub at : Moment
  pub event : Event
  pub begin : BeginWith known before rec
  pub reopens : Reopens setup opening_state before state
  pub number_is : number ≡ length before + 1
  pub codes : Codes rec at event
  pub illegal : IsLegal setup state at event → ⊥

-- Why a bank doesn't open, but for a read that failed and for want of memory.
abbrev pub HasCause : Setup → Option (List (List ℕ)) → OpenFault → Type 0
HasCause setup known Read = ⊤
HasCause setup known (Record number offset) = HasNoForm setup known number offset
HasCause setup known (Illegal number) = IsNotLegal setup known number
HasCause setup known OutOfMemory = ⊤
