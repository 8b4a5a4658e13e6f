-- What the calls of an engine make of its journal.
use Rattle.std.specs.Prelude.{◌≡◌, ℕ, ◌+◌, ◌%◌, ◌^◌, ◌≤◌, ◌⊎◌, List, [], ◌∷◌, ◌++◌, length, Bool, true, false, Option, None, Some, Result, Ok, Err}
use Rattle.std.specs.Option.{IfSome}
use Rattle.ofx_ports.specs.Faults.{Rose}
use Rattle.ofx_ports.specs.Known.{Stays, Grows}
use Rattle.ofx_ports.specs.Kept.{MayGrow}
use Rattle.ofx_ports.specs.declared.fault.PutFault.{PutFault}
use Rattle.ofx_ports.specs.declared.fault.PutFault.TheVariants as puts
use Rattle.ofx_types.specs.declared.number.Moment.{Moment}
use Rattle.bank_model.specs.declared.event.Event.{Event}
use Rattle.bank_model.specs.declared.log.LogItem.TheVariants.{Answer, Adopted, Fault}
use Rattle.bank_model.specs.declared.submit.SubmitFault.{SubmitFault}
use Rattle.bank_model.specs.declared.submit.SubmitFault.TheVariants.{Keeper, OutOfMemory}
use Rattle.bank_model.specs.Log.{endings}
use Rattle.bank_model.specs.LegalLog.{MayHappen, group}
use Rattle.bank_model.specs.Rules.{state_after, answer_to, due}
use Rattle.event_codec.specs.Records.{IsWritten}
use Rattle.bank_engine.specs.Steps.{AddsEntries}
use Rattle.bank_engine.specs.Views.{PendingView, JournalView}

-- Nothing has happened. Only the keeper's count of faults may have risen.
pub record IsAsBefore (old new : JournalView) : Type 0 where
  pub setup : new.setup ≡ old.setup
  pub state : new.state ≡ old.state
  pub log : new.log ≡ old.log
  pub pending : new.pending ≡ old.pending
  pub records : Stays old.records new.records
  pub unsettled : new.unsettled ≡ old.unsettled
  pub later : old.faults ≤ new.faults

-- The log has grown by one fault, to whose count the keeper's rose in this call. The state is as before.
pub record Fails (old new : JournalView) (count : ℕ) (of : Option (Event × Moment)) : Type 0 where
  pub setup : new.setup ≡ old.setup
  pub state : new.state ≡ old.state
  pub log : new.log ≡ old.log ++ Fault count of ∷ []
  pub unsettled : new.unsettled ≡ true
  pub count_is : new.faults ≡ count
  pub later : old.faults ≤ new.faults
  pub rose : Rose old.faults count

-- ---- an event is committed

-- The event has happened, and its record is kept: the log has grown by one answer group of it, whose reply this is.
pub record Answers (old new : JournalView) (event : Event) (at : Moment) (reply : List ℕ) : Type 0 where
  pub may_happen : MayHappen old.setup old.state at event
  pub adds : AddsEntries old.setup old.state at event
  pub setup : new.setup ≡ old.setup
  pub state : new.state ≡ state_after old.setup old.state at event
  pub reply_is : reply ≡ answer_to old.setup old.state at event
  pub log : new.log ≡ old.log ++ group old.setup old.state (Answer event at reply)
  pub pending : new.pending ≡ None
  pub records : (rec : List ℕ) × IsWritten rec at event × Grows old.records new.records (rec ∷ [])
  pub unsettled : new.unsettled ≡ false
  pub later : old.faults ≤ new.faults

-- what is pending of an event whose append failed after this log
abbrev pub pending_after : JournalView → Event → Moment → PendingView
pending_after old event at = record { event = event; at = at; number = (length (endings old.log) + 1) % 2 ^ 64 }

-- The append of its record failed: the log has grown by this fault, and the event is pending. The record may be stored.
pub record FailsToKeep (old new : JournalView) (event : Event) (at : Moment) (count : ℕ) : Type 0 where
  pub may_happen : MayHappen old.setup old.state at event
  pub adds : AddsEntries old.setup old.state at event
  pub fails : Fails old new count (Some (event, at))
  pub pending : new.pending ≡ Some (pending_after old event at)
  pub records : (rec : List ℕ) × IsWritten rec at event × MayGrow old.records new.records new.landed rec

abbrev pub FailsToCommit : JournalView → JournalView → Event → Moment → SubmitFault → Type 0
FailsToCommit old new event at (Keeper count) = FailsToKeep old new event at count
FailsToCommit old new event at OutOfMemory = IsAsBefore old new

-- what came of the append in a commit that ended so
abbrev pub append_of : {A : Type 0} → Result A SubmitFault → Result (Unit {0}) PutFault
append_of (Ok done) = Ok tt
append_of (Err (Keeper count)) = Err puts.Failed
append_of (Err OutOfMemory) = Err puts.OutOfMemory

-- ---- what is pending is settled

-- The log has grown by an adopted group of the event.
pub record Adopts (old new : JournalView) (pending : PendingView) : Type 0 where
  pub may_happen : MayHappen old.setup old.state pending.at pending.event
  pub adds : AddsEntries old.setup old.state pending.at pending.event
  pub state : new.state ≡ state_after old.setup old.state pending.at pending.event
  pub log : new.log ≡ old.log ++ group old.setup old.state (Adopted pending.number pending.event pending.at)

-- The log and the state are as before.
pub record AddsNothing (old new : JournalView) : Type 0 where
  pub state : new.state ≡ old.state
  pub log : new.log ≡ old.log

-- The pending event is adopted where its record landed, and otherwise it is as if it never had been.
abbrev pub SettlesAs : JournalView → JournalView → PendingView → Bool → Type 0
SettlesAs old new pending true = IfSome old.landed (λ landed. landed ≡ true) × Adopts old new pending
SettlesAs old new pending false = IfSome old.landed (λ landed. landed ≡ false) × AddsNothing old new

abbrev pub SettlesAny : JournalView → JournalView → Option PendingView → Bool → Type 0
SettlesAny old new None adopted = (adopted ≡ false) × AddsNothing old new
SettlesAny old new (Some pending) adopted = SettlesAs old new pending adopted

-- Nothing is pending any more, and this says whether the pending event was adopted.
pub record Settles (old new : JournalView) (adopted : Bool) : Type 0 where
  pub setup : new.setup ≡ old.setup
  pub pending : new.pending ≡ None
  pub settles : SettlesAny old new old.pending adopted
  pub records : Stays old.records new.records
  pub unsettled : new.unsettled ≡ false
  pub later : old.faults ≤ new.faults

-- It couldn't be settled, and is pending still.
pub record StaysPending (old new : JournalView) (count : ℕ) : Type 0 where
  pub fails : Fails old new count None
  pub still : (pending : PendingView) × (old.pending ≡ Some pending) × (new.pending ≡ Some pending)
  pub records : Stays old.records new.records
  pub landed : new.landed ≡ old.landed

abbrev pub FailsToSettle : JournalView → JournalView → SubmitFault → Type 0
FailsToSettle old new (Keeper count) = StaysPending old new count
FailsToSettle old new OutOfMemory = ⊥

-- what the keeper answered in a settling that ended so: whether the record is stored, or nothing where it failed
abbrev pub settling_of : Result Bool SubmitFault → Option Bool
settling_of (Ok adopted) = Some adopted
settling_of (Err fault) = None
