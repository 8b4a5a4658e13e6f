-- What else the calls of an engine do that has all accounts in the pool.
use Rattle.std.specs.Prelude.{◌≡◌, ◌⊎◌, ℕ, List, [], Option, None, Some, Result, Ok, Err}
use Rattle.ofx_ports.specs.declared.fault.PutFault.{PutFault}
use Rattle.ofx_ports.specs.declared.fault.PutFault.TheVariants as puts
use Rattle.ofx_types.specs.declared.number.Moment.{Moment}
use Rattle.bank_accounts.specs.AccountView.{AccountView}
use Rattle.bank_accounts.specs.HeldAccounts.{AreHeld}
use Rattle.bank_model.specs.declared.event.Event.{Event}
use Rattle.bank_model.specs.declared.event.State.{State}
use Rattle.bank_model.specs.declared.setup.Setup.{Setup}
use Rattle.bank_model.specs.declared.submit.SubmitFault.{SubmitFault}
use Rattle.bank_model.specs.declared.submit.SubmitFault.TheVariants.{Keeper, OutOfMemory}
use Rattle.bank_model.specs.Rules.{named}
use Rattle.event_codec.specs.Records.{IsWritten}
use Rattle.bank_engine.specs.Calls.{Answers}
use Rattle.bank_engine.specs.Views.{PendingView, JournalView}

-- The accounts that the pending event names are lent, and none where nothing is pending.
abbrev pub AreLentFor : Setup → State → List AccountView → Option PendingView → Type 0
AreLentFor setup state held None = held ≡ []
AreLentFor setup state held (Some pending) = AreHeld held (named setup state pending.event)

-- The event is answered, and this is its reply in its envelope.
pub record Sends (sent : List ℕ → List ℕ) (old new : JournalView) (event : Event) (at : Moment) (line : List ℕ) : Type 0 where
  pub reply : List ℕ
  pub answers : Answers old new event at reply
  pub line_is : line ≡ sent reply

-- At most one append was made, of a record of the event. None was made only where memory was refused before it.
abbrev pub AppendsOne : {K A : Type 0} → (K → K → List ℕ → Result (Unit {0}) PutFault → Type 0) → K → K → Moment → Event → Result A SubmitFault → Type 0
AppendsOne appends old new at event (Ok line) = (rec : List ℕ) × IsWritten rec at event × appends old new rec (Ok tt)
AppendsOne appends old new at event (Err (Keeper count)) = (rec : List ℕ) × IsWritten rec at event × appends old new rec (Err puts.Failed)
AppendsOne appends old new at event (Err OutOfMemory) =
    (new ≡ old) ⊎ ((rec : List ℕ) × IsWritten rec at event × appends old new rec (Err puts.OutOfMemory))
