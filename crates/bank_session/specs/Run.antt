-- A whole command: the setup, the bank, its work, and what is reported of its end.
use Rattle.std.specs.Prelude.{◌≡◌, ℕ, Bool, true, false, Result, Ok, Err, ◌⊎◌}
use Rattle.std.specs.Io.KnownBytes.{Keeps}
use Rattle.ofx_ports.specs.Known.{Stays}
use Rattle.ofx_types.specs.declared.told.Told.{Told}
use Rattle.bank_model.specs.declared.setup.Setup.{Setup}
use Rattle.bank_model.specs.declared.event.State.{State}
use Rattle.bank_model.specs.SetupForm.{IsWithinLimits}
use Rattle.bank_replay.specs.Opening.{RecordsGive}
use Rattle.bank_opening.specs.SetupRead.{IsSetupOf, StopsSetup}
use Rattle.bank_opening.specs.RecordsRead.{StopsOpening}
use Rattle.bank_opening.specs.Reports.{reported_of}
use Rattle.bank_opening.specs.declared.stop.Stop.{Stop}
use Rattle.bank_opening.specs.declared.stop.Stop.TheVariants as stops
use Rattle.bank_session.specs.PortsView.{PortsView}

-- A command that has no setup reads none of its input, writes and keeps nothing, and doesn't look at the clock. Nothing is to be
-- settled.
pub record EndsWithoutSetup (before after : PortsView) (stop : Stop) : Type 0 where
  pub cause : StopsSetup before.setup_left before.setup_faults after.setup_faults stop
  pub unread : Keeps before.input_left after.input_left
  pub unkept : Stays before.records after.records
  pub unwritten : Keeps before.held after.held
  pub unseen : Stays before.shown after.shown
  pub settled : after.unsettled ≡ false

-- Neither does one whose bank doesn't open from its records, though it has the setup that all bytes of its source spell. Nothing
-- is to be settled, also where a call of the keeper failed.
pub record EndsWithoutBank (before after : PortsView) (stop : Stop) : Type 0 where
  pub setup : Setup
  pub found : IsSetupOf before.setup_left setup
  pub within : IsWithinLimits setup
  pub cause : StopsOpening setup before.records before.keeper_faults after.keeper_faults stop
  pub unread : Keeps before.input_left after.input_left
  pub unkept : Stays before.records after.records
  pub unwritten : Keeps before.held after.held
  pub unseen : Stays before.shown after.shown
  pub settled : after.unsettled ≡ false

-- A command that stops may have had no setup, or no bank.
abbrev pub NeverOpens : PortsView → PortsView → Stop → Type 0
NeverOpens before after stop = EndsWithoutSetup before after stop ⊎ EndsWithoutBank before after stop

-- After work in a bank an append is to be settled exactly where the work stopped since that append failed.
abbrev pub Settles : Result (Unit {0}) Stop → Bool → Type 0
Settles (Ok done) unsettled = unsettled ≡ false
Settles (Err stops.KeeperFailed) unsettled = unsettled ≡ true
Settles (Err stop) unsettled = unsettled ≡ false

-- A command has the setup that all bytes of its source spell, within its limits, and a bank in the state after its records, and
-- does its work in it.
pub record EndsWithBank (Works : Setup → State → PortsView → PortsView → Result (Unit {0}) Stop → Type 0) (before after : PortsView) (end : Result (Unit {0}) Stop) : Type 0 where
  pub setup : Setup
  pub start : State
  pub found : IsSetupOf before.setup_left setup
  pub within : IsWithinLimits setup
  pub holds : RecordsGive setup before.records start
  pub ends : Works setup start before after end
  pub settled : Settles end after.unsettled

-- The work is `RunEnds at` of the command `answer`, `DueEnds` of `due`, and `MailEnds name subject` of `mail`.
abbrev pub EndsSo : (Setup → State → PortsView → PortsView → Result (Unit {0}) Stop → Type 0) → PortsView → PortsView → Result (Unit {0}) Stop → Type 0
EndsSo Works before after (Ok done) = EndsWithBank Works before after (Ok done)
EndsSo Works before after (Err stop) = NeverOpens before after stop ⊎ EndsWithBank Works before after (Err stop)

-- A command ends so, and this is reported of it.
pub record EndsWith (Works : Setup → State → PortsView → PortsView → Result (Unit {0}) Stop → Type 0) (before after : PortsView) (what : Told) : Type 0 where
  pub end : Result (Unit {0}) Stop
  pub reported_is : what ≡ reported_of end
  pub ends : EndsSo Works before after end
