-- How a bank opens to be served: its arguments, its setup and its records.
use Rattle.std.specs.Prelude.{◌≡◌, ℕ, ◌⊎◌, List, Option, Some, Err}
use Rattle.ofx_ports.specs.Faults.{Rose}
use Rattle.ofx_types.specs.declared.told.Note.TheVariants.{Plain, Place, Record, Illegal}
use Rattle.ofx_types.specs.declared.told.Told.{Told}
use Rattle.bank_model.specs.SetupForm.{SpellsSetup}
use Rattle.bank_model.specs.SetupFault.{IsSetupFault}
use Rattle.bank_model.specs.Rules.{opening_state}
use Rattle.bank_model.specs.declared.setup.Setup.{Setup}
use Rattle.bank_model.specs.declared.event.State.{State}
use Rattle.event_codec.specs.Records.{Reopens}
use Rattle.bank_replay.specs.Opening.{HasNoForm, IsNotLegal}
use Rattle.bank_opening.specs.Reports.{reported, reported_of}
use Rattle.bank_opening.specs.SetupRead.{IsSetupOf, StopsSetup}
use Rattle.bank_opening.specs.RecordsRead.{StopsOpening}
use Rattle.bank_opening.specs.declared.stop.Stop.{Stop}

-- What opening finds, and what it leaves: the bytes that the setup's source has left, its count of faults, the keeper's records and
-- its count of faults.
pub record OpeningPorts : Type 0 where
  pub setup_left : Option (List ℕ)
  pub setup_faults : ℕ
  pub records : Option (List (List ℕ))
  pub keeper_faults : ℕ

abbrev pub outside : Option (List ℕ) → ℕ → Option (List (List ℕ)) → ℕ → OpeningPorts
outside left setup_faults records keeper_faults =
    record { setup_left = left; setup_faults = setup_faults; records = records; keeper_faults = keeper_faults }

-- ---- why it doesn't open

-- The setup isn't read, and the keeper isn't asked.
pub record HasNoSetup (before after : OpeningPorts) (stop : Stop) : Type 0 where
  pub cause : StopsSetup before.setup_left before.setup_faults after.setup_faults stop
  pub unasked : after.keeper_faults ≡ before.keeper_faults

-- The setup is the one that all bytes of its source spell, and the bank doesn't open from its records.
pub record HasNoBank (before after : OpeningPorts) (stop : Stop) : Type 0 where
  pub setup : Setup
  pub found : IsSetupOf before.setup_left setup
  pub cause : StopsOpening setup before.records before.keeper_faults after.keeper_faults stop

-- The arguments have their form, and what is reported is that of a stop without a setup or without a bank.
pub record DoesntOpen (before after : OpeningPorts) (what : Told) : Type 0 where
  pub stop : Stop
  pub reported_is : what ≡ reported_of (Err stop)
  pub cause : HasNoSetup before after stop ⊎ HasNoBank before after stop

-- ---- exactly where

-- A read of the setup or a call of the keeper failed, or memory was refused.
abbrev pub IsInterrupted : OpeningPorts → OpeningPorts → Told → Type 0
IsInterrupted before after what =
    ((what ≡ reported 5 Plain) × Rose before.setup_faults after.setup_faults)
    ⊎ (((what ≡ reported 8 Plain) × Rose before.keeper_faults after.keeper_faults) ⊎ (what ≡ reported 7 Plain))

-- Bytes that spell no setup are refused with 3, and the line of their fault is reported.
abbrev pub RefusesSetup : OpeningPorts → OpeningPorts → Told → Type 0
RefusesSetup before after what =
    (text : List ℕ) → before.setup_left ≡ Some text → ((setup : Setup) → SpellsSetup text setup → ⊥)
    → ((line : ℕ) × IsSetupFault text line × (what ≡ reported 3 (Place line))) ⊎ IsInterrupted before after what

-- The setup is spelled, and these are the records.
pub record HasRecords (before : OpeningPorts) (setup : Setup) (records : List (List ℕ)) : Type 0 where
  pub text : List ℕ
  pub setup_is : before.setup_left ≡ Some text
  pub spelled : SpellsSetup text setup
  pub records_are : before.records ≡ Some records

-- The first record that codes no event is refused with 9, and its number and the offset of its fault are reported.
abbrev pub RefusesRecord : OpeningPorts → OpeningPorts → Told → Type 0
RefusesRecord before after what =
    (setup : Setup) (records : List (List ℕ)) (number offset : ℕ) → HasRecords before setup records
    → HasNoForm setup (Some records) number offset → (what ≡ reported 9 (Record number offset)) ⊎ IsInterrupted before after what

-- So is the first one whose event isn't legal after those before it, and its number is reported.
abbrev pub RefusesIllegal : OpeningPorts → OpeningPorts → Told → Type 0
RefusesIllegal before after what =
    (setup : Setup) (records : List (List ℕ)) (number : ℕ) → HasRecords before setup records
    → IsNotLegal setup (Some records) number → (what ≡ reported 9 (Illegal number)) ⊎ IsInterrupted before after what

-- A bank that its records bring to a state is refused only where something of the outside failed or memory was refused.
abbrev pub OpensElse : OpeningPorts → OpeningPorts → Told → Type 0
OpensElse before after what =
    (setup : Setup) (records : List (List ℕ)) (state : State) → HasRecords before setup records
    → Reopens setup opening_state records state → IsInterrupted before after what

-- A refusal of arguments that have their form.
pub record RefusesOpening (before after : OpeningPorts) (what : Told) : Type 0 where
  pub ends : DoesntOpen before after what
  pub refuses_setup : RefusesSetup before after what
  pub refuses_record : RefusesRecord before after what
  pub refuses_illegal : RefusesIllegal before after what
  pub opens_else : OpensElse before after what
