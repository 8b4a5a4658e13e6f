-- Exactly where a run ends with each status, and what is reported of it, as far as nothing of the outside fails and memory is
-- there.
use Rattle.std.specs.Prelude.{◌≡◌, ◌≢◌, ℕ, ◌≤◌, true, false, List, [], ◌++◌, length, Option, None, Some, Result, ◌⊎◌}
use Rattle.std.specs.List.{flat_map, AllByRecursion}
use Rattle.ofx_ports.specs.Faults.{Rose}
use Rattle.bank_model.specs.SetupForm.{SpellsSetup}
use Rattle.bank_model.specs.SetupFault.{IsSetupFault}
use Rattle.bank_model.specs.SetupLookups.{user_of}
use Rattle.bank_model.specs.declared.setup.Setup.{Setup}
use Rattle.bank_model.specs.Due.{has_number}
use Rattle.bank_model.specs.Rules.{opening_state}
use Rattle.bank_model.specs.declared.event.State.{State}
use Rattle.bank_replay.specs.Opening.{HasNoForm, IsNotLegal}
use Rattle.event_codec.specs.Records.{Reopens}
use Rattle.bank_frames.specs.Frames.{Content, frame_of, Fits, BeginsNoFrame}
use Rattle.bank_opening.specs.Reports.{reported}
use Rattle.bank_opening.specs.declared.stop.Stop.{Stop}
use Rattle.bank_session.specs.PortsView.{PortsView}
use Rattle.bank_session.specs.Letters.{IsBody, HasNoBody}
use Rattle.bank_session.specs.RunEnd.{RunEnds}
use Rattle.bank_session.specs.DueEnd.{DueEnds}
use Rattle.bank_session.specs.MailEnd.{MailEnds}
use Rattle.bank_session.specs.Run.{EndsWith}
use Rattle.ofx_types.specs.declared.number.Moment.{Moment}
use Rattle.ofx_types.specs.declared.number.UserId.{UserId}
use Rattle.ofx_types.specs.declared.told.Note.TheVariants.{Plain, Place, Record, Illegal, NoUser, Full}
use Rattle.ofx_types.specs.declared.told.Told.{Told}

-- A read or a write or a call of the keeper failed, or memory was refused.
abbrev pub IsInterrupted : PortsView → PortsView → Told → Type 0
IsInterrupted before after what =
    ((what ≡ reported 5 Plain) × (Rose before.setup_faults after.setup_faults ⊎ Rose before.input_faults after.input_faults))
    ⊎ (((what ≡ reported 6 Plain) × Rose before.out_faults after.out_faults)
    ⊎ (((what ≡ reported 8 Plain) × Rose before.keeper_faults after.keeper_faults) ⊎ (what ≡ reported 7 Plain)))

-- A read of the setup or a write or a call of the keeper failed, or memory was refused.
abbrev pub IsDueInterrupted : PortsView → PortsView → Told → Type 0
IsDueInterrupted before after what =
    ((what ≡ reported 5 Plain) × Rose before.setup_faults after.setup_faults)
    ⊎ (((what ≡ reported 6 Plain) × Rose before.out_faults after.out_faults)
    ⊎ (((what ≡ reported 8 Plain) × Rose before.keeper_faults after.keeper_faults) ⊎ (what ≡ reported 7 Plain)))

-- Bytes that spell no setup end a command with 3, and the line of their fault is reported.
abbrev pub RefusesSetup : (PortsView → PortsView → Told → Type 0) → PortsView → PortsView → Told → Type 0
RefusesSetup Stopped before after what =
    (text : List ℕ) → before.setup_left ≡ Some text → ((setup : Setup) → SpellsSetup text setup → ⊥)
    → ((line : ℕ) × IsSetupFault text line × (what ≡ reported 3 (Place line))) ⊎ Stopped before after what

-- The setup is spelled, and these are the records.
pub record HasRecords (before : PortsView) (setup : Setup) (records : List (List ℕ)) : Type 0 where
  pub text : List ℕ
  pub setup_is : before.setup_left ≡ Some text
  pub spelled : SpellsSetup text setup
  pub records_are : before.records ≡ Some records

-- The first record that codes no event ends it with 9, and its number and the offset of its fault are reported.
abbrev pub RefusesRecord : (PortsView → PortsView → Told → Type 0) → PortsView → PortsView → Told → Type 0
RefusesRecord Stopped before after what =
    (setup : Setup) (records : List (List ℕ)) (number offset : ℕ) → HasRecords before setup records
    → HasNoForm setup (Some records) number offset → (what ≡ reported 9 (Record number offset)) ⊎ Stopped before after what

-- So does the first one whose event isn't legal after those before it, and its number is reported.
abbrev pub RefusesIllegal : (PortsView → PortsView → Told → Type 0) → PortsView → PortsView → Told → Type 0
RefusesIllegal Stopped before after what =
    (setup : Setup) (records : List (List ℕ)) (number : ℕ) → HasRecords before setup records
    → IsNotLegal setup (Some records) number → (what ≡ reported 9 (Illegal number)) ⊎ Stopped before after what

-- How a command that does such work ends: what it read and wrote, and, where no bank opens, exactly when it reports what.
pub record IsCommand (Works : Setup → State → PortsView → PortsView → Result (Unit {0}) Stop → Type 0) (Stopped : PortsView → PortsView → Told → Type 0) (before after : PortsView) (what : Told) : Type 0 where
  pub ends : EndsWith Works before after what
  pub refuses_setup : RefusesSetup Stopped before after what
  pub refuses_record : RefusesRecord Stopped before after what
  pub refuses_illegal : RefusesIllegal Stopped before after what

-- The setup is spelled, and the bank comes to this state by the records.
pub record Opens (before : PortsView) (setup : Setup) (start : State) : Type 0 where
  pub records : List (List ℕ)
  pub has : HasRecords before setup records
  pub reopens : Reopens setup opening_state records start

-- ---- the command `answer`

-- The bank opens, and the input begins with the frames of these contents, each within its limit.
pub record BringsFrames (before : PortsView) (contents : List Content) (rest : List ℕ) : Type 0 where
  pub setup : Setup
  pub start : State
  pub opens : Opens before setup start
  pub input_is : before.input_left ≡ Some (flat_map frame_of contents ++ rest)
  pub fit : AllByRecursion Fits contents
  pub few : length contents ≤ 1000000

-- Frames and nothing after them end it with 0.
abbrev pub AnswersAll : PortsView → PortsView → Told → Type 0
AnswersAll before after what = (contents : List Content) → BringsFrames before contents [] → (what ≡ reported 0 Plain) ⊎ IsInterrupted before after what

-- Bytes after the frames that begin no frame, or anything after the most frames, end it with 4, and their offset in the input is
-- reported.
abbrev pub RefusesFrame : PortsView → PortsView → Told → Type 0
RefusesFrame before after what =
    (contents : List Content) (rest : List ℕ) → BringsFrames before contents rest → rest ≢ [] → (BeginsNoFrame rest ⊎ (length contents ≡ 1000000))
    → (what ≡ reported 4 (Place (length (flat_map frame_of contents)))) ⊎ IsInterrupted before after what

-- How the command `answer` with this moment, or none, in its arguments ends, and exactly when it reports what.
pub record IsRun (at : Option Moment) (before after : PortsView) (what : Told) : Type 0 where
  pub command : IsCommand (RunEnds at) IsInterrupted before after what
  pub refuses_frame : RefusesFrame before after what
  pub answers_all : AnswersAll before after what

-- ---- the command `due`

-- A bank that opens ends it with 0.
abbrev pub DoesAll : PortsView → PortsView → Told → Type 0
DoesAll before after what =
    (setup : Setup) (start : State) → Opens before setup start → (what ≡ reported 0 Plain) ⊎ IsDueInterrupted before after what

-- How the command `due` ends, and exactly when it reports what.
pub record IsDueCommand (before after : PortsView) (what : Told) : Type 0 where
  pub command : IsCommand DueEnds IsDueInterrupted before after what
  pub does_all : DoesAll before after what

-- ---- the command `mail`

-- The bank opens, and these are the bytes of the input.
pub record Brings (before : PortsView) (setup : Setup) (start : State) (input : List ℕ) : Type 0 where
  pub opens : Opens before setup start
  pub input_is : before.input_left ≡ Some input

-- An input that is no body ends it with 4, at its first byte.
abbrev pub RefusesBody : PortsView → PortsView → Told → Type 0
RefusesBody before after what =
    (setup : Setup) (start : State) (input : List ℕ) → Brings before setup start input → HasNoBody input → (what ≡ reported 4 (Place 0)) ⊎ IsInterrupted before after what

-- A body for nobody ends it with 10,
abbrev pub RefusesUser : List ℕ → PortsView → PortsView → Told → Type 0
RefusesUser name before after what =
    (setup : Setup) (start : State) (input body : List ℕ) → Brings before setup start input → IsBody input body → user_of setup name ≡ None
    → (what ≡ reported 10 NoUser) ⊎ IsInterrupted before after what

-- and so does one for a user of a bank that has no number left.
abbrev pub RefusesFull : List ℕ → PortsView → PortsView → Told → Type 0
RefusesFull name before after what =
    (setup : Setup) (start : State) (input body : List ℕ) (user : UserId) → Brings before setup start input → IsBody input body
    → user_of setup name ≡ Some user → has_number setup start ≡ false → (what ≡ reported 10 Full) ⊎ IsInterrupted before after what

-- A body for a user, and a number that is left, end it with 0.
abbrev pub WritesIt : List ℕ → PortsView → PortsView → Told → Type 0
WritesIt name before after what =
    (setup : Setup) (start : State) (input body : List ℕ) (user : UserId) → Brings before setup start input → IsBody input body
    → user_of setup name ≡ Some user → has_number setup start ≡ true → (what ≡ reported 0 Plain) ⊎ IsInterrupted before after what

-- How the command `mail` ends, and exactly when it reports what.
pub record IsMailCommand (name subject : List ℕ) (before after : PortsView) (what : Told) : Type 0 where
  pub command : IsCommand (MailEnds name subject) IsInterrupted before after what
  pub refuses_body : RefusesBody before after what
  pub refuses_user : RefusesUser name before after what
  pub refuses_full : RefusesFull name before after what
  pub writes_it : WritesIt name before after what
