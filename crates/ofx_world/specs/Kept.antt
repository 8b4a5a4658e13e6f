-- What the types of the world keep, how a world begins, and which steps it may make.
use Rattle.std.specs.Prelude.{◌≡◌, ℕ, Bool, false, List, Option, None, Some}
use Rattle.std.specs.List.{AllByRecursion, IsDistinct}
use Rattle.std.specs.Str.{bytes_eq}
use Rattle.ofx_types.specs.Calendar.{IsMoment}
use Rattle.ofx_types.specs.FileForm.{SpellsReply}
use Rattle.ofx_types.specs.declared.number.UserId.{UserId}
use Rattle.ofx_types.specs.declared.reply.ReplyFile.{ReplyFile}
use Rattle.ofx_types.specs.declared.request.RequestFile.{RequestFile}
use Rattle.bank_model.specs.Polls.{is_poll}
use Rattle.bank_model.specs.Rules.{IsLegal, due}
use Rattle.bank_model.specs.SetupLookups.{user_of}
use Rattle.bank_model.specs.declared.event.Event.{Event}
use Rattle.bank_model.specs.declared.event.State.{State}
use Rattle.bank_model.specs.declared.setup.Setup.{Setup}
use Rattle.bank_signon.specs.Signon.{IsOfUser}
use Rattle.client_core.specs.ClientForm.{new_client}
use Rattle.client_saved.specs.declared.state.ClientState.{ClientState}
use Rattle.event_codec.specs.Coding.{coded}
use Rattle.event_codec.specs.Records.{Codes}
use Rattle.bank_engine.specs.Views as engines
use Rattle.ofx_world.specs.Server.{PendingView, settled}
use Rattle.ofx_world.specs.Views.{Unsettled, is_landed}
use Rattle.ofx_world.specs.World.{WorldView}
use Rattle.ofx_world.specs.declared.step.Step.{Step}
use Rattle.ofx_world.specs.declared.step.Step.TheVariants as steps

-- ---- the server

-- What is pending, with what the keeper knows of its record.
abbrev pub pending_seen : Option engines.PendingView → Option Unsettled → Option PendingView
pending_seen None unsettled = None
pending_seen (Some pending) unsettled = Some (record { event = pending.event; at = pending.at; landed = is_landed unsettled })

-- The keeper has the record of what is pending unsettled, which may happen in the state that the bank is in.
pub record IsOpen (setup : Setup) (state : State) (pending : engines.PendingView) (unsettled : Option Unsettled) : Type 0 where
  pub moment : IsMoment pending.at.0
  pub legal : IsLegal setup state pending.at pending.event
  pub kept : Unsettled
  pub is_kept : unsettled ≡ Some kept
  pub codes : Codes kept.rec pending.at pending.event

abbrev pub Awaits : Setup → State → Option engines.PendingView → Option Unsettled → Type 0
Awaits setup state None unsettled = unsettled ≡ None
Awaits setup state (Some pending) unsettled = IsOpen setup state pending unsettled

-- ---- files

-- A request is an event of the user who signs on in it.
pub record IsRequest (setup : Setup) (bytes : List ℕ) : Type 0 where
  pub user : UserId
  pub file : RequestFile
  pub of_user : IsOfUser setup bytes user file
  pub no_poll : is_poll file ≡ false

abbrev pub IsReply : List ℕ → Type 0
IsReply bytes = (reply : ReplyFile) × SpellsReply bytes reply

-- A name is a user's of the setup.
abbrev pub IsUser : Setup → List ℕ → Type 0
IsUser setup name = (user : UserId) × (user_of setup name ≡ Some user)

-- ---- how a world begins, and which steps it may make

abbrev pub same_name : ClientState → ClientState → Bool
same_name a b = bytes_eq a.name b.name

-- A client is as it is made for a user of the setup.
abbrev pub IsNew : Setup → ClientState → Type 0
IsNew setup client = (client ≡ new_client client.name client.user) × IsUser setup client.user

-- So are all, and their names are distinct.
pub record AreNew (setup : Setup) (clients : List ClientState) : Type 0 where
  pub new : AllByRecursion (IsNew setup) clients
  pub names : IsDistinct same_name clients

-- The clock shows moments of the years 1900 to 9999.
abbrev pub HasLawfulClock : Step → Type 0
HasLawfulClock (steps.Clock at) = IsMoment at.0
HasLawfulClock step = Unit {0}

-- Where a step does the next of the due work, that has a record.
abbrev pub IsRecorded : WorldView → Step → Type 0
IsRecorded before steps.Due = (event : Event) → due before.server.setup (settled before.server).state before.clock ≡ Some event
    → Codes (coded before.clock event) before.clock event
IsRecorded before step = Unit {0}
