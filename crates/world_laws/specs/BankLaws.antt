-- Laws of banks that are served: each is the world's bank after a run, and what the world says of its bank holds of it.
use Rattle.std.specs.Prelude.{◌≡◌, ℕ, Bool, List, [], ◌∷◌, ◌++◌, All, Option, None, Some, if◌then◌else◌}
use Rattle.std.specs.Option.{IfSome}
use Rattle.ofx_types.specs.declared.number.Moment.{Moment}
use Rattle.bank_model.specs.declared.event.Event.{Event}
use Rattle.bank_model.specs.declared.event.Event.TheVariants as events
use Rattle.bank_model.specs.declared.event.State.{State}
use Rattle.bank_model.specs.declared.log.LogItem.{LogItem}
use Rattle.bank_model.specs.declared.log.LogItem.TheVariants.{Effect, Answer, Adopted, Fault}
use Rattle.bank_model.specs.declared.setup.Setup.{Setup}
use Rattle.bank_model.specs.declared.submit.SubmitFault.{SubmitFault}
use Rattle.bank_model.specs.Log.{endings}
use Rattle.bank_model.specs.LegalLog.{IsWholeLog, ends}
use Rattle.bank_model.specs.Rules.{opening_state}
use Rattle.bank_model.specs.SetupForm.{IsWithinLimits}
use Rattle.bank_invariants.specs.Books.{AreBooksRight}
use Rattle.event_codec.specs.Coding.{coded}
use Rattle.event_codec.specs.Records.{Reopens}
use Rattle.reply_laws.specs.Reportable.{IsReportable}
use Rattle.bank_engine.specs.Calls.{Answers, FailsToCommit, Settles, FailsToSettle}
use Rattle.bank_engine.specs.Kept.{CodeEndings}
use Rattle.bank_engine.specs.Truth.{IsTrue}
use Rattle.bank_engine.specs.Views as engines
use Rattle.bank_engine.specs.Views.{JournalView}
use Rattle.ofx_world.specs.Server.{PendingView, ServerView, fresh, settled, with_fault}
use Rattle.ofx_world.specs.Sound.{IsSoundWorld}
use Rattle.ofx_world.specs.Truths.{IsAtItsIndex}
use Rattle.ofx_world.specs.World.{WorldView}
use Rattle.world_laws.specs.ServedBank.{at_rest, MayCommit, EndsAs, GoesAlong, ComesBy}

-- ---- what the world says of its bank

-- The setup is within its limits. The bank is in the state to which the records lead that aren't pending, and its history may be
-- reported. What is pending may be committed. The books are right.
pub record IsSoundServer (server : ServerView) : Type 0 where
  pub within : IsWithinLimits server.setup
  pub reopened : Reopens server.setup opening_state server.records server.state
  pub reportable : IsReportable server.setup server.state
  pub pending : IfSome server.pending (λ (pending : PendingView). MayCommit server.setup server.state pending.at pending.event)
  pub books : AreBooksRight server.setup server.state

-- The world's invariant says that of its bank,
abbrev pub WorldsHaveSoundServers : Type 0
WorldsHaveSoundServers = (world : WorldView) → IsSoundWorld world → IsSoundServer world.server

-- a fresh bank is so,
abbrev pub FreshServersAreSound : Type 0
FreshServersAreSound = (setup : Setup) → IsWithinLimits setup → IsSoundServer (fresh setup)

-- and each step of a served bank keeps it, whatever event may be committed.
pub record SoundServersGoOn : Type 0 where
  pub ending : (before after : ServerView) (item : LogItem) → EndsAs before item after → IsSoundServer before → IsSoundServer after
  pub log : (before after : ServerView) (items : List LogItem) → GoesAlong before items after → IsSoundServer before → IsSoundServer after
  pub records : (before after : ServerView) (records : List (List ℕ)) → ComesBy before records after → IsSoundServer before
      → IsSoundServer after
  pub settled : (server : ServerView) → IsSoundServer server → IsSoundServer (settled server)
  pub fault : (server : ServerView) (landed : Bool) → IsSoundServer server → IsSoundServer (with_fault server landed)

-- ---- logs

-- The reply to a user's file is the one-thread bank's at its index.
abbrev pub IsReported : Setup → List (List ℕ) → Event → List ℕ → Type 0
IsReported setup records (events.File user file) reply = IsAtItsIndex setup records reply
IsReported setup records (events.Post id) reply = reply ≡ []
IsReported setup records (events.Spawn model offset) reply = reply ≡ []
IsReported setup records (events.Letter user subject body) reply = reply ≡ []

abbrev pub HasReply : Setup → List (List ℕ) → LogItem → Type 0
HasReply setup records (Effect entry) = Unit {0}
HasReply setup records (Answer event at reply) = IsReported setup records event reply
HasReply setup records (Adopted fault event at) = Unit {0}
HasReply setup records (Fault count pending) = Unit {0}

-- A fresh bank of the world comes by the records from which a served bank opened to the state in which it opened, and then goes
-- along its log. It is sound then, and each reply in the log is the one-thread bank's at its index among its records.
pub record IsRun (setup : Setup) (opening : State) (first : List (List ℕ)) (log : List LogItem) (after : ServerView) : Type 0 where
  pub opens : ComesBy (fresh setup) first (at_rest setup opening first)
  pub goes : GoesAlong (at_rest setup opening first) (endings log) after
  pub sound : IsSoundServer after
  pub replies : All (HasReply setup after.records) (endings log)

-- Each whole log of a served bank, with records that code it, is such a run. It ends in the log's state, with the log's records
-- after the first ones, and nothing is pending.
abbrev pub LogsAreRuns : Type 0
LogsAreRuns = (setup : Setup) (opening : State) (first coded : List (List ℕ)) (log : List LogItem) → IsWithinLimits setup
    → Reopens setup opening_state first opening → IsWholeLog setup opening log → CodeEndings (endings log) coded
    → IsRun setup opening first log (at_rest setup (ends setup opening log) (first ++ coded))

-- ---- journals

-- What is pending in a journal may be committed, as it could when its append failed.
abbrev pub IsTried : JournalView → Type 0
IsTried journal = IfSome journal.pending (λ (pending : engines.PendingView). MayCommit journal.setup journal.state pending.at pending.event)

-- So it is after each call of a journal.
pub record TrialsGoOn : Type 0 where
  pub answers : (old new : JournalView) (event : Event) (at : Moment) (reply : List ℕ) → Answers old new event at reply → IsTried new
  pub fails : (old new : JournalView) (event : Event) (at : Moment) (fault : SubmitFault) → old.pending ≡ None
      → FailsToCommit old new event at fault → IsTried new
  pub settles : (old new : JournalView) (adopted : Bool) → Settles old new adopted → IsTried new
  pub unsettled : (old new : JournalView) (fault : SubmitFault) → FailsToSettle old new fault → IsTried old → IsTried new

-- the record of what is pending, where it is stored
abbrev pub landed_record : Option PendingView → List (List ℕ)
landed_record None = []
landed_record (Some pending) = if pending.landed then coded pending.at pending.event ∷ [] else []

-- What is pending in a journal is pending in the world's bank, with what the keeper knows of its record.
abbrev pub IsPendingAs : Option engines.PendingView → Option Bool → Option PendingView → Type 0
IsPendingAs None landed pending = pending ≡ None
IsPendingAs (Some pending) landed seen =
    (holds : Bool) × (landed ≡ Some holds) × (seen ≡ Some (record { event = pending.event; at = pending.at; landed = holds }))

-- The world's bank has a journal's setup, state and records, and what is pending in it.
pub record IsSeenAs (journal : JournalView) (server : ServerView) : Type 0 where
  pub setup_is : server.setup ≡ journal.setup
  pub state_is : server.state ≡ journal.state
  pub records_are : journal.records ≡ Some (server.records ++ landed_record server.pending)
  pub pending : IsPendingAs journal.pending journal.landed server.pending
  pub fault : server.fault ≡ None

-- A journal whose keeper tells its records is at any time what a run of the world's bank along its log ends in.
abbrev pub JournalsAreRuns : Type 0
JournalsAreRuns = (setup : Setup) (opening : State) (first : List (List ℕ)) (journal : JournalView) → IsWithinLimits setup
    → IsTrue setup opening (Some first) journal → IsTried journal
    → (server : ServerView) × IsRun setup opening first journal.log server × IsSeenAs journal server
