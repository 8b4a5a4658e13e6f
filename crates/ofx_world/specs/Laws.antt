-- The laws of banks, clients, files and records from which the laws of the world are proved.
use Rattle.std.specs.Prelude.{◌≡◌, ℕ, ◌<◌, ◌↔◌, List, ◌++◌, length, None, Some, Ok}
use Rattle.ofx_types.specs.Calendar.{IsMoment}
use Rattle.ofx_types.specs.FileForm.{SpellsFile, OneFile, OneReply}
use Rattle.ofx_types.specs.PrintedFile.{file_text}
use Rattle.ofx_types.specs.ReplyForm.{reply_text}
use Rattle.ofx_types.specs.declared.number.Moment.{Moment}
use Rattle.ofx_types.specs.declared.number.UserId.{UserId}
use Rattle.ofx_types.specs.declared.request.RequestFile.{RequestFile}
use Rattle.sync_laws.specs.Histories.{IsInOrder, IsLater}
use Rattle.bank_model.specs.Once.{reply_kept}
use Rattle.bank_model.specs.Rules.{IsLegal, opening_state, raised, kept_for, state_after, answer_to, due}
use Rattle.bank_model.specs.SetupForm.{IsWithinLimits}
use Rattle.bank_model.specs.Sound.{IsSound}
use Rattle.bank_model.specs.declared.event.Event.{Event}
use Rattle.bank_model.specs.declared.event.Event.TheVariants.{File}
use Rattle.bank_model.specs.declared.event.State.{State}
use Rattle.bank_model.specs.declared.setup.Setup.{Setup}
use Rattle.bank_replay.specs.Laws.{ReopeningsAreRuns, ReopenedBooksAreRight}
use Rattle.reply_laws.specs.Replies.{new_reply, ReadsBack}
use Rattle.reply_laws.specs.Reportable.{IsReportable}
use Rattle.bank_invariants.specs.Next.{ExtendsTo}
use Rattle.bank_invariants.specs.Runs.{Happening, after_all, AreLegal}
use Rattle.bank_invariants.specs.SoundStates.{IsSoundState}
use Rattle.client_core.specs.Accepting.{accepted, with_replies}
use Rattle.client_laws.specs.Answers.{bank_reply}
use Rattle.client_laws.specs.ClientStores.{MadeFilesAskRightly, AcceptedRepliesKeepStores, DiscardedFilesKeepStores, StoresStayRight}
use Rattle.client_saved.specs.SavedText.{IsSavedText}
use Rattle.client_saved.specs.declared.state.ClientState.{ClientState}
use Rattle.client_saved.specs.declared.state.Outstanding.{Outstanding}
use Rattle.event_codec.specs.Records.{Reopens}
use Rattle.msg_mail.specs.SignonsAsDocuments.{IsSoundSignon}

-- Histories are in order, and only grow.
pub record HistoryLaws : Type 0 where
  pub event : (setup : Setup) (S : State) (at : Moment) (event : Event) → IsInOrder setup S → IsLegal setup S at event
      → IsInOrder setup (state_after setup S at event)
  pub event_grows : (setup : Setup) (S : State) (at : Moment) (event : Event) → IsLater S (state_after setup S at event)

-- All stores of a client are right, and stay so, and it accepts the bank's reply to its file.
pub record StoreLaws : Type 0 where
  pub makes : MadeFilesAskRightly
  pub accepts : AcceptedRepliesKeepStores
  pub discards : DiscardedFilesKeepStores
  pub later : StoresStayRight
  pub accepted : (setup : Setup) (S : State) (user : UserId) (at : Moment) (client : ClientState) (kept : Outstanding)
      → IsWithinLimits setup → IsInOrder setup S → client.outstanding ≡ Some kept
      → accepted client (bank_reply setup S user at kept.file)
      ≡ Ok (with_replies client kept.file (bank_reply setup S user at kept.file).replies)

-- Files come again, and what the bank replies reads back.
pub record ReplyLaws : Type 0 where
  pub again : (setup : Setup) (S : State) (user : UserId) (at : Moment) (file : RequestFile) (reply : List ℕ)
      → kept_for S user file.newer ≡ Some reply → answer_to setup S at (File user file) ≡ reply
  pub again_leaves : (setup : Setup) (S : State) (user : UserId) (at : Moment) (file : RequestFile) (reply : List ℕ)
      → kept_for S user file.newer ≡ Some reply → state_after setup S at (File user file) ≡ raised S at
  pub kept : (setup : Setup) (S : State) (user : UserId) (at : Moment) (file : RequestFile) (name : List ℕ) → file.newer ≡ Some name
      → reply_kept user name (state_after setup S at (File user file)).kept ≡ Some (answer_to setup S at (File user file))
  pub new : (setup : Setup) (S : State) (user : UserId) (at : Moment) (file : RequestFile)
      → kept_for (raised S at) user file.newer ≡ None
      → answer_to setup S at (File user file) ≡ reply_text (new_reply setup S user at file)
  pub reads_back : (setup : Setup) (S : State) (user : UserId) (at : Moment) (file : RequestFile) → IsWithinLimits setup
      → IsSoundState setup S → IsReportable setup S → IsMoment at.0 → user.0 < length setup.users → IsSound file
      → ReadsBack (new_reply setup S user at file)
  pub requests : (file : RequestFile) (at : Moment) → IsSound file → IsSoundSignon file.user file.pass at → SpellsFile (file_text file at) file
  pub one_reply : OneReply
  pub one_file : OneFile

-- A bank comes by its records to one state, which is sound and tellable.
pub record RecordLaws : Type 0 where
  pub goes_on : (setup : Setup) (before : State) (first second : List (List ℕ)) (after : State)
      → Reopens setup before (first ++ second) after
      ↔ ((between : State) × Reopens setup before first between × Reopens setup between second after)
  pub one_state : (setup : Setup) (before : State) (records : List (List ℕ)) (after other : State)
      → Reopens setup before records after → Reopens setup before records other → after ≡ other
  pub runs : ReopeningsAreRuns
  pub books : ReopenedBooksAreRight
  pub sound : (setup : Setup) (run : List Happening) → IsWithinLimits setup → AreLegal setup opening_state run
      → ExtendsTo setup opening_state (after_all setup opening_state run)
  pub reported_first : (setup : Setup) → IsReportable setup opening_state
  pub reported : (setup : Setup) (S : State) (at : Moment) (event : Event) → IsWithinLimits setup → IsReportable setup S
      → IsMoment at.0 → IsLegal setup S at event → IsReportable setup (state_after setup S at event)
  pub due : (setup : Setup) (S : State) (at : Moment) (event : Event) → due setup S at ≡ Some event → IsLegal setup S at event
  pub one_client : (text : List ℕ) (state other : ClientState) → IsSavedText text state → IsSavedText text other → state ≡ other

pub record Laws : Type 0 where
  pub histories : HistoryLaws
  pub stores : StoreLaws
  pub replies : ReplyLaws
  pub records : RecordLaws
