-- Transfers and recurring transfers that a bank has to take, and how a file's step takes them.
use Rattle.std.specs.Prelude.{◌≡◌, ℕ, ◌+◌, ◌≤◌, true, false, ◌≤ℤ◌, List, [], ◌∷◌, ◌++◌, length, Some, is_some}
use Rattle.ofx_types.specs.AccountForm.{same_account}
use Rattle.ofx_types.specs.ReplyForm.{reply_text}
use Rattle.ofx_types.specs.declared.number.AcctId.{AcctId}
use Rattle.ofx_types.specs.declared.number.Moment.{Moment}
use Rattle.ofx_types.specs.declared.number.UserId.{UserId}
use Rattle.ofx_types.specs.declared.recurring.Recur.{Recur}
use Rattle.ofx_types.specs.declared.transfer.XferInfo.{XferInfo}
use Rattle.ofx_types.specs.declared.transfer.Change.TheVariants.{NewTransfer, NewModel}
use Rattle.ofx_types.specs.declared.transfer.DeedReply.{DeedReply}
use Rattle.ofx_types.specs.declared.transfer.Family.{Family}
use Rattle.ofx_types.specs.declared.request.Ask.{Ask}
use Rattle.ofx_types.specs.declared.request.RequestFile.{RequestFile}
use Rattle.ofx_types.specs.declared.reply.AskReply.{AskReply}
use Rattle.ofx_types.specs.declared.reply.AskReply.TheVariants as replies
use Rattle.bank_model.specs.declared.entry.Entry.{Entry}
use Rattle.bank_model.specs.declared.setup.Setup.{Setup}
use Rattle.bank_model.specs.declared.event.State.{State}
use Rattle.bank_model.specs.declared.event.Event.TheVariants.{File}
use Rattle.bank_model.specs.SetupLookups.{account_of, own_account}
use Rattle.bank_model.specs.Ledger.{balance}
use Rattle.bank_model.specs.Judging.{is_positive, is_due, is_after}
use Rattle.bank_model.specs.Deeds.{DeedAnswer, intra_of, recurring_of, new_row, new_model, next_entry, after_deed}
use Rattle.bank_model.specs.Sync.{reply_with_change}
use Rattle.bank_model.specs.Rules.{raised, ask_answers, reply_file, state_after, answer_to}

-- The source is an account of the user, the destination is another account of the bank, the amount is positive, and a number
-- is left for the entry.
pub record HasTerms (setup : Setup) (S : State) (user : UserId) (source : AcctId) (info : XferInfo) : Type 0 where
  pub from : own_account setup user info.from ≡ Some source
  pub to : is_some (account_of setup info.to) ≡ true
  pub apart : same_account info.to info.from ≡ false
  pub positive : is_positive info ≡ true
  pub number : length S.entries + 1 ≤ setup.entries

-- A transfer may have any day, or none. Where it is due on or before the business day its source has cover.
pub record MayTransfer (setup : Setup) (S : State) (user : UserId) (source : AcctId) (info : XferInfo) : Type 0 where
  pub terms : HasTerms setup S user source info
  pub covered : is_due info S.day ≡ true → info.amount.0 ≤ℤ balance setup S.entries source

-- A recurring transfer begins after the business day.
pub record MayRecur (setup : Setup) (S : State) (user : UserId) (source : AcctId) (info : XferInfo) : Type 0 where
  pub terms : HasTerms setup S user source info
  pub later : is_after info.due S.day ≡ true

-- The entries that they get: with the next number, in the history of the source's transfers or recurring transfers.
abbrev pub transfer_entry : State → AcctId → Moment → List ℕ → XferInfo → Entry
transfer_entry S source at trnuid info =
    next_entry S (intra_of (Some source)) trnuid (NewTransfer (new_row (length S.entries + 1) at S.day info))

abbrev pub recurring_entry : State → AcctId → List ℕ → Recur → XferInfo → Entry
recurring_entry S source trnuid recur info =
    next_entry S (recurring_of (Some source)) trnuid (NewModel (new_model (length S.entries + 1) S.day recur info))

-- Code 0 and what the entry says. The entry comes last in the history, and the uid is used up.
abbrev pub taken_with : State → UserId → List ℕ → Family → Entry → DeedAnswer
taken_with S user trnuid family entry =
    record { reply = reply_with_change family trnuid entry.change; after = after_deed S user trnuid 0 (entry ∷ []) }

-- ---- in a file's step

-- the state that a file's first asks leave, in which those after them are answered
abbrev pub reached : Setup → State → UserId → Moment → List Ask → State
reached setup S user at before = (ask_answers setup (raised S at) user at before).after

-- The reply to an ask says this of one deed.
abbrev pub Reports : AskReply → DeedReply → Type 0
Reports (replies.Statement trnuid code body) reported = ⊥
Reports (replies.One reply) reported = reply ≡ reported
Reports (replies.Sync answer) reported = (prefix : List DeedReply) × (back : List DeedReply) × (answer.replies ≡ prefix ++ reported ∷ back)

-- The answer to a user's file says this of one deed, and the history that its step leaves has the entry, after those of the
-- state in which the deed was answered.
pub record TakesInStep (setup : Setup) (S : State) (at : Moment) (user : UserId) (file : RequestFile) (there : State) (reported : DeedReply) (entry : Entry) : Type 0 where
  pub prefix : List AskReply
  pub reply : AskReply
  pub back : List AskReply
  pub answer : answer_to setup S at (File user file) ≡ reply_text (reply_file at file (prefix ++ reply ∷ back))
  pub reports : Reports reply reported
  pub more : List Entry
  pub entries : (state_after setup S at (File user file)).entries ≡ there.entries ++ entry ∷ more
