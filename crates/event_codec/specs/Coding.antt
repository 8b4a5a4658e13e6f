-- The coding of an event in a kept record, version 1: one list of bytes for each event and moment.
use Rattle.std.specs.Prelude.{ℕ, ℤ, Bool, true, false, List, [], ◌∷◌, ◌++◌, length, Option, None, Some}
use Rattle.std.specs.List.{flat_map}
use Rattle.std.specs.Int.{w16, w32, w64, to_be_bytes, cast_unsigned}
use Rattle.ofx_types.specs.declared.number.Moment.{Moment}
use Rattle.ofx_types.specs.declared.number.Day.{Day}
use Rattle.ofx_types.specs.declared.account.AcctKind.{AcctKind}
use Rattle.ofx_types.specs.declared.account.AcctKind.TheVariants.{Checking, Savings, MoneyMarket, CreditLine}
use Rattle.ofx_types.specs.declared.account.AcctName.{AcctName}
use Rattle.ofx_types.specs.declared.recurring.Freq.{Freq}
use Rattle.ofx_types.specs.declared.recurring.Freq.TheVariants.{Weekly, Biweekly, TwiceMonthly, Monthly, FourWeeks, Bimonthly, Quarterly, Semiannually, Annually}
use Rattle.ofx_types.specs.declared.recurring.Recur.{Recur}
use Rattle.ofx_types.specs.declared.mail.MailText.{MailText}
use Rattle.ofx_types.specs.declared.transfer.XferInfo.{XferInfo}
use Rattle.ofx_types.specs.declared.transfer.Deed.{Deed}
use Rattle.ofx_types.specs.declared.transfer.Deed.TheVariants.{Transfer, ModifyTransfer, CancelTransfer, Model, ModifyModel, CancelModel, BankMail, Mail}
use Rattle.ofx_types.specs.declared.sync.ObjectName.{ObjectName}
use Rattle.ofx_types.specs.declared.sync.ObjectName.TheVariants as objects
use Rattle.ofx_types.specs.declared.sync.SyncKind.{SyncKind}
use Rattle.ofx_types.specs.declared.sync.SyncKind.TheVariants.{After, TokenOnly, Refresh}
use Rattle.ofx_types.specs.declared.sync.SyncAsk.{SyncAsk}
use Rattle.ofx_types.specs.declared.request.Period.{Period}
use Rattle.ofx_types.specs.declared.request.Ask.{Ask}
use Rattle.ofx_types.specs.declared.request.Ask.TheVariants.{Statement, One, Sync}
use Rattle.ofx_types.specs.declared.request.RequestFile.{RequestFile}
use Rattle.bank_model.specs.declared.event.Event.{Event}
use Rattle.bank_model.specs.declared.event.Event.TheVariants.{File, Post, Spawn, Letter}
use Rattle.record_fields.specs.FieldCoding.{acct_bytes, file_uid_bytes, flag_bytes, i64_bytes, info_bytes, list_bytes, mail_bytes, moment_bytes, optional_bytes, recur_bytes, text_bytes, u16_bytes, u32_bytes, u64_bytes, uid_bytes}

-- ---- asks

-- A deed is its kind, and what it needs.
unfoldable pub deed_bytes : Deed → List ℕ
deed_bytes (Transfer info) = 1 ∷ info_bytes info
deed_bytes (ModifyTransfer id info) = 2 ∷ u64_bytes id ++ info_bytes info
deed_bytes (CancelTransfer id) = 3 ∷ u64_bytes id
deed_bytes (Model recur info) = 4 ∷ recur_bytes recur ++ info_bytes info
deed_bytes (ModifyModel id recur info pending) = 5 ∷ u64_bytes id ++ recur_bytes recur ++ info_bytes info ++ flag_bytes pending
deed_bytes (CancelModel id pending) = 6 ∷ u64_bytes id ++ flag_bytes pending
deed_bytes (BankMail account mail) = 7 ∷ acct_bytes account ++ mail_bytes mail
deed_bytes (Mail mail) = 8 ∷ mail_bytes mail

-- a TRNUID and its deed
abbrev pub pair_bytes : List ℕ × Deed → List ℕ
pair_bytes pair = uid_bytes pair.0 ++ deed_bytes pair.1

-- An object of an account is its kind and the account.
unfoldable pub object_bytes : ObjectName → List ℕ
object_bytes (objects.Intra account) = 0 ∷ acct_bytes account
object_bytes (objects.RecIntra account) = 1 ∷ acct_bytes account
object_bytes (objects.BankMail account) = 2 ∷ acct_bytes account
object_bytes objects.Mail = 3 ∷ []

-- what is asked of an object's history
unfoldable pub sync_kind_bytes : SyncKind → List ℕ
sync_kind_bytes (After token) = 0 ∷ text_bytes token
sync_kind_bytes TokenOnly = 1 ∷ []
sync_kind_bytes Refresh = 2 ∷ []

-- the first and the last moment, and whether the list is wanted
unfoldable pub period_bytes : Period → List ℕ
period_bytes period = optional_bytes moment_bytes period.start ++ optional_bytes moment_bytes period.end ++ flag_bytes period.include

unfoldable pub sync_bytes : SyncAsk → List ℕ
sync_bytes ask = object_bytes ask.object ++ sync_kind_bytes ask.kind ++ flag_bytes ask.reject ++ list_bytes pair_bytes ask.deeds

-- An ask is its kind, and what it needs.
unfoldable pub ask_bytes : Ask → List ℕ
ask_bytes (Statement trnuid account period) = 1 ∷ uid_bytes trnuid ++ acct_bytes account ++ optional_bytes period_bytes period
ask_bytes (One trnuid deed) = 2 ∷ uid_bytes trnuid ++ deed_bytes deed
ask_bytes (Sync ask) = 3 ∷ sync_bytes ask

abbrev pub asks_bytes : List Ask → List ℕ
asks_bytes asks = list_bytes ask_bytes asks

-- ---- events

-- A file is the number of its user, its version, its names and its asks. The user's name and password aren't kept.
unfoldable pub file_bytes : RequestFile → List ℕ
file_bytes file = u16_bytes file.version ++ file_uid_bytes file.older ++ file_uid_bytes file.newer ++ asks_bytes file.asks

abbrev pub kind_of_event : Event → ℕ
kind_of_event (File user file) = 1
kind_of_event (Post id) = 2
kind_of_event (Spawn model offset) = 3
kind_of_event (Letter user subject body) = 4

unfoldable pub event_bytes : Event → List ℕ
event_bytes (File user file) = u32_bytes user.0 ++ file_bytes file
event_bytes (Post id) = u64_bytes id
event_bytes (Spawn model offset) = u64_bytes model ++ u32_bytes offset
event_bytes (Letter user subject body) = u32_bytes user.0 ++ text_bytes subject ++ text_bytes body

-- A record is the version of the coding, the kind of the event, its moment, and what it needs. Nothing follows.
unfoldable pub coded : Moment → Event → List ℕ
coded at event = 1 ∷ kind_of_event event ∷ i64_bytes at.0 ++ event_bytes event
