-- Request files and events that may be handed to a bank.
use Rattle.std.specs.Prelude.{◌≡◌, ◌≢◌, ℕ, ◌≤◌, ◌⊎◌, unsigned_abs, not, List, ◌++◌, filter, length, codes}
use Rattle.std.specs.Option.{IfSome}
use Rattle.std.specs.List.{AllByRecursion}
use Rattle.ofx_types.specs.Calendar.{IsMoment, IsDay}
use Rattle.ofx_types.specs.TextRules.{IsTrnUid, IsFileUid}
pub use Rattle.ofx_types.specs.Bounds.{IsTextWithin, IsId, IsSoundRecur, IsSoundKind}
use Rattle.ofx_types.specs.DeedForm.{family_of}
use Rattle.ofx_types.specs.SyncForm.{object_family}
use Rattle.ofx_types.specs.PrintedFile.{is_mail_ask}
use Rattle.ofx_types.specs.declared.number.Moment.{Moment}
use Rattle.ofx_types.specs.declared.number.Day.{Day}
use Rattle.ofx_types.specs.declared.transfer.XferInfo.{XferInfo}
use Rattle.ofx_types.specs.declared.transfer.Deed.{Deed}
use Rattle.ofx_types.specs.declared.transfer.Deed.TheVariants.{Transfer, ModifyTransfer, CancelTransfer, Model, ModifyModel, CancelModel, BankMail, Mail}
use Rattle.ofx_types.specs.declared.mail.MailText.{MailText}
use Rattle.ofx_types.specs.declared.transfer.Family.{Family}
use Rattle.ofx_types.specs.declared.sync.ObjectName.{ObjectName}
use Rattle.ofx_types.specs.declared.sync.ObjectName.TheVariants as objects
use Rattle.ofx_types.specs.declared.sync.SyncAsk.{SyncAsk}
use Rattle.ofx_types.specs.declared.account.AcctName.{AcctName}
use Rattle.ofx_types.specs.declared.request.Period.{Period}
use Rattle.ofx_types.specs.declared.request.Ask.{Ask}
use Rattle.ofx_types.specs.declared.request.Ask.TheVariants.{Statement, One, Sync}
use Rattle.ofx_types.specs.declared.request.RequestFile.{RequestFile}

-- A client's TRNUID isn't `0`, which marks what the bank does by itself.
abbrev pub IsClientUid : List ℕ → Type 0
IsClientUid trnuid = (trnuid ≢ codes "0") × IsTrnUid trnuid

abbrev pub IsSoundAccount : AcctName → Type 0
IsSoundAccount account = IsTextWithin 32 account.bank × IsTextWithin 32 account.number

-- Both moments lie in the years 1900 to 9999.
abbrev pub IsSoundPeriod : Period → Type 0
IsSoundPeriod period = IfSome period.start (λ (start : Moment). IsMoment start.0) × IfSome period.end (λ (end : Moment). IsMoment end.0)

-- An amount is at most 99,999,999,999.99 either way, and a day lies in the years 1900 to 9999.
pub record IsSoundInfo (info : XferInfo) : Type 0 where
  pub from : IsSoundAccount info.from
  pub to : IsSoundAccount info.to
  pub amount : unsigned_abs info.amount.0 ≤ 9999999999999
  pub due : IfSome info.due (λ (day : Day). IsDay day.0)

-- A mail was written in the years 1900 to 9999.
pub record IsSoundMail (mail : MailText) : Type 0 where
  pub created : IsMoment mail.created.0
  pub sender : IsTextWithin 32 mail.sender
  pub target : IsTextWithin 32 mail.target
  pub subject : IsTextWithin 64 mail.subject
  pub body : IsTextWithin 10000 mail.body

abbrev pub IsSoundDeed : Deed → Type 0
IsSoundDeed (Transfer info) = IsSoundInfo info
IsSoundDeed (ModifyTransfer id info) = IsId id × IsSoundInfo info
IsSoundDeed (CancelTransfer id) = IsId id
IsSoundDeed (Model recur info) = IsSoundRecur recur × IsSoundInfo info
IsSoundDeed (ModifyModel id recur info pending) = IsId id × IsSoundRecur recur × IsSoundInfo info
IsSoundDeed (CancelModel id pending) = IsId id
IsSoundDeed (BankMail account mail) = IsSoundAccount account × IsSoundMail mail
IsSoundDeed (Mail mail) = IsSoundMail mail

-- The account of an object is within its bounds.
abbrev pub IsSoundObject : ObjectName → Type 0
IsSoundObject (objects.Intra account) = IsSoundAccount account
IsSoundObject (objects.RecIntra account) = IsSoundAccount account
IsSoundObject (objects.BankMail account) = IsSoundAccount account
IsSoundObject objects.Mail = Unit {0}

-- Each deed of a synchronisation is of the object's family.
abbrev pub IsSoundPair : Family → List ℕ × Deed → Type 0
IsSoundPair family deed = IsClientUid deed.0 × IsSoundDeed deed.1 × (family_of deed.1 ≡ family)

pub record IsSoundSync (ask : SyncAsk) : Type 0 where
  pub object : IsSoundObject ask.object
  pub kind : IsSoundKind ask.kind
  pub few : length ask.deeds ≤ 65535
  pub deeds : AllByRecursion (IsSoundPair (object_family ask.object)) ask.deeds

abbrev pub IsSoundAsk : Ask → Type 0
IsSoundAsk (Statement trnuid account period) = IsClientUid trnuid × IsSoundAccount account × IfSome period IsSoundPeriod
IsSoundAsk (One trnuid deed) = IsClientUid trnuid × IsSoundDeed deed
IsSoundAsk (Sync ask) = IsSoundSync ask

-- the versions of the header
abbrev pub IsVersion : ℕ → Type 0
IsVersion version = (version ≡ 102) ⊎ ((version ≡ 103) ⊎ ((version ≡ 151) ⊎ (version ≡ 160)))

-- A file is sound where its texts and uids are such as `Text::new`, `TrnUid::new` and `FileUid::new` give, all its values are
-- within their bounds, and what the bank is asked comes before mail. The user's name and password aren't looked at, since a
-- file that has become an event doesn't need them.
pub record IsSound (file : RequestFile) : Type 0 where
  pub version : IsVersion file.version
  pub older : IfSome file.older IsFileUid
  pub newer : IfSome file.newer IsFileUid
  pub few : length file.asks ≤ 65535
  pub bank_first : file.asks ≡ filter (λ (ask : Ask). not (is_mail_ask ask)) file.asks ++ filter is_mail_ask file.asks
  pub asks : AllByRecursion IsSoundAsk file.asks
