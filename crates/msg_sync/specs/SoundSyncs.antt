-- Transactions and synchronisations that read back as they were written: their values are within the limits of their
-- elements, and each transaction is of the family of what is synchronised.
use Rattle.std.specs.Prelude.{◌≡◌, ◌⊎◌, ℕ, List}
use Rattle.std.specs.List.{AllByRecursion}
pub use Rattle.ofx_types.specs.Bounds.{IsSoundKind}
use Rattle.ofx_types.specs.DeedForm.{family_of}
use Rattle.ofx_types.specs.SyncForm.{object_family}
use Rattle.ofx_types.specs.declared.transfer.Deed.{Deed}
use Rattle.ofx_types.specs.declared.transfer.DeedReply.{DeedReply}
use Rattle.ofx_types.specs.declared.transfer.Family.{Family}
use Rattle.ofx_types.specs.declared.sync.ObjectName.{ObjectName}
use Rattle.ofx_types.specs.declared.sync.ObjectName.TheVariants.{Intra, RecIntra, BankMail, Mail}
use Rattle.ofx_types.specs.declared.sync.SyncAsk.{SyncAsk}
use Rattle.ofx_types.specs.declared.sync.SyncReply.{SyncReply}
use Rattle.msg_parts.specs.SoundParts.{IsTextWithin, IsSoundAccount}
use Rattle.msg_deed.specs.SoundDeeds.{IsSoundDeedRequest, IsSoundDeedReply}
use Rattle.msg_mail.specs.SoundMails.{IsSoundMailRequest, IsSoundMailReply}

-- a transfer, a recurring transfer or a mail
abbrev pub IsSoundTransaction : List ℕ × Deed → Type 0
IsSoundTransaction deed = IsSoundDeedRequest deed.0 deed.1 ⊎ IsSoundMailRequest deed.0 deed.1

abbrev pub IsSoundAnswer : DeedReply → Type 0
IsSoundAnswer reply = IsSoundDeedReply reply ⊎ IsSoundMailReply reply

abbrev pub IsSoundObject : ObjectName → Type 0
IsSoundObject (Intra account) = IsSoundAccount account
IsSoundObject (RecIntra account) = IsSoundAccount account
IsSoundObject (BankMail account) = IsSoundAccount account
IsSoundObject Mail = Unit {0}

-- a transaction of a family
abbrev pub IsSoundIn : Family → List ℕ × Deed → Type 0
IsSoundIn family deed = IsSoundTransaction deed × (family_of deed.1 ≡ family)

pub record IsSoundSync (ask : SyncAsk) : Type 0 where
  pub object : IsSoundObject ask.object
  pub kind : IsSoundKind ask.kind
  pub deeds : AllByRecursion (IsSoundIn (object_family ask.object)) ask.deeds

abbrev pub IsSoundReportedIn : Family → DeedReply → Type 0
IsSoundReportedIn family reply = IsSoundAnswer reply × (reply.family ≡ family)

pub record IsSoundSyncReply (reply : SyncReply) : Type 0 where
  pub object : IsSoundObject reply.object
  pub token : IsTextWithin 64 reply.token
  pub replies : AllByRecursion (IsSoundReportedIn (object_family reply.object)) reply.replies
