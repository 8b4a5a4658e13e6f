-- Mails that read back as they were written: their values are within the limits of their elements.
use Rattle.std.specs.Prelude.{◌≢◌, ◌≡◌, ℕ, ◌≤◌, ◌⊎◌, List, codes, Option, None, Some}
use Rattle.std.specs.Option.{IfSome}
use Rattle.ofx_types.specs.declared.mail.MailText.{MailText}
use Rattle.ofx_types.specs.declared.mail.MailRow.{MailRow}
use Rattle.ofx_types.specs.declared.transfer.Deed.{Deed}
use Rattle.ofx_types.specs.declared.transfer.Deed.TheVariants as deeds
use Rattle.ofx_types.specs.declared.transfer.Change.{Change}
use Rattle.ofx_types.specs.declared.transfer.Change.TheVariants.{NewTransfer, SetTransfer, DropTransfer, NewModel, SetModel, DropModel, NewMail}
use Rattle.ofx_types.specs.declared.transfer.Family.{Family}
use Rattle.ofx_types.specs.declared.transfer.Family.TheVariants.{BankMail, Mail}
use Rattle.ofx_types.specs.declared.transfer.DeedReply.{DeedReply}
use Rattle.msg_parts.specs.SoundParts.{IsTextWithin, IsSoundMoment, IsSoundAccount, family_of_change}

pub record IsSoundMail (text : MailText) : Type 0 where
  pub created : IsSoundMoment text.created
  pub sender : IsTextWithin 32 text.sender
  pub target : IsTextWithin 32 text.target
  pub subject : IsTextWithin 64 text.subject
  pub body : IsTextWithin 10000 text.body

-- a mail about an account, or about nothing in particular
abbrev pub IsSoundMailDeed : Deed → Type 0
IsSoundMailDeed (deeds.BankMail account text) = IsSoundAccount account × IsSoundMail text
IsSoundMailDeed (deeds.Mail text) = IsSoundMail text
IsSoundMailDeed (deeds.Transfer info) = ⊥
IsSoundMailDeed (deeds.ModifyTransfer id info) = ⊥
IsSoundMailDeed (deeds.CancelTransfer id) = ⊥
IsSoundMailDeed (deeds.Model recur info) = ⊥
IsSoundMailDeed (deeds.ModifyModel id recur info pending) = ⊥
IsSoundMailDeed (deeds.CancelModel id pending) = ⊥

-- As of every request, the TRNUID isn't `0`.
pub record IsSoundMailRequest (trnuid : List ℕ) (deed : Deed) : Type 0 where
  pub is_uid : IsTextWithin 36 trnuid
  pub is_own : trnuid ≢ codes "0"
  pub is_mail : IsSoundMailDeed deed

pub record IsSoundMailRow (row : MailRow) : Type 0 where
  pub about : IfSome row.about IsSoundAccount
  pub user : IsTextWithin 32 row.user
  pub mail : IsSoundMail row.mail

abbrev pub IsSoundMailChange : Change → Type 0
IsSoundMailChange (NewMail row) = IsSoundMailRow row
IsSoundMailChange (NewTransfer row) = ⊥
IsSoundMailChange (SetTransfer row) = ⊥
IsSoundMailChange (DropTransfer id) = ⊥
IsSoundMailChange (NewModel row) = ⊥
IsSoundMailChange (SetModel row pending) = ⊥
IsSoundMailChange (DropModel id pending) = ⊥

-- A reply has a mail exactly where its code is 0, and one of its own family.
abbrev pub IsSoundMailByCode : ℕ → Family → Option Change → Type 0
IsSoundMailByCode code family None = code ≢ 0
IsSoundMailByCode code family (Some change) = (code ≡ 0) × (family_of_change change ≡ family) × IsSoundMailChange change

pub record IsSoundMailReply (reply : DeedReply) : Type 0 where
  pub is_uid : IsTextWithin 36 reply.trnuid
  pub is_family : (reply.family ≡ BankMail) ⊎ (reply.family ≡ Mail)
  pub is_code : reply.code ≤ 65535
  pub is_mail : IsSoundMailByCode reply.code reply.family reply.change
