-- Deeds, and the answers to them, that read back as they were written: their values are within the limits of their elements.
use Rattle.std.specs.Prelude.{◌≢◌, ◌≡◌, ℕ, ◌<◌, ◌≤◌, ◌⊎◌, List, codes, Option, None, Some}
use Rattle.std.specs.Option.{IfSome}
use Rattle.ofx_types.specs.Calendar.{IsDay}
pub use Rattle.ofx_types.specs.Bounds.{IsId, IsSoundRecur}
use Rattle.ofx_types.specs.TransferForm.{info_of}
use Rattle.ofx_types.specs.RecurringForm.{first_info}
use Rattle.ofx_types.specs.declared.number.Day.{Day}
use Rattle.ofx_types.specs.declared.recurring.ModelRow.{ModelRow}
use Rattle.ofx_types.specs.declared.transfer.XferInfo.{XferInfo}
use Rattle.ofx_types.specs.declared.transfer.Deed.{Deed}
use Rattle.ofx_types.specs.declared.transfer.Deed.TheVariants.{Transfer, ModifyTransfer, CancelTransfer, Model, ModifyModel, CancelModel}
use Rattle.ofx_types.specs.declared.transfer.XferCode.TheVariants.{Cancelled}
use Rattle.ofx_types.specs.declared.transfer.TransferRow.{TransferRow}
use Rattle.ofx_types.specs.declared.transfer.Change.{Change}
use Rattle.ofx_types.specs.declared.transfer.Change.TheVariants.{NewTransfer, SetTransfer, DropTransfer, NewModel, SetModel, DropModel, NewMail}
use Rattle.ofx_types.specs.declared.transfer.Family.{Family}
use Rattle.ofx_types.specs.declared.transfer.Family.TheVariants.{Intra, RecIntra, BankMail, Mail}
use Rattle.ofx_types.specs.declared.transfer.DeedReply.{DeedReply}
use Rattle.ofx_types.specs.declared.transfer.Deed.TheVariants as deeds
use Rattle.msg_parts.specs.SoundParts.{IsTextWithin, IsSoundMoment, IsSoundAmount, IsSoundAccount, family_of_change}

-- ---- deeds

-- a day of the years 1900 to 9999
abbrev pub IsSoundDay : Day → Type 0
IsSoundDay day = IsDay day.0

pub record IsSoundInfo (info : XferInfo) : Type 0 where
  pub from : IsSoundAccount info.from
  pub to : IsSoundAccount info.to
  pub amount : IsSoundAmount info.amount
  pub due : IfSome info.due IsSoundDay

-- A transfer or a recurring transfer. What mail is sound is said where it is read and written.
abbrev pub IsSoundDeed : Deed → Type 0
IsSoundDeed (Transfer info) = IsSoundInfo info
IsSoundDeed (ModifyTransfer id info) = IsId id × IsSoundInfo info
IsSoundDeed (CancelTransfer id) = IsId id
IsSoundDeed (Model recur info) = IsSoundRecur recur × IsSoundInfo info
IsSoundDeed (ModifyModel id recur info pending) = IsId id × IsSoundRecur recur × IsSoundInfo info
IsSoundDeed (CancelModel id pending) = IsId id
IsSoundDeed (deeds.BankMail account mail) = ⊥
IsSoundDeed (deeds.Mail mail) = ⊥

-- As of every request, the TRNUID isn't `0`.
pub record IsSoundDeedRequest (trnuid : List ℕ) (deed : Deed) : Type 0 where
  pub is_uid : IsTextWithin 36 trnuid
  pub is_own : trnuid ≢ codes "0"
  pub is_deed : IsSoundDeed deed

-- A cancelled transfer has a reply of its own, and no row.
pub record IsSoundRow (row : TransferRow) : Type 0 where
  pub id : IsId row.id
  pub info : IsSoundInfo (info_of row)
  pub reported : row.code ≢ Cancelled
  pub stamp : IsSoundMoment row.stamp

pub record IsSoundModelRow (row : ModelRow) : Type 0 where
  pub id : IsId row.id
  pub recur : IsSoundRecur row.recur
  pub info : IsSoundInfo (first_info row)

-- The reply to a new transfer says which recurring transfer made it.
abbrev pub IsSoundChange : Change → Type 0
IsSoundChange (NewTransfer row) = IsSoundRow row × IsId row.model
IsSoundChange (SetTransfer row) = IsSoundRow row
IsSoundChange (DropTransfer id) = IsId id
IsSoundChange (NewModel row) = IsSoundModelRow row
IsSoundChange (SetModel row pending) = IsSoundModelRow row
IsSoundChange (DropModel id pending) = IsId id
IsSoundChange (NewMail row) = ⊥

-- A reply has a change exactly where its code is 0, and one of its own family.
abbrev pub IsSoundChangeByCode : ℕ → Family → Option Change → Type 0
IsSoundChangeByCode code family None = code ≢ 0
IsSoundChangeByCode code family (Some change) = (code ≡ 0) × (family_of_change change ≡ family) × IsSoundChange change

pub record IsSoundDeedReply (reply : DeedReply) : Type 0 where
  pub is_uid : IsTextWithin 36 reply.trnuid
  pub is_family : (reply.family ≡ Intra) ⊎ (reply.family ≡ RecIntra)
  pub is_code : reply.code ≤ 65535
  pub is_change : IsSoundChangeByCode reply.code reply.family reply.change
