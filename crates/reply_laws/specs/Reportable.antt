-- States whose history may be reported: each entry, printed in a reply, reads back.
use Rattle.std.specs.List.{AllByRecursion}
use Rattle.ofx_types.specs.Calendar.{IsDay}
use Rattle.ofx_types.specs.declared.transfer.TransferRow.{TransferRow}
use Rattle.ofx_types.specs.declared.transfer.Change.{Change}
use Rattle.ofx_types.specs.declared.transfer.Change.TheVariants.{NewTransfer, SetTransfer, DropTransfer, NewModel, SetModel, DropModel, NewMail}
use Rattle.bank_model.specs.declared.entry.Entry.{Entry}
use Rattle.bank_model.specs.declared.setup.Setup.{Setup}
use Rattle.bank_model.specs.declared.event.State.{State}
use Rattle.msg_parts.specs.SoundParts.{IsTextWithin, family_of_change}
use Rattle.msg_deed.specs.SoundDeeds.{IsId, IsSoundRow, IsSoundModelRow}
use Rattle.msg_mail.specs.SoundMails.{IsSoundMailRow}
use Rattle.sync_laws.specs.ObjectFamilies.{IsObjectOf}
use Rattle.sync_laws.specs.Histories.{IsInOrder}

-- The row of a transfer may be reported, and so may the recurring transfer that made it.
abbrev pub IsReportedRow : TransferRow → Type 0
IsReportedRow row = IsSoundRow row × IsId row.model

abbrev pub IsReportedChange : Change → Type 0
IsReportedChange (NewTransfer row) = IsReportedRow row
IsReportedChange (SetTransfer row) = IsReportedRow row
IsReportedChange (DropTransfer id) = IsId id
IsReportedChange (NewModel row) = IsSoundModelRow row
IsReportedChange (SetModel row pending) = IsSoundModelRow row
IsReportedChange (DropModel id pending) = IsId id
IsReportedChange (NewMail row) = IsSoundMailRow row

-- An entry has a uid that may be reported, says what may be reported, and is in an object of its family.
pub record IsReportedEntry (setup : Setup) (entry : Entry) : Type 0 where
  pub trnuid : IsTextWithin 36 entry.trnuid
  pub change : IsReportedChange entry.change
  pub object : IsObjectOf setup (family_of_change entry.change) entry.object.0

-- The history of such a state is in order, and each of its entries may be reported. Its business day lies in the years 1900 to
-- 9999.
pub record IsReportable (setup : Setup) (S : State) : Type 0 where
  pub order : IsInOrder setup S
  pub entries : AllByRecursion (IsReportedEntry setup) S.entries
  pub day : IsDay S.day.0
