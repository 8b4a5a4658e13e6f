-- What an entry gives to the rows that the bank keeps.
use Rattle.std.specs.Prelude.{ℕ, ◌≤◌, Bool, false, ◌==◌, List, reverse, Option, None, Some}
use Rattle.std.specs.List.{find, list_any}
use Rattle.ofx_types.specs.Calendar.{IsDay, IsMoment}
use Rattle.ofx_types.specs.declared.transfer.TransferRow.{TransferRow}
use Rattle.ofx_types.specs.declared.recurring.ModelRow.{ModelRow}
use Rattle.ofx_types.specs.declared.transfer.Change.{Change}
use Rattle.ofx_types.specs.declared.transfer.Change.TheVariants.{NewTransfer, SetTransfer, DropTransfer, NewModel, SetModel, DropModel, NewMail}
use Rattle.bank_model.specs.declared.entry.Entry.{Entry}
use Rattle.bank_model.specs.Models.{next_occurrence}
use Rattle.bank_transfers.specs.TransfersView.{GivesRow, IsWithinAmounts}
use Rattle.bank_recur.specs.ModelsView.{GivesModel, Cancels, IsMadeBy, LeavesModels}
use Rattle.bank_ledger.specs.declared.row_change.RowChange.{RowChange}
use Rattle.bank_ledger.specs.declared.row_change.RowChange.TheVariants.{Row, Made, Model, NoModel, Mail}

-- the row that is given to a transfer
abbrev pub row_given_by : RowChange → Option TransferRow
row_given_by (Row row) = Some row
row_given_by (Made row) = Some row
row_given_by (Model row) = None
row_given_by (NoModel id) = None
row_given_by Mail = None

-- the row that is given to a recurring transfer
abbrev pub model_given_by : RowChange → Option ModelRow
model_given_by (Row row) = None
model_given_by (Made row) = None
model_given_by (Model row) = Some row
model_given_by (NoModel id) = None
model_given_by Mail = None

abbrev pub has_row : ℕ → RowChange → Bool
has_row id (Row row) = row.id == id
has_row id (Made row) = row.id == id
has_row id (Model row) = false
has_row id (NoModel gone) = false
has_row id Mail = false

abbrev pub has_model : ℕ → RowChange → Bool
has_model id (Row row) = false
has_model id (Made row) = false
has_model id (Model row) = row.id == id
has_model id (NoModel gone) = false
has_model id Mail = false

abbrev pub cancels : ℕ → RowChange → Bool
cancels id (Row row) = false
cancels id (Made row) = false
cancels id (Model row) = false
cancels id (NoModel gone) = gone == id
cancels id Mail = false

-- The change is a mail, which was written in the years 1900 to 9999.
abbrev pub IsMail : Change → Type 0
IsMail (NewTransfer row) = ⊥
IsMail (SetTransfer row) = ⊥
IsMail (DropTransfer id) = ⊥
IsMail (NewModel row) = ⊥
IsMail (SetModel row pending) = ⊥
IsMail (DropModel id pending) = ⊥
IsMail (NewMail row) = IsMoment row.mail.created.0

-- What a change after a list of entries gives: the row of a transfer that no recurring one makes now, the row of one that
-- a recurring transfer makes, the row of a recurring transfer, or its end. A mail gives none.
abbrev pub GivesRows : List Entry → Change → RowChange → Type 0
GivesRows entries change (Row row) = GivesRow entries change row × LeavesModels entries change
GivesRows entries change (Made row) = GivesRow entries change row × IsMadeBy entries change row.model × (next_occurrence row.model entries ≤ 2958463)
GivesRows entries change (Model row) = GivesModel entries change row
GivesRows entries change (NoModel id) = Cancels entries change id
GivesRows entries change Mail = IsMail change

-- An amount is at most 99,999,999,999.99 either way, and the first day of a recurring transfer is one of the calendar.
abbrev pub IsKnown : RowChange → Type 0
IsKnown (Row row) = IsWithinAmounts row
IsKnown (Made row) = IsWithinAmounts row
IsKnown (Model row) = IsDay row.first.0
IsKnown (NoModel id) = Unit {0}
IsKnown Mail = Unit {0}

-- ---- what some changes of rows come to, of which the last counts

abbrev pub row_from : Option RowChange → Option TransferRow
row_from None = None
row_from (Some row_change) = row_given_by row_change

abbrev pub model_from : Option RowChange → Option ModelRow
model_from None = None
model_from (Some row_change) = model_given_by row_change

abbrev pub row_drafted : ℕ → List RowChange → Option TransferRow
row_drafted id row_changes = row_from (find (has_row id) (reverse row_changes))

abbrev pub model_drafted : ℕ → List RowChange → Option ModelRow
model_drafted id row_changes = model_from (find (has_model id) (reverse row_changes))

abbrev pub is_cancelled_in : ℕ → List RowChange → Bool
is_cancelled_in id row_changes = list_any (cancels id) row_changes
