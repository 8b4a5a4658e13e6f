-- What one entry more does to the row of a transfer.
use Rattle.std.specs.Prelude.{ℕ, Bool, ◌==◌, if◌then◌else◌, Option, Some}
use Rattle.std.specs.Option.{option_map}
use Rattle.ofx_types.specs.declared.transfer.XferCode.TheVariants.{Cancelled}
use Rattle.ofx_types.specs.declared.transfer.TransferRow.{TransferRow}
use Rattle.ofx_types.specs.declared.transfer.Change.{Change}
use Rattle.ofx_types.specs.declared.transfer.Change.TheVariants.{NewTransfer, SetTransfer, DropTransfer, NewModel, SetModel, DropModel, NewMail}
use Rattle.bank_model.specs.Ledger.{with_code}

-- A row that is given to a transfer is its row from now on. Where an entry before dropped the transfer, it stays
-- cancelled.
abbrev pub row_given : ℕ → Bool → Option TransferRow → TransferRow → Option TransferRow
row_given id dropped before row = if row.id == id then Some (if dropped then with_code Cancelled row else row) else before

-- The row of a transfer after a change, from its row before and whether an entry before dropped it: a drop cancels it. A
-- change of a recurring transfer leaves it.
abbrev pub row_after : ℕ → Bool → Option TransferRow → Change → Option TransferRow
row_after id dropped before (NewTransfer row) = row_given id dropped before row
row_after id dropped before (SetTransfer row) = row_given id dropped before row
row_after id dropped before (DropTransfer gone) = if gone == id then option_map (with_code Cancelled) before else before
row_after id dropped before (NewModel row) = before
row_after id dropped before (SetModel row pending) = before
row_after id dropped before (DropModel gone pending) = before
row_after id dropped before (NewMail mail) = before
