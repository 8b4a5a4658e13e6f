-- How the rows of a bank's transfers are held: those of transfers that wait, those that are closed or cancelled, and those of
-- posted transfers with their postings.
use Rattle.std.specs.Prelude.{◌≡◌, ℕ, false, List, filter}
use Rattle.ofx_types.specs.declared.transfer.TransferRow.{TransferRow}
use Rattle.bank_model.specs.Models.{is_waiting}
use Rattle.bank_transfers.specs.TransfersView.{row_at, waits}

-- A row is one of a transfer that doesn't wait.
abbrev pub IsClosed : TransferRow → Type 0
IsClosed row = is_waiting row.code ≡ false

-- No row under an id is one of a transfer that waits.
abbrev pub AreClosed : List (ℕ × TransferRow) → Type 0
AreClosed rows = (id : ℕ) → waits (row_at rows id) ≡ false

-- the rows of the transfers that wait
abbrev pub waiting_in : List TransferRow → List TransferRow
waiting_in rows = filter (λ (row : TransferRow). is_waiting row.code) rows

-- Rows, each under its id, and for how many more there is room.
pub record RowsView : Type 0 where
  pub rows : List (ℕ × TransferRow)
  pub room : ℕ
