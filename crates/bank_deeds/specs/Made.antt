-- The rows of transfers that recurring transfers make.
use Rattle.std.specs.Prelude.{ℕ, Option, None, Some}
use Rattle.ofx_types.specs.declared.number.Day.{Day}
use Rattle.ofx_types.specs.declared.transfer.TransferRow.{TransferRow}
use Rattle.ofx_types.specs.declared.recurring.ModelRow.{ModelRow}
use Rattle.bank_model.specs.Due.{spawned_row}

-- the row of the transfer that a recurring transfer makes for a date
abbrev pub made_row : ℕ → Option ModelRow → Option Day → Option TransferRow
made_row id None date = None
made_row id (Some row) None = None
made_row id (Some row) (Some date) = Some (spawned_row id date row)
