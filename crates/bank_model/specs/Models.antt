-- What the entries of the history come to for recurring transfers: the row of each, how many transfers it has made, and
-- which of them wait.
use Rattle.std.specs.Prelude.{ℕ, Bool, true, false, not, ◌==◌, if◌then◌else◌, List, [], filter, length, reverse, fold, Option, None, Some, option_to_list}
use Rattle.std.specs.List.{flat_map, list_any, take_while}
use Rattle.ofx_types.specs.declared.transfer.XferCode.{XferCode}
use Rattle.ofx_types.specs.declared.transfer.XferCode.TheVariants.{Waiting, Posted, NoFunds, Cancelled}
use Rattle.ofx_types.specs.declared.transfer.TransferRow.{TransferRow}
use Rattle.ofx_types.specs.declared.recurring.ModelRow.{ModelRow}
use Rattle.ofx_types.specs.declared.transfer.Change.{Change}
use Rattle.ofx_types.specs.declared.transfer.Change.TheVariants.{NewTransfer, SetTransfer, DropTransfer, NewModel, SetModel, DropModel, NewMail}
use Rattle.bank_model.specs.declared.entry.Entry.{Entry}
use Rattle.bank_model.specs.Ledger.{row_of}

-- ---- the row of a recurring transfer

-- the row that a change gives to a recurring transfer
abbrev pub model_in : Change → Option ModelRow
model_in (NewTransfer row) = None
model_in (SetTransfer row) = None
model_in (DropTransfer id) = None
model_in (NewModel row) = Some row
model_in (SetModel row pending) = Some row
model_in (DropModel id pending) = None
model_in (NewMail row) = None

abbrev pub if_model_named : ℕ → Option ModelRow → Option ModelRow
if_model_named id None = None
if_model_named id (Some row) = if row.id == id then Some row else None

abbrev pub or_model_before : Option ModelRow → Option ModelRow → Option ModelRow
or_model_before before None = before
or_model_before before (Some row) = Some row

-- The row of a recurring transfer: the one in the last entry that gives this id a row.
unfoldable pub model_of : ℕ → List Entry → Option ModelRow
model_of id entries =
    fold (λ (row : Option ModelRow) (entry : Entry). or_model_before row (if_model_named id (model_in entry.change))) None entries

abbrev pub drops_model : ℕ → Change → Bool
drops_model id (NewTransfer row) = false
drops_model id (SetTransfer row) = false
drops_model id (DropTransfer dropped) = false
drops_model id (NewModel row) = false
drops_model id (SetModel row pending) = false
drops_model id (DropModel dropped pending) = dropped == id
drops_model id (NewMail row) = false

-- A recurring transfer is cancelled where an entry drops it.
unfoldable pub is_model_dropped : ℕ → List Entry → Bool
is_model_dropped id entries = list_any (λ (entry : Entry). drops_model id entry.change) entries

-- ---- the transfers that it has made

abbrev pub is_of_model : ℕ → Option ModelRow → Bool
is_of_model id None = false
is_of_model id (Some row) = row.id == id

-- A change begins a recurring transfer anew where it gives it a row.
abbrev pub begins_anew : ℕ → Change → Bool
begins_anew id change = is_of_model id (model_in change)

-- a new transfer that the recurring one made
abbrev pub is_made_by : ℕ → Change → Bool
is_made_by id (NewTransfer row) = row.model == id
is_made_by id (SetTransfer row) = false
is_made_by id (DropTransfer dropped) = false
is_made_by id (NewModel row) = false
is_made_by id (SetModel row pending) = false
is_made_by id (DropModel dropped pending) = false
is_made_by id (NewMail row) = false

-- The entries after the last one that begins it anew, the latest first.
abbrev pub since_anew : ℕ → List Entry → List Entry
since_anew id entries = take_while (λ (entry : Entry). not (begins_anew id entry.change)) (reverse entries)

-- The occurrence of its next transfer in the series, from 0: the number of transfers that it has made since it last began anew.
unfoldable pub next_occurrence : ℕ → List Entry → ℕ
next_occurrence id entries = length (filter (λ (entry : Entry). is_made_by id entry.change) (since_anew id entries))

-- ---- the transfers that wait

abbrev pub is_waiting : XferCode → Bool
is_waiting Waiting = true
is_waiting Posted = false
is_waiting NoFunds = false
is_waiting Cancelled = false

-- the row that a transfer has by these entries, where this change made it
abbrev pub made_in : List Entry → Change → List TransferRow
made_in entries (NewTransfer row) = option_to_list (row_of row.id entries)
made_in entries (SetTransfer row) = []
made_in entries (DropTransfer id) = []
made_in entries (NewModel row) = []
made_in entries (SetModel row pending) = []
made_in entries (DropModel id pending) = []
made_in entries (NewMail row) = []

-- The rows of all transfers that wait, in the order in which they were made, which is that of their ids.
unfoldable pub all_waiting : List Entry → List TransferRow
all_waiting entries =
    filter (λ (row : TransferRow). is_waiting row.code) (flat_map (λ (entry : Entry). made_in entries entry.change) entries)

-- those that a recurring transfer made
unfoldable pub waiting_of : ℕ → List Entry → List TransferRow
waiting_of id entries = filter (λ (row : TransferRow). row.model == id) (all_waiting entries)
