-- What contracts see of the transfers of a bank, and the list of entries that they stand for.
use Rattle.std.specs.Prelude.{◌≡◌, ℕ, ◌<◌, ◌≤◌, Bool, false, true, ◌==◌, unsigned_abs, List, [], ◌∷◌, map, reverse, Option, None, Some}
use Rattle.std.specs.Option.{option_map, option_or}
use Rattle.std.specs.Map.{lookup}
use Rattle.std.specs.List.{find, AllByRecursion}
use Rattle.ofx_types.specs.declared.transfer.TransferRow.{TransferRow}
use Rattle.ofx_types.specs.declared.transfer.XferCode.TheVariants.{Cancelled}
use Rattle.ofx_types.specs.declared.transfer.Change.{Change}
use Rattle.ofx_types.specs.declared.transfer.Change.TheVariants.{NewTransfer, SetTransfer, DropTransfer, NewModel, SetModel, DropModel, NewMail}
use Rattle.bank_model.specs.declared.entry.Entry.{Entry}
use Rattle.bank_model.specs.Judging.{is_cancelled}
use Rattle.bank_model.specs.Ledger.{Posting, row_of, is_dropped, with_code, moved}
use Rattle.bank_model.specs.Models.{is_waiting, all_waiting}

-- The rows of the transfers that wait, and of those that are closed or cancelled, each under its id, the posted transfers in
-- the order of posting, and for how many entries more there is room.
pub record TransfersView : Type 0 where
  pub waiting : List (ℕ × TransferRow)
  pub closed : List (ℕ × TransferRow)
  pub postings : List Posting
  pub room : ℕ

-- The row of a transfer is the first with its id.
abbrev pub row_found : ℕ → List TransferRow → Option TransferRow
row_found id rows = find (λ (row : TransferRow). row.id == id) rows

-- the row that is under an id
abbrev pub row_at : List (ℕ × TransferRow) → ℕ → Option TransferRow
row_at rows id = lookup (λ key. id == key) rows

-- The row of a transfer that doesn't wait is the one by itself, or else that of the transfer's last posting.
abbrev pub row_settled : List (ℕ × TransferRow) → List Posting → ℕ → Option TransferRow
row_settled closed postings id = option_or (row_at closed id) (row_found id (map (λ (posted : Posting). posted.row) (reverse postings)))

-- The row of a transfer is that with which it waits, or else the settled one.
abbrev pub row_held : TransfersView → ℕ → Option TransferRow
row_held transfers id = option_or (row_at transfers.waiting id) (row_settled transfers.closed transfers.postings id)

-- Each row's id is above those of the rows before it.
abbrev pub RiseById : List TransferRow → Type 0
RiseById [] = Unit {0}
RiseById (row ∷ rows) = AllByRecursion (λ (other : TransferRow). row.id < other.id) rows × RiseById rows

-- The transfers stand for a list of entries: the row that they have for an id is the row that the entries have for it,
-- those that wait are the ones that wait by the entries, whose ids rise, and their postings are what the entries moved.
pub record Represents (transfers : TransfersView) (entries : List Entry) : Type 0 where
  pub rows : (id : ℕ) → row_held transfers id ≡ row_of id entries
  pub waiting : (id : ℕ) → row_at transfers.waiting id ≡ row_found id (all_waiting entries)
  pub rise : RiseById (all_waiting entries)
  pub postings : transfers.postings ≡ moved entries

-- A row that is set isn't cancelled, and no entry before drops its transfer.
abbrev pub IsSet : List Entry → TransferRow → TransferRow → Type 0
IsSet entries given row = (given ≡ row) × (is_cancelled row.code ≡ false) × (is_dropped row.id entries ≡ false)

-- a transfer that has a row, and waits
abbrev pub waits : Option TransferRow → Bool
waits None = false
waits (Some row) = is_waiting row.code

-- A change makes no transfer, or one whose id is below another.
abbrev pub IsMadeBelow : ℕ → Change → Type 0
IsMadeBelow id (NewTransfer row) = row.id < id
IsMadeBelow id (SetTransfer row) = Unit {0}
IsMadeBelow id (DropTransfer gone) = Unit {0}
IsMadeBelow id (NewModel row) = Unit {0}
IsMadeBelow id (SetModel row pending) = Unit {0}
IsMadeBelow id (DropModel gone pending) = Unit {0}
IsMadeBelow id (NewMail mail) = Unit {0}

-- An id is that of a transfer that no entry has made or changed, and above those of all that entries made.
abbrev pub IsNewId : List Entry → ℕ → Type 0
IsNewId entries id = (row_of id entries ≡ None) × AllByRecursion (λ (entry : Entry). IsMadeBelow id entry.change) entries

-- The row that a change after a list of entries gives: that of a new transfer, or the one that a transfer has from now
-- on; and where a transfer is dropped, its row with the code Cancelled. A new transfer that waits has a new id, and one that
-- goes on waiting waits already. A change of a recurring transfer gives no transfer a row.
abbrev pub GivesRow : List Entry → Change → TransferRow → Type 0
GivesRow entries (NewTransfer given) row =
    IsSet entries given row × (is_waiting row.code ≡ true → IsNewId entries row.id)
GivesRow entries (SetTransfer given) row =
    IsSet entries given row × (is_waiting row.code ≡ true → waits (row_of row.id entries) ≡ true)
GivesRow entries (DropTransfer id) row = option_map (with_code Cancelled) (row_of id entries) ≡ Some row
GivesRow entries (NewModel given) row = ⊥
GivesRow entries (SetModel given pending) row = ⊥
GivesRow entries (DropModel id pending) row = ⊥
GivesRow entries (NewMail mail) row = ⊥

-- An amount is at most 99,999,999,999.99 either way.
abbrev pub IsWithinAmounts : TransferRow → Type 0
IsWithinAmounts row = unsigned_abs row.amount.0 ≤ 9999999999999
