-- What holds of every state that a bank comes to.
use Rattle.std.specs.Prelude.{◌≡◌, ℕ, ◌+◌, ◌<◌, ◌≤◌, ◌⊎◌, true, false, pos, ◌≤ℤ◌, unsigned_abs, List, length, take, slice_index_or, Option, None, Some, is_some}
use Rattle.std.specs.Option.{IfSome, option_map}
use Rattle.std.specs.List.{AllByRecursion}
use Rattle.ofx_types.specs.AccountForm.{same_account}
use Rattle.ofx_types.specs.Calendar.{IsMoment, IsDay}
use Rattle.ofx_types.specs.Printable.{IsPrintableChange}
use Rattle.ofx_types.specs.declared.account.AcctName.{AcctName}
use Rattle.ofx_types.specs.declared.number.AcctId.{AcctId}
use Rattle.ofx_types.specs.declared.transfer.TransferRow.{TransferRow}
use Rattle.ofx_types.specs.declared.transfer.Change.{Change}
use Rattle.ofx_types.specs.declared.recurring.ModelRow.{ModelRow}
use Rattle.ofx_types.specs.declared.transfer.Change.TheVariants.{NewTransfer, SetTransfer, DropTransfer, NewModel, SetModel, DropModel, NewMail}
use Rattle.bank_model.specs.declared.entry.Entry.{Entry}
use Rattle.bank_model.specs.declared.setup.Setup.{Setup}
use Rattle.bank_model.specs.declared.event.State.{State}
use Rattle.bank_model.specs.SetupLookups.{account_of}
use Rattle.bank_model.specs.Ledger.{row_in, row_of, balance}
use Rattle.bank_model.specs.Models.{model_in, model_of, is_model_dropped, next_occurrence, is_waiting}
use Rattle.bank_model.specs.Due.{occurrence_date}
use Rattle.once_records.specs.RecordsView.{UsedOnce, KeptOnce}

-- A transfer that the bank has taken goes from an account of the bank to another. Its amount isn't negative and is at
-- most 99,999,999,999.99, and its day and its stamp lie in the years 1900 to 9999.
pub record IsSoundRow (setup : Setup) (row : TransferRow) : Type 0 where
  pub not_negative : pos 0 ≤ℤ row.amount.0
  pub amount : unsigned_abs row.amount.0 ≤ 9999999999999
  pub due : IsDay row.due.0
  pub stamp : IsMoment row.stamp.0
  pub from : is_some (account_of setup row.from) ≡ true
  pub to : is_some (account_of setup row.to) ≡ true
  pub apart : same_account row.to row.from ≡ false

-- A recurring transfer is of the same form, and its first day lies in the years 1900 to 9999.
pub record IsSoundModel (setup : Setup) (row : ModelRow) : Type 0 where
  pub not_negative : pos 0 ≤ℤ row.amount.0
  pub amount : unsigned_abs row.amount.0 ≤ 9999999999999
  pub first : IsDay row.first.0
  pub from : is_some (account_of setup row.from) ≡ true
  pub to : is_some (account_of setup row.to) ≡ true
  pub apart : same_account row.to row.from ≡ false

abbrev pub HasSoundRow : Setup → Entry → Type 0
HasSoundRow setup entry = IfSome (row_in entry.change) (IsSoundRow setup)

abbrev pub HasSoundModel : Setup → Entry → Type 0
HasSoundModel setup entry = IfSome (model_in entry.change) (IsSoundModel setup)

-- An entry's change may be reported to a client.
abbrev pub MayBeReported : Entry → Type 0
MayBeReported entry = IsPrintableChange entry.change

abbrev pub IsUpTo : ℕ → ℕ → Type 0
IsUpTo count id = (0 < id) × (id ≤ count)

-- The transfer, or the recurring transfer, that a change speaks of is one of so many entries'. A mail speaks of none.
abbrev pub IsOfMade : ℕ → Change → Type 0
IsOfMade count (NewTransfer row) = IsUpTo count row.id
IsOfMade count (SetTransfer row) = IsUpTo count row.id
IsOfMade count (DropTransfer id) = IsUpTo count id
IsOfMade count (NewModel row) = IsUpTo count row.id
IsOfMade count (SetModel row pending) = IsUpTo count row.id
IsOfMade count (DropModel id pending) = IsUpTo count id
IsOfMade count (NewMail row) = Unit {0}

abbrev pub IsNumbered : ℕ → Entry → Type 0
IsNumbered count entry = IsOfMade count entry.change

-- If a recurring transfer of that id was made, it has the transfer's source. A transfer that a user asked for has none, 0.
abbrev pub HasSource : List Entry → TransferRow → Type 0
HasSource entries row =
    (row.model ≤ length entries) × IfSome (model_of row.model entries) (λ (model : ModelRow). model.from ≡ row.from)

abbrev pub AreSources : List Entry → Type 0
AreSources entries = (id : ℕ) → IfSome (row_of id entries) (HasSource entries)

-- ---- what an entry may say after others

-- A row is given to a transfer that waits, and keeps its recurring transfer and its source.
abbrev pub IsOfWaiting : TransferRow → Option TransferRow → Type 0
IsOfWaiting given None = ⊥
IsOfWaiting given (Some row) = (is_waiting row.code ≡ true) × (row.model ≡ given.model) × (row.from ≡ given.from)

abbrev pub IsWaiting : Option TransferRow → Type 0
IsWaiting None = ⊥
IsWaiting (Some row) = is_waiting row.code ≡ true

-- A recurring transfer goes on where it isn't cancelled.
abbrev pub GoesOn : List Entry → ℕ → Type 0
GoesOn entries id = (is_some (model_of id entries) ≡ true) × (is_model_dropped id entries ≡ false)

-- the source of a recurring transfer
abbrev pub source_of : ℕ → List Entry → Option AcctName
source_of id entries = option_map (λ (row : ModelRow). row.from) (model_of id entries)

-- The transfer is due on the next date of its recurring transfer, and has its source.
abbrev pub IsNextOf : List Entry → TransferRow → Type 0
IsNextOf entries row =
    (occurrence_date (model_of row.model entries) (next_occurrence row.model entries) ≡ Some row.due) × (source_of row.model entries ≡ Some row.from)

-- What is new has its entry's number as its id. A new transfer was asked for, or is the next one of a recurring transfer.
-- A transfer that is changed, posted, closed or cancelled waits, and a recurring transfer that is changed or cancelled
-- isn't cancelled yet. Neither changes its source. Mail may always come.
abbrev pub IsLawful : List Entry → Change → Type 0
IsLawful before (NewTransfer row) = (row.id ≡ length before + 1) × ((row.model ≡ 0) ⊎ IsNextOf before row)
IsLawful before (SetTransfer row) = IsOfWaiting row (row_of row.id before)
IsLawful before (DropTransfer id) = IsWaiting (row_of id before)
IsLawful before (NewModel row) = row.id ≡ length before + 1
IsLawful before (SetModel row pending) = GoesOn before row.id × (source_of row.id before ≡ Some row.from)
IsLawful before (DropModel id pending) = GoesOn before id
IsLawful before (NewMail row) = Unit {0}

-- Entry i, from 1, has the number i, and there are no more entries than the setup allows. Each speaks of what an entry has
-- made by then, may follow those before it, and may be reported to a client. A transfer has the source of its recurring
-- transfer. No recurring transfer has made more transfers since it last began anew than there are dates. No balance is
-- below zero. No user has used up a uid twice, and no file of a user has two replies.
pub record IsSoundState (setup : Setup) (S : State) : Type 0 where
  pub numbered : (k : ℕ) (d : Entry) → k < length S.entries → (slice_index_or S.entries k d).number ≡ k + 1
  pub few : length S.entries ≤ setup.entries
  pub rows : AllByRecursion (HasSoundRow setup) S.entries
  pub models : AllByRecursion (HasSoundModel setup) S.entries
  pub made : AllByRecursion (IsNumbered (length S.entries)) S.entries
  pub reported : AllByRecursion MayBeReported S.entries
  pub lawful : (k : ℕ) (d : Entry) → k < length S.entries → IsLawful (take k S.entries) (slice_index_or S.entries k d).change
  pub sources : AreSources S.entries
  pub occurrences : (id : ℕ) → 0 < id → next_occurrence id S.entries ≤ 2958464
  pub covered : (account : AcctId) → pos 0 ≤ℤ balance setup S.entries account
  pub used : UsedOnce S.used
  pub kept : KeptOnce S.kept
  pub day : IsDay S.day.0
