-- What the entries of the history come to: the row of each transfer, the posted transfers, and the balances.
use Rattle.std.specs.Prelude.{ℕ, Bool, true, false, ◌&&◌, ◌==◌, if◌then◌else◌, ℤ, pos, ◌+ℤ◌, ◌-ℤ◌, int_le, int_lt, List, [], ◌∷◌, filter, map, fold, Option, None, Some}
use Rattle.std.specs.Option.{option_map}
use Rattle.std.specs.List.{flat_map, list_any}
use Rattle.ofx_types.specs.AccountForm.{same_account}
use Rattle.ofx_types.specs.declared.account.AcctName.{AcctName}
use Rattle.ofx_types.specs.declared.number.AcctId.{AcctId}
use Rattle.ofx_types.specs.declared.number.Moment.{Moment}
use Rattle.ofx_types.specs.declared.reply.StatementLine.{StatementLine}
use Rattle.ofx_types.specs.declared.transfer.XferCode.{XferCode}
use Rattle.ofx_types.specs.declared.transfer.XferCode.TheVariants.{Waiting, Posted, NoFunds, Cancelled}
use Rattle.ofx_types.specs.declared.transfer.TransferRow.{TransferRow}
use Rattle.ofx_types.specs.declared.transfer.Change.{Change}
use Rattle.ofx_types.specs.declared.transfer.Change.TheVariants.{NewTransfer, SetTransfer, DropTransfer, NewModel, SetModel, DropModel, NewMail}
use Rattle.bank_model.specs.declared.entry.Entry.{Entry}
use Rattle.bank_model.specs.declared.setup.AccountLine.{AccountLine}
use Rattle.bank_model.specs.declared.setup.Setup.{Setup}
use Rattle.bank_model.specs.SetupLookups.{line_at}

-- the row that a change gives to a transfer
abbrev pub row_in : Change → Option TransferRow
row_in (NewTransfer row) = Some row
row_in (SetTransfer row) = Some row
row_in (DropTransfer id) = None
row_in (NewModel row) = None
row_in (SetModel row pending) = None
row_in (DropModel id pending) = None
row_in (NewMail row) = None

-- ---- the row of a transfer

abbrev pub if_named : ℕ → Option TransferRow → Option TransferRow
if_named id None = None
if_named id (Some row) = if row.id == id then Some row else None

abbrev pub or_before : Option TransferRow → Option TransferRow → Option TransferRow
or_before before None = before
or_before before (Some row) = Some row

-- The row of a transfer: the one in the last entry that gives this id a row.
unfoldable pub last_row : ℕ → List Entry → Option TransferRow
last_row id entries = fold (λ (row : Option TransferRow) (entry : Entry). or_before row (if_named id (row_in entry.change))) None entries

abbrev pub drops : ℕ → Change → Bool
drops id (NewTransfer row) = false
drops id (SetTransfer row) = false
drops id (DropTransfer dropped) = dropped == id
drops id (NewModel row) = false
drops id (SetModel row pending) = false
drops id (DropModel dropped pending) = false
drops id (NewMail row) = false

-- A transfer is cancelled where an entry drops it.
unfoldable pub is_dropped : ℕ → List Entry → Bool
is_dropped id entries = list_any (λ (entry : Entry). drops id entry.change) entries

abbrev pub with_code : XferCode → TransferRow → TransferRow
with_code code row = record {
  id = row.id;
  model = row.model;
  from = row.from;
  to = row.to;
  amount = row.amount;
  due = row.due;
  code = code;
  stamp = row.stamp;
}

-- The row of a transfer, with its code changed to Cancelled where it is cancelled.
unfoldable pub row_of : ℕ → List Entry → Option TransferRow
row_of id entries = option_map (λ (row : TransferRow). if is_dropped id entries then with_code Cancelled row else row) (last_row id entries)

-- ---- posted transfers

-- A posted transfer: the number of the entry that posted it, which is its FITID, and its row.
pub record Posting : Type 0 where
  pub number : ℕ
  pub row : TransferRow

abbrev pub is_posted : XferCode → Bool
is_posted Waiting = false
is_posted Posted = true
is_posted NoFunds = false
is_posted Cancelled = false

abbrev pub posting_of : ℕ → Option TransferRow → List Posting
posting_of number None = []
posting_of number (Some row) = if is_posted row.code then record { number = number; row = row } ∷ [] else []

-- The posted transfers, in the order of posting.
unfoldable pub moved : List Entry → List Posting
moved entries = flat_map (λ (entry : Entry). posting_of entry.number (row_in entry.change)) entries

-- ---- balances

-- What a transfer brings to the account of this name, less what it takes from it.
abbrev pub part : AcctName → TransferRow → ℤ
part name row =
    (if same_account row.to name then row.amount.0 else pos 0) -ℤ (if same_account row.from name then row.amount.0 else pos 0)

-- what an account had at first and what the postings brought to it, less what they took from it
unfoldable pub sum_from : ℤ → AcctName → List Posting → ℤ
sum_from opening name postings = fold (λ (sum : ℤ) (posting : Posting). sum +ℤ part name posting.row) opening postings

-- The balance of an account is its opening amount, plus the amounts of the posted transfers into it, less those of the
-- posted transfers out of it. An account that the setup lacks has 0.
abbrev pub balance_on : List Entry → Option AccountLine → ℤ
balance_on entries None = pos 0
balance_on entries (Some line) = sum_from line.opening.0 line.name (moved entries)

abbrev pub balance : Setup → List Entry → AcctId → ℤ
balance setup entries account = balance_on entries (line_at setup account)

-- There is cover for an amount where the balance of its source is no less.
abbrev pub is_covered : ℤ → ℤ → Bool
is_covered amount balance = int_le amount balance

-- ---- the lines of a statement

-- A posted transfer is of an account where it went out of it or into it.
abbrev pub is_about : AcctName → Posting → Bool
is_about name posting = if same_account posting.row.from name then true else same_account posting.row.to name

-- A period has its first moment and not its last. Without a last moment it goes on.
abbrev pub is_before_end : Option Moment → ℤ → Bool
is_before_end None at = true
is_before_end (Some end) at = int_lt at end.0

abbrev pub is_within_period : Moment → Option Moment → Posting → Bool
is_within_period start end posting = int_le start.0 posting.row.stamp.0 && is_before_end end posting.row.stamp.0

-- A line says what the transfer brought to the account: less than 0 at its source.
abbrev pub line_for : AcctName → Posting → StatementLine
line_for name posting = record { number = posting.number; posted = posting.row.stamp; amount = record { 0 = part name posting.row } }

-- The posted transfers of an account whose stamps lie in a period, in the order of posting.
unfoldable pub lines_of : AcctName → Moment → Option Moment → List Posting → List StatementLine
lines_of name start end postings =
    map (line_for name) (filter (λ (posting : Posting). is_about name posting && is_within_period start end posting) postings)
