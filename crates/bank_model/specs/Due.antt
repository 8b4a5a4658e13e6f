-- What the bank does while nobody asks: recurring transfers make their next transfer, and transfers that wait are posted
-- or closed on their day.
use Rattle.std.specs.Prelude.{ℕ, ◌+◌, Bool, true, false, not, ◌&&◌, ◌||◌, nat_lt, ◌==◌, if◌then◌else◌, pos, ◌+ℤ◌, int_le, int_lt, List, [], ◌∷◌, map, filter, fold, length, codes, Option, None, Some, is_some}
use Rattle.std.specs.List.{flat_map}
use Rattle.ofx_types.specs.Calendar.{midnight}
use Rattle.ofx_types.specs.declared.number.Day.{Day}
use Rattle.ofx_types.specs.declared.number.Moment.{Moment}
use Rattle.ofx_types.specs.declared.transfer.XferCode.TheVariants.{Waiting, Posted, NoFunds}
use Rattle.ofx_types.specs.declared.transfer.TransferRow.{TransferRow}
use Rattle.ofx_types.specs.declared.recurring.ModelRow.{ModelRow}
use Rattle.ofx_types.specs.declared.transfer.Change.{Change}
use Rattle.ofx_types.specs.declared.transfer.Change.TheVariants.{NewTransfer, SetTransfer, DropTransfer, NewModel, SetModel, DropModel, NewMail}
use Rattle.bank_model.specs.declared.setup.Setup.{Setup}
use Rattle.bank_model.specs.declared.entry.Entry.{Entry}
use Rattle.bank_model.specs.declared.event.State.{State}
use Rattle.bank_model.specs.SetupLookups.{account_of}
use Rattle.bank_model.specs.Ledger.{is_covered}
use Rattle.bank_model.specs.Models.{model_of, is_model_dropped, next_occurrence, is_waiting, all_waiting}
use Rattle.bank_model.specs.Recurrence.{kth_date}
use Rattle.bank_model.specs.Deeds.{balance_if_any, object_of, next_entry, is_full}

-- A number is left for one entry more.
abbrev pub has_number : Setup → State → Bool
has_number setup S = not (is_full setup (length S.entries + 1))

-- ---- posting

-- A transfer may be posted where it waits and is due on or before the business day.
abbrev pub is_to_post : Day → TransferRow → Bool
is_to_post day row = is_waiting row.code && int_le row.due.0 day.0

abbrev pub may_post : Setup → State → Option TransferRow → Bool
may_post setup S None = false
may_post setup S (Some row) = is_to_post S.day row && has_number setup S

-- With cover it is posted, otherwise closed without funds. Its stamp is the moment.
unfoldable pub processed_row : Bool → Moment → TransferRow → TransferRow
processed_row covered at row = record {
  id = row.id;
  model = row.model;
  from = row.from;
  to = row.to;
  amount = row.amount;
  due = row.due;
  code = if covered then Posted else NoFunds;
  stamp = at;
}

abbrev pub has_cover : Setup → State → TransferRow → Bool
has_cover setup S row = is_covered row.amount.0 (balance_if_any setup S.entries (account_of setup row.from))

abbrev pub posts : Setup → State → Moment → Option TransferRow → List Entry
posts setup S at None = []
posts setup S at (Some row) =
    next_entry S (object_of setup row.from) (codes "0") (SetTransfer (processed_row (has_cover setup S row) at row)) ∷ []

-- ---- making the next transfer

-- A series without a count goes on.
abbrev pub is_below_count : ℕ → Option ℕ → Bool
is_below_count occurrence None = true
is_below_count occurrence (Some count) = nat_lt occurrence count

-- the date of an occurrence of a series, from 0, where the series has that occurrence
abbrev pub date_in_series : ModelRow → ℕ → Option Day
date_in_series row occurrence =
    if is_below_count occurrence row.recur.count then kth_date row.first row.recur.freq occurrence else None

-- Transfers are made ready for dates up to LEAD days after the business day.
abbrev pub last_day : Setup → Day → Day
last_day setup day = record { 0 = day.0 +ℤ pos setup.lead }

-- the date, where it is no later than a last day
abbrev pub if_by : Day → Option Day → Option Day
if_by last None = None
if_by last (Some date) = if int_le date.0 last.0 then Some date else None

abbrev pub date_if_any : Day → ℕ → List Entry → Option ModelRow → Option Day
date_if_any last id entries None = None
date_if_any last id entries (Some row) =
    if is_model_dropped id entries then None else if_by last (date_in_series row (next_occurrence id entries))

-- The date of the next transfer that a recurring one makes by a last day: it isn't cancelled, its series has one more, and
-- the date is no later.
unfoldable pub date_to_make : Day → ℕ → List Entry → Option Day
date_to_make last id entries = date_if_any last id entries (model_of id entries)

abbrev pub may_spawn : Setup → State → ℕ → ℕ → Bool
may_spawn setup S id occurrence =
    is_some (date_to_make (last_day setup S.day) id S.entries) && (occurrence == next_occurrence id S.entries) && has_number setup S

-- It waits for its date, and has the accounts and the amount of the recurring transfer.
unfoldable pub spawned_row : ℕ → Day → ModelRow → TransferRow
spawned_row id date row = record {
  id = id;
  model = row.id;
  from = row.from;
  to = row.to;
  amount = row.amount;
  due = date;
  code = Waiting;
  stamp = record { 0 = midnight date.0 };
}

-- the entry of a transfer that a recurring transfer makes on a date; without either there is none
abbrev pub spawns_on : Setup → State → Option ModelRow → Option Day → List Entry
spawns_on setup S None date = []
spawns_on setup S (Some row) None = []
spawns_on setup S (Some row) (Some date) =
    next_entry S (object_of setup row.from) (codes "0") (NewTransfer (spawned_row (length S.entries + 1) date row)) ∷ []

-- the date of an occurrence, whether the series has that occurrence or not
abbrev pub occurrence_date : Option ModelRow → ℕ → Option Day
occurrence_date None occurrence = None
occurrence_date (Some row) occurrence = kth_date row.first row.recur.freq occurrence

-- The transfer that the recurring transfer of this id makes at this occurrence of its series. It is said of an occurrence at
-- which one may be made; whether it may is `may_spawn`.
unfoldable pub spawns : Setup → State → ℕ → ℕ → List Entry
spawns setup S id occurrence = spawns_on setup S (model_of id S.entries) (occurrence_date (model_of id S.entries) occurrence)

-- ---- which comes next

-- something to be done for a transfer or a recurring transfer on a day
pub record Task : Type 0 where
  pub day : Day
  pub id : ℕ

-- The earlier day comes first, and on one day the lesser id.
abbrev pub is_before : Task → Task → Bool
is_before a b = int_lt a.day.0 b.day.0 || (int_le a.day.0 b.day.0 && nat_lt a.id b.id)

abbrev pub or_earlier : Option Task → Task → Option Task
or_earlier None task = Some task
or_earlier (Some first) task = if is_before task first then Some task else Some first

abbrev pub first_task : List Task → Option Task
first_task tasks = fold or_earlier None tasks

-- what is to be done on a date, where there is one
abbrev pub task_on : ℕ → Option Day → List Task
task_on id None = []
task_on id (Some day) = record { day = day; id = id } ∷ []

abbrev pub makes : Day → List Entry → Change → List Task
makes last entries (NewTransfer row) = []
makes last entries (SetTransfer row) = []
makes last entries (DropTransfer id) = []
makes last entries (NewModel row) = task_on row.id (date_to_make last row.id entries)
makes last entries (SetModel row pending) = []
makes last entries (DropModel id pending) = []
makes last entries (NewMail row) = []

-- the recurring transfers that make their next transfer by a last day, each with its date
unfoldable pub to_make : Day → List Entry → List Task
to_make last entries = flat_map (λ (entry : Entry). makes last entries entry.change) entries

-- a transfer with its due day
abbrev pub task_of : TransferRow → Task
task_of row = record { day = row.due; id = row.id }

-- the transfers that wait and are due, each with its due day
unfoldable pub to_post : Day → List Entry → List Task
to_post day entries = map task_of (filter (λ (row : TransferRow). int_le row.due.0 day.0) (all_waiting entries))
