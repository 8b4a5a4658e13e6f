-- The saved text of what a client knows, version 1: one list of bytes for each state.
use Rattle.std.specs.Prelude.{ℕ, List, ◌∷◌, ◌++◌, length}
use Rattle.std.specs.List.{flat_map}
use Rattle.ofx_types.specs.declared.number.Cents.{Cents}
use Rattle.ofx_types.specs.declared.number.Day.{Day}
use Rattle.ofx_types.specs.declared.number.Moment.{Moment}
use Rattle.ofx_types.specs.declared.account.AcctName.{AcctName}
use Rattle.ofx_types.specs.declared.transfer.XferCode.{XferCode}
use Rattle.ofx_types.specs.declared.transfer.XferCode.TheVariants.{Waiting, Posted, NoFunds, Cancelled}
use Rattle.ofx_types.specs.declared.transfer.TransferRow.{TransferRow}
use Rattle.ofx_types.specs.declared.recurring.ModelRow.{ModelRow}
use Rattle.ofx_types.specs.declared.mail.MailRow.{MailRow}
use Rattle.bank_model.specs.Stores.{Row, transfer_row, model_row, mail_row, Store}
use Rattle.record_fields.specs.FieldCoding.{u64_bytes, i64_bytes, flag_bytes, text_bytes, file_uid_bytes, optional_bytes, moment_bytes, day_bytes, acct_bytes, recur_bytes, mail_bytes}
use Rattle.event_codec.specs.Coding.{object_bytes, file_bytes}
use Rattle.client_saved.specs.declared.state.Outstanding.{Outstanding}
use Rattle.client_saved.specs.declared.state.ClientState.{ClientState}

-- A list of rows or stores is its number of items in eight bytes, and the items.
abbrev pub counted_bytes : {A : Type 0} → (A → List ℕ) → List A → List ℕ
counted_bytes bytes items = u64_bytes (length items) ++ flat_map bytes items

-- ---- rows

abbrev pub code_number : XferCode → ℕ
code_number Waiting = 0
code_number Posted = 1
code_number NoFunds = 2
code_number Cancelled = 3

-- how far a transfer is, and since when
unfoldable pub processing_bytes : XferCode → Moment → List ℕ
processing_bytes code stamp = code_number code ∷ moment_bytes stamp

-- source, destination, amount in cents, and a day
unfoldable pub terms_bytes : AcctName → AcctName → Cents → Day → List ℕ
terms_bytes from to amount day = acct_bytes from ++ acct_bytes to ++ i64_bytes amount.0 ++ day_bytes day

-- the ids of a transfer and of the recurring transfer that made it
unfoldable pub ids_bytes : ℕ → ℕ → List ℕ
ids_bytes id model = u64_bytes id ++ u64_bytes model

-- its ids, its terms with the due day, how far it is, and since when
unfoldable pub transfer_bytes : TransferRow → List ℕ
transfer_bytes row =
    ids_bytes row.id row.model ++ terms_bytes row.from row.to row.amount row.due ++ processing_bytes row.code row.stamp

-- its id, how it recurs, and its terms with the first day
unfoldable pub model_bytes : ModelRow → List ℕ
model_bytes row = u64_bytes row.id ++ recur_bytes row.recur ++ terms_bytes row.from row.to row.amount row.first

-- the account that it is about, if any, the customer's name, and what it says
unfoldable pub mail_row_bytes : MailRow → List ℕ
mail_row_bytes row = optional_bytes acct_bytes row.about ++ text_bytes row.user ++ mail_bytes row.mail

-- A row is its kind, and what it is.
unfoldable pub row_bytes : Row → List ℕ
row_bytes (transfer_row row) = 1 ∷ transfer_bytes row
row_bytes (model_row row) = 2 ∷ model_bytes row
row_bytes (mail_row row) = 3 ∷ mail_row_bytes row

-- ---- stores

-- A store is its object, its token, whether it is lost, and its rows.
unfoldable pub store_bytes : Store → List ℕ
store_bytes store = object_bytes store.name ++ u64_bytes store.token ++ flag_bytes store.is_lost ++ counted_bytes row_bytes store.rows

-- ---- the whole

-- The file that waits for its reply is the moment at which it was made, its version, its names and its asks.
unfoldable pub outstanding_bytes : Outstanding → List ℕ
outstanding_bytes outstanding = moment_bytes outstanding.at ++ file_bytes outstanding.file

-- A saved text is the version of the coding, the client's name, its user, the number of its next file, the last accepted
-- file, the file that waits for its reply, and the stores. Nothing follows.
unfoldable pub state_text : ClientState → List ℕ
state_text state =
    1 ∷ text_bytes state.name ++ text_bytes state.user ++ u64_bytes state.next ++ file_uid_bytes state.done
    ++ optional_bytes outstanding_bytes state.outstanding ++ counted_bytes store_bytes state.stores
