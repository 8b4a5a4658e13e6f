-- What a client keeps of an object: a token and the rows that belong to it, and how a reply changes them.
use Rattle.std.specs.Prelude.{◌≡◌, ℕ, ◌≤◌, ◌⊎◌, Bool, true, false, not, nat_lt, nat_le, ◌==◌, if◌then◌else◌, List, [], ◌∷◌, ◌++◌, filter, fold, Option, None, Some, is_some, unwrap_or, option_to_list}
use Rattle.std.specs.List.{flat_map}
use Rattle.ofx_types.specs.SyncForm.{object_family}
use Rattle.ofx_types.specs.declared.number.ObjectId.{ObjectId}
use Rattle.ofx_types.specs.declared.number.UserId.{UserId}
use Rattle.ofx_types.specs.declared.transfer.TransferRow.{TransferRow}
use Rattle.ofx_types.specs.declared.recurring.ModelRow.{ModelRow}
use Rattle.ofx_types.specs.declared.mail.MailRow.{MailRow}
use Rattle.ofx_types.specs.declared.transfer.Change.{Change}
use Rattle.ofx_types.specs.declared.transfer.Change.TheVariants.{NewTransfer, SetTransfer, DropTransfer, NewModel, SetModel, DropModel, NewMail}
use Rattle.ofx_types.specs.declared.transfer.DeedReply.{DeedReply}
use Rattle.ofx_types.specs.declared.transfer.Family.{Family}
use Rattle.ofx_types.specs.declared.transfer.Family.TheVariants as families
use Rattle.ofx_types.specs.declared.sync.ObjectName.{ObjectName}
use Rattle.ofx_types.specs.declared.sync.SyncKind.{SyncKind}
use Rattle.ofx_types.specs.declared.sync.SyncKind.TheVariants.{After, TokenOnly, Refresh}
use Rattle.ofx_types.specs.declared.sync.SyncReply.{SyncReply}
use Rattle.bank_model.specs.declared.entry.Entry.{Entry}
use Rattle.bank_model.specs.declared.setup.Setup.{Setup}
use Rattle.bank_model.specs.Objects.{object_named, history_of, newest}
use Rattle.bank_model.specs.Sync.{token_of}

-- ---- rows

-- The rows of an object are all transfers, all recurring transfers or all mails.
pub data Row : Type 0 where
  transfer_row : TransferRow → Row
  model_row : ModelRow → Row
  mail_row : MailRow → Row

-- the id of a row; a mail has none, and stays where it came
abbrev pub id_of : Row → Option ℕ
id_of (transfer_row row) = Some row.id
id_of (model_row row) = Some row.id
id_of (mail_row row) = None

abbrev pub is_id : ℕ → Option ℕ → Bool
is_id id None = false
is_id id (Some own) = own == id

abbrev pub has_id : ℕ → Row → Bool
has_id id row = is_id id (id_of row)

abbrev pub is_less : ℕ → Option ℕ → Bool
is_less id None = true
is_less id (Some own) = nat_lt own id

abbrev pub is_below : ℕ → Row → Bool
is_below id row = is_less id (id_of row)

-- A row replaces the one that has its id, or is inserted in rising id among the others.
unfoldable pub put : ℕ → Row → List Row → List Row
put id row [] = row ∷ []
put id row (first ∷ more) =
    if has_id id first then row ∷ more
    else (if is_below id first then first ∷ put id row more else row ∷ first ∷ more)

abbrev pub remove_row : ℕ → List Row → List Row
remove_row id rows = filter (λ (row : Row). not (has_id id row)) rows

-- A changed transfer keeps the recurring transfer that made it, which its reply doesn't report.
abbrev pub with_model : ℕ → TransferRow → TransferRow
with_model made_by row = record {
  id = row.id;
  model = made_by;
  from = row.from;
  to = row.to;
  amount = row.amount;
  due = row.due;
  code = row.code;
  stamp = row.stamp;
}

abbrev pub model_if_named : ℕ → ℕ → Row → ℕ
model_if_named id found (transfer_row row) = if row.id == id then row.model else found
model_if_named id found (model_row row) = found
model_if_named id found (mail_row row) = found

-- the recurring transfer of the row with this id, 0 where no transfer has it
abbrev pub model_among : ℕ → List Row → ℕ
model_among id rows = fold (model_if_named id) 0 rows

-- ---- the rows that entries make

-- What an entry does to the rows of its object. What is new or changed has its row as it is in the entry, what is cancelled
-- has none, and a mail comes last.
unfoldable pub entered : List Row → Change → List Row
entered rows (NewTransfer row) = put row.id (transfer_row row) rows
entered rows (SetTransfer row) = put row.id (transfer_row row) rows
entered rows (DropTransfer id) = remove_row id rows
entered rows (NewModel row) = put row.id (model_row row) rows
entered rows (SetModel row pending) = put row.id (model_row row) rows
entered rows (DropModel id pending) = remove_row id rows
entered rows (NewMail row) = rows ++ mail_row row ∷ []

abbrev pub is_up_to : ℕ → Entry → Bool
is_up_to token entry = nat_le entry.number token

-- The rows of an object up to a token: those that its entries up to there make, one after another.
unfoldable pub rows_entered : ObjectId → ℕ → List Entry → List Row
rows_entered object token entries =
    fold (λ (rows : List Row) (entry : Entry). entered rows entry.change) [] (filter (is_up_to token) (history_of object entries))

-- A name for which there is no object has no entries.
abbrev pub newest_under : Option ObjectId → List Entry → ℕ
newest_under None entries = 0
newest_under (Some object) entries = newest object entries

abbrev pub rows_under : Option ObjectId → ℕ → List Entry → List Row
rows_under None token entries = []
rows_under (Some object) token entries = rows_entered object token entries

-- ---- the changes of a reply

-- What a change does to the rows that a client has of an object of a family; a change of another family does nothing. A mail
-- about an account is of the mail about it, any other mail of the user's other mail.
unfoldable pub changed : Family → List Row → Change → List Row
changed families.Intra rows (NewTransfer row) = put row.id (transfer_row row) rows
changed families.Intra rows (SetTransfer row) = put row.id (transfer_row (with_model (model_among row.id rows) row)) rows
changed families.Intra rows (DropTransfer id) = remove_row id rows
changed families.RecIntra rows (NewModel row) = put row.id (model_row row) rows
changed families.RecIntra rows (SetModel row pending) = put row.id (model_row row) rows
changed families.RecIntra rows (DropModel id pending) = remove_row id rows
changed families.BankMail rows (NewMail row) = if is_some row.about then rows ++ mail_row row ∷ [] else rows
changed families.Mail rows (NewMail row) = if is_some row.about then rows else rows ++ mail_row row ∷ []
changed family rows change = rows

-- ---- stores

-- what a client keeps of an object, under the name that it has for the client's user
pub record Store : Type 0 where
  pub name : ObjectName
  pub token : ℕ
  pub is_lost : Bool
  pub rows : List Row

-- a store of which nothing is known yet
abbrev pub empty_store : ObjectName → Store
empty_store name = record { name = name; token = 0; is_lost = false; rows = [] }

-- A user's store is right where it is marked lost, or where its token is no newer than the object of its name and it holds the rows
-- of this object up to its token.
abbrev pub IsRight : Setup → UserId → Store → List Entry → Type 0
IsRight setup user store entries =
    (store.is_lost ≡ true)
    ⊎ ((store.token ≤ newest_under (object_named setup user store.name) entries)
    × (store.rows ≡ rows_under (object_named setup user store.name) store.token entries))

-- the changes that were done, in order
abbrev pub change_done : DeedReply → List Change
change_done reply = if reply.code == 0 then option_to_list reply.change else []

abbrev pub applied : Family → List Row → List DeedReply → List Row
applied family rows replies = fold (changed family) rows (flat_map change_done replies)

abbrev pub with_rows : Store → ℕ → List Row → Store
with_rows store token rows = record { name = store.name; token = token; is_lost = false; rows = rows }

abbrev pub marked_lost : Store → Store
marked_lost store = record { name = store.name; token = store.token; is_lost = true; rows = store.rows }

-- A reply to a client that asks for the token alone changes nothing. One that says that the client has lost synchronisation marks
-- the store so. Any other brings the changes, to the rows that are there or to none where all was asked for, and the reply's
-- token, 0 where its text is none.
unfoldable pub taken : Store → SyncKind → SyncReply → Store
taken store TokenOnly reply = store
taken store (After text) reply =
    if reply.lost then marked_lost store
    else with_rows store (unwrap_or (token_of reply.token) 0) (applied (object_family store.name) store.rows reply.replies)
taken store Refresh reply =
    if reply.lost then marked_lost store
    else with_rows store (unwrap_or (token_of reply.token) 0) (applied (object_family store.name) [] reply.replies)
