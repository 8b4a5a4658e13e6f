-- Reading a saved text from left to right: what a client knows, or the offset of the first field that has no form.
use Rattle.std.specs.Prelude.{ℕ, zero, suc, nat_le, ◌==◌, false, if◌then◌else◌, List, [], ◌∷◌, ◌++◌, length, Result, Ok, Err}
use Rattle.std.specs.List.{list_all}
use Rattle.std.specs.Char.{is_ascii_alphanumeric}
use Rattle.ofx_types.specs.SyncForm.{object_family}
use Rattle.ofx_types.specs.declared.transfer.Family.{Family}
use Rattle.ofx_types.specs.declared.transfer.Family.TheVariants as families
use Rattle.ofx_types.specs.declared.transfer.XferCode.{XferCode}
use Rattle.ofx_types.specs.declared.transfer.XferCode.TheVariants.{Waiting, Posted, NoFunds, Cancelled}
use Rattle.ofx_types.specs.declared.transfer.TransferRow.{TransferRow}
use Rattle.ofx_types.specs.declared.recurring.ModelRow.{ModelRow}
use Rattle.ofx_types.specs.declared.mail.MailRow.{MailRow}
use Rattle.ofx_types.specs.declared.sync.ObjectName.{ObjectName}
use Rattle.bank_model.specs.Stores.{Row, transfer_row, model_row, mail_row, id_of, Store}
use Rattle.record_fields.specs.FieldReading.{◌>>=◌, u8_at, u64_at, flag_at, choice_at, optional_at, id_at, amount_at, moment_at, day_at, filled_text_at, file_uid_at}
use Rattle.record_fields.specs.PartReading.{acct_at, recur_at, mail_at}
use Rattle.event_codec.specs.AskReading.{asks_at, object_at}
use Rattle.event_codec.specs.Reading.{version_at}
use Rattle.client_store.specs.RowForm.{bound_after}
use Rattle.client_saved.specs.Bounds.{has_store}
use Rattle.client_saved.specs.declared.state.Outstanding.{Outstanding}
use Rattle.client_saved.specs.declared.state.ClientState.{ClientState}

-- ---- rows

-- An id that doesn't rise is reported at the first byte of its row.
unfoldable pub rising_id_at : ℕ → ℕ → List ℕ → ℕ → Result (ℕ × ℕ) ℕ
rising_id_at bound first text at = do
  id ← id_at text at
  if nat_le bound id.0 then Ok id else Err first

abbrev pub transfer_codes : List XferCode
transfer_codes = Waiting ∷ Posted ∷ NoFunds ∷ Cancelled ∷ []

unfoldable pub transfer_at : ℕ → ℕ → List ℕ → ℕ → Result (TransferRow × ℕ) ℕ
transfer_at bound first text at = do
  id ← rising_id_at bound first text at
  model ← id_at text id.1
  from ← acct_at text model.1
  to ← acct_at text from.1
  amount ← amount_at text to.1
  due ← day_at text amount.1
  code ← choice_at transfer_codes text due.1
  stamp ← moment_at text code.1
  Ok (record { id = id.0; model = model.0; from = from.0; to = to.0; amount = amount.0; due = due.0; code = code.0; stamp = stamp.0 }, stamp.1)

unfoldable pub model_at : ℕ → ℕ → List ℕ → ℕ → Result (ModelRow × ℕ) ℕ
model_at bound first text at = do
  id ← rising_id_at bound first text at
  recur ← recur_at text id.1
  from ← acct_at text recur.1
  to ← acct_at text from.1
  amount ← amount_at text to.1
  day ← day_at text amount.1
  Ok (record { id = id.0; recur = recur.0; from = from.0; to = to.0; amount = amount.0; first = day.0 }, day.1)

unfoldable pub mail_row_at : List ℕ → ℕ → Result (MailRow × ℕ) ℕ
mail_row_at text at = do
  about ← optional_at acct_at text at
  user ← filled_text_at 32 text about.1
  mail ← mail_at text user.1
  Ok (record { about = about.0; user = user.0; mail = mail.0 }, mail.1)

-- The objects of each family have one kind of rows.
abbrev pub row_kind : Family → ℕ
row_kind families.Intra = 1
row_kind families.RecIntra = 2
row_kind families.BankMail = 3
row_kind families.Mail = 3

-- what follows the kind of a row that begins at an offset
unfoldable pub row_of : Family → ℕ → ℕ → List ℕ → ℕ → Result (Row × ℕ) ℕ
row_of families.Intra bound first text at = do
  row ← transfer_at bound first text at
  Ok (transfer_row row.0, row.1)
row_of families.RecIntra bound first text at = do
  row ← model_at bound first text at
  Ok (model_row row.0, row.1)
row_of families.BankMail bound first text at = do
  row ← mail_row_at text at
  Ok (mail_row row.0, row.1)
row_of families.Mail bound first text at = do
  row ← mail_row_at text at
  Ok (mail_row row.0, row.1)

-- A row of an object of a family, whose id, if it has one, is no less than a bound.
unfoldable pub row_at : Family → ℕ → List ℕ → ℕ → Result (Row × ℕ) ℕ
row_at family bound text at = do
  kind ← u8_at text at
  if kind.0 == row_kind family then row_of family bound at text kind.1 else Err at

-- this many rows, in rising id
unfoldable pub rows_from : ℕ → Family → ℕ → List ℕ → ℕ → Result (List Row × ℕ) ℕ
rows_from zero family bound text at = Ok ([], at)
rows_from (suc n) family bound text at = do
  first ← row_at family bound text at
  others ← rows_from n family (bound_after bound (id_of first.0)) text first.1
  Ok (first.0 ∷ others.0, others.1)

unfoldable pub rows_at : Family → List ℕ → ℕ → Result (List Row × ℕ) ℕ
rows_at family text at = do
  count ← u64_at text at
  rows_from count.0 family 0 text count.1

-- ---- stores

-- An object that has a store already is reported at its first byte.
unfoldable pub new_object_at : List Store → List ℕ → ℕ → Result (ObjectName × ℕ) ℕ
new_object_at before text at = do
  object ← object_at false text at
  if has_store object.0 before then Err at else Ok object

-- a store after others
unfoldable pub store_at : List Store → List ℕ → ℕ → Result (Store × ℕ) ℕ
store_at before text at = do
  object ← new_object_at before text at
  token ← id_at text object.1
  lost ← flag_at text token.1
  rows ← rows_at (object_family object.0) text lost.1
  Ok (record { name = object.0; token = token.0; is_lost = lost.0; rows = rows.0 }, rows.1)

-- this many stores after others
unfoldable pub stores_from : ℕ → List Store → List ℕ → ℕ → Result (List Store × ℕ) ℕ
stores_from zero before text at = Ok ([], at)
stores_from (suc n) before text at = do
  first ← store_at before text at
  others ← stores_from n (before ++ first.0 ∷ []) text first.1
  Ok (first.0 ∷ others.0, others.1)

unfoldable pub stores_at : List ℕ → ℕ → Result (List Store × ℕ) ℕ
stores_at text at = do
  count ← u64_at text at
  stores_from count.0 [] text count.1

-- ---- the whole

-- The user of the file that waits for its reply is the client's, and its password is empty.
unfoldable pub outstanding_at : List ℕ → List ℕ → ℕ → Result (Outstanding × ℕ) ℕ
outstanding_at user text at = do
  moment ← moment_at text at
  version ← version_at text moment.1
  older ← file_uid_at text version.1
  newer ← file_uid_at text older.1
  asks ← asks_at text newer.1
  Ok (record { at = moment.0; file = record { version = version.0; older = older.0; newer = newer.0; user = user; pass = []; asks = asks.0 } }, asks.1)

unfoldable pub name_at : List ℕ → ℕ → Result (List ℕ × ℕ) ℕ
name_at text at = do
  name ← filled_text_at 12 text at
  if list_all is_ascii_alphanumeric name.0 then Ok name else Err at

-- the version of the coding
unfoldable pub coding_at : List ℕ → ℕ → Result (ℕ × ℕ) ℕ
coding_at text at = do
  version ← u8_at text at
  if version.0 == 1 then Ok version else Err at

-- what a client knows, at the beginning of a text, and the offset after it
unfoldable pub state_at : List ℕ → ℕ → Result (ClientState × ℕ) ℕ
state_at text at = do
  version ← coding_at text at
  name ← name_at text version.1
  user ← filled_text_at 32 text name.1
  next ← id_at text user.1
  done ← file_uid_at text next.1
  outstanding ← optional_at (outstanding_at user.0) text done.1
  stores ← stores_at text outstanding.1
  Ok (record { name = name.0; user = user.0; next = next.0; done = done.0; outstanding = outstanding.0; stores = stores.0 }, stores.1)

-- A whole text: where all has a form and more bytes come after it, the first of these has none.
unfoldable pub state_read : List ℕ → Result ClientState ℕ
state_read text = do
  state ← state_at text 0
  if state.1 == length text then Ok state.0 else Err state.1
