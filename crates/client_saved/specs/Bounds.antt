-- What a client may know: the bounds of its values, and the order of its stores and their rows.
use Rattle.std.specs.Prelude.{◌≡◌, ℕ, ◌≤◌, unsigned_abs, Bool, true, false, List, []}
use Rattle.std.specs.Option.{IfSome}
use Rattle.std.specs.List.{AllByRecursion, IsDistinct, list_all, list_any}
use Rattle.std.specs.Char.{is_ascii_alphanumeric}
use Rattle.ofx_types.specs.Calendar.{IsMoment, IsDay}
use Rattle.ofx_types.specs.TextRules.{IsFileUid}
use Rattle.ofx_types.specs.AccountForm.{same_account}
use Rattle.ofx_types.specs.declared.transfer.TransferRow.{TransferRow}
use Rattle.ofx_types.specs.declared.recurring.ModelRow.{ModelRow}
use Rattle.ofx_types.specs.declared.mail.MailRow.{MailRow}
use Rattle.ofx_types.specs.declared.sync.ObjectName.{ObjectName}
use Rattle.ofx_types.specs.declared.sync.ObjectName.TheVariants as objects
use Rattle.bank_model.specs.Sound.{IsTextWithin, IsSoundAccount, IsSoundRecur, IsSoundMail, IsSoundObject, IsId, IsSound}
use Rattle.bank_model.specs.Stores.{Row, transfer_row, model_row, mail_row, Store}
use Rattle.client_store.specs.RowForm.{IsInOrder}
use Rattle.client_saved.specs.declared.state.Outstanding.{Outstanding}
use Rattle.client_saved.specs.declared.state.ClientState.{ClientState}

-- A client's name has 1 to 12 letters and digits of ASCII.
abbrev pub IsName : List ℕ → Type 0
IsName name = IsTextWithin 12 name × (list_all is_ascii_alphanumeric name ≡ true)

-- ---- rows

-- An amount is at most 99,999,999,999.99 either way, and days and moments lie in the years 1900 to 9999.
pub record IsSoundTransfer (row : TransferRow) : Type 0 where
  pub id : IsId row.id
  pub model : IsId row.model
  pub from : IsSoundAccount row.from
  pub to : IsSoundAccount row.to
  pub amount : unsigned_abs row.amount.0 ≤ 9999999999999
  pub due : IsDay row.due.0
  pub stamp : IsMoment row.stamp.0

pub record IsSoundModel (row : ModelRow) : Type 0 where
  pub id : IsId row.id
  pub recur : IsSoundRecur row.recur
  pub from : IsSoundAccount row.from
  pub to : IsSoundAccount row.to
  pub amount : unsigned_abs row.amount.0 ≤ 9999999999999
  pub first : IsDay row.first.0

pub record IsSoundMailRow (row : MailRow) : Type 0 where
  pub about : IfSome row.about IsSoundAccount
  pub user : IsTextWithin 32 row.user
  pub mail : IsSoundMail row.mail

abbrev pub IsSoundRow : Row → Type 0
IsSoundRow (transfer_row row) = IsSoundTransfer row
IsSoundRow (model_row row) = IsSoundModel row
IsSoundRow (mail_row row) = IsSoundMailRow row

-- ---- stores

-- The rows are of the object's family, in rising id. How many there are is not bounded.
pub record IsSoundStore (store : Store) : Type 0 where
  pub object : IsSoundObject store.name
  pub token : IsId store.token
  pub rows : AllByRecursion IsSoundRow store.rows
  pub in_order : IsInOrder store

-- whether two names are one object's
abbrev pub same_object : ObjectName → ObjectName → Bool
same_object (objects.Intra a) (objects.Intra b) = same_account a b
same_object (objects.RecIntra a) (objects.RecIntra b) = same_account a b
same_object (objects.BankMail a) (objects.BankMail b) = same_account a b
same_object objects.Mail objects.Mail = true
same_object a b = false

abbrev pub same_store : Store → Store → Bool
same_store a b = same_object a.name b.name

-- whether one of the stores is the object's
abbrev pub has_store : ObjectName → List Store → Bool
has_store object stores = list_any (λ (store : Store). same_object store.name object) stores

-- No object has two stores.
abbrev pub AreDistinct : List Store → Type 0
AreDistinct stores = IsDistinct same_store stores

-- ---- the whole

-- The file that waits for its reply is sound, its user is the client's, and its password is empty: the password is no part
-- of what a client knows.
pub record IsSoundOutstanding (owner : List ℕ) (outstanding : Outstanding) : Type 0 where
  pub moment : IsMoment outstanding.at.0
  pub file : IsSound outstanding.file
  pub user : outstanding.file.user ≡ owner
  pub pass : outstanding.file.pass ≡ []

pub record IsSoundState (state : ClientState) : Type 0 where
  pub name : IsName state.name
  pub user : IsTextWithin 32 state.user
  pub next : IsId state.next
  pub done : IfSome state.done IsFileUid
  pub outstanding : IfSome state.outstanding (IsSoundOutstanding state.user)
  pub stores : AllByRecursion IsSoundStore state.stores
  pub distinct : AreDistinct state.stores
