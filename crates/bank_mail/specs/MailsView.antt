-- What contracts see of the mails of a bank, and the list of entries that they stand for.
use Rattle.std.specs.Prelude.{◌≡◌, ℕ, Bool, ◌==◌, List, [], ◌∷◌, Option, None, Some}
use Rattle.std.specs.List.{find, flat_map}
use Rattle.ofx_types.specs.declared.number.ObjectId.{ObjectId}
use Rattle.ofx_types.specs.declared.mail.MailRow.{MailRow}
use Rattle.ofx_types.specs.declared.transfer.Change.{Change}
use Rattle.ofx_types.specs.declared.transfer.Change.TheVariants.{NewTransfer, SetTransfer, DropTransfer, NewModel, SetModel, DropModel, NewMail}
use Rattle.bank_model.specs.declared.entry.Entry.{Entry}
use Rattle.bank_model.specs.Objects.{history_of}

-- The mails of an object in order, and for how many more of them there is room.
pub record ObjectMails : Type 0 where
  pub object : ObjectId
  pub rows : List MailRow
  pub room : ℕ

abbrev pub is_of : ObjectId → ObjectMails → Bool
is_of object one = one.object.0 == object.0

abbrev pub mails_found : ObjectId → List ObjectMails → Option ObjectMails
mails_found object mails = find (is_of object) mails

-- An object that has no mail has no room either.
abbrev pub rows_in : Option ObjectMails → List MailRow
rows_in None = []
rows_in (Some one) = one.rows

abbrev pub room_in : Option ObjectMails → ℕ
room_in None = 0
room_in (Some one) = one.room

abbrev pub rows_found : ObjectId → List ObjectMails → List MailRow
rows_found object mails = rows_in (mails_found object mails)

abbrev pub room_found : ObjectId → List ObjectMails → ℕ
room_found object mails = room_in (mails_found object mails)

-- ---- the mails that entries brought

abbrev pub mail_in : Change → List MailRow
mail_in (NewTransfer row) = []
mail_in (SetTransfer row) = []
mail_in (DropTransfer id) = []
mail_in (NewModel row) = []
mail_in (SetModel row pending) = []
mail_in (DropModel id pending) = []
mail_in (NewMail row) = row ∷ []

-- the mails of an object, in the order in which they came
unfoldable pub mails_of : ObjectId → List Entry → List MailRow
mails_of object entries = flat_map (λ (entry : Entry). mail_in entry.change) (history_of object entries)

-- The mails stand for a list of entries: each object has the mails that the entries brought it.
abbrev pub Represents : List ObjectMails → List Entry → Type 0
Represents mails entries = (object : ObjectId) → rows_found object mails ≡ mails_of object entries
