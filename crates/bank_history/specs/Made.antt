-- What an object's history made, and how it is held.
use Rattle.std.specs.Prelude.{List, [], ◌∷◌}
use Rattle.std.specs.List.{flat_map}
use Rattle.ofx_types.specs.declared.number.ObjectId.{ObjectId}
use Rattle.ofx_types.specs.declared.mail.MailRow.{MailRow}
use Rattle.ofx_types.specs.declared.transfer.Change.{Change}
use Rattle.ofx_types.specs.declared.transfer.Change.TheVariants.{NewTransfer, SetTransfer, DropTransfer, NewModel, SetModel, DropModel, NewMail}
use Rattle.bank_model.specs.declared.entry.Entry.{Entry}
use Rattle.bank_model.specs.Ledger.{row_of}
use Rattle.bank_model.specs.Models.{model_of, is_model_dropped}
use Rattle.bank_model.specs.Objects.{history_of}
use Rattle.bank_model.specs.Sync.{current_transfer, current_model}
use Rattle.bank_history.specs.declared.made.Made.{Made}
use Rattle.bank_history.specs.declared.made.Made.TheVariants.{Transfer, Model, Mail}
use Rattle.bank_history.specs.declared.origins.Origin.{Origin}
use Rattle.bank_history.specs.declared.origins.Origin.TheVariants as origins

-- What a change makes: a new transfer or recurring transfer, by its id, or a mail.
abbrev pub made_in : Change → List Made
made_in (NewTransfer row) = Transfer row.id ∷ []
made_in (SetTransfer row) = []
made_in (DropTransfer id) = []
made_in (NewModel row) = Model row.id ∷ []
made_in (SetModel row pending) = []
made_in (DropModel id pending) = []
made_in (NewMail row) = Mail row ∷ []

-- what an object's history made, in the order in which it was made
abbrev pub made_of : ObjectId → List Entry → List Made
made_of object entries = flat_map (λ (entry : Entry). made_in entry.change) (history_of object entries)

-- What is left of it now: the row of a transfer or of a recurring transfer, where there is one that isn't cancelled, or the mail.
abbrev pub current_of : List Entry → Made → List Change
current_of entries (Transfer id) = current_transfer (row_of id entries)
current_of entries (Model id) = current_model (is_model_dropped id entries) (model_of id entries)
current_of entries (Mail row) = NewMail row ∷ []

-- ---- how it is held: the mails by themselves

-- the origin of what a change makes
abbrev pub origin_in : Change → List Origin
origin_in (NewTransfer row) = origins.Transfer row.id ∷ []
origin_in (SetTransfer row) = []
origin_in (DropTransfer id) = []
origin_in (NewModel row) = origins.Model row.id ∷ []
origin_in (SetModel row pending) = []
origin_in (DropModel id pending) = []
origin_in (NewMail row) = origins.Mail ∷ []

-- With each origin of a mail comes the next one of the mails.
abbrev pub made_from : List Origin → List MailRow → List Made
made_from [] mails = []
made_from (origins.Transfer id ∷ more) mails = Transfer id ∷ made_from more mails
made_from (origins.Model id ∷ more) mails = Model id ∷ made_from more mails
made_from (origins.Mail ∷ more) [] = made_from more []
made_from (origins.Mail ∷ more) (mail ∷ mails) = Mail mail ∷ made_from more mails
