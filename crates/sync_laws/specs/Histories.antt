-- What holds of every history that a bank comes to, also in the middle of a file.
use Rattle.std.specs.Prelude.{◌≡◌, ℕ, ◌+◌, ◌≤◌, true, false, List, [], ◌∷◌, ◌++◌, length, Some}
use Rattle.ofx_types.specs.declared.number.ObjectId.{ObjectId}
use Rattle.ofx_types.specs.declared.transfer.TransferRow.{TransferRow}
use Rattle.ofx_types.specs.declared.transfer.Change.{Change}
use Rattle.ofx_types.specs.declared.transfer.Change.TheVariants.{NewTransfer, SetTransfer, DropTransfer, NewModel, SetModel, DropModel, NewMail}
use Rattle.ofx_types.specs.declared.transfer.Family.TheVariants as families
use Rattle.ofx_types.specs.declared.recurring.ModelRow.{ModelRow}
use Rattle.bank_model.specs.declared.entry.Entry.{Entry}
use Rattle.bank_model.specs.declared.setup.Setup.{Setup}
use Rattle.bank_model.specs.declared.event.State.{State}
use Rattle.bank_model.specs.Ledger.{row_of}
use Rattle.bank_model.specs.Models.{model_of, is_model_dropped, is_waiting}
use Rattle.bank_model.specs.Judging.{is_cancelled}
use Rattle.bank_model.specs.Deeds.{object_of, model_object_of}
use Rattle.sync_laws.specs.ObjectFamilies.{IsObjectOf, mail_family}

-- A transfer of this id was made and waits, and this is the object of its source's transfers.
pub record Waits (setup : Setup) (before : List Entry) (object : ObjectId) (id : ℕ) : Type 0 where
  pub row : TransferRow
  pub found : row_of id before ≡ Some row
  pub waits : is_waiting row.code ≡ true
  pub here : object ≡ object_of setup row.from

-- A recurring transfer of this id was made and isn't cancelled, and this is the object of its source's recurring transfers.
pub record GoesOn (setup : Setup) (before : List Entry) (object : ObjectId) (id : ℕ) : Type 0 where
  pub row : ModelRow
  pub found : model_of id before ≡ Some row
  pub goes_on : is_model_dropped id before ≡ false
  pub here : object ≡ model_object_of setup row.from

-- What an entry of an object may say after others. What is new has its entry's number as its id, and is in the object of
-- its source, which is an account of the setup. A change and a cancellation are of a transfer that waits, or of a recurring
-- transfer that isn't cancelled, and are in its object. A change keeps its source, and of a transfer also the recurring
-- transfer that made it. No entry gives a transfer a row that is cancelled. Mail may always come; that about an account is
-- in an object of such mail, and any other in one of a user's other mail.
abbrev pub MaySay : Setup → List Entry → ObjectId → Change → Type 0
MaySay setup before object (NewTransfer row) =
    (row.id ≡ length before + 1) × (is_cancelled row.code ≡ false)
    × (object ≡ object_of setup row.from) × IsObjectOf setup families.Intra object.0
MaySay setup before object (SetTransfer row) =
    (old : Waits setup before object row.id)
    × (is_cancelled row.code ≡ false) × (row.model ≡ old.row.model) × (row.from ≡ old.row.from)
MaySay setup before object (DropTransfer id) = Waits setup before object id
MaySay setup before object (NewModel row) =
    (row.id ≡ length before + 1) × (object ≡ model_object_of setup row.from) × IsObjectOf setup families.RecIntra object.0
MaySay setup before object (SetModel row pending) = (old : GoesOn setup before object row.id) × (row.from ≡ old.row.from)
MaySay setup before object (DropModel id pending) = GoesOn setup before object id
MaySay setup before object (NewMail row) = IsObjectOf setup (mail_family row.about) object.0

-- The next entry has the next number.
pub record Follows (setup : Setup) (before : List Entry) (entry : Entry) : Type 0 where
  pub number : entry.number ≡ length before + 1
  pub says : MaySay setup before entry.object entry.change

-- Each of these entries follows those before it.
abbrev pub AllFollow : Setup → List Entry → List Entry → Type 0
AllFollow setup before [] = Unit {0}
AllFollow setup before (entry ∷ more) = Follows setup before entry × AllFollow setup (before ++ entry ∷ []) more

-- The history is in order from its first entry on, and has no more entries than the setup allows.
pub record IsInOrder (setup : Setup) (S : State) : Type 0 where
  pub few : length S.entries ≤ setup.entries
  pub follow : AllFollow setup [] S.entries

-- A later state has the same history, with further entries after it.
abbrev pub IsLater : State → State → Type 0
IsLater S T = (more : List Entry) × (T.entries ≡ S.entries ++ more)
