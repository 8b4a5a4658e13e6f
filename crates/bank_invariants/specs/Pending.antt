-- The transfers that wait and go along with a deed on their recurring transfer.
use Rattle.std.specs.Prelude.{◌≡◌, ℕ, Bool, true, false, ◌==◌, ◌&&◌, if◌then◌else◌, List, [], ◌∷◌, map, Option, None, Some, is_some, option_to_list}
use Rattle.std.specs.List.{AllByRecursion, IsDistinct, flat_map}
use Rattle.ofx_types.specs.declared.transfer.TransferRow.{TransferRow}
use Rattle.ofx_types.specs.declared.transfer.Deed.{Deed}
use Rattle.ofx_types.specs.declared.transfer.Deed.TheVariants.{Transfer, ModifyTransfer, CancelTransfer, Model, ModifyModel, CancelModel, BankMail, Mail}
use Rattle.bank_model.specs.declared.event.State.{State}
use Rattle.ofx_types.specs.declared.transfer.Change.{Change}
use Rattle.ofx_types.specs.declared.transfer.Change.TheVariants.{NewTransfer, SetTransfer, DropTransfer, NewModel, SetModel, DropModel, NewMail}
use Rattle.bank_model.specs.declared.entry.Entry.{Entry}
use Rattle.bank_model.specs.declared.setup.Setup.{Setup}
use Rattle.ofx_types.specs.AccountForm.{same_account}
use Rattle.ofx_types.specs.declared.transfer.XferInfo.{XferInfo}
use Rattle.bank_model.specs.SetupLookups.{account_of}
use Rattle.bank_model.specs.Judging.{is_positive}
use Rattle.bank_model.specs.Ledger.{row_of}
use Rattle.bank_model.specs.Models.{model_of, is_waiting, waiting_of}
use Rattle.bank_model.specs.Deeds.{changed_model, model_entries_on}
use Rattle.bank_transfers.specs.TransfersView.{waits}

abbrev pub waiting_if : Bool → ℕ → State → List TransferRow
waiting_if also id S = if also then waiting_of id S.entries else []

-- those that a deed changes or cancels too
abbrev pub pending_of : State → Deed → List TransferRow
pending_of S (Transfer info) = []
pending_of S (ModifyTransfer id info) = []
pending_of S (CancelTransfer id) = []
pending_of S (Model recur info) = []
pending_of S (ModifyModel id recur info also) = waiting_if also id S
pending_of S (CancelModel id also) = waiting_if also id S
pending_of S (BankMail account mail) = []
pending_of S (Mail mail) = []

abbrev pub ids_of : List TransferRow → List ℕ
ids_of rows = map (λ (row : TransferRow). row.id) rows

-- The entries of a deed on a recurring transfer itself, without those of the transfers that go along.
abbrev pub own_entries : Setup → State → List ℕ → Deed → List Entry
own_entries setup S trnuid (Transfer info) = []
own_entries setup S trnuid (ModifyTransfer id info) = []
own_entries setup S trnuid (CancelTransfer id) = []
own_entries setup S trnuid (Model recur info) = []
own_entries setup S trnuid (ModifyModel id recur info also) =
    model_entries_on setup S trnuid (model_of id S.entries) (λ row. SetModel (changed_model S.day recur info row) also) []
own_entries setup S trnuid (CancelModel id also) =
    model_entries_on setup S trnuid (model_of id S.entries) (λ row. DropModel id also) []
own_entries setup S trnuid (BankMail account mail) = []
own_entries setup S trnuid (Mail mail) = []

-- ---- the rows of some transfers by their ids

abbrev pub rows_at : List Entry → List ℕ → List TransferRow
rows_at entries ids = flat_map (λ (id : ℕ). option_to_list (row_of id entries)) ids

-- Each of them waits, and none occurs twice.
pub record AreWaiting (entries : List Entry) (ids : List ℕ) : Type 0 where
  pub wait : AllByRecursion (λ (id : ℕ). waits (row_of id entries) ≡ true) ids
  pub once : IsDistinct (λ (a b : ℕ). a == b) ids

-- A transfer waits, and a recurring transfer made it.
abbrev pub waits_for : ℕ → Option TransferRow → Bool
waits_for model None = false
waits_for model (Some row) = is_waiting row.code && (row.model == model)

-- the transfers that some entries made
abbrev pub id_new : Change → List ℕ
id_new (NewTransfer row) = row.id ∷ []
id_new (SetTransfer row) = []
id_new (DropTransfer id) = []
id_new (NewModel row) = []
id_new (SetModel row also) = []
id_new (DropModel id also) = []
id_new (NewMail mail) = []

abbrev pub ids_new : List Entry → List ℕ
ids_new entries = flat_map (λ (entry : Entry). id_new entry.change) entries

-- The new destination isn't the transfer's source.
abbrev pub SuitsRow : XferInfo → Option TransferRow → Type 0
SuitsRow info None = Unit {0}
SuitsRow info (Some row) = same_account info.to row.from ≡ false

-- New terms suit transfers that wait: the destination is an account of the bank and not the source, and the amount is
-- positive.
pub record AreTerms (setup : Setup) (entries : List Entry) (ids : List ℕ) (info : XferInfo) : Type 0 where
  pub to : is_some (account_of setup info.to) ≡ true
  pub positive : is_positive info ≡ true
  pub apart : AllByRecursion (λ (id : ℕ). SuitsRow info (row_of id entries)) ids
