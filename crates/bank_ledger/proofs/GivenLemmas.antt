-- What a change is that gives a row to a transfer, or to a recurring transfer.
use Rattle.std.proofs.Common.{◌≡◌, ℕ, Bool, true, false, ◌||◌, eqb, List, None, Some, refl, ap}
use Rattle.ofx_types.specs.declared.transfer.TransferRow.{TransferRow}
use Rattle.ofx_types.specs.declared.transfer.Change.{Change}
use Rattle.ofx_types.specs.declared.transfer.Change.TheVariants.{NewTransfer, SetTransfer, DropTransfer, NewModel, SetModel, DropModel, NewMail}
use Rattle.ofx_types.specs.declared.recurring.ModelRow.{ModelRow}
use Rattle.bank_model.specs.declared.entry.Entry.{Entry}
use Rattle.bank_model.specs.Ledger.{row_in, drops}
use Rattle.bank_model.specs.Models.{model_in, drops_model}
use Rattle.bank_transfers.specs.TransfersView.{GivesRow}
use Rattle.bank_recur.specs.ModelsView.{GivesModel, Cancels, LeavesModels}
use Rattle.bank_invariants.proofs.ModelChanges.{IsOfModel}
use Rattle.bank_ledger.specs.Changes.{IsMail}

pub or_assoc : (a b c : Bool) → ((a || b) || c) ≡ (a || (b || c))
or_assoc true b c = refl
or_assoc false b c = refl

pub model_given : (entries : List Entry) (change : Change) (row : ModelRow) → GivesModel entries change row → IsOfModel change
model_given entries (NewTransfer given) row gives = gives
model_given entries (SetTransfer given) row gives = gives
model_given entries (DropTransfer id) row gives = gives
model_given entries (NewModel given) row gives = tt
model_given entries (SetModel given also) row gives = tt
model_given entries (DropModel id also) row gives = absurd gives
model_given entries (NewMail mail) row gives = absurd gives

pub model_dropped : (entries : List Entry) (change : Change) (id : ℕ) → Cancels entries change id → IsOfModel change
model_dropped entries (NewTransfer given) id drops = drops
model_dropped entries (SetTransfer given) id drops = drops
model_dropped entries (DropTransfer gone) id drops = drops
model_dropped entries (NewModel given) id drops = absurd drops
model_dropped entries (SetModel given also) id drops = absurd drops
model_dropped entries (DropModel gone also) id drops = tt
model_dropped entries (NewMail mail) id drops = absurd drops

-- it gives no transfer a row
pub no_row : (change : Change) → IsOfModel change → row_in change ≡ None
no_row (NewTransfer row) of = absurd of
no_row (SetTransfer row) of = absurd of
no_row (DropTransfer id) of = absurd of
no_row (NewModel row) of = refl
no_row (SetModel row also) of = refl
no_row (DropModel id also) of = refl
no_row (NewMail mail) of = refl

pub model_is : (entries : List Entry) (change : Change) (row : ModelRow) → GivesModel entries change row → model_in change ≡ Some row
model_is entries (NewTransfer given) row gives = absurd gives
model_is entries (SetTransfer given) row gives = absurd gives
model_is entries (DropTransfer id) row gives = absurd gives
model_is entries (NewModel given) row gives = ap (λ (r : ModelRow). Some r) gives.0
model_is entries (SetModel given also) row gives = ap (λ (r : ModelRow). Some r) gives.0
model_is entries (DropModel id also) row gives = absurd gives
model_is entries (NewMail mail) row gives = absurd gives

pub no_model : (entries : List Entry) (change : Change) (row : TransferRow) → GivesRow entries change row → model_in change ≡ None
no_model entries (NewTransfer given) row gives = refl
no_model entries (SetTransfer given) row gives = refl
no_model entries (DropTransfer id) row gives = refl
no_model entries (NewModel given) row gives = absurd gives
no_model entries (SetModel given also) row gives = absurd gives
no_model entries (DropModel id also) row gives = absurd gives
no_model entries (NewMail mail) row gives = absurd gives

pub no_model_dropped : (entries : List Entry) (change : Change) (id : ℕ) → Cancels entries change id → model_in change ≡ None
no_model_dropped entries (NewTransfer given) id drops = absurd drops
no_model_dropped entries (SetTransfer given) id drops = absurd drops
no_model_dropped entries (DropTransfer gone) id drops = absurd drops
no_model_dropped entries (NewModel given) id drops = absurd drops
no_model_dropped entries (SetModel given also) id drops = absurd drops
no_model_dropped entries (DropModel gone also) id drops = refl
no_model_dropped entries (NewMail mail) id drops = absurd drops

pub no_drop : (id : ℕ) (entries : List Entry) (change : Change) (row : TransferRow) → GivesRow entries change row → drops_model id change ≡ false
no_drop id entries (NewTransfer given) row gives = refl
no_drop id entries (SetTransfer given) row gives = refl
no_drop id entries (DropTransfer gone) row gives = refl
no_drop id entries (NewModel given) row gives = absurd gives
no_drop id entries (SetModel given also) row gives = absurd gives
no_drop id entries (DropModel gone also) row gives = absurd gives
no_drop id entries (NewMail mail) row gives = absurd gives

pub given_drop : (id : ℕ) (entries : List Entry) (change : Change) (row : ModelRow) → GivesModel entries change row → drops_model id change ≡ false
given_drop id entries (NewTransfer given) row gives = refl
given_drop id entries (SetTransfer given) row gives = refl
given_drop id entries (DropTransfer gone) row gives = refl
given_drop id entries (NewModel given) row gives = refl
given_drop id entries (SetModel given also) row gives = refl
given_drop id entries (DropModel gone also) row gives = absurd gives
given_drop id entries (NewMail mail) row gives = absurd gives

pub dropped_as : (id : ℕ) (entries : List Entry) (change : Change) (gone : ℕ) → Cancels entries change gone → drops_model id change ≡ eqb gone id
dropped_as id entries (NewTransfer given) gone drops = absurd drops
dropped_as id entries (SetTransfer given) gone drops = absurd drops
dropped_as id entries (DropTransfer dropped) gone drops = absurd drops
dropped_as id entries (NewModel given) gone drops = absurd drops
dropped_as id entries (SetModel given also) gone drops = absurd drops
dropped_as id entries (DropModel dropped also) gone drops = ap (λ (n : ℕ). eqb n id) drops.0
dropped_as id entries (NewMail mail) gone drops = absurd drops

-- it cancels no transfer
pub no_transfer_drop : (change : Change) (id : ℕ) → IsOfModel change → drops id change ≡ false
no_transfer_drop (NewTransfer row) id of = absurd of
no_transfer_drop (SetTransfer row) id of = absurd of
no_transfer_drop (DropTransfer gone) id of = absurd of
no_transfer_drop (NewModel row) id of = refl
no_transfer_drop (SetModel row also) id of = refl
no_transfer_drop (DropModel gone also) id of = refl
no_transfer_drop (NewMail mail) id of = refl

-- ---- a mail

pub mail_apart : (change : Change) → IsMail change → IsOfModel change
mail_apart (NewTransfer row) is = is
mail_apart (SetTransfer row) is = is
mail_apart (DropTransfer gone) is = is
mail_apart (NewModel row) is = absurd is
mail_apart (SetModel row also) is = absurd is
mail_apart (DropModel gone also) is = absurd is
mail_apart (NewMail row) is = tt

pub mail_leaves : (entries : List Entry) (change : Change) → IsMail change → LeavesModels entries change
mail_leaves entries (NewTransfer row) is = absurd is
mail_leaves entries (SetTransfer row) is = absurd is
mail_leaves entries (DropTransfer gone) is = absurd is
mail_leaves entries (NewModel row) is = is
mail_leaves entries (SetModel row also) is = is
mail_leaves entries (DropModel gone also) is = is
mail_leaves entries (NewMail row) is = tt

pub mail_no_model : (change : Change) → IsMail change → model_in change ≡ None
mail_no_model (NewTransfer row) is = refl
mail_no_model (SetTransfer row) is = refl
mail_no_model (DropTransfer gone) is = refl
mail_no_model (NewModel row) is = absurd is
mail_no_model (SetModel row also) is = absurd is
mail_no_model (DropModel gone also) is = refl
mail_no_model (NewMail row) is = refl

pub mail_no_drop : (id : ℕ) (change : Change) → IsMail change → drops_model id change ≡ false
mail_no_drop id (NewTransfer row) is = refl
mail_no_drop id (SetTransfer row) is = refl
mail_no_drop id (DropTransfer gone) is = refl
mail_no_drop id (NewModel row) is = refl
mail_no_drop id (SetModel row also) is = refl
mail_no_drop id (DropModel gone also) is = absurd is
mail_no_drop id (NewMail row) is = refl
