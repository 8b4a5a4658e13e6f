-- One entry written down in a ledger: what its transfers and its recurring transfers stand for.
use Rattle.std.proofs.Common.{◌≡◌, ℕ, ◌<◌, ◌≤◌, true, List, [], ◌∷◌, ◌++◌, ap, ◌∙◌, arith}
use Rattle.std.specs.Prelude.{is_some}
use Rattle.ofx_types.specs.declared.recurring.ModelRow.{ModelRow}
use Rattle.ofx_types.specs.declared.transfer.Change.{Change}
use Rattle.ofx_types.specs.declared.transfer.Change.TheVariants.{NewTransfer, SetTransfer, DropTransfer, NewModel, SetModel, DropModel, NewMail}
use Rattle.bank_model.specs.declared.entry.Entry.{Entry}
use Rattle.bank_model.specs.Models.{model_of, next_occurrence}
use Rattle.bank_transfers.specs.TransfersView.{TransfersView, Represents}
use Rattle.bank_transfers.proofs.RepresentsLemmas.{holds_still}
use Rattle.bank_recur.specs.ModelsView as recurring
use Rattle.bank_recur.specs.ModelsView.{ModelsView, GivesModel, Cancels, IsMadeBy, row_found, occurrence_found}
use Rattle.bank_invariants.proofs.ModelChanges.{IsOfModel}
use Rattle.bank_ledger.proofs.GivenLemmas.{model_given, model_dropped, no_row, no_transfer_drop, mail_apart}
use Rattle.bank_ledger.specs.Changes.{IsMail}

-- an entry of a recurring transfer leaves what transfers stand for
still_of : (transfers : TransfersView) (entries : List Entry) (entry : Entry) → Represents transfers entries → IsOfModel entry.change → Represents transfers (entries ++ entry ∷ [])
still_of transfers entries entry holds of = holds_still transfers entries entry holds (no_row entry.change of) (λ id. no_transfer_drop entry.change id of)

pub still_given : (transfers : TransfersView) (entries : List Entry) (entry : Entry) (row : ModelRow) → Represents transfers entries → GivesModel entries entry.change row → Represents transfers (entries ++ entry ∷ [])
still_given transfers entries entry row holds gives = still_of transfers entries entry holds (model_given entries entry.change row gives)

pub still_dropped : (transfers : TransfersView) (entries : List Entry) (entry : Entry) (id : ℕ) → Represents transfers entries → Cancels entries entry.change id → Represents transfers (entries ++ entry ∷ [])
still_dropped transfers entries entry id holds drops = still_of transfers entries entry holds (model_dropped entries entry.change id drops)

pub still_mail : (transfers : TransfersView) (entries : List Entry) (entry : Entry) → Represents transfers entries → IsMail entry.change → Represents transfers (entries ++ entry ∷ [])
still_mail transfers entries entry holds is = still_of transfers entries entry holds (mail_apart entry.change is)

made_model : (entries : List Entry) (change : Change) (id : ℕ) → IsMadeBy entries change id → is_some (model_of id entries) ≡ true
made_model entries (NewTransfer row) id made = made.1
made_model entries (SetTransfer row) id made = absurd made
made_model entries (DropTransfer gone) id made = absurd made
made_model entries (NewModel row) id made = absurd made
made_model entries (SetModel row also) id made = absurd made
made_model entries (DropModel gone also) id made = absurd made
made_model entries (NewMail mail) id made = absurd made

-- the recurring transfer that made a transfer is there
pub made_there : (models : ModelsView) (entries : List Entry) (change : Change) (id : ℕ) → recurring.Represents models entries → IsMadeBy entries change id → is_some (row_found id models.series) ≡ true
made_there models entries change id holds made = ap is_some (holds.rows id) ∙ made_model entries change id made

-- and its place has room for one more
pub made_below : (models : ModelsView) (entries : List Entry) (change : Change) (id : ℕ) → recurring.Represents models entries → IsMadeBy entries change id → next_occurrence id entries ≤ 2958463 → occurrence_found id models.series < 4294967295
made_below models entries change id holds made most =
    let is : occurrence_found id models.series ≡ next_occurrence id entries = holds.occurrences id (made_there models entries change id holds made) in
    omega arith
