-- What changes of recurring transfers, and mails, do to the rows of transfers: nothing.
use Rattle.std.proofs.Common.{◌≡◌, ℕ, Bool, Option, refl}
use Rattle.ofx_types.specs.declared.transfer.TransferRow.{TransferRow}
use Rattle.ofx_types.specs.declared.transfer.Change.{Change}
use Rattle.ofx_types.specs.declared.transfer.Change.TheVariants.{NewTransfer, SetTransfer, DropTransfer, NewModel, SetModel, DropModel, NewMail}
use Rattle.bank_transfers.specs.Growth.{row_after}

-- a change of a recurring transfer, or a mail
abbrev pub IsOfModel : Change → Type 0
IsOfModel (NewTransfer row) = ⊥
IsOfModel (SetTransfer row) = ⊥
IsOfModel (DropTransfer id) = ⊥
IsOfModel (NewModel row) = Unit {0}
IsOfModel (SetModel row also) = Unit {0}
IsOfModel (DropModel id also) = Unit {0}
IsOfModel (NewMail mail) = Unit {0}

-- such an entry leaves the rows of transfers
pub model_change_rows : (id : ℕ) (dropped : Bool) (before : Option TransferRow) (change : Change) → IsOfModel change → row_after id dropped before change ≡ before
model_change_rows id dropped before (NewTransfer row) is = absurd is
model_change_rows id dropped before (SetTransfer row) is = absurd is
model_change_rows id dropped before (DropTransfer gone) is = absurd is
model_change_rows id dropped before (NewModel row) is = refl
model_change_rows id dropped before (SetModel row also) is = refl
model_change_rows id dropped before (DropModel gone also) is = refl
model_change_rows id dropped before (NewMail mail) is = refl
