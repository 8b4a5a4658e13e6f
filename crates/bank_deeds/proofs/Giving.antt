-- What the entries that deeds and due work add give to the rows.
use Rattle.std.proofs.Common.{◌≡◌, ℕ, ◌⊎◌, inl, inr, Bool, true, false, length, Some, ap, ◌∙◌, subst}
use Rattle.std.specs.Prelude.{is_some}
use Rattle.std.specs.Option.{option_map}
use Rattle.ofx_types.specs.Printable.{IsPrintableRow}
use Rattle.ofx_types.specs.declared.transfer.TransferRow.{TransferRow}
use Rattle.ofx_types.specs.declared.transfer.XferCode.TheVariants.{Cancelled}
use Rattle.ofx_types.specs.declared.transfer.Change.TheVariants.{NewTransfer, SetTransfer, DropTransfer, NewModel, SetModel, DropModel}
use Rattle.ofx_types.specs.declared.recurring.ModelRow.{ModelRow}
use Rattle.bank_model.specs.declared.setup.Setup.{Setup}
use Rattle.bank_model.specs.declared.event.State.{State}
use Rattle.bank_model.specs.Ledger.{with_code, row_of}
use Rattle.bank_model.specs.Models.{model_of}
use Rattle.bank_invariants.specs.SoundStates.{IsSoundState, IsNextOf, IsLawful}
use Rattle.bank_invariants.proofs.RowLemmas.{model_of-0}
use Rattle.bank_invariants.proofs.GivingLemmas.{new_given, set_given, asked_leaves, made_given, made_below, new_model_given, set_model_given, model_cancelled}
use Rattle.bank_ledger.specs.declared.row_change.RowChange.TheVariants.{Row, Made, Model, NoModel}
use Rattle.bank_ledger.specs.Changes.{GivesRows}

-- a transfer that a user asked for
pub new_gives : (setup : Setup) (S : State) (reported row : TransferRow) → IsSoundState setup S → IsLawful S.entries (NewTransfer reported) → IsPrintableRow reported → reported ≡ row → reported.model ≡ 0 → GivesRows S.entries (NewTransfer reported) (Row row)
new_gives setup S reported row sound lawful printable same none =
    subst (λ (r : TransferRow). GivesRows S.entries (NewTransfer reported) (Row r)) same (new_given setup S reported sound lawful printable, asked_leaves setup S reported sound none)

-- a transfer that a recurring one made is its next
next_of : (setup : Setup) (S : State) (row : TransferRow) → IsSoundState setup S → (row.model ≡ 0) ⊎ IsNextOf S.entries row → is_some (model_of row.model S.entries) ≡ true → IsNextOf S.entries row
next_of setup S row sound (inl none) there =
    absurd (let gone : is_some (model_of row.model S.entries) ≡ false = ap is_some (ap (λ (n : ℕ). model_of n S.entries) none ∙ model_of-0 (length S.entries) S.entries sound.made) in cc)
next_of setup S row sound (inr next) there = next

-- the next transfer of a recurring one
pub made_gives : (setup : Setup) (S : State) (reported row : TransferRow) → IsSoundState setup S → IsLawful S.entries (NewTransfer reported) → IsPrintableRow reported → reported ≡ row → is_some (model_of reported.model S.entries) ≡ true → GivesRows S.entries (NewTransfer reported) (Made row)
made_gives setup S reported row sound lawful printable same there =
    let next = next_of setup S reported sound lawful.1 there in
    subst (λ (r : TransferRow). GivesRows S.entries (NewTransfer reported) (Made r)) same (new_given setup S reported sound lawful printable, made_given S reported next, made_below setup S reported sound next)

-- a transfer that is changed, posted or closed
pub set_gives : (setup : Setup) (S : State) (reported row : TransferRow) → IsLawful S.entries (SetTransfer reported) → IsPrintableRow reported → reported ≡ row → GivesRows S.entries (SetTransfer reported) (Row row)
set_gives setup S reported row lawful printable same =
    subst (λ (r : TransferRow). GivesRows S.entries (SetTransfer reported) (Row r)) same (set_given setup S reported lawful printable, tt)

-- a transfer that is cancelled
pub drop_gives : (S : State) (id : ℕ) (row : TransferRow) → option_map (with_code Cancelled) (row_of id S.entries) ≡ Some row → GivesRows S.entries (DropTransfer id) (Row row)
drop_gives S id row is = (is, tt)

-- recurring transfers
pub new_model_gives : (setup : Setup) (S : State) (reported row : ModelRow) → IsSoundState setup S → IsLawful S.entries (NewModel reported) → reported ≡ row → GivesRows S.entries (NewModel reported) (Model row)
new_model_gives setup S reported row sound lawful same =
    subst (λ (r : ModelRow). GivesRows S.entries (NewModel reported) (Model r)) same (new_model_given setup S reported sound lawful)

pub set_model_gives : (S : State) (reported row : ModelRow) (also : Bool) → IsLawful S.entries (SetModel reported also) → reported ≡ row → GivesRows S.entries (SetModel reported also) (Model row)
set_model_gives S reported row also lawful same =
    subst (λ (r : ModelRow). GivesRows S.entries (SetModel reported also) (Model r)) same (set_model_given S reported also lawful)

pub drop_model_gives : (S : State) (id : ℕ) (also : Bool) → IsLawful S.entries (DropModel id also) → GivesRows S.entries (DropModel id also) (NoModel id)
drop_model_gives S id also lawful = model_cancelled S id also lawful
