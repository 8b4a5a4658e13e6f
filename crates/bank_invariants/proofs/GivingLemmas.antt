-- What an entry that may come next gives to transfers and to recurring transfers, after the entries of a sound state.
use Rattle.std.proofs.Common.{◌≡◌, ◌≢◌, ℕ, ◌+◌, ◌<◌, ◌≤◌, Bool, true, false, List, [], ◌∷◌, length, Option, None, Some, refl, ap, ◌∙◌, arith}
use Rattle.std.specs.Prelude.{is_some}
use Rattle.std.specs.List.{AllByRecursion}
use Rattle.ofx_types.specs.Printable.{IsPrintableRow}
use Rattle.ofx_types.specs.declared.number.Day.{Day}
use Rattle.ofx_types.specs.declared.transfer.TransferRow.{TransferRow}
use Rattle.ofx_types.specs.declared.transfer.XferCode.{XferCode}
use Rattle.ofx_types.specs.declared.transfer.XferCode.TheVariants.{Waiting, Posted, NoFunds, Cancelled}
use Rattle.ofx_types.specs.declared.transfer.Change.{Change}
use Rattle.ofx_types.specs.declared.transfer.Change.TheVariants.{NewTransfer, SetTransfer, DropTransfer, NewModel, SetModel, DropModel, NewMail}
use Rattle.ofx_types.specs.declared.recurring.ModelRow.{ModelRow}
use Rattle.bank_model.specs.declared.entry.Entry.{Entry}
use Rattle.bank_model.specs.declared.setup.Setup.{Setup}
use Rattle.bank_model.specs.declared.event.State.{State}
use Rattle.bank_model.specs.Ledger.{is_dropped, row_of}
use Rattle.bank_model.specs.Models.{model_of, next_occurrence}
use Rattle.bank_model.specs.Judging.{is_cancelled}
use Rattle.bank_model.specs.Due.{occurrence_date}
use Rattle.bank_transfers.specs.TransfersView.{IsMadeBelow, GivesRow, waits}
use Rattle.bank_recur.specs.ModelsView.{GivesModel, Cancels, IsMadeBy, LeavesModels}
use Rattle.bank_invariants.specs.SoundStates.{IsSoundState, IsOfMade, IsNumbered, IsOfWaiting, IsNextOf, IsLawful}
use Rattle.bank_invariants.proofs.Verdicts.{open_waits}
use Rattle.bank_invariants.proofs.RowLemmas.{is_dropped-new, row_of-new, model_of-new, model_of-0, is_dropped-open}
use Rattle.bank_invariants.proofs.SoundFound.{models_sound}
use Rattle.bank_invariants.proofs.SoundStateLemmas.{occurrence_most}

-- ---- transfers

pub uncancelled : (code : XferCode) → code ≢ Cancelled → is_cancelled code ≡ false
uncancelled Waiting other = refl
uncancelled Posted other = refl
uncancelled NoFunds other = refl
uncancelled Cancelled other = absurd (other refl)

-- a transfer that an entry made has an id up to the number of entries
id_below : (count id : ℕ) (change : Change) → count < id → IsOfMade count change → IsMadeBelow id change
id_below count id (NewTransfer row) less made = omega (arith, less, made.1)
id_below count id (SetTransfer row) less made = tt
id_below count id (DropTransfer gone) less made = tt
id_below count id (NewModel row) less made = tt
id_below count id (SetModel row also) less made = tt
id_below count id (DropModel gone also) less made = tt
id_below count id (NewMail mail) less made = tt

ids_below : (count id : ℕ) (entries : List Entry) → count < id → AllByRecursion (IsNumbered count) entries → AllByRecursion (λ (entry : Entry). IsMadeBelow id entry.change) entries
ids_below count id [] less made = tt
ids_below count id (entry ∷ entries) less made = (id_below count id entry.change less made.0, ids_below count id entries less made.1)

pub new_given : (setup : Setup) (S : State) (row : TransferRow) → IsSoundState setup S → IsLawful S.entries (NewTransfer row) → IsPrintableRow row → GivesRow S.entries (NewTransfer row) row
new_given setup S row sound lawful reported =
    let id : row.id ≡ length S.entries + 1 = lawful.0 in (
      (refl, uncancelled row.code reported.reported, is_dropped-new (length S.entries) row.id S.entries sound.made (omega arith)),
      λ waiting. (row_of-new (length S.entries) row.id S.entries sound.made (omega arith), ids_below (length S.entries) row.id S.entries (omega arith) sound.made),
    )

found_set : (entries : List Entry) (row : TransferRow) (found : Option TransferRow) → row_of row.id entries ≡ found → IsOfWaiting row found → (is_dropped row.id entries ≡ false) × (waits found ≡ true)
found_set entries row None is of = absurd of
found_set entries row (Some held) is of = (is_dropped-open row.id entries held is (open_waits held.code of.0), of.0)

pub set_given : (setup : Setup) (S : State) (row : TransferRow) → IsLawful S.entries (SetTransfer row) → IsPrintableRow row → GivesRow S.entries (SetTransfer row) row
set_given setup S row lawful reported =
    let found = found_set S.entries row (row_of row.id S.entries) refl lawful in
    ((refl, uncancelled row.code reported.reported, found.0), λ waiting. found.1)

-- ---- the recurring transfers that transfers leave, or that make them

-- a transfer that a user asked for
pub asked_leaves : (setup : Setup) (S : State) (row : TransferRow) → IsSoundState setup S → row.model ≡ 0 → LeavesModels S.entries (NewTransfer row)
asked_leaves setup S row sound none = ap (λ (n : ℕ). model_of n S.entries) none ∙ model_of-0 (length S.entries) S.entries sound.made

dated_there : (found : Option ModelRow) (occurrence : ℕ) (date : Day) → occurrence_date found occurrence ≡ Some date → is_some found ≡ true
dated_there None occurrence date is = cc
dated_there (Some row) occurrence date is = refl

-- the next transfer of a recurring one
pub made_given : (S : State) (row : TransferRow) → IsNextOf S.entries row → IsMadeBy S.entries (NewTransfer row) row.model
made_given S row next = (refl, dated_there (model_of row.model S.entries) (next_occurrence row.model S.entries) row.due next.0)

-- its place has one more after it
pub made_below : (setup : Setup) (S : State) (row : TransferRow) → IsSoundState setup S → IsNextOf S.entries row → next_occurrence row.model S.entries ≤ 2958463
made_below setup S row sound next = occurrence_most setup (model_of row.model S.entries) (next_occurrence row.model S.entries) row.due (models_sound setup row.model S.entries sound.models) next.0

-- ---- recurring transfers

pub new_model_given : (setup : Setup) (S : State) (row : ModelRow) → IsSoundState setup S → IsLawful S.entries (NewModel row) → GivesModel S.entries (NewModel row) row
new_model_given setup S row sound lawful = let id : row.id ≡ length S.entries + 1 = lawful in (refl, model_of-new (length S.entries) row.id S.entries sound.made (omega arith))

pub set_model_given : (S : State) (row : ModelRow) (also : Bool) → IsLawful S.entries (SetModel row also) → GivesModel S.entries (SetModel row also) row
set_model_given S row also lawful = (refl, lawful.0.0)

pub model_cancelled : (S : State) (id : ℕ) (also : Bool) → IsLawful S.entries (DropModel id also) → Cancels S.entries (DropModel id also) id
model_cancelled S id also lawful = (refl, lawful.0)
