-- The entries of a deed that isn't refused may come next.
use Rattle.std.proofs.Common.{◌≡◌, ℕ, ◌+◌, Bool, true, false, cond, List, [], ◌∷◌, ◌++◌, length, Option, None, Some, ℤ, pos, ◌≤ℤ◌, refl, sym, ap, ◌∙◌, subst, arith}
use Rattle.std.specs.Prelude.{is_some}
use Rattle.std.proofs.lemmas.Int.{ints}
use Rattle.ofx_types.specs.Calendar.{IsMoment}
use Rattle.ofx_types.specs.declared.number.AcctId.{AcctId}
use Rattle.ofx_types.specs.declared.number.UserId.{UserId}
use Rattle.ofx_types.specs.declared.number.Day.{Day}
use Rattle.ofx_types.specs.declared.number.Cents.{Cents}
use Rattle.ofx_types.specs.declared.number.Moment.{Moment}
use Rattle.ofx_types.specs.declared.transfer.TransferRow.{TransferRow}
use Rattle.ofx_types.specs.declared.transfer.XferInfo.{XferInfo}
use Rattle.ofx_types.specs.declared.transfer.XferCode.TheVariants.{Waiting, Posted}
use Rattle.ofx_types.specs.declared.transfer.Change.TheVariants.{NewTransfer, SetTransfer, DropTransfer, NewModel, SetModel, DropModel}
use Rattle.ofx_types.specs.declared.transfer.Deed.TheVariants.{Transfer, ModifyTransfer, CancelTransfer, Model, ModifyModel, CancelModel}
use Rattle.ofx_types.specs.declared.recurring.ModelRow.{ModelRow}
use Rattle.ofx_types.specs.declared.recurring.Recur.{Recur}
use Rattle.bank_model.specs.declared.entry.Entry.{Entry}
use Rattle.bank_model.specs.declared.setup.Setup.{Setup}
use Rattle.bank_model.specs.declared.event.State.{State}
use Rattle.bank_model.specs.SetupForm.{IsWithinLimits}
use Rattle.bank_model.specs.SetupLookups.{account_of}
use Rattle.bank_model.specs.Ledger.{is_posted, posting_of, row_of, balance, is_covered}
use Rattle.bank_model.specs.Models.{model_of, is_model_dropped}
use Rattle.bank_model.specs.Judging.{is_due, is_cancelled}
use Rattle.bank_model.specs.Deeds.{source_balance, judged, object_of, model_object_of, new_row, changed_row, new_model, changed_model, next_entry, entry_on, done}
use Rattle.bank_model.specs.Sound.{IsSoundInfo, IsSoundDeed}
use Rattle.bank_invariants.specs.SoundStates.{IsSoundRow, IsSoundState}
use Rattle.bank_invariants.specs.Next.{IsNext}
use Rattle.bank_invariants.proofs.LedgerSteps.{balance-kept, covered-posted}
use Rattle.bank_invariants.proofs.Verdicts.{IsTaken, IsTaken-from_code, IsChange, IsChange-from_code, IsOpen, IsOpen-from_code, waits_open, IsTakenModel, IsTakenModel-from_code, IsModelChange, IsModelChange-from_code, IsModelOpen-from_code}
use Rattle.bank_invariants.proofs.RowLemmas.{IsSoundRow-new, IsSoundRow-changed, IsSoundModel-new, IsSoundModel-changed, model_of-named}
use Rattle.bank_invariants.proofs.NextLemmas.{row_of-named, covered_nothing, new_next, set_next, drop_next, new_model_next, set_model_next, drop_model_next}

pub some_of : {X : Type 0} (found : Option X) → is_some found ≡ true → (x : X) × (found ≡ Some x)
some_of None is = cc
some_of (Some x) is = (x, refl)

abbrev pub taken_entry : Setup → State → Moment → List ℕ → XferInfo → Entry
taken_entry setup S at trnuid info =
    next_entry S (object_of setup info.from) trnuid (NewTransfer (new_row (length S.entries + 1) at S.day info))

new_posts : (number id : ℕ) (at : Moment) (day : Day) (info : XferInfo) → is_due info day ≡ true → posting_of number (Some (new_row id at day info)) ≡ record { number = number; row = new_row id at day info } ∷ []
unfolding new_row
new_posts number id at day info due = ap (λ (b : Bool). cond (is_posted (cond b Posted Waiting)) (record { number = number; row = new_row id at day info } ∷ []) []) due

new_waits : (number id : ℕ) (at : Moment) (day : Day) (info : XferInfo) → is_due info day ≡ false → posting_of number (Some (new_row id at day info)) ≡ []
unfolding new_row
new_waits number id at day info due = ap (λ (b : Bool). cond (is_posted (cond b Posted Waiting)) (record { number = number; row = new_row id at day info } ∷ []) []) due

-- a new transfer isn't cancelled, whether it is due or not
pub new_open : (due : Bool) → is_cancelled (cond due Posted Waiting) ≡ false
new_open true = refl
new_open false = refl

new_kept : (id : ℕ) (at : Moment) (day : Day) (info : XferInfo) → is_cancelled (new_row id at day info).code ≡ false
unfolding new_row
new_kept id at day info = new_open (is_due info day)

pub new_fields : (id : ℕ) (at : Moment) (day : Day) (info : XferInfo) → ((new_row id at day info).id ≡ id) × ((new_row id at day info).from ≡ info.from) × ((new_row id at day info).amount ≡ info.amount) × ((new_row id at day info).to ≡ info.to) × ((new_row id at day info).model ≡ 0)
unfolding new_row
new_fields id at day info = (refl, refl, refl, refl, refl)

pub covers : (amount balance : ℤ) → is_covered amount balance ≡ true → amount ≤ℤ balance
covers amount balance enough = grind (arith, ints)

taken_covered : (setup : Setup) (S : State) (at : Moment) (trnuid : List ℕ) (info : XferInfo) (due : Bool) → is_due info S.day ≡ due → IsWithinLimits setup → IsSoundState setup S → IsTaken setup info S.day (source_balance setup S info) → IsSoundRow setup (new_row (length S.entries + 1) at S.day info) → (account : AcctId) → pos 0 ≤ℤ balance setup (S.entries ++ taken_entry setup S at trnuid info ∷ []) account
taken_covered setup S at trnuid info true due within sound taken row account =
    let fields = new_fields (length S.entries + 1) at S.day info in
    let source = some_of (account_of setup info.from) taken.from in
    let found = source.1 in
    let enough : info.amount.0 ≤ℤ source_balance setup S info = covers info.amount.0 (source_balance setup S info) (taken.covered due) in
    let from : info.amount.0 ≤ℤ balance setup S.entries source.0 = rw found at enough in
    covered-posted setup S.entries (taken_entry setup S at trnuid info) (new_row (length S.entries + 1) at S.day info) source.0 within
    (new_posts (length S.entries + 1) (length S.entries + 1) at S.day info due)
    (ap (account_of setup) fields.1 ∙ found)
    row.not_negative
    (subst (λ (amount : Cents). amount.0 ≤ℤ balance setup S.entries source.0) (sym fields.2) from)
    sound.covered account
taken_covered setup S at trnuid info false due within sound taken row account =
    rw (balance-kept setup S.entries (taken_entry setup S at trnuid info) account (new_waits (length S.entries + 1) (length S.entries + 1) at S.day info due))
    (sound.covered account)

pub transfer_next : (setup : Setup) (S : State) (user : UserId) (only : Option AcctId) (at : Moment) (trnuid : List ℕ) (info : XferInfo) → IsWithinLimits setup → IsSoundState setup S → IsMoment at.0 → IsSoundDeed (Transfer info) → judged setup S user only (Transfer info) ≡ 0 → IsNext setup S (taken_entry setup S at trnuid info)
unfolding judged
transfer_next setup S user only at trnuid info within sound moment deed none =
    let id : ℕ = length S.entries + 1 in
    let taken : IsTaken setup info S.day (source_balance setup S info) = IsTaken-from_code setup user only info S.day (source_balance setup S info) none in
    let row : IsSoundRow setup (new_row id at S.day info) = IsSoundRow-new setup id at S.day (source_balance setup S info) info moment sound.day deed taken in
    let same : (new_row id at S.day info).id ≡ id = (new_fields id at S.day info).0 in
    new_next setup S (object_of setup info.from) trnuid (new_row id at S.day info) sound same (new_fields id at S.day info).4 (new_kept id at S.day info) row
    (taken_covered setup S at trnuid info (is_due info S.day) refl within sound taken row)

-- a transfer that is taken goes out of an account of the bank
pub transfer_from : (setup : Setup) (S : State) (user : UserId) (only : Option AcctId) (info : XferInfo) → judged setup S user only (Transfer info) ≡ 0 → is_some (account_of setup info.from) ≡ true
unfolding judged
transfer_from setup S user only info none = (IsTaken-from_code setup user only info S.day (source_balance setup S info) none).from

pub transfer_entries : (setup : Setup) (S : State) (user : UserId) (at : Moment) (trnuid : List ℕ) (info : XferInfo) → done setup S user at trnuid (Transfer info) ≡ taken_entry setup S at trnuid info ∷ []
unfolding done
transfer_entries setup S user at trnuid info = refl

-- ---- changes and cancellations

pub changed_fields : (day : Day) (info : XferInfo) (row : TransferRow) → ((changed_row day info row).id ≡ row.id) × ((changed_row day info row).code ≡ Waiting) × ((changed_row day info row).from ≡ row.from) × ((changed_row day info row).model ≡ row.model)
unfolding changed_row
changed_fields day info row = (refl, refl, refl, refl)

changed_waits : (number : ℕ) (day : Day) (info : XferInfo) (row : TransferRow) → posting_of number (Some (changed_row day info row)) ≡ []
unfolding changed_row
changed_waits number day info row = refl

pub modify_row : (setup : Setup) (S : State) (user : UserId) (only : Option AcctId) (id : ℕ) (info : XferInfo) → judged setup S user only (ModifyTransfer id info) ≡ 0 → (row : TransferRow) × (row_of id S.entries ≡ Some row) × IsChange setup row info S.day
unfolding judged
modify_row setup S user only id info none = IsChange-from_code setup user only (row_of id S.entries) info S.day none

pub modify_entries : (setup : Setup) (S : State) (user : UserId) (at : Moment) (trnuid : List ℕ) (id : ℕ) (info : XferInfo) (row : TransferRow) → row_of id S.entries ≡ Some row → done setup S user at trnuid (ModifyTransfer id info) ≡ next_entry S (object_of setup row.from) trnuid (SetTransfer (changed_row S.day info row)) ∷ []
unfolding done
modify_entries setup S user at trnuid id info row found =
    ap (λ (r : Option TransferRow). entry_on setup S trnuid r (λ held. SetTransfer (changed_row S.day info held))) found

pub modify_next : (setup : Setup) (S : State) (trnuid : List ℕ) (id : ℕ) (info : XferInfo) (row : TransferRow) → IsSoundState setup S → IsSoundDeed (ModifyTransfer id info) → row_of id S.entries ≡ Some row → IsChange setup row info S.day → IsNext setup S (next_entry S (object_of setup row.from) trnuid (SetTransfer (changed_row S.day info row)))
modify_next setup S trnuid id info row sound deed found change =
    let new : TransferRow = changed_row S.day info row in
    let fields = changed_fields S.day info row in
    let same : row.id ≡ id = row_of-named id S.entries row found in
    let there : row_of new.id S.entries ≡ Some row = ap (λ (n : ℕ). row_of n S.entries) (fields.0 ∙ same) ∙ found in
    set_next setup S (object_of setup row.from) trnuid row new sound there
    (waits_open row.code change.is_open.cancelled change.is_open.closed)
    (sym fields.3)
    (sym fields.2)
    (ap is_cancelled fields.1)
    (IsSoundRow-changed setup S.day info row sound.day deed.1 change)
    (covered_nothing setup S (next_entry S (object_of setup row.from) trnuid (SetTransfer new)) sound (changed_waits (length S.entries + 1) S.day info row))

pub cancel_row : (setup : Setup) (S : State) (user : UserId) (only : Option AcctId) (id : ℕ) → judged setup S user only (CancelTransfer id) ≡ 0 → (row : TransferRow) × (row_of id S.entries ≡ Some row) × IsOpen setup row
unfolding judged
cancel_row setup S user only id none = IsOpen-from_code setup user only (row_of id S.entries) none

pub cancel_entries : (setup : Setup) (S : State) (user : UserId) (at : Moment) (trnuid : List ℕ) (id : ℕ) (row : TransferRow) → row_of id S.entries ≡ Some row → done setup S user at trnuid (CancelTransfer id) ≡ next_entry S (object_of setup row.from) trnuid (DropTransfer id) ∷ []
unfolding done
cancel_entries setup S user at trnuid id row found = ap (λ (r : Option TransferRow). entry_on setup S trnuid r (λ held. DropTransfer id)) found

pub cancel_next : (setup : Setup) (S : State) (trnuid : List ℕ) (id : ℕ) (row : TransferRow) → IsSoundState setup S → row_of id S.entries ≡ Some row → IsOpen setup row → IsNext setup S (next_entry S (object_of setup row.from) trnuid (DropTransfer id))
cancel_next setup S trnuid id row sound found is_open =
    drop_next setup S (object_of setup row.from) trnuid id row sound found (waits_open row.code is_open.cancelled is_open.closed)

-- ---- recurring transfers

pub new_model_fields : (id : ℕ) (day : Day) (recur : Recur) (info : XferInfo) → ((new_model id day recur info).id ≡ id) × ((new_model id day recur info).from ≡ info.from)
unfolding new_model
new_model_fields id day recur info = (refl, refl)

pub changed_model_fields : (day : Day) (recur : Recur) (info : XferInfo) (row : ModelRow) → ((changed_model day recur info row).id ≡ row.id) × ((changed_model day recur info row).from ≡ row.from)
unfolding changed_model
changed_model_fields day recur info row = (refl, refl)

abbrev pub model_entry : Setup → State → List ℕ → Recur → XferInfo → Entry
model_entry setup S trnuid recur info =
    next_entry S (model_object_of setup info.from) trnuid (NewModel (new_model (length S.entries + 1) S.day recur info))

pub model_entries : (setup : Setup) (S : State) (user : UserId) (at : Moment) (trnuid : List ℕ) (recur : Recur) (info : XferInfo) → done setup S user at trnuid (Model recur info) ≡ model_entry setup S trnuid recur info ∷ []
unfolding done
model_entries setup S user at trnuid recur info = refl

pub model_taken : (setup : Setup) (S : State) (user : UserId) (only : Option AcctId) (recur : Recur) (info : XferInfo) → judged setup S user only (Model recur info) ≡ 0 → IsTakenModel setup info S.day
unfolding judged
model_taken setup S user only recur info none = IsTakenModel-from_code setup user only info S.day none

pub model_next : (setup : Setup) (S : State) (user : UserId) (only : Option AcctId) (trnuid : List ℕ) (recur : Recur) (info : XferInfo) → IsSoundState setup S → IsSoundDeed (Model recur info) → judged setup S user only (Model recur info) ≡ 0 → IsNext setup S (model_entry setup S trnuid recur info)
model_next setup S user only trnuid recur info sound deed none =
    let id : ℕ = length S.entries + 1 in
    new_model_next setup S (model_object_of setup info.from) trnuid (new_model id S.day recur info) sound (new_model_fields id S.day recur info).0
    (IsSoundModel-new setup id S.day recur info sound.day deed.1 (model_taken setup S user only recur info none))

-- a recurring transfer that may be changed
pub record IsToChange (setup : Setup) (S : State) (id : ℕ) (info : XferInfo) : Type 0 where
  pub row : ModelRow
  pub found : model_of id S.entries ≡ Some row
  pub goes_on : is_model_dropped id S.entries ≡ false
  pub change : IsModelChange setup row info S.day

pub to_change : (setup : Setup) (S : State) (user : UserId) (only : Option AcctId) (id : ℕ) (recur : Recur) (info : XferInfo) (also : Bool) → judged setup S user only (ModifyModel id recur info also) ≡ 0 → IsToChange setup S id info
unfolding judged
to_change setup S user only id recur info also none =
    let change = IsModelChange-from_code setup user only (model_of id S.entries) (is_model_dropped id S.entries) info S.day none in
    record { row = change.0; found = change.1; goes_on = change.2; change = change.3 }

pub record IsToDrop (setup : Setup) (S : State) (id : ℕ) : Type 0 where
  pub row : ModelRow
  pub found : model_of id S.entries ≡ Some row
  pub goes_on : is_model_dropped id S.entries ≡ false
  pub own : is_some (account_of setup row.from) ≡ true

pub to_drop : (setup : Setup) (S : State) (user : UserId) (only : Option AcctId) (id : ℕ) (also : Bool) → judged setup S user only (CancelModel id also) ≡ 0 → IsToDrop setup S id
unfolding judged
to_drop setup S user only id also none =
    let drop = IsModelOpen-from_code setup user only (model_of id S.entries) (is_model_dropped id S.entries) none in
    record { row = drop.0; found = drop.1; goes_on = drop.2.goes_on; own = drop.2.own }

abbrev pub set_entry : Setup → State → List ℕ → Recur → XferInfo → Bool → ModelRow → Entry
set_entry setup S trnuid recur info also row =
    next_entry S (model_object_of setup row.from) trnuid (SetModel (changed_model S.day recur info row) also)

abbrev pub drop_entry : Setup → State → List ℕ → ℕ → Bool → ModelRow → Entry
drop_entry setup S trnuid id also row = next_entry S (model_object_of setup row.from) trnuid (DropModel id also)

pub set_model : (setup : Setup) (S : State) (trnuid : List ℕ) (id : ℕ) (recur : Recur) (info : XferInfo) (also : Bool) → IsSoundState setup S → IsSoundInfo info → (to : IsToChange setup S id info) → IsNext setup S (set_entry setup S trnuid recur info also to.row)
set_model setup S trnuid id recur info also sound known to =
    let fields = changed_model_fields S.day recur info to.row in
    let same : to.row.id ≡ id = model_of-named id S.entries to.row to.found in
    let named : (changed_model S.day recur info to.row).id ≡ id = fields.0 ∙ same in
    set_model_next setup S (model_object_of setup to.row.from) trnuid to.row (changed_model S.day recur info to.row) also sound
    (ap (λ (n : ℕ). model_of n S.entries) named ∙ to.found)
    (ap (λ (n : ℕ). is_model_dropped n S.entries) named ∙ to.goes_on)
    (sym fields.1)
    (IsSoundModel-changed setup S.day recur info to.row sound.day known to.change)

pub drop_model : (setup : Setup) (S : State) (trnuid : List ℕ) (id : ℕ) (also : Bool) → IsSoundState setup S → (to : IsToDrop setup S id) → IsNext setup S (drop_entry setup S trnuid id also to.row)
drop_model setup S trnuid id also sound to = drop_model_next setup S (model_object_of setup to.row.from) trnuid id to.row also sound to.found to.goes_on
