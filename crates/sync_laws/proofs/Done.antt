-- The entries of a deed that isn't refused follow those before them.
use Rattle.std.proofs.Common.{◌≡◌, ℕ, ◌+◌, Bool, true, false, List, [], ◌∷◌, ◌++◌, length, Option, Some, refl, sym, ap, ◌∙◌, subst}
use Rattle.ofx_types.specs.declared.number.AcctId.{AcctId}
use Rattle.ofx_types.specs.declared.number.UserId.{UserId}
use Rattle.ofx_types.specs.declared.number.Day.{Day}
use Rattle.ofx_types.specs.declared.number.Moment.{Moment}
use Rattle.ofx_types.specs.declared.transfer.XferInfo.{XferInfo}
use Rattle.ofx_types.specs.declared.transfer.TransferRow.{TransferRow}
use Rattle.ofx_types.specs.declared.transfer.Deed.{Deed}
use Rattle.ofx_types.specs.declared.transfer.Deed.TheVariants.{Transfer, ModifyTransfer, CancelTransfer, Model, ModifyModel, CancelModel, BankMail, Mail}
use Rattle.ofx_types.specs.declared.transfer.Change.{Change}
use Rattle.ofx_types.specs.declared.transfer.Change.TheVariants.{NewTransfer, SetTransfer, NewModel, SetModel, DropModel}
use Rattle.ofx_types.specs.declared.recurring.ModelRow.{ModelRow}
use Rattle.ofx_types.specs.declared.recurring.Recur.{Recur}
use Rattle.bank_model.specs.declared.entry.Entry.{Entry}
use Rattle.bank_model.specs.declared.setup.Setup.{Setup}
use Rattle.bank_model.specs.declared.event.State.{State}
use Rattle.bank_model.specs.SetupLookups.{account_of}
use Rattle.bank_model.specs.Ledger.{row_of}
use Rattle.bank_model.specs.Models.{model_of, is_model_dropped, waiting_of}
use Rattle.bank_model.specs.Judging.{is_due}
use Rattle.bank_model.specs.Deeds.{source_balance, judged, object_of, model_object_of, new_row, changed_row, new_model, changed_model, next_entry, entries_after, if_pending, model_entries_on, done}
use Rattle.sync_laws.specs.Histories.{MaySay, AllFollow}
use Rattle.bank_invariants.proofs.RowLemmas.{model_of-named}
use Rattle.bank_invariants.proofs.NextLemmas.{row_of-named}
use Rattle.bank_invariants.proofs.DeedLemmas.{new_open, modify_entries, cancel_entries}
use Rattle.bank_invariants.proofs.DoneLemmas.{with_new_terms, dropping}
use Rattle.sync_laws.proofs.Verdicts.{IsFree, IsModelFree, free_to_modify, free_to_cancel, own_transfer, free_model_to_modify, free_model_to_cancel, own_model, own_letter}
use Rattle.sync_laws.proofs.Positions.{IsKnown, own_known, at_transfers, at_recurring, at_letters, mail_index}
use Rattle.sync_laws.proofs.Waiting.{IsWay, LeavesRows, changing_way, dropping_way, waiting_follow}

-- ---- the entries

-- the entries of transfers that go along
abbrev pub along : Setup → State → (TransferRow → Change) → Bool → ℕ → List Entry
along setup S change also id = if_pending also (entries_after setup (length S.entries + 1) change (waiting_of id S.entries))

pub modify_model_entries : (setup : Setup) (S : State) (user : UserId) (at : Moment) (trnuid : List ℕ) (id : ℕ) (recur : Recur) (info : XferInfo) (also : Bool) (row : ModelRow) → model_of id S.entries ≡ Some row → done setup S user at trnuid (ModifyModel id recur info also) ≡ next_entry S (model_object_of setup row.from) trnuid (SetModel (changed_model S.day recur info row) also) ∷ along setup S (with_new_terms info) also id
unfolding done
modify_model_entries setup S user at trnuid id recur info also row found =
    ap (λ (r : Option ModelRow). model_entries_on setup S trnuid r (λ held. SetModel (changed_model S.day recur info held) also) (along setup S (with_new_terms info) also id)) found

pub cancel_model_entries : (setup : Setup) (S : State) (user : UserId) (at : Moment) (trnuid : List ℕ) (id : ℕ) (also : Bool) (row : ModelRow) → model_of id S.entries ≡ Some row → done setup S user at trnuid (CancelModel id also) ≡ next_entry S (model_object_of setup row.from) trnuid (DropModel id also) ∷ along setup S dropping also id
unfolding done
cancel_model_entries setup S user at trnuid id also row found =
    ap (λ (r : Option ModelRow). model_entries_on setup S trnuid r (λ held. DropModel id also) (along setup S dropping also id)) found

-- ---- what they may say

new_says : (setup : Setup) (before : List Entry) (at : Moment) (day : Day) (info : XferInfo) → IsKnown setup (account_of setup info.from) → MaySay setup before (object_of setup info.from) (NewTransfer (new_row (length before + 1) at day info))
unfolding new_row
new_says setup before at day info known = (refl, new_open (is_due info day), refl, at_transfers setup (account_of setup info.from) known)

changed_says : (setup : Setup) (user : UserId) (only : Option AcctId) (before : List Entry) (id : ℕ) (day : Day) (info : XferInfo) (free : IsFree setup user only (row_of id before)) → MaySay setup before (object_of setup free.row.from) (SetTransfer (changed_row day info free.row))
unfolding changed_row
changed_says setup user only before id day info free =
    let same = row_of-named id before free.row free.is in
    (record { row = free.row; found = ap (λ (n : ℕ). row_of n before) same ∙ free.is; waits = free.waits; here = refl }, refl, refl, refl)

new_model_says : (setup : Setup) (before : List Entry) (day : Day) (recur : Recur) (info : XferInfo) → IsKnown setup (account_of setup info.from) → MaySay setup before (model_object_of setup info.from) (NewModel (new_model (length before + 1) day recur info))
unfolding new_model
new_model_says setup before day recur info known = (refl, refl, at_recurring setup (account_of setup info.from) known)

changed_model_says : (setup : Setup) (user : UserId) (only : Option AcctId) (before : List Entry) (id : ℕ) (day : Day) (recur : Recur) (info : XferInfo) (also : Bool) (free : IsModelFree setup user only (model_of id before) (is_model_dropped id before)) → MaySay setup before (model_object_of setup free.row.from) (SetModel (changed_model day recur info free.row) also)
unfolding changed_model
changed_model_says setup user only before id day recur info also free =
    let same = model_of-named id before free.row free.is in
    (record { row = free.row; found = ap (λ (n : ℕ). model_of n before) same ∙ free.is; goes_on = ap (λ (n : ℕ). is_model_dropped n before) same ∙ free.goes_on; here = refl }, refl)

along_follow : (setup : Setup) (S : State) (change : TransferRow → Change) (entry : Entry) (also : Bool) (id : ℕ) → IsWay setup change → LeavesRows entry.change → AllFollow setup [] S.entries → AllFollow setup (S.entries ++ entry ∷ []) (along setup S change also id)
along_follow setup S change entry true id way leaves follow = waiting_follow setup change S.entries entry id way leaves follow
along_follow setup S change entry false id way leaves follow = tt

-- ---- any deed

pub done_follow : (setup : Setup) (S : State) (user : UserId) (only : Option AcctId) (at : Moment) (trnuid : List ℕ) (deed : Deed) → AllFollow setup [] S.entries → judged setup S user only deed ≡ 0 → AllFollow setup S.entries (done setup S user at trnuid deed)
unfolding judged done
done_follow setup S user only at trnuid (Transfer info) follow none =
    let own = own_transfer setup user only info S.day (source_balance setup S info) none in
    (record { number = refl; says = new_says setup S.entries at S.day info (own_known setup user only (account_of setup info.from) own) }, tt)
done_follow setup S user only at trnuid (ModifyTransfer id info) follow none =
    let free = free_to_modify setup user only (row_of id S.entries) info S.day none in
    subst (AllFollow setup S.entries) (sym (modify_entries setup S user at trnuid id info free.row free.is))
    (record { number = refl; says = changed_says setup user only S.entries id S.day info free }, tt)
done_follow setup S user only at trnuid (CancelTransfer id) follow none =
    let free = free_to_cancel setup user only (row_of id S.entries) none in
    subst (AllFollow setup S.entries) (sym (cancel_entries setup S user at trnuid id free.row free.is))
    (record { number = refl; says = record { row = free.row; found = free.is; waits = free.waits; here = refl } }, tt)
done_follow setup S user only at trnuid (Model recur info) follow none =
    let own = own_model setup user only info S.day none in
    (record { number = refl; says = new_model_says setup S.entries S.day recur info (own_known setup user only (account_of setup info.from) own) }, tt)
done_follow setup S user only at trnuid (ModifyModel id recur info also) follow none =
    let free = free_model_to_modify setup user only (model_of id S.entries) (is_model_dropped id S.entries) info S.day none in
    subst (AllFollow setup S.entries) (sym (modify_model_entries setup S user at trnuid id recur info also free.row free.is)) (
      record { number = refl; says = changed_model_says setup user only S.entries id S.day recur info also free },
      along_follow setup S (with_new_terms info) (next_entry S (model_object_of setup free.row.from) trnuid (SetModel (changed_model S.day recur info free.row) also)) also id (changing_way setup info) (λ n dropped before. refl) follow,
    )
done_follow setup S user only at trnuid (CancelModel id also) follow none =
    let free = free_model_to_cancel setup user only (model_of id S.entries) (is_model_dropped id S.entries) none in
    subst (AllFollow setup S.entries) (sym (cancel_model_entries setup S user at trnuid id also free.row free.is)) (
      record { number = refl; says = record { row = free.row; found = free.is; goes_on = free.goes_on; here = refl } },
      along_follow setup S dropping (next_entry S (model_object_of setup free.row.from) trnuid (DropModel id also)) also id (dropping_way setup) (λ n dropped before. refl) follow,
    )
done_follow setup S user only at trnuid (BankMail about mail) follow none =
    let own = own_letter setup user only about mail none in
    (record { number = refl; says = at_letters setup (account_of setup about) (own_known setup user only (account_of setup about) own) }, tt)
done_follow setup S user only at trnuid (Mail mail) follow none = (record { number = refl; says = mail_index setup user }, tt)
