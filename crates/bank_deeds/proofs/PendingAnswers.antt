-- What a draft has to come to for the transfers that wait and go along with a deed on their recurring transfer.
use Rattle.std.proofs.Common.{◌≡◌, ℕ, ◌+◌, true, false, List, [], ◌∷◌, ◌++◌, length, codes, Option, None, Some, refl, sym, ap, ◌∙◌, subst}
use Rattle.std.specs.Prelude.{is_some, option_to_list}
use Rattle.std.specs.Option.{option_map}
use Rattle.ofx_types.specs.AccountForm.{same_account}
use Rattle.ofx_types.specs.declared.account.AcctName.{AcctName}
use Rattle.ofx_types.specs.declared.number.ObjectId.{ObjectId}
use Rattle.ofx_types.specs.declared.transfer.XferInfo.{XferInfo}
use Rattle.ofx_types.specs.declared.transfer.XferCode.TheVariants.{Cancelled}
use Rattle.ofx_types.specs.declared.transfer.TransferRow.{TransferRow}
use Rattle.ofx_types.specs.declared.transfer.Change.{Change}
use Rattle.ofx_types.specs.declared.transfer.Change.TheVariants.{SetTransfer, DropTransfer}
use Rattle.bank_model.specs.declared.entry.Entry.{Entry}
use Rattle.bank_model.specs.declared.setup.Setup.{Setup}
use Rattle.bank_model.specs.declared.event.State.{State}
use Rattle.bank_model.specs.SetupLookups.{account_of}
use Rattle.bank_model.specs.Ledger.{row_of, posting_of, with_code}
use Rattle.bank_model.specs.Models.{is_waiting}
use Rattle.bank_model.specs.Deeds.{object_of, with_terms, next_entry, entries_after}
use Rattle.bank_model.specs.Sound.{IsSoundInfo}
use Rattle.bank_transfers.specs.TransfersView.{waits}
use Rattle.bank_ledger.specs.declared.row_change.RowChange.TheVariants.{Row}
use Rattle.bank_ledger.specs.Changes.{GivesRows}
use Rattle.bank_invariants.specs.SoundStates.{IsSoundState}
use Rattle.bank_invariants.specs.Pending.{rows_at, AreTerms, SuitsRow}
use Rattle.bank_invariants.specs.Next.{IsNext}
use Rattle.bank_deeds.proofs.DeedAnswers.{entry_is, some_row}
use Rattle.bank_deeds.proofs.Giving.{set_gives, drop_gives}
use Rattle.bank_invariants.proofs.NextLemmas.{row_of-named, waiting_posts, drop_next}
use Rattle.bank_invariants.proofs.SoundFound.{row_sound}
use Rattle.bank_invariants.proofs.PendingLemmas.{IsHere}
use Rattle.bank_invariants.proofs.DoneLemmas.{Suits, with_new_terms, change_next, terms_fields, dropping}
use Rattle.bank_deeds.specs.Entries.{entry_with}

-- a transfer that waits has a row
pub record IsThere (entries : List Entry) (id : ℕ) : Type 0 where
  pub row : TransferRow
  pub found : row_of id entries ≡ Some row
  pub waits : is_waiting row.code ≡ true

there_of : (entries : List Entry) (id : ℕ) (found : Option TransferRow) → row_of id entries ≡ found → waits found ≡ true → IsThere entries id
there_of entries id None is wait = cc
there_of entries id (Some row) is wait = record { row = row; found = is; waits = wait }

pub there : (entries : List Entry) (id : ℕ) → waits (row_of id entries) ≡ true → IsThere entries id
there entries id wait = there_of entries id (row_of id entries) refl wait

pub is_there : (entries : List Entry) (id : ℕ) → waits (row_of id entries) ≡ true → is_some (row_of id entries) ≡ true
is_there entries id wait = ap is_some (there entries id wait).found

here : (entries : List Entry) (id : ℕ) (is : IsThere entries id) → IsHere entries is.row
here entries id is = (ap (λ (n : ℕ). row_of n entries) (row_of-named id entries is.row is.found) ∙ is.found, is.waits)

pub one_after : (setup : Setup) (S : State) (change : TransferRow → Change) (id : ℕ) (row : TransferRow) → row_of id S.entries ≡ Some row → entries_after setup (length S.entries) change (rows_at S.entries (id ∷ [])) ≡ next_entry S (object_of setup row.from) (codes "0") (change row) ∷ []
unfolding entries_after
one_after setup S change id row found = ap (λ (r : Option TransferRow). entries_after setup (length S.entries) change (option_to_list r ++ [])) found

-- What the change of a transfer that waits enters.
pub record IsTermsEntry (setup : Setup) (S : State) (info : XferInfo) (id : ℕ) (number : ℕ) (object : ObjectId) (uid : List ℕ) (row reported : TransferRow) : Type 0 where
  pub next : IsNext setup S (entry_with number object uid (SetTransfer reported))
  pub gives : GivesRows S.entries (SetTransfer reported) (Row row)
  pub entries : entry_with number object uid (SetTransfer reported) ∷ [] ≡ entries_after setup (length S.entries) (with_new_terms info) (rows_at S.entries (id ∷ []))
  pub nothing : posting_of number (Some reported) ≡ []

pub terms_from : (setup : Setup) (S : State) (info : XferInfo) (id : ℕ) (row : TransferRow) → IsSoundState setup S → waits (row_of id S.entries) ≡ true → option_map (with_terms info) (row_of id S.entries) ≡ Some row → is_some (account_of setup row.from) ≡ true
terms_from setup S info id row sound wait is =
    let at = there S.entries id wait in
    let row_is : row ≡ with_terms info at.row = some_row (row_of id S.entries) (with_terms info) at.row row at.found is in
    ap (λ (r : TransferRow). is_some (account_of setup r.from)) row_is ∙ ap (λ (name : AcctName). is_some (account_of setup name)) (terms_fields info at.row).2 ∙ (row_sound setup S id at.row sound at.found).from

pub IsTermsEntry-of : (setup : Setup) (S : State) (info : XferInfo) (id : ℕ) (number : ℕ) (object : ObjectId) (uid : List ℕ) (row reported : TransferRow) → IsSoundState setup S → waits (row_of id S.entries) ≡ true → Suits setup info → SuitsRow info (row_of id S.entries) → number ≡ length S.entries + 1 → object ≡ object_of setup row.from → uid ≡ codes "0" → option_map (with_terms info) (row_of id S.entries) ≡ Some row → reported ≡ row → IsTermsEntry setup S info id number object uid row reported
IsTermsEntry-of setup S info id number object uid row reported sound wait suits apart is_number is_object is_uid is_row is_reported =
    let at = there S.entries id wait in
    let fields = terms_fields info at.row in
    let row_is : row ≡ with_terms info at.row = some_row (row_of id S.entries) (with_terms info) at.row row at.found is_row in
    let from : row.from ≡ at.row.from = ap (λ (r : TransferRow). r.from) row_is ∙ fields.2 in
    let entry : entry_with number object uid (SetTransfer reported) ≡ next_entry S (object_of setup at.row.from) (codes "0") (with_new_terms info at.row) =
    entry_is _ _ _ _ _ _ _ _ is_number (is_object ∙ ap (object_of setup) from) is_uid (ap (λ (r : TransferRow). SetTransfer r) (is_reported ∙ row_is)) in
    let away : same_account info.to at.row.from ≡ false = subst (SuitsRow info) at.found apart in
    let next : IsNext setup S (entry_with number object uid (SetTransfer reported)) = subst (IsNext setup S) (sym entry) (change_next setup S info at.row suits sound (here S.entries id at) away) in
    record {
      next = next;
      gives = set_gives setup S reported row next.lawful next.reported is_reported;
      entries = ap (λ (e : Entry). e ∷ []) entry ∙ sym (one_after setup S (with_new_terms info) id at.row at.found);
      nothing = ap (λ (r : TransferRow). posting_of number (Some r)) (is_reported ∙ row_is) ∙ waiting_posts number (with_terms info at.row) (ap is_waiting fields.3 ∙ at.waits);
    }

-- What the cancellation of a transfer that waits enters.
pub record IsGoneEntry (setup : Setup) (S : State) (id : ℕ) (number : ℕ) (object : ObjectId) (uid : List ℕ) (row : TransferRow) : Type 0 where
  pub next : IsNext setup S (entry_with number object uid (DropTransfer id))
  pub gives : GivesRows S.entries (DropTransfer id) (Row row)
  pub entries : entry_with number object uid (DropTransfer id) ∷ [] ≡ entries_after setup (length S.entries) dropping (rows_at S.entries (id ∷ []))

pub gone_from : (setup : Setup) (S : State) (id : ℕ) (row : TransferRow) → IsSoundState setup S → waits (row_of id S.entries) ≡ true → option_map (with_code Cancelled) (row_of id S.entries) ≡ Some row → is_some (account_of setup row.from) ≡ true
gone_from setup S id row sound wait is =
    let at = there S.entries id wait in
    let row_is : row ≡ with_code Cancelled at.row = some_row (row_of id S.entries) (with_code Cancelled) at.row row at.found is in
    ap (λ (r : TransferRow). is_some (account_of setup r.from)) row_is ∙ (row_sound setup S id at.row sound at.found).from

pub IsGoneEntry-of : (setup : Setup) (S : State) (id : ℕ) (number : ℕ) (object : ObjectId) (uid : List ℕ) (row : TransferRow) → IsSoundState setup S → waits (row_of id S.entries) ≡ true → number ≡ length S.entries + 1 → object ≡ object_of setup row.from → uid ≡ codes "0" → option_map (with_code Cancelled) (row_of id S.entries) ≡ Some row → IsGoneEntry setup S id number object uid row
IsGoneEntry-of setup S id number object uid row sound wait is_number is_object is_uid is_row =
    let at = there S.entries id wait in
    let row_is : row ≡ with_code Cancelled at.row = some_row (row_of id S.entries) (with_code Cancelled) at.row row at.found is_row in
    let from : row.from ≡ at.row.from = ap (λ (r : TransferRow). r.from) row_is in
    let same : id ≡ at.row.id = sym (row_of-named id S.entries at.row at.found) in
    let entry : entry_with number object uid (DropTransfer id) ≡ next_entry S (object_of setup at.row.from) (codes "0") (dropping at.row) =
    entry_is _ _ _ _ _ _ _ _ is_number (is_object ∙ ap (object_of setup) from) is_uid (ap (λ (n : ℕ). DropTransfer n) same) in
    let dropped = drop_next setup S (object_of setup at.row.from) (codes "0") at.row.id at.row sound (here S.entries id at).0 at.waits in
    let next : IsNext setup S (entry_with number object uid (DropTransfer id)) = subst (IsNext setup S) (sym entry) dropped in
    record {
      next = next;
      gives = drop_gives S id row is_row;
      entries = ap (λ (e : Entry). e ∷ []) entry ∙ sym (one_after setup S dropping id at.row at.found);
    }

pub suits_terms : (setup : Setup) (S : State) (id : ℕ) (info : XferInfo) → IsSoundInfo info → AreTerms setup S.entries (id ∷ []) info → Suits setup info
suits_terms setup S id info known terms = record { known = known; to = terms.to; positive = terms.positive }
