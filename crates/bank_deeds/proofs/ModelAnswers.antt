-- What a draft has to come to for a change or a cancellation of a recurring transfer.
use Rattle.std.proofs.Common.{◌≡◌, ℕ, ◌+◌, Bool, true, List, [], ◌∷◌, length, Option, Some, refl, sym, ap, ◌∙◌, subst}
use Rattle.std.specs.Prelude.{is_some}
use Rattle.std.specs.Option.{IfSome, option_map}
use Rattle.ofx_types.specs.declared.account.AcctName.{AcctName}
use Rattle.ofx_types.specs.declared.number.AcctId.{AcctId}
use Rattle.ofx_types.specs.declared.number.ObjectId.{ObjectId}
use Rattle.ofx_types.specs.declared.number.UserId.{UserId}
use Rattle.ofx_types.specs.declared.transfer.XferInfo.{XferInfo}
use Rattle.ofx_types.specs.declared.transfer.Change.TheVariants.{SetModel, DropModel}
use Rattle.ofx_types.specs.declared.transfer.Deed.TheVariants.{ModifyModel, CancelModel}
use Rattle.ofx_types.specs.declared.recurring.ModelRow.{ModelRow}
use Rattle.ofx_types.specs.declared.recurring.Recur.{Recur}
use Rattle.bank_model.specs.declared.entry.Entry.{Entry}
use Rattle.bank_model.specs.declared.setup.Setup.{Setup}
use Rattle.bank_model.specs.declared.event.State.{State}
use Rattle.bank_model.specs.SetupLookups.{account_of}
use Rattle.bank_model.specs.Models.{model_of}
use Rattle.bank_model.specs.Deeds.{judged, changed_model, model_object_of, model_entries_on}
use Rattle.bank_model.specs.Sound.{IsSoundDeed}
use Rattle.bank_model.proofs.SetupWords.{some_is}
use Rattle.bank_ledger.specs.declared.row_change.RowChange.TheVariants.{NoModel}
use Rattle.bank_ledger.specs.declared.row_change.RowChange.TheVariants as changes
use Rattle.bank_ledger.specs.Changes.{GivesRows}
use Rattle.bank_invariants.specs.SoundStates.{IsSoundState}
use Rattle.bank_invariants.specs.Pending.{own_entries}
use Rattle.bank_invariants.specs.Next.{IsNext}
use Rattle.bank_invariants.proofs.DeedLemmas.{changed_model_fields, to_change, to_drop, set_entry, drop_entry, set_model, drop_model}
use Rattle.bank_deeds.proofs.DeedAnswers.{entry_is}
use Rattle.bank_deeds.proofs.Giving.{set_model_gives, drop_model_gives}
use Rattle.bank_deeds.specs.Entries.{entry_with}

some_model : (found : Option ModelRow) (change : ModelRow → ModelRow) (first row : ModelRow) → found ≡ Some first → option_map change found ≡ Some row → row ≡ change first
some_model found change first row there is = sym (some_is (change first) row (sym (ap (option_map change) there) ∙ is))

pub change_there : (setup : Setup) (S : State) (user : UserId) (only : Option AcctId) (id : ℕ) (recur : Recur) (info : XferInfo) (also : Bool) → judged setup S user only (ModifyModel id recur info also) ≡ 0 → is_some (model_of id S.entries) ≡ true
change_there setup S user only id recur info also none = ap is_some (to_change setup S user only id recur info also none).found

pub change_from : (setup : Setup) (S : State) (user : UserId) (only : Option AcctId) (id : ℕ) (recur : Recur) (info : XferInfo) (also : Bool) (row : ModelRow) → judged setup S user only (ModifyModel id recur info also) ≡ 0 → option_map (changed_model S.day recur info) (model_of id S.entries) ≡ Some row → is_some (account_of setup row.from) ≡ true
change_from setup S user only id recur info also row none is =
    let to = to_change setup S user only id recur info also none in
    let row_is : row ≡ changed_model S.day recur info to.row = some_model (model_of id S.entries) (changed_model S.day recur info) to.row row to.found is in
    ap (λ (r : ModelRow). is_some (account_of setup r.from)) row_is ∙ ap (λ (name : AcctName). is_some (account_of setup name)) (changed_model_fields S.day recur info to.row).1 ∙ to.change.own

-- What a change of a recurring transfer enters for itself.
pub record IsSetModelEntry (setup : Setup) (S : State) (trnuid : List ℕ) (id : ℕ) (recur : Recur) (info : XferInfo) (also : Bool) (number : ℕ) (object : ObjectId) (uid : List ℕ) (row reported : ModelRow) : Type 0 where
  pub next : IsNext setup S (entry_with number object uid (SetModel reported also))
  pub gives : GivesRows S.entries (SetModel reported also) (changes.Model row)
  pub entries : entry_with number object uid (SetModel reported also) ∷ [] ≡ own_entries setup S trnuid (ModifyModel id recur info also)

pub IsSetModelEntry-of : (setup : Setup) (S : State) (user : UserId) (only : Option AcctId) (trnuid : List ℕ) (id : ℕ) (recur : Recur) (info : XferInfo) (also : Bool) (number : ℕ) (object : ObjectId) (uid : List ℕ) (row reported : ModelRow) → IsSoundState setup S → IsSoundDeed (ModifyModel id recur info also) → judged setup S user only (ModifyModel id recur info also) ≡ 0 → number ≡ length S.entries + 1 → object ≡ model_object_of setup row.from → uid ≡ trnuid → option_map (changed_model S.day recur info) (model_of id S.entries) ≡ Some row → reported ≡ row → IsSetModelEntry setup S trnuid id recur info also number object uid row reported
IsSetModelEntry-of setup S user only trnuid id recur info also number object uid row reported sound deed none is_number is_object is_uid is_row is_reported =
    let to = to_change setup S user only id recur info also none in
    let row_is : row ≡ changed_model S.day recur info to.row = some_model (model_of id S.entries) (changed_model S.day recur info) to.row row to.found is_row in
    let from : row.from ≡ to.row.from = ap (λ (r : ModelRow). r.from) row_is ∙ (changed_model_fields S.day recur info to.row).1 in
    let entry : entry_with number object uid (SetModel reported also) ≡ set_entry setup S trnuid recur info also to.row =
    entry_is _ _ _ _ _ _ _ _ is_number (is_object ∙ ap (model_object_of setup) from) is_uid (ap (λ (r : ModelRow). SetModel r also) (is_reported ∙ row_is)) in
    let own : own_entries setup S trnuid (ModifyModel id recur info also) ≡ set_entry setup S trnuid recur info also to.row ∷ [] =
    ap (λ (r : Option ModelRow). model_entries_on setup S trnuid r (λ held. SetModel (changed_model S.day recur info held) also) []) to.found in
    let entries : entry_with number object uid (SetModel reported also) ∷ [] ≡ own_entries setup S trnuid (ModifyModel id recur info also) = ap (λ (e : Entry). e ∷ []) entry ∙ sym own in
    let next : IsNext setup S (entry_with number object uid (SetModel reported also)) = subst (IsNext setup S) (sym entry) (set_model setup S trnuid id recur info also sound deed.2 to) in
    record {
      next = next;
      gives = set_model_gives S reported row also next.lawful is_reported;
      entries = entries;
    }

pub drop_there : (setup : Setup) (S : State) (user : UserId) (only : Option AcctId) (id : ℕ) (also : Bool) → judged setup S user only (CancelModel id also) ≡ 0 → is_some (model_of id S.entries) ≡ true
drop_there setup S user only id also none = ap is_some (to_drop setup S user only id also none).found

pub drop_own : (setup : Setup) (S : State) (user : UserId) (only : Option AcctId) (id : ℕ) (also : Bool) → judged setup S user only (CancelModel id also) ≡ 0 → IfSome (model_of id S.entries) (λ (row : ModelRow). is_some (account_of setup row.from) ≡ true)
drop_own setup S user only id also none =
    let to = to_drop setup S user only id also none in
    subst (λ (r : Option ModelRow). IfSome r (λ (row : ModelRow). is_some (account_of setup row.from) ≡ true)) (sym to.found) to.own

-- What a cancellation of a recurring transfer enters for itself.
pub record IsDropModelEntry (setup : Setup) (S : State) (trnuid : List ℕ) (id : ℕ) (also : Bool) (number : ℕ) (object : ObjectId) (uid : List ℕ) : Type 0 where
  pub next : IsNext setup S (entry_with number object uid (DropModel id also))
  pub gives : GivesRows S.entries (DropModel id also) (NoModel id)
  pub entries : entry_with number object uid (DropModel id also) ∷ [] ≡ own_entries setup S trnuid (CancelModel id also)

pub IsDropModelEntry-of : (setup : Setup) (S : State) (user : UserId) (only : Option AcctId) (trnuid : List ℕ) (id : ℕ) (also : Bool) (number : ℕ) (object : ObjectId) (uid : List ℕ) → IsSoundState setup S → judged setup S user only (CancelModel id also) ≡ 0 → number ≡ length S.entries + 1 → option_map (λ (row : ModelRow). model_object_of setup row.from) (model_of id S.entries) ≡ Some object → uid ≡ trnuid → IsDropModelEntry setup S trnuid id also number object uid
IsDropModelEntry-of setup S user only trnuid id also number object uid sound none is_number is_object is_uid =
    let to = to_drop setup S user only id also none in
    let object_is : object ≡ model_object_of setup to.row.from = sym (some_is (model_object_of setup to.row.from) object (sym (ap (option_map (λ (row : ModelRow). model_object_of setup row.from)) to.found) ∙ is_object)) in
    let entry : entry_with number object uid (DropModel id also) ≡ drop_entry setup S trnuid id also to.row = entry_is _ _ _ _ _ _ _ _ is_number object_is is_uid refl in
    let own : own_entries setup S trnuid (CancelModel id also) ≡ drop_entry setup S trnuid id also to.row ∷ [] =
    ap (λ (r : Option ModelRow). model_entries_on setup S trnuid r (λ held. DropModel id also) []) to.found in
    let next : IsNext setup S (entry_with number object uid (DropModel id also)) = subst (IsNext setup S) (sym entry) (drop_model setup S trnuid id also sound to) in
    record {
      next = next;
      gives = drop_model_gives S id also next.lawful;
      entries = ap (λ (e : Entry). e ∷ []) entry ∙ sym own;
    }

-- the entry of a change for itself
pub own_set : (setup : Setup) (S : State) (trnuid : List ℕ) (id : ℕ) (recur : Recur) (info : XferInfo) (also : Bool) (row : ModelRow) → model_of id S.entries ≡ Some row → own_entries setup S trnuid (ModifyModel id recur info also) ≡ set_entry setup S trnuid recur info also row ∷ []
own_set setup S trnuid id recur info also row found =
    ap (λ (r : Option ModelRow). model_entries_on setup S trnuid r (λ held. SetModel (changed_model S.day recur info held) also) []) found

-- the entry of a cancellation for itself
pub own_drop : (setup : Setup) (S : State) (trnuid : List ℕ) (id : ℕ) (also : Bool) (row : ModelRow) → model_of id S.entries ≡ Some row → own_entries setup S trnuid (CancelModel id also) ≡ drop_entry setup S trnuid id also row ∷ []
own_drop setup S trnuid id also row found = ap (λ (r : Option ModelRow). model_entries_on setup S trnuid r (λ held. DropModel id also) []) found
