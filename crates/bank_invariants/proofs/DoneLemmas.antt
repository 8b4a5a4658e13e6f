-- All entries of a deed that isn't refused may come one after another.
use Rattle.std.proofs.Common.{◌≡◌, ◌≢◌, ℕ, ◌+◌, ◌≤◌, Bool, true, false, cond, eqb, List, [], ◌∷◌, ◌++◌, length, length-append, codes, Option, None, Some, refl, sym, ap, ◌∙◌, subst, arith}
use Rattle.std.specs.Prelude.{is_some}
use Rattle.std.specs.List.{AllByRecursion}
use Rattle.std.specs.Option.{IfSome, option_map}
use Rattle.std.proofs.lemmas.List.{length-map}
use Rattle.std.proofs.lemmas.Bool.{eqb-true, false_from_ne_true}
use Rattle.ofx_types.specs.AccountForm.{same_account}
use Rattle.ofx_types.specs.Calendar.{IsMoment}
use Rattle.ofx_types.specs.declared.number.AcctId.{AcctId}
use Rattle.ofx_types.specs.declared.number.UserId.{UserId}
use Rattle.ofx_types.specs.declared.number.Moment.{Moment}
use Rattle.ofx_types.specs.declared.transfer.TransferRow.{TransferRow}
use Rattle.ofx_types.specs.declared.transfer.XferInfo.{XferInfo}
use Rattle.ofx_types.specs.declared.transfer.XferCode.TheVariants.{Cancelled}
use Rattle.ofx_types.specs.declared.transfer.Change.{Change}
use Rattle.ofx_types.specs.declared.transfer.Change.TheVariants.{SetTransfer, DropTransfer, SetModel, DropModel, NewMail}
use Rattle.ofx_types.specs.declared.transfer.Deed.{Deed}
use Rattle.ofx_types.specs.declared.transfer.Deed.TheVariants.{Transfer, ModifyTransfer, CancelTransfer, Model, ModifyModel, CancelModel, BankMail, Mail}
use Rattle.ofx_types.specs.declared.recurring.ModelRow.{ModelRow}
use Rattle.ofx_types.specs.declared.recurring.Recur.{Recur}
use Rattle.ofx_types.specs.declared.account.AcctName.{AcctName}
use Rattle.ofx_types.specs.declared.mail.MailText.{MailText}
use Rattle.bank_model.specs.declared.entry.Entry.{Entry}
use Rattle.bank_model.specs.declared.setup.Setup.{Setup}
use Rattle.bank_model.specs.declared.event.State.{State}
use Rattle.bank_model.specs.SetupForm.{IsWithinLimits}
use Rattle.bank_model.specs.SetupLookups.{account_of}
use Rattle.bank_model.specs.Ledger.{row_of, is_dropped, with_code}
use Rattle.bank_model.specs.Models.{model_of, is_waiting, waiting_of}
use Rattle.bank_model.specs.Judging.{is_positive}
use Rattle.bank_transfers.specs.Growth.{row_after}
use Rattle.bank_transfers.proofs.GrowthLemmas.{row_of-push}
use Rattle.bank_model.specs.Deeds.{judged, object_of, changed_row, changed_model, with_terms, next_entry, entries_after, if_pending, model_entries_on, mail_about_object_of, mail_object, mail_row, done}
use Rattle.bank_model.specs.Rules.{with_entries}
use Rattle.bank_model.specs.Sound.{IsSoundInfo, IsSoundDeed}
use Rattle.bank_invariants.specs.SoundStates.{IsSoundState, HasSource}
use Rattle.bank_invariants.specs.Pending.{waiting_if, pending_of, ids_of}
use Rattle.bank_invariants.specs.Next.{IsNext, AreNext}
use Rattle.bank_invariants.proofs.Verdicts.{open_waits}
use Rattle.bank_invariants.proofs.RowLemmas.{IsSoundRow-with_terms}
use Rattle.bank_invariants.proofs.SoundFound.{row_sound}
use Rattle.bank_invariants.proofs.NextLemmas.{covered_nothing, waiting_posts, set_next, drop_next, mail_next}
use Rattle.bank_invariants.proofs.ModelChanges.{IsOfModel, model_change_rows}
use Rattle.bank_invariants.proofs.PendingLemmas.{IsHere, IsWay, after_next, waiting_here, waiting_own}
use Rattle.bank_invariants.proofs.SoundStateLemmas.{sound_more}
use Rattle.bank_invariants.proofs.DeedLemmas.{taken_entry, transfer_next, transfer_entries, modify_row, modify_entries, modify_next, cancel_row, cancel_entries, cancel_next, model_entry, model_entries, model_next, IsToChange, to_change, IsToDrop, to_drop, set_entry, drop_entry, set_model, drop_model}
use Rattle.bank_model.proofs.AccountNames.{same_account-is}

-- What a deed adds that isn't refused: its own entry, and those that follow.
pub record IsDone (setup : Setup) (S : State) (entries : List Entry) : Type 0 where
  pub entry : Entry
  pub rest : List Entry
  pub are : entries ≡ entry ∷ rest
  pub next : IsNext setup S entry
  pub rest_next : AreNext setup (with_entries S (entry ∷ [])) rest

-- the entries of transfers that go along with a deed on their recurring transfer
abbrev pub changed_after : Setup → State → XferInfo → Bool → ℕ → List Entry
changed_after setup S info also id =
    if_pending also (entries_after setup (length S.entries + 1) (λ row. SetTransfer (with_terms info row)) (waiting_of id S.entries))

abbrev pub dropped_after : Setup → State → Bool → ℕ → List Entry
dropped_after setup S also id =
    if_pending also (entries_after setup (length S.entries + 1) (λ row. DropTransfer row.id) (waiting_of id S.entries))

pub set_model_entries : (setup : Setup) (S : State) (user : UserId) (at : Moment) (trnuid : List ℕ) (id : ℕ) (recur : Recur) (info : XferInfo) (also : Bool) (row : ModelRow) → model_of id S.entries ≡ Some row → done setup S user at trnuid (ModifyModel id recur info also) ≡ set_entry setup S trnuid recur info also row ∷ changed_after setup S info also id
unfolding done
set_model_entries setup S user at trnuid id recur info also row found =
    ap (λ (r : Option ModelRow). model_entries_on setup S trnuid r (λ held. SetModel (changed_model S.day recur info held) also) (changed_after setup S info also id)) found

pub drop_model_entries : (setup : Setup) (S : State) (user : UserId) (at : Moment) (trnuid : List ℕ) (id : ℕ) (also : Bool) (row : ModelRow) → model_of id S.entries ≡ Some row → done setup S user at trnuid (CancelModel id also) ≡ drop_entry setup S trnuid id also row ∷ dropped_after setup S also id
unfolding done
drop_model_entries setup S user at trnuid id also row found =
    ap (λ (r : Option ModelRow). model_entries_on setup S trnuid r (λ held. DropModel id also) (dropped_after setup S also id)) found

pub after_count : (setup : Setup) (count : ℕ) (change : TransferRow → Change) (rows : List TransferRow) → length (entries_after setup count change rows) ≡ length rows
unfolding entries_after
after_count setup count change [] = refl
after_count setup count change (row ∷ more) = let rest = after_count setup (count + 1) change more in omega arith

-- ---- the transfers that go along

pub terms_fields : (info : XferInfo) (row : TransferRow) → ((with_terms info row).id ≡ row.id) × ((with_terms info row).model ≡ row.model) × ((with_terms info row).from ≡ row.from) × ((with_terms info row).code ≡ row.code)
unfolding with_terms
terms_fields info row = (refl, refl, refl, refl)

abbrev pub with_new_terms : XferInfo → TransferRow → Change
with_new_terms info row = SetTransfer (with_terms info row)

set_others : (entries : List Entry) (entry : Entry) (given : TransferRow) (id : ℕ) → entry.change ≡ SetTransfer given → (given.id ≢ id) → row_of id (entries ++ entry ∷ []) ≡ row_of id entries
set_others entries entry given id is apart =
    row_of-push id entries entry
    ∙ ap (row_after id (is_dropped id entries) (row_of id entries)) is
    ∙ ap (λ (b : Bool). cond b (Some (cond (is_dropped id entries) (with_code Cancelled given) given)) (row_of id entries)) (false_from_ne_true (eqb given.id id) (λ same. apart (eqb-true given.id id same)))

drop_others : (entries : List Entry) (entry : Entry) (gone id : ℕ) → entry.change ≡ DropTransfer gone → (gone ≢ id) → row_of id (entries ++ entry ∷ []) ≡ row_of id entries
drop_others entries entry gone id is apart =
    row_of-push id entries entry
    ∙ ap (row_after id (is_dropped id entries) (row_of id entries)) is
    ∙ ap (λ (b : Bool). cond b (option_map (with_code Cancelled) (row_of id entries)) (row_of id entries)) (false_from_ne_true (eqb gone id) (λ same. apart (eqb-true gone id same)))

-- What new terms have to be for a transfer that waits.
pub record Suits (setup : Setup) (info : XferInfo) : Type 0 where
  pub known : IsSoundInfo info
  pub to : is_some (account_of setup info.to) ≡ true
  pub positive : is_positive info ≡ true

pub change_next : (setup : Setup) (S : State) (info : XferInfo) (row : TransferRow) → Suits setup info → IsSoundState setup S → IsHere S.entries row → same_account info.to row.from ≡ false → IsNext setup S (next_entry S (object_of setup row.from) (codes "0") (with_new_terms info row))
change_next setup S info row suits sound here apart =
    let fields = terms_fields info row in
    let waits : is_waiting (with_terms info row).code ≡ true = ap is_waiting fields.3 ∙ here.1 in
    set_next setup S (object_of setup row.from) (codes "0") row (with_terms info row) sound
    (ap (λ (n : ℕ). row_of n S.entries) fields.0 ∙ here.0)
    here.1
    (sym fields.1)
    (sym fields.2)
    (open_waits (with_terms info row).code waits)
    (IsSoundRow-with_terms setup info row (row_sound setup S row.id row sound here.0) suits.known suits.positive suits.to apart)
    (covered_nothing setup S (next_entry S (object_of setup row.from) (codes "0") (with_new_terms info row)) sound (waiting_posts (length S.entries + 1) (with_terms info row) waits))

pub change_way : (setup : Setup) (info : XferInfo) → Suits setup info → IsWay setup (with_new_terms info) (λ (row : TransferRow). same_account info.to row.from ≡ false)
change_way setup info suits = record {
  next = λ S row sound here apart. change_next setup S info row suits sound here apart;
  others = λ entries entry row id is apart. set_others entries entry (with_terms info row) id is (λ same. apart (sym (terms_fields info row).0 ∙ same));
}

abbrev pub dropping : TransferRow → Change
dropping row = DropTransfer row.id

pub drop_way : (setup : Setup) → IsWay setup dropping (λ (row : TransferRow). Unit {0})
drop_way setup = record {
  next = λ S row sound here fits. drop_next setup S (object_of setup row.from) (codes "0") row.id row sound here.0 here.1;
  others = λ entries entry row id is apart. drop_others entries entry row.id id is apart;
}

model_rows : (entries : List Entry) (entry : Entry) (id : ℕ) → IsOfModel entry.change → row_of id (entries ++ entry ∷ []) ≡ row_of id entries
model_rows entries entry id of = row_of-push id entries entry ∙ model_change_rows id (is_dropped id entries) (row_of id entries) entry.change of

pub here_after : (entries : List Entry) (entry : Entry) (model : ℕ) (rows : List TransferRow) → IsOfModel entry.change → AllByRecursion (λ (row : TransferRow). IsHere entries row × (row.model ≡ model)) rows → AllByRecursion (IsHere (entries ++ entry ∷ [])) rows
here_after entries entry model [] of here = tt
here_after entries entry model (row ∷ rows) of here = ((model_rows entries entry row.id of ∙ here.0.0.0, here.0.0.1), here_after entries entry model rows of here.1)

nothing_more : (rows : List TransferRow) → AllByRecursion (λ (row : TransferRow). Unit {0}) rows
nothing_more [] = tt
nothing_more (row ∷ rows) = (tt, nothing_more rows)

apart_source : (setup : Setup) (S : State) (id : ℕ) (info : XferInfo) (row : TransferRow) → IsSoundState setup S → (to : IsToChange setup S id info) → IsHere S.entries row → row.model ≡ id → same_account info.to row.from ≡ false
apart_source setup S id info row sound to here model =
    let has = subst (λ (r : Option TransferRow). IfSome r (HasSource S.entries)) here.0 (sound.sources row.id) in
    let known = subst (λ (r : Option ModelRow). IfSome r (λ (m : ModelRow). m.from ≡ row.from)) (ap (λ (n : ℕ). model_of n S.entries) model ∙ to.found) has.1 in
    let name : info.from ≡ row.from = same_account-is info.from to.row.from to.change.from ∙ known in
    ap (same_account info.to) (sym name) ∙ to.change.apart

pub all_apart : (setup : Setup) (S : State) (id : ℕ) (info : XferInfo) (rows : List TransferRow) → IsSoundState setup S → (to : IsToChange setup S id info) → AllByRecursion (λ (row : TransferRow). IsHere S.entries row × (row.model ≡ id)) rows → AllByRecursion (λ (row : TransferRow). same_account info.to row.from ≡ false) rows
all_apart setup S id info [] sound to here = tt
all_apart setup S id info (row ∷ rows) sound to here = (apart_source setup S id info row sound to here.0.0 here.0.1, all_apart setup S id info rows sound to here.1)

pub suits_of : (setup : Setup) (S : State) (id : ℕ) (info : XferInfo) → IsSoundInfo info → IsToChange setup S id info → Suits setup info
suits_of setup S id info known to = record { known = known; to = to.change.to; positive = to.change.positive }

changed_next : (setup : Setup) (S : State) (trnuid : List ℕ) (id : ℕ) (recur : Recur) (info : XferInfo) (also : Bool) → IsSoundState setup S → IsSoundDeed (ModifyModel id recur info also) → (to : IsToChange setup S id info) → length S.entries + (length (changed_after setup S info also id) + 1) ≤ setup.entries → AreNext setup (with_entries S (set_entry setup S trnuid recur info also to.row ∷ [])) (changed_after setup S info also id)
changed_next setup S trnuid id recur info false sound known to few = tt
changed_next setup S trnuid id recur info true sound known to few =
    let entry : Entry = set_entry setup S trnuid recur info true to.row in
    let next = set_model setup S trnuid id recur info true sound known.2 to in
    let size : length (S.entries ++ entry ∷ []) ≡ length S.entries + 1 = length-append S.entries (entry ∷ []) in
    let count = after_count setup (length S.entries + 1) (with_new_terms info) (waiting_of id S.entries) in
    let good : IsSoundState setup (with_entries S (entry ∷ [])) = sound_more setup S entry S.used sound next (omega arith) sound in
    let here = waiting_here id S.entries in
    after_next setup (with_entries S (entry ∷ [])) (with_new_terms info) (λ (row : TransferRow). same_account info.to row.from ≡ false) (waiting_of id S.entries) (length S.entries + 1) (sym size)
    (change_way setup info (suits_of setup S id info known.2 to)) good (here_after S.entries entry id (waiting_of id S.entries) tt here) (all_apart setup S id info (waiting_of id S.entries) sound to here) (waiting_own id S.entries sound.lawful) (omega (arith, size, count))

dropped_next : (setup : Setup) (S : State) (trnuid : List ℕ) (id : ℕ) (also : Bool) → IsSoundState setup S → (to : IsToDrop setup S id) → length S.entries + (length (dropped_after setup S also id) + 1) ≤ setup.entries → AreNext setup (with_entries S (drop_entry setup S trnuid id also to.row ∷ [])) (dropped_after setup S also id)
dropped_next setup S trnuid id false sound to few = tt
dropped_next setup S trnuid id true sound to few =
    let entry : Entry = drop_entry setup S trnuid id true to.row in
    let next = drop_model setup S trnuid id true sound to in
    let size : length (S.entries ++ entry ∷ []) ≡ length S.entries + 1 = length-append S.entries (entry ∷ []) in
    let count = after_count setup (length S.entries + 1) dropping (waiting_of id S.entries) in
    let good : IsSoundState setup (with_entries S (entry ∷ [])) = sound_more setup S entry S.used sound next (omega arith) sound in
    let here = waiting_here id S.entries in
    after_next setup (with_entries S (entry ∷ [])) dropping (λ (row : TransferRow). Unit {0}) (waiting_of id S.entries) (length S.entries + 1) (sym size)
    (drop_way setup) good (here_after S.entries entry id (waiting_of id S.entries) tt here) (nothing_more (waiting_of id S.entries)) (waiting_own id S.entries sound.lawful) (omega (arith, size, count))

count_of : (count most : ℕ) (entries rest : List Entry) (entry : Entry) → entries ≡ entry ∷ rest → count + length entries ≤ most → count + (length rest + 1) ≤ most
count_of count most entries rest entry are few =
    let same : length entries ≡ length (entry ∷ rest) = ap length are in omega arith

pub bank_mail_entries : (setup : Setup) (S : State) (user : UserId) (at : Moment) (trnuid : List ℕ) (account : AcctName) (mail : MailText) → done setup S user at trnuid (BankMail account mail) ≡ next_entry S (mail_about_object_of setup account) trnuid (NewMail (mail_row setup user (Some account) mail)) ∷ []
unfolding done
bank_mail_entries setup S user at trnuid account mail = refl

pub mail_entries : (setup : Setup) (S : State) (user : UserId) (at : Moment) (trnuid : List ℕ) (mail : MailText) → done setup S user at trnuid (Mail mail) ≡ next_entry S (mail_object setup user) trnuid (NewMail (mail_row setup user None mail)) ∷ []
unfolding done
mail_entries setup S user at trnuid mail = refl

pub deed_done : (setup : Setup) (S : State) (user : UserId) (only : Option AcctId) (at : Moment) (trnuid : List ℕ) (deed : Deed) → IsWithinLimits setup → IsSoundState setup S → IsMoment at.0 → IsSoundDeed deed → judged setup S user only deed ≡ 0 → length S.entries + length (done setup S user at trnuid deed) ≤ setup.entries → IsDone setup S (done setup S user at trnuid deed)
deed_done setup S user only at trnuid (Transfer info) within sound moment deed none few = record {
  entry = taken_entry setup S at trnuid info;
  rest = [];
  are = transfer_entries setup S user at trnuid info;
  next = transfer_next setup S user only at trnuid info within sound moment deed none;
  rest_next = tt;
}
deed_done setup S user only at trnuid (ModifyTransfer id info) within sound moment deed none few =
    let change = modify_row setup S user only id info none in
    record {
      entry = next_entry S (object_of setup change.0.from) trnuid (SetTransfer (changed_row S.day info change.0));
      rest = [];
      are = modify_entries setup S user at trnuid id info change.0 change.1;
      next = modify_next setup S trnuid id info change.0 sound deed change.1 change.2;
      rest_next = tt;
    }
deed_done setup S user only at trnuid (CancelTransfer id) within sound moment deed none few =
    let cancelled = cancel_row setup S user only id none in
    record {
      entry = next_entry S (object_of setup cancelled.0.from) trnuid (DropTransfer id);
      rest = [];
      are = cancel_entries setup S user at trnuid id cancelled.0 cancelled.1;
      next = cancel_next setup S trnuid id cancelled.0 sound cancelled.1 cancelled.2;
      rest_next = tt;
    }
deed_done setup S user only at trnuid (Model recur info) within sound moment deed none few = record {
  entry = model_entry setup S trnuid recur info;
  rest = [];
  are = model_entries setup S user at trnuid recur info;
  next = model_next setup S user only trnuid recur info sound deed none;
  rest_next = tt;
}
deed_done setup S user only at trnuid (ModifyModel id recur info also) within sound moment deed none few =
    let to = to_change setup S user only id recur info also none in
    let are = set_model_entries setup S user at trnuid id recur info also to.row to.found in
    record {
      entry = set_entry setup S trnuid recur info also to.row;
      rest = changed_after setup S info also id;
      are = are;
      next = set_model setup S trnuid id recur info also sound deed.2 to;
      rest_next = changed_next setup S trnuid id recur info also sound deed to (count_of (length S.entries) setup.entries _ _ _ are few);
    }
deed_done setup S user only at trnuid (CancelModel id also) within sound moment deed none few =
    let to = to_drop setup S user only id also none in
    let are = drop_model_entries setup S user at trnuid id also to.row to.found in
    record {
      entry = drop_entry setup S trnuid id also to.row;
      rest = dropped_after setup S also id;
      are = are;
      next = drop_model setup S trnuid id also sound to;
      rest_next = dropped_next setup S trnuid id also sound to (count_of (length S.entries) setup.entries _ _ _ are few);
    }
deed_done setup S user only at trnuid (BankMail account mail) within sound moment deed none few = record {
  entry = next_entry S (mail_about_object_of setup account) trnuid (NewMail (mail_row setup user (Some account) mail));
  rest = [];
  are = bank_mail_entries setup S user at trnuid account mail;
  next = mail_next setup S (mail_about_object_of setup account) trnuid (mail_row setup user (Some account) mail) sound deed.1.created;
  rest_next = tt;
}
deed_done setup S user only at trnuid (Mail mail) within sound moment deed none few = record {
  entry = next_entry S (mail_object setup user) trnuid (NewMail (mail_row setup user None mail));
  rest = [];
  are = mail_entries setup S user at trnuid mail;
  next = mail_next setup S (mail_object setup user) trnuid (mail_row setup user None mail) sound deed.created;
  rest_next = tt;
}

-- Each may come next after those before it.
pub all_next : (setup : Setup) (S : State) (entries : List Entry) → IsDone setup S entries → AreNext setup S entries
all_next setup S entries does = subst (AreNext setup S) (sym does.are) (does.next, does.rest_next)

-- ---- how many they are

pending_count : (setup : Setup) (S : State) (change : TransferRow → Change) (also : Bool) (id : ℕ) → length (if_pending also (entries_after setup (length S.entries + 1) change (waiting_of id S.entries))) ≡ length (waiting_if also id S)
pending_count setup S change true id = after_count setup (length S.entries + 1) change (waiting_of id S.entries)
pending_count setup S change false id = refl

one_and : (entries rest : List Entry) (entry : Entry) (count : ℕ) → entries ≡ entry ∷ rest → length rest ≡ count → length entries ≡ count + 1
one_and entries rest entry count are is = let same : length entries ≡ length (entry ∷ rest) = ap length are in omega arith

-- A deed that isn't refused adds one entry, and one for each transfer that goes along.
pub done_count : (setup : Setup) (S : State) (user : UserId) (only : Option AcctId) (at : Moment) (trnuid : List ℕ) (deed : Deed) (ids : List ℕ) → judged setup S user only deed ≡ 0 → ids ≡ ids_of (pending_of S deed) → length (done setup S user at trnuid deed) ≡ length ids + 1
done_count setup S user only at trnuid (Transfer info) ids none are = one_and _ [] _ (length ids) (transfer_entries setup S user at trnuid info) (sym (ap length are))
done_count setup S user only at trnuid (ModifyTransfer id info) ids none are =
    let change = modify_row setup S user only id info none in
    one_and _ [] _ (length ids) (modify_entries setup S user at trnuid id info change.0 change.1) (sym (ap length are))
done_count setup S user only at trnuid (CancelTransfer id) ids none are =
    let cancelled = cancel_row setup S user only id none in
    one_and _ [] _ (length ids) (cancel_entries setup S user at trnuid id cancelled.0 cancelled.1) (sym (ap length are))
done_count setup S user only at trnuid (Model recur info) ids none are = one_and _ [] _ (length ids) (model_entries setup S user at trnuid recur info) (sym (ap length are))
done_count setup S user only at trnuid (ModifyModel id recur info also) ids none are =
    let to = to_change setup S user only id recur info also none in
    one_and _ _ _ (length ids) (set_model_entries setup S user at trnuid id recur info also to.row to.found)
    (pending_count setup S _ also id ∙ sym (ap length are ∙ length-map (waiting_if also id S) (λ (row : TransferRow). row.id)))
done_count setup S user only at trnuid (CancelModel id also) ids none are =
    let to = to_drop setup S user only id also none in
    one_and _ _ _ (length ids) (drop_model_entries setup S user at trnuid id also to.row to.found)
    (pending_count setup S _ also id ∙ sym (ap length are ∙ length-map (waiting_if also id S) (λ (row : TransferRow). row.id)))
done_count setup S user only at trnuid (BankMail account mail) ids none are = one_and _ [] _ (length ids) (bank_mail_entries setup S user at trnuid account mail) (sym (ap length are))
done_count setup S user only at trnuid (Mail mail) ids none are = one_and _ [] _ (length ids) (mail_entries setup S user at trnuid mail) (sym (ap length are))
