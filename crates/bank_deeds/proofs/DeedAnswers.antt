-- What a draft has to come to for a deed's answer.
use Rattle.std.proofs.Common.{◌≡◌, ◌≢◌, ℕ, ◌+◌, Bool, true, false, cond, eqb, List, [], ◌∷◌, ◌++◌, length, Option, None, Some, Bor, ℤ, refl, sym, ap, ◌∙◌, subst}
use Rattle.std.specs.Prelude.{is_some}
use Rattle.std.specs.Option.{IfSome, option_map, option_copied}
use Rattle.std.specs.List.{slice_get}
use Rattle.std.proofs.lemmas.List.Elements.{All-head, All-tail}
use Rattle.std.proofs.lemmas.Bool.{eqb-true, false_from_ne_true}
use Rattle.std.proofs.lemmas.List.{append-nil}
use Rattle.ofx_types.specs.Calendar.{IsMoment}
use Rattle.ofx_types.specs.declared.account.AcctName.{AcctName}
use Rattle.ofx_types.specs.declared.number.AcctId.{AcctId}
use Rattle.ofx_types.specs.declared.number.ObjectId.{ObjectId}
use Rattle.ofx_types.specs.declared.number.UserId.{UserId}
use Rattle.ofx_types.specs.declared.number.Moment.{Moment}
use Rattle.ofx_types.specs.declared.transfer.Change.{Change}
use Rattle.ofx_types.specs.declared.transfer.Change.TheVariants.{NewTransfer, SetTransfer, DropTransfer, NewModel}
use Rattle.ofx_types.specs.declared.recurring.ModelRow.{ModelRow}
use Rattle.ofx_types.specs.declared.recurring.Recur.{Recur}
use Rattle.ofx_types.specs.declared.transfer.XferCode.TheVariants.{Cancelled}
use Rattle.ofx_types.specs.declared.transfer.Deed.{Deed}
use Rattle.ofx_types.specs.declared.transfer.Deed.TheVariants.{Transfer, ModifyTransfer, CancelTransfer, Model, ModifyModel, CancelModel, BankMail, Mail}
use Rattle.ofx_types.specs.declared.transfer.TransferRow.{TransferRow}
use Rattle.ofx_types.specs.declared.transfer.XferInfo.{XferInfo}
use Rattle.ofx_types.specs.declared.transfer.DeedReply.{DeedReply}
use Rattle.ofx_types.specs.DeedForm.{family_of}
use Rattle.ofx_types.specs.declared.transfer.XferCode.{XferCode}
use Rattle.bank_model.specs.declared.entry.Entry.{Entry}
use Rattle.bank_model.specs.declared.setup.Setup.{Setup}
use Rattle.bank_model.specs.declared.event.State.{State}
use Rattle.bank_model.specs.SetupForm.{IsWithinLimits}
use Rattle.ofx_types.specs.declared.mail.MailText.{MailText}
use Rattle.bank_model.specs.Once.{is_used}
use Rattle.bank_model.specs.Ledger.{balance, row_of, with_code, is_posted, posting_of}
use Rattle.bank_model.specs.SetupLookups.{account_of}
use Rattle.bank_model.specs.Models.{model_of, is_model_dropped}
use Rattle.bank_model.specs.Judging.{transfer_code, modify_code, cancel_code, model_code, model_modify_code, model_cancel_code, bank_mail_code, mail_code}
use Rattle.bank_model.specs.Rules.{named_by_deed}
use Rattle.bank_model.specs.Sound.{IsSoundDeed}
use Rattle.bank_model.proofs.SetupWords.{some_is}
use Rattle.bank_model.specs.Deeds.{source_balance, object_of, model_object_of, new_row, changed_row, new_model, next_entry, judged, done, is_full, code_of, used_up, first_change, answer_with, deed_answer}
use Rattle.bank_accounts.specs.AccountView.{AccountView}
use Rattle.bank_accounts.specs.HeldAccounts.{IsHeld, AreHeld}
use Rattle.bank_invariants.specs.Next.{IsNext}
use Rattle.bank_ledger.specs.declared.row_change.RowChange.TheVariants as changes
use Rattle.bank_ledger.specs.declared.row_change.RowChange.TheVariants.{Row}
use Rattle.bank_ledger.specs.Changes.{GivesRows}
use Rattle.bank_ledger.specs.DraftView.{DraftView, pair_of, drafted, with_uid, IsSameFile, HasAdded, HasBothHeld}
use Rattle.bank_ledger.proofs.StateParts.{same_state}
use Rattle.bank_ledger.proofs.DraftStates.{drafted-added, drafted-uid}
use Rattle.bank_deeds.specs.Entries.{reported_of, entry_with}
use Rattle.bank_deeds.proofs.Giving.{new_gives, set_gives, drop_gives, new_model_gives}
use Rattle.bank_invariants.specs.SoundStates.{IsSoundState}
use Rattle.bank_invariants.proofs.Verdicts.{IsInBank-from_mail_code}
use Rattle.bank_invariants.proofs.DeedLemmas.{taken_entry, new_fields, changed_fields, transfer_next, transfer_entries, modify_row, modify_entries, modify_next, cancel_row, cancel_entries, cancel_next, model_taken, model_entry, model_entries, model_next}
use Rattle.bank_invariants.proofs.UidLaws.{used_code-is}

-- ---- answers

answer_is : (setup : Setup) (S : State) (user : UserId) (only : Option AcctId) (at : Moment) (trnuid : List ℕ) (deed : Deed) (code : ℕ) → code_of setup S user only at trnuid deed ≡ code → deed_answer setup S user only at trnuid deed ≡ answer_with setup S user at trnuid deed code
unfolding deed_answer
answer_is setup S user only at trnuid deed code is = ap (answer_with setup S user at trnuid deed) is

change_after : (before more : List Entry) → option_map (λ (entry : Entry). entry.change) (slice_get (before ++ more) (length before)) ≡ first_change more
change_after [] [] = refl
change_after [] (entry ∷ more) = refl
change_after (one ∷ before) more = change_after before more

-- The reply tells the change of the first entry after those that stood.
pub done_reply-is : (setup : Setup) (S : State) (user : UserId) (only : Option AcctId) (at : Moment) (trnuid : List ℕ) (deed : Deed) (before after : List Entry) (occurrence : ℕ) → code_of setup S user only at trnuid deed ≡ 0 → after ≡ before ++ done setup S user at trnuid deed → occurrence ≡ length before → reported_of trnuid deed (slice_get after occurrence) ≡ (deed_answer setup S user only at trnuid deed).reply
done_reply-is setup S user only at trnuid deed before after occurrence is more rest =
    ap (λ (entries : List Entry). reported_of trnuid deed (slice_get entries occurrence)) more
    ∙ ap (λ (n : ℕ). reported_of trnuid deed (slice_get (before ++ done setup S user at trnuid deed) n)) rest
    ∙ ap reply_with (change_after before (done setup S user at trnuid deed))
    ∙ sym (ap (λ a. a.reply) (answer_is setup S user only at trnuid deed 0 is))
  where
    reply_with : Option Change → DeedReply
    reply_with c = record { trnuid = trnuid; family = family_of deed; code = 0; change = c }

-- The entries of a draft with a deed's entries, and its uid.
pub used_entries : (old mid new : DraftView) (uid : List ℕ) (more : List Entry) → HasAdded old mid more → new ≡ with_uid mid uid → new.entries ≡ old.entries ++ more
used_entries old mid new uid more has is = ap (λ (draft : DraftView). draft.entries) is ∙ has.entries

-- It is of the same event still.
pub used_same : (old mid new : DraftView) (uid : List ℕ) → IsSameFile old mid → new ≡ with_uid mid uid → IsSameFile old new
used_same old mid new uid same is =
    subst (IsSameFile old) (sym is) (record { setup = same.setup; before = same.before; held = same.held; user = same.user; at = same.at; day = same.day })

-- A draft with the entries of a deed that is done, and its uid.
pub done_after-is : (draft more : DraftView) (only : Option AcctId) (trnuid : List ℕ) (deed : Deed) → code_of draft.setup (drafted draft) draft.user only draft.at trnuid deed ≡ 0 → HasAdded draft more (done draft.setup (drafted draft) draft.user draft.at trnuid deed) → drafted (with_uid more trnuid) ≡ (deed_answer draft.setup (drafted draft) draft.user only draft.at trnuid deed).after
done_after-is draft more only trnuid deed is has =
    let S : State = drafted draft in
    let after = drafted-added draft more (done draft.setup S draft.user draft.at trnuid deed) has in
    drafted-uid more trnuid
    ∙ same_state _ _ _ _ _ _ _ _ (ap (λ (T : State). T.entries) after)
    (ap (λ (T : State). T.used ++ pair_of more.user trnuid ∷ []) after ∙ ap (λ (u : UserId). S.used ++ pair_of u trnuid ∷ []) has.same.user)
    (ap (λ (T : State). T.kept) after) (ap (λ (T : State). T.day) after)
    ∙ sym (ap (λ a. a.after) (answer_is draft.setup S draft.user only draft.at trnuid deed 0 is))

no_change : (code : ℕ) (zero : Bool) (some : List Entry) → eqb code 0 ≡ zero → (code ≢ 0) → first_change (cond zero some []) ≡ None
no_change code true some is other = absurd (other (eqb-true code 0 is))
no_change code false some is other = refl

no_entries : (code : ℕ) (zero : Bool) (some entries : List Entry) → eqb code 0 ≡ zero → (code ≢ 0) → entries ++ cond zero some [] ≡ entries
no_entries code true some entries is other = absurd (other (eqb-true code 0 is))
no_entries code false some entries is other = append-nil entries

pub refused_reply-is : (setup : Setup) (S : State) (user : UserId) (only : Option AcctId) (at : Moment) (trnuid : List ℕ) (deed : Deed) (code : ℕ) → code_of setup S user only at trnuid deed ≡ code → code ≢ 0 → (record { trnuid = trnuid; family = family_of deed; code = code; change = None }) ≡ (deed_answer setup S user only at trnuid deed).reply
refused_reply-is setup S user only at trnuid deed code is other =
    sym (ap (λ a. a.reply) (answer_is setup S user only at trnuid deed code is) ∙ ap reply_with (no_change code (eqb code 0) (done setup S user at trnuid deed) refl other))
  where
    reply_with : Option Change → DeedReply
    reply_with c = record { trnuid = trnuid; family = family_of deed; code = code; change = c }

-- A refused deed uses up its uid, and adds nothing else.
pub refused_after-is : (draft : DraftView) (only : Option AcctId) (trnuid : List ℕ) (deed : Deed) (code : ℕ) → code_of draft.setup (drafted draft) draft.user only draft.at trnuid deed ≡ code → code ≢ 0 → code ≢ 2019 → drafted (with_uid draft trnuid) ≡ (deed_answer draft.setup (drafted draft) draft.user only draft.at trnuid deed).after
refused_after-is draft only trnuid deed code is other fresh =
    let S : State = drafted draft in
    let used : S.used ++ pair_of draft.user trnuid ∷ [] ≡ used_up code draft.user trnuid S.used =
    ap (λ (b : Bool). cond b S.used (S.used ++ pair_of draft.user trnuid ∷ [])) (sym (false_from_ne_true (eqb code 2019) (λ same. fresh (eqb-true code 2019 same)))) in
    drafted-uid draft trnuid
    ∙ same_state _ _ _ _ _ _ _ _ (sym (no_entries code (eqb code 0) (done draft.setup S draft.user draft.at trnuid deed) S.entries refl other)) used refl refl
    ∙ sym (ap (λ a. a.after) (answer_is draft.setup S draft.user only draft.at trnuid deed code is))

-- A deed with a uid that is used up changes nothing.
pub again_after-is : (draft : DraftView) (only : Option AcctId) (trnuid : List ℕ) (deed : Deed) → code_of draft.setup (drafted draft) draft.user only draft.at trnuid deed ≡ 2019 → drafted draft ≡ (deed_answer draft.setup (drafted draft) draft.user only draft.at trnuid deed).after
again_after-is draft only trnuid deed is =
    same_state _ _ _ _ _ _ _ _ (sym (append-nil (drafted draft).entries)) refl refl refl
    ∙ sym (ap (λ a. a.after) (answer_is draft.setup (drafted draft) draft.user only draft.at trnuid deed 2019 is))

-- ---- codes

pub room_code-is : (setup : Setup) (S : State) (user : UserId) (only : Option AcctId) (at : Moment) (trnuid : List ℕ) (deed : Deed) (count : ℕ) → is_used user trnuid S.used ≡ false → judged setup S user only deed ≡ 0 → length (done setup S user at trnuid deed) ≡ count → code_of setup S user only at trnuid deed ≡ cond (is_full setup (length S.entries + count)) 2000 0
unfolding code_of
room_code-is setup S user only at trnuid deed count unused none is = rw (unused, none, is) refl

-- A deed that isn't refused with 2019 has a uid that its user hasn't used.
pub unused-code : (setup : Setup) (S : State) (user : UserId) (only : Option AcctId) (at : Moment) (trnuid : List ℕ) (deed : Deed) (code : ℕ) → code_of setup S user only at trnuid deed ≡ code → code ≢ 2019 → is_used user trnuid S.used ≡ false
unused-code setup S user only at trnuid deed code is other =
    false_from_ne_true (is_used user trnuid S.used) (λ used. other (sym is ∙ used_code-is setup S user only at trnuid deed used))

other_code : (code : ℕ) (full zero : Bool) → eqb code 0 ≡ zero → code ≢ 0 → cond zero (cond full 2000 0) code ≡ code
other_code code full true is other = absurd (other (eqb-true code 0 is))
other_code code full false is other = refl

pub judged_code-is : (setup : Setup) (S : State) (user : UserId) (only : Option AcctId) (at : Moment) (trnuid : List ℕ) (deed : Deed) → is_used user trnuid S.used ≡ false → judged setup S user only deed ≢ 0 → code_of setup S user only at trnuid deed ≡ judged setup S user only deed
unfolding code_of
judged_code-is setup S user only at trnuid deed unused other =
    rw unused (other_code (judged setup S user only deed) (is_full setup (length S.entries + length (done setup S user at trnuid deed))) (eqb (judged setup S user only deed) 0) refl other)

-- ---- what is judged

pub both_held : (setup : Setup) (accounts : List AccountView) (info : XferInfo) → AreHeld accounts (named_by_deed setup (Transfer info)) → IfSome (account_of setup info.from) (IsHeld accounts) × IfSome (account_of setup info.to) (IsHeld accounts)
both_held setup accounts info held =
    let P : Option AcctId → Type 0 = λ entry. IfSome entry (IsHeld accounts) in
    let more = All-tail P (account_of setup info.from) (account_of setup info.to ∷ []) held in
    (All-head P (account_of setup info.from) (account_of setup info.to ∷ []) held, All-head P (account_of setup info.to) [] more)

pub source_held : (setup : Setup) (accounts : List AccountView) (deed : Deed) (info : XferInfo) → deed ≡ Transfer info → AreHeld accounts (named_by_deed setup deed) → IfSome (account_of setup info.from) (IsHeld accounts)
source_held setup accounts deed info is held = (both_held setup accounts info (subst (λ (d : Deed). AreHeld accounts (named_by_deed setup d)) is held)).0

pub judged_transfer-is : (setup : Setup) (S : State) (user : UserId) (only : Option AcctId) (deed : Deed) (info : XferInfo) (result : ℕ) (balance : ℤ) → deed ≡ Transfer info → balance ≡ source_balance setup S info → result ≡ transfer_code setup user only info S.day balance → result ≡ judged setup S user only deed
unfolding judged
judged_transfer-is setup S user only deed info result balance is source code =
    code ∙ ap (transfer_code setup user only info S.day) source ∙ sym (ap (judged setup S user only) is)

copied_is : (found : Option (Bor TransferRow)) → option_map (λ (row : Bor TransferRow). row.now) found ≡ option_copied found
copied_is None = refl
copied_is (Some row) = refl

pub judged_modify-is : (setup : Setup) (S : State) (user : UserId) (only : Option AcctId) (deed : Deed) (id : ℕ) (info : XferInfo) (found : Option (Bor TransferRow)) (result : ℕ) → deed ≡ ModifyTransfer id info → option_copied found ≡ row_of id S.entries → result ≡ modify_code setup user only (option_map (λ (row : Bor TransferRow). row.now) found) info S.day → result ≡ judged setup S user only deed
unfolding judged
judged_modify-is setup S user only deed id info found result is row code =
    code ∙ ap (λ (r : Option TransferRow). modify_code setup user only r info S.day) (copied_is found ∙ row) ∙ sym (ap (judged setup S user only) is)

pub judged_cancel-is : (setup : Setup) (S : State) (user : UserId) (only : Option AcctId) (deed : Deed) (id : ℕ) (found : Option (Bor TransferRow)) (result : ℕ) → deed ≡ CancelTransfer id → option_copied found ≡ row_of id S.entries → result ≡ cancel_code setup user only (option_map (λ (row : Bor TransferRow). row.now) found) → result ≡ judged setup S user only deed
unfolding judged
judged_cancel-is setup S user only deed id found result is row code =
    code ∙ ap (λ (r : Option TransferRow). cancel_code setup user only r) (copied_is found ∙ row) ∙ sym (ap (judged setup S user only) is)

-- ---- what is entered

pub entry_is : (n m : ℕ) (o p : ObjectId) (t u : List ℕ) (c d : Change) → n ≡ m → o ≡ p → t ≡ u → c ≡ d → entry_with n o t c ≡ entry_with m p u d
entry_is n m o p t u c d number object trnuid change =
    ap (λ (x : ℕ). entry_with x o t c) number ∙ ap (λ (x : ObjectId). entry_with m x t c) object ∙ ap (λ (x : List ℕ). entry_with m p x c) trnuid ∙ ap (entry_with m p u) change

-- What a transfer enters, by the parts that are made of it.
pub record IsTransferEntry (setup : Setup) (S : State) (user : UserId) (at : Moment) (trnuid : List ℕ) (info : XferInfo) (number : ℕ) (object : ObjectId) (uid : List ℕ) (row reported : TransferRow) : Type 0 where
  pub next : IsNext setup S (entry_with number object uid (NewTransfer reported))
  pub gives : GivesRows S.entries (NewTransfer reported) (Row row)
  pub entries : entry_with number object uid (NewTransfer reported) ∷ [] ≡ done setup S user at trnuid (Transfer info)
  pub held : (accounts : List AccountView) → AreHeld accounts (named_by_deed setup (Transfer info)) → HasBothHeld setup accounts row

pub IsTransferEntry-of : (setup : Setup) (S : State) (user : UserId) (only : Option AcctId) (at : Moment) (trnuid : List ℕ) (info : XferInfo) (number : ℕ) (object : ObjectId) (uid : List ℕ) (row reported : TransferRow) → IsWithinLimits setup → IsSoundState setup S → IsMoment at.0 → IsSoundDeed (Transfer info) → judged setup S user only (Transfer info) ≡ 0 → number ≡ length S.entries + 1 → object ≡ object_of setup info.from → uid ≡ trnuid → row ≡ new_row number at S.day info → reported ≡ row → IsTransferEntry setup S user at trnuid info number object uid row reported
IsTransferEntry-of setup S user only at trnuid info number object uid row reported within sound moment deed none is_number is_object is_uid is_row is_reported =
    let row_is : row ≡ new_row (length S.entries + 1) at S.day info = is_row ∙ ap (λ (n : ℕ). new_row n at S.day info) is_number in
    let entry : entry_with number object uid (NewTransfer reported) ≡ taken_entry setup S at trnuid info =
    entry_is _ _ _ _ _ _ _ _ is_number is_object is_uid (ap (λ (r : TransferRow). NewTransfer r) (is_reported ∙ row_is)) in
    let entries : entry_with number object uid (NewTransfer reported) ∷ [] ≡ done setup S user at trnuid (Transfer info) =
    ap (λ (e : Entry). e ∷ []) entry ∙ sym (transfer_entries setup S user at trnuid info) in
    let next : IsNext setup S (entry_with number object uid (NewTransfer reported)) = subst (IsNext setup S) (sym entry) (transfer_next setup S user only at trnuid info within sound moment deed none) in
    record {
      next = next;
      gives = new_gives setup S reported row sound next.lawful next.reported is_reported (ap (λ (r : TransferRow). r.model) (is_reported ∙ row_is) ∙ (new_fields (length S.entries + 1) at S.day info).4);
      entries = entries;
      held = λ accounts held.
          (let both = both_held setup accounts info held in
          let fields = new_fields (length S.entries + 1) at S.day info in
          let made : HasBothHeld setup accounts (new_row (length S.entries + 1) at S.day info) = both_of setup accounts info (new_row (length S.entries + 1) at S.day info) fields.1 fields.3 both in
          subst (HasBothHeld setup accounts) (sym row_is) made);
    }
  where
    both_of : (setup : Setup) (accounts : List AccountView) (info : XferInfo) (row : TransferRow) → row.from ≡ info.from → row.to ≡ info.to → IfSome (account_of setup info.from) (IsHeld accounts) × IfSome (account_of setup info.to) (IsHeld accounts) → HasBothHeld setup accounts row
    both_of setup accounts info row from to both =
        (subst (λ (name : AcctName). IfSome (account_of setup name) (IsHeld accounts)) (sym from) both.0, subst (λ (name : AcctName). IfSome (account_of setup name) (IsHeld accounts)) (sym to) both.1)

-- What a change of a transfer enters.
pub record IsModifyEntry (setup : Setup) (S : State) (user : UserId) (at : Moment) (trnuid : List ℕ) (id : ℕ) (info : XferInfo) (number : ℕ) (object : ObjectId) (uid : List ℕ) (row reported : TransferRow) : Type 0 where
  pub next : IsNext setup S (entry_with number object uid (SetTransfer reported))
  pub gives : GivesRows S.entries (SetTransfer reported) (Row row)
  pub entries : entry_with number object uid (SetTransfer reported) ∷ [] ≡ done setup S user at trnuid (ModifyTransfer id info)
  pub nothing : posting_of number (Some reported) ≡ []

pub modify_there : (setup : Setup) (S : State) (user : UserId) (only : Option AcctId) (id : ℕ) (info : XferInfo) → judged setup S user only (ModifyTransfer id info) ≡ 0 → is_some (row_of id S.entries) ≡ true
modify_there setup S user only id info none = ap is_some (modify_row setup S user only id info none).1

pub some_row : (found : Option TransferRow) (change : TransferRow → TransferRow) (first row : TransferRow) → found ≡ Some first → option_map change found ≡ Some row → row ≡ change first
some_row found change first row there is = sym (some_is (change first) row (sym (ap (option_map change) there) ∙ is))

pub modify_from : (setup : Setup) (S : State) (user : UserId) (only : Option AcctId) (id : ℕ) (info : XferInfo) (row : TransferRow) → judged setup S user only (ModifyTransfer id info) ≡ 0 → option_map (changed_row S.day info) (row_of id S.entries) ≡ Some row → is_some (account_of setup row.from) ≡ true
modify_from setup S user only id info row none is =
    let found = modify_row setup S user only id info none in
    let row_is : row ≡ changed_row S.day info found.0 = some_row (row_of id S.entries) (changed_row S.day info) found.0 row found.1 is in
    ap (λ (r : TransferRow). is_some (account_of setup r.from)) row_is ∙ ap (λ (name : AcctName). is_some (account_of setup name)) (changed_fields S.day info found.0).2 ∙ found.2.is_open.from

pub IsModifyEntry-of : (setup : Setup) (S : State) (user : UserId) (only : Option AcctId) (at : Moment) (trnuid : List ℕ) (id : ℕ) (info : XferInfo) (number : ℕ) (object : ObjectId) (uid : List ℕ) (row reported : TransferRow) → IsSoundState setup S → IsSoundDeed (ModifyTransfer id info) → judged setup S user only (ModifyTransfer id info) ≡ 0 → number ≡ length S.entries + 1 → object ≡ object_of setup row.from → uid ≡ trnuid → option_map (changed_row S.day info) (row_of id S.entries) ≡ Some row → reported ≡ row → IsModifyEntry setup S user at trnuid id info number object uid row reported
IsModifyEntry-of setup S user only at trnuid id info number object uid row reported sound deed none is_number is_object is_uid is_row is_reported =
    let found = modify_row setup S user only id info none in
    let fields = changed_fields S.day info found.0 in
    let row_is : row ≡ changed_row S.day info found.0 = some_row (row_of id S.entries) (changed_row S.day info) found.0 row found.1 is_row in
    let from : row.from ≡ found.0.from = ap (λ (r : TransferRow). r.from) row_is ∙ fields.2 in
    let entry : entry_with number object uid (SetTransfer reported) ≡ next_entry S (object_of setup found.0.from) trnuid (SetTransfer (changed_row S.day info found.0)) =
    entry_is _ _ _ _ _ _ _ _ is_number (is_object ∙ ap (object_of setup) from) is_uid (ap (λ (r : TransferRow). SetTransfer r) (is_reported ∙ row_is)) in
    let entries : entry_with number object uid (SetTransfer reported) ∷ [] ≡ done setup S user at trnuid (ModifyTransfer id info) =
    ap (λ (e : Entry). e ∷ []) entry ∙ sym (modify_entries setup S user at trnuid id info found.0 found.1) in
    let next : IsNext setup S (entry_with number object uid (SetTransfer reported)) = subst (IsNext setup S) (sym entry) (modify_next setup S trnuid id info found.0 sound deed found.1 found.2) in
    record {
      next = next;
      gives = set_gives setup S reported row next.lawful next.reported is_reported;
      entries = entries;
      nothing = ap (λ (r : TransferRow). posting_of number (Some r)) (is_reported ∙ row_is) ∙ ap (λ (c : XferCode). cond (is_posted c) (record { number = number; row = changed_row S.day info found.0 } ∷ []) []) fields.1;
    }

-- What a cancellation enters.
pub record IsCancelEntry (setup : Setup) (S : State) (user : UserId) (at : Moment) (trnuid : List ℕ) (id : ℕ) (number : ℕ) (object : ObjectId) (uid : List ℕ) (row : TransferRow) : Type 0 where
  pub next : IsNext setup S (entry_with number object uid (DropTransfer id))
  pub gives : GivesRows S.entries (DropTransfer id) (Row row)
  pub entries : entry_with number object uid (DropTransfer id) ∷ [] ≡ done setup S user at trnuid (CancelTransfer id)

pub cancel_there : (setup : Setup) (S : State) (user : UserId) (only : Option AcctId) (id : ℕ) → judged setup S user only (CancelTransfer id) ≡ 0 → is_some (row_of id S.entries) ≡ true
cancel_there setup S user only id none = ap is_some (cancel_row setup S user only id none).1

pub cancel_from : (setup : Setup) (S : State) (user : UserId) (only : Option AcctId) (id : ℕ) (row : TransferRow) → judged setup S user only (CancelTransfer id) ≡ 0 → option_map (with_code Cancelled) (row_of id S.entries) ≡ Some row → is_some (account_of setup row.from) ≡ true
cancel_from setup S user only id row none is =
    let found = cancel_row setup S user only id none in
    let row_is : row ≡ with_code Cancelled found.0 = some_row (row_of id S.entries) (with_code Cancelled) found.0 row found.1 is in
    ap (λ (r : TransferRow). is_some (account_of setup r.from)) row_is ∙ found.2.from

pub IsCancelEntry-of : (setup : Setup) (S : State) (user : UserId) (only : Option AcctId) (at : Moment) (trnuid : List ℕ) (id : ℕ) (number : ℕ) (object : ObjectId) (uid : List ℕ) (row : TransferRow) → IsSoundState setup S → judged setup S user only (CancelTransfer id) ≡ 0 → number ≡ length S.entries + 1 → object ≡ object_of setup row.from → uid ≡ trnuid → option_map (with_code Cancelled) (row_of id S.entries) ≡ Some row → IsCancelEntry setup S user at trnuid id number object uid row
IsCancelEntry-of setup S user only at trnuid id number object uid row sound none is_number is_object is_uid is_row =
    let found = cancel_row setup S user only id none in
    let row_is : row ≡ with_code Cancelled found.0 = some_row (row_of id S.entries) (with_code Cancelled) found.0 row found.1 is_row in
    let from : row.from ≡ found.0.from = ap (λ (r : TransferRow). r.from) row_is in
    let entry : entry_with number object uid (DropTransfer id) ≡ next_entry S (object_of setup found.0.from) trnuid (DropTransfer id) =
    entry_is _ _ _ _ _ _ _ _ is_number (is_object ∙ ap (object_of setup) from) is_uid refl in
    let entries : entry_with number object uid (DropTransfer id) ∷ [] ≡ done setup S user at trnuid (CancelTransfer id) =
    ap (λ (e : Entry). e ∷ []) entry ∙ sym (cancel_entries setup S user at trnuid id found.0 found.1) in
    let next : IsNext setup S (entry_with number object uid (DropTransfer id)) = subst (IsNext setup S) (sym entry) (cancel_next setup S trnuid id found.0 sound found.1 found.2) in
    record {
      next = next;
      gives = drop_gives S id row is_row;
      entries = entries;
    }

-- What a new recurring transfer enters.
pub record IsModelEntry (setup : Setup) (S : State) (user : UserId) (at : Moment) (trnuid : List ℕ) (recur : Recur) (info : XferInfo) (number : ℕ) (object : ObjectId) (uid : List ℕ) (row reported : ModelRow) : Type 0 where
  pub next : IsNext setup S (entry_with number object uid (NewModel reported))
  pub gives : GivesRows S.entries (NewModel reported) (changes.Model row)
  pub entries : entry_with number object uid (NewModel reported) ∷ [] ≡ done setup S user at trnuid (Model recur info)

pub model_from : (setup : Setup) (S : State) (user : UserId) (only : Option AcctId) (recur : Recur) (info : XferInfo) → judged setup S user only (Model recur info) ≡ 0 → is_some (account_of setup info.from) ≡ true
model_from setup S user only recur info none = (model_taken setup S user only recur info none).from

pub IsModelEntry-of : (setup : Setup) (S : State) (user : UserId) (only : Option AcctId) (at : Moment) (trnuid : List ℕ) (recur : Recur) (info : XferInfo) (number : ℕ) (object : ObjectId) (uid : List ℕ) (row reported : ModelRow) → IsSoundState setup S → IsSoundDeed (Model recur info) → judged setup S user only (Model recur info) ≡ 0 → number ≡ length S.entries + 1 → object ≡ model_object_of setup info.from → uid ≡ trnuid → row ≡ new_model number S.day recur info → reported ≡ row → IsModelEntry setup S user at trnuid recur info number object uid row reported
IsModelEntry-of setup S user only at trnuid recur info number object uid row reported sound deed none is_number is_object is_uid is_row is_reported =
    let row_is : row ≡ new_model (length S.entries + 1) S.day recur info = is_row ∙ ap (λ (n : ℕ). new_model n S.day recur info) is_number in
    let entry : entry_with number object uid (NewModel reported) ≡ model_entry setup S trnuid recur info =
    entry_is _ _ _ _ _ _ _ _ is_number is_object is_uid (ap (λ (r : ModelRow). NewModel r) (is_reported ∙ row_is)) in
    let entries : entry_with number object uid (NewModel reported) ∷ [] ≡ done setup S user at trnuid (Model recur info) =
    ap (λ (e : Entry). e ∷ []) entry ∙ sym (model_entries setup S user at trnuid recur info) in
    let next : IsNext setup S (entry_with number object uid (NewModel reported)) = subst (IsNext setup S) (sym entry) (model_next setup S user only trnuid recur info sound deed none) in
    record {
      next = next;
      gives = new_model_gives setup S reported row sound next.lawful is_reported;
      entries = entries;
    }

-- ---- what is judged of recurring transfers

pub judged_model-is : (setup : Setup) (S : State) (user : UserId) (only : Option AcctId) (deed : Deed) (recur : Recur) (info : XferInfo) (result : ℕ) → deed ≡ Model recur info → result ≡ model_code setup user only info S.day → result ≡ judged setup S user only deed
unfolding judged
judged_model-is setup S user only deed recur info result is code = code ∙ sym (ap (judged setup S user only) is)

model_copied : (found : Option (Bor ModelRow)) → option_map (λ (row : Bor ModelRow). row.now) found ≡ option_copied found
model_copied None = refl
model_copied (Some row) = refl

pub judged_model_modify-is : (setup : Setup) (S : State) (user : UserId) (only : Option AcctId) (deed : Deed) (id : ℕ) (recur : Recur) (info : XferInfo) (also : Bool) (found : Option (Bor ModelRow)) (cancelled : Bool) (result : ℕ) → deed ≡ ModifyModel id recur info also → option_copied found ≡ model_of id S.entries → cancelled ≡ is_model_dropped id S.entries → result ≡ model_modify_code setup user only (option_map (λ (row : Bor ModelRow). row.now) found) cancelled info S.day → result ≡ judged setup S user only deed
unfolding judged
judged_model_modify-is setup S user only deed id recur info also found cancelled result is row gone code =
    code ∙ ap (λ (r : Option ModelRow). model_modify_code setup user only r cancelled info S.day) (model_copied found ∙ row) ∙ ap (λ (b : Bool). model_modify_code setup user only (model_of id S.entries) b info S.day) gone ∙ sym (ap (judged setup S user only) is)

pub judged_model_cancel-is : (setup : Setup) (S : State) (user : UserId) (only : Option AcctId) (deed : Deed) (id : ℕ) (also : Bool) (found : Option (Bor ModelRow)) (cancelled : Bool) (result : ℕ) → deed ≡ CancelModel id also → option_copied found ≡ model_of id S.entries → cancelled ≡ is_model_dropped id S.entries → result ≡ model_cancel_code setup user only (option_map (λ (row : Bor ModelRow). row.now) found) cancelled → result ≡ judged setup S user only deed
unfolding judged
judged_model_cancel-is setup S user only deed id also found cancelled result is row gone code =
    code ∙ ap (λ (r : Option ModelRow). model_cancel_code setup user only r cancelled) (model_copied found ∙ row) ∙ ap (λ (b : Bool). model_cancel_code setup user only (model_of id S.entries) b) gone ∙ sym (ap (judged setup S user only) is)

pub judged_bank_mail-is : (setup : Setup) (S : State) (user : UserId) (only : Option AcctId) (deed : Deed) (account : AcctName) (mail : MailText) (result : ℕ) → deed ≡ BankMail account mail → result ≡ bank_mail_code setup user only account mail → result ≡ judged setup S user only deed
unfolding judged
judged_bank_mail-is setup S user only deed account mail result is code = code ∙ sym (ap (judged setup S user only) is)

pub judged_mail-is : (setup : Setup) (S : State) (user : UserId) (only : Option AcctId) (deed : Deed) (mail : MailText) (result : ℕ) → deed ≡ Mail mail → result ≡ mail_code mail → result ≡ judged setup S user only deed
unfolding judged
judged_mail-is setup S user only deed mail result is code = code ∙ sym (ap (judged setup S user only) is)

-- a mail that isn't refused is about an account of the bank
pub bank_mail_there : (setup : Setup) (S : State) (user : UserId) (only : Option AcctId) (account : AcctName) (mail : MailText) → judged setup S user only (BankMail account mail) ≡ 0 → is_some (account_of setup account) ≡ true
unfolding judged
bank_mail_there setup S user only account mail none = IsInBank-from_mail_code setup user only account mail none
