-- What a deed adds may be reported, and its first entry is of the deed's family.
use Rattle.std.proofs.Common.{◌≡◌, ℕ, ◌+◌, ◌<◌, ◌≤◌, Bool, true, false, List, [], ◌∷◌, length, Option, None, Some, refl, sym, subst, arith}
use Rattle.std.specs.List.{AllByRecursion}
use Rattle.std.specs.Option.{IfSome}
use Rattle.ofx_types.specs.Calendar.{IsMoment}
use Rattle.ofx_types.specs.DeedForm.{family_of}
use Rattle.ofx_types.specs.declared.number.AcctId.{AcctId}
use Rattle.ofx_types.specs.declared.number.UserId.{UserId}
use Rattle.ofx_types.specs.declared.number.Moment.{Moment}
use Rattle.ofx_types.specs.declared.account.AcctName.{AcctName}
use Rattle.ofx_types.specs.declared.mail.MailText.{MailText}
use Rattle.ofx_types.specs.declared.transfer.TransferRow.{TransferRow}
use Rattle.ofx_types.specs.declared.transfer.XferInfo.{XferInfo}
use Rattle.ofx_types.specs.declared.transfer.Deed.{Deed}
use Rattle.ofx_types.specs.declared.transfer.Deed.TheVariants.{Transfer, ModifyTransfer, CancelTransfer, Model, ModifyModel, CancelModel, BankMail, Mail}
use Rattle.ofx_types.specs.declared.transfer.Change.{Change}
use Rattle.ofx_types.specs.declared.transfer.Family.{Family}
use Rattle.ofx_types.specs.declared.transfer.Family.TheVariants as families
use Rattle.bank_model.specs.declared.entry.Entry.{Entry}
use Rattle.bank_model.specs.declared.setup.Setup.{Setup}
use Rattle.bank_model.specs.declared.event.State.{State}
use Rattle.bank_model.specs.SetupForm.{IsWithinLimits}
use Rattle.bank_model.specs.SetupLookups.{account_of}
use Rattle.bank_model.specs.Ledger.{row_of}
use Rattle.bank_model.specs.Models.{model_of, is_model_dropped, waiting_of}
use Rattle.bank_model.specs.Deeds.{judged, done, object_of, entries_after, mail_row}
use Rattle.bank_model.specs.Sound as file
use Rattle.sync_laws.specs.ObjectFamilies.{IsObjectOf}
use Rattle.sync_laws.proofs.Verdicts.{free_to_modify, free_to_cancel, free_model_to_modify, free_model_to_cancel, own_model, own_letter}
use Rattle.sync_laws.proofs.Positions.{own_known, at_intra, at_recurring, at_letters}
use Rattle.bank_invariants.proofs.PendingLemmas.{IsHere}
use Rattle.bank_invariants.proofs.DeedLemmas.{modify_entries, cancel_entries}
use Rattle.bank_invariants.proofs.DoneLemmas.{with_new_terms, dropping}
use Rattle.sync_laws.proofs.Done.{along, modify_model_entries, cancel_model_entries}
use Rattle.msg_parts.specs.SoundParts.{IsTextWithin, IsSoundAccount, family_of_change}
use Rattle.msg_deed.specs.SoundDeeds.{IsSoundInfo}
use Rattle.msg_mail.specs.SoundMails.{IsSoundMail, IsSoundMailRow}
use Rattle.reply_laws.specs.Reportable.{IsReportedChange, IsReportedEntry, IsReportable}
use Rattle.reply_laws.proofs.Values.{account_sound, info_sound, mail_sound, zero_within}
use Rattle.reply_laws.proofs.Arguments.{user_within}
use Rattle.reply_laws.proofs.Found.{IsKnownRow, known_row, waiting_known, known_model}
use Rattle.reply_laws.proofs.Rows.{new_row_reported, changed_row_reported, with_terms_reported, new_model_reported, changed_model_reported}

-- The entries of a deed: the first is of the family, and all may be reported.
pub record Begins (setup : Setup) (family : Family) (entries : List Entry) : Type 0 where
  pub entry : Entry
  pub rest : List Entry
  pub are : entries ≡ entry ∷ rest
  pub is_of : family_of_change entry.change ≡ family
  pub first : IsReportedEntry setup entry
  pub more : AllByRecursion (IsReportedEntry setup) rest

begins : (setup : Setup) (family : Family) (entries : List Entry) (entry : Entry) (rest : List Entry) → entries ≡ entry ∷ rest → family_of_change entry.change ≡ family → IsTextWithin 36 entry.trnuid → IsReportedChange entry.change → IsObjectOf setup (family_of_change entry.change) entry.object.0 → AllByRecursion (IsReportedEntry setup) rest → Begins setup family entries
begins setup family entries entry rest are is uid change occurrence more =
    record { entry = entry; rest = rest; are = are; is_of = is; first = record { trnuid = uid; change = change; object = occurrence }; more = more }

-- ---- transfers that go along

after_reported : (setup : Setup) (count : ℕ) (change : TransferRow → Change) (P : TransferRow → Type 0) (rows : List TransferRow) → IsWithinLimits setup → ((row : TransferRow) → P row → IsReportedChange (change row) × (family_of_change (change row) ≡ families.Intra)) → AllByRecursion P rows → AllByRecursion (IsReportedEntry setup) (entries_after setup count change rows)
unfolding entries_after
after_reported setup count change P [] within step all = tt
after_reported setup count change P (row ∷ more) within step all =
    let here = step row all.0 in (
      record {
        trnuid = zero_within 36 (omega arith);
        change = here.0;
        object = subst (λ (f : Family). IsObjectOf setup f (object_of setup row.from).0) (sym here.1) (at_intra setup row.from within);
      },
      after_reported setup (count + 1) change P more within step all.1,
    )

along_reported : (setup : Setup) (S : State) (change : TransferRow → Change) (also : Bool) (id : ℕ) → IsWithinLimits setup → IsReportable setup S → ((row : TransferRow) → IsKnownRow row × IsHere S.entries row → IsReportedChange (change row) × (family_of_change (change row) ≡ families.Intra)) → AllByRecursion (IsReportedEntry setup) (along setup S change also id)
along_reported setup S change true id within reportable step =
    after_reported setup (length S.entries + 1) change _ (waiting_of id S.entries) within step (waiting_known setup id S.entries reportable.entries)
along_reported setup S change false id within reportable step = tt

new_terms_reported : (entries : List Entry) (info : XferInfo) → IsSoundInfo info → (row : TransferRow) → IsKnownRow row × IsHere entries row → IsReportedChange (with_new_terms info row) × (family_of_change (with_new_terms info row) ≡ families.Intra)
new_terms_reported entries info sound row known = (with_terms_reported info row sound known.0 known.1.1, refl)

-- ---- any deed

mail_reported : (setup : Setup) (user : UserId) (about : Option AcctName) (mail : MailText) → IsWithinLimits setup → user.0 < length setup.users → IfSome about IsSoundAccount → IsSoundMail mail → IsSoundMailRow (mail_row setup user about mail)
mail_reported setup user about mail within known account sound = record { about = account; user = user_within setup user within known; mail = sound }

few_ids : (setup : Setup) (count : ℕ) → IsWithinLimits setup → count + 1 ≤ setup.entries → count + 1 ≤ 9999999999
few_ids setup count within few = let most = within.lines.entries_high in omega arith

pub done_begins : (setup : Setup) (S : State) (user : UserId) (only : Option AcctId) (at : Moment) (trnuid : List ℕ) (deed : Deed) → IsWithinLimits setup → IsReportable setup S → IsMoment at.0 → user.0 < length setup.users → file.IsSoundDeed deed → IsTextWithin 36 trnuid → judged setup S user only deed ≡ 0 → length S.entries + length (done setup S user at trnuid deed) ≤ setup.entries → Begins setup (family_of deed) (done setup S user at trnuid deed)
unfolding judged done
done_begins setup S user only at trnuid (Transfer info) within reportable moment known sound uid none few =
    begins setup _ _ _ [] refl refl uid
    (new_row_reported (length S.entries + 1) at S.day info (few_ids setup (length S.entries) within few) moment reportable.day (info_sound info sound))
    (at_intra setup info.from within) tt
done_begins setup S user only at trnuid (ModifyTransfer id info) within reportable moment known sound uid none few =
    let free = free_to_modify setup user only (row_of id S.entries) info S.day none in
    begins setup _ _ _ [] (modify_entries setup S user at trnuid id info free.row free.is) refl uid
    (changed_row_reported S.day info free.row reportable.day (info_sound info sound.1) (known_row setup id S.entries free.row reportable.entries free.is))
    (at_intra setup free.row.from within) tt
done_begins setup S user only at trnuid (CancelTransfer id) within reportable moment known sound uid none few =
    let free = free_to_cancel setup user only (row_of id S.entries) none in
    begins setup _ _ _ [] (cancel_entries setup S user at trnuid id free.row free.is) refl uid sound (at_intra setup free.row.from within) tt
done_begins setup S user only at trnuid (Model recur info) within reportable moment known sound uid none few =
    begins setup _ _ _ [] refl refl uid
    (new_model_reported (length S.entries + 1) S.day recur info (few_ids setup (length S.entries) within few) reportable.day sound.0 (info_sound info sound.1))
    (at_recurring setup (account_of setup info.from) (own_known setup user only (account_of setup info.from) (own_model setup user only info S.day none))) tt
done_begins setup S user only at trnuid (ModifyModel id recur info also) within reportable moment known sound uid none few =
    let free = free_model_to_modify setup user only (model_of id S.entries) (is_model_dropped id S.entries) info S.day none in
    let terms = info_sound info sound.2 in
    begins setup _ _ _ _ (modify_model_entries setup S user at trnuid id recur info also free.row free.is) refl uid
    (changed_model_reported S.day recur info free.row reportable.day sound.1 terms (known_model setup id S.entries free.row reportable.entries free.is))
    (at_recurring setup (account_of setup free.row.from) (own_known setup user only (account_of setup free.row.from) free.own))
    (along_reported setup S (with_new_terms info) also id within reportable (new_terms_reported S.entries info terms))
done_begins setup S user only at trnuid (CancelModel id also) within reportable moment known sound uid none few =
    let free = free_model_to_cancel setup user only (model_of id S.entries) (is_model_dropped id S.entries) none in
    begins setup _ _ _ _ (cancel_model_entries setup S user at trnuid id also free.row free.is) refl uid sound
    (at_recurring setup (account_of setup free.row.from) (own_known setup user only (account_of setup free.row.from) free.own))
    (along_reported setup S dropping also id within reportable (λ row here. (here.0.id, refl)))
done_begins setup S user only at trnuid (BankMail about mail) within reportable moment known sound uid none few =
    begins setup _ _ _ [] refl refl uid
    (mail_reported setup user (Some about) mail within known (account_sound about sound.0) (mail_sound mail sound.1))
    (at_letters setup (account_of setup about) (own_known setup user only (account_of setup about) (own_letter setup user only about mail none))) tt
done_begins setup S user only at trnuid (Mail mail) within reportable moment known sound uid none few =
    begins setup _ _ _ [] refl refl uid (mail_reported setup user None mail within known tt (mail_sound mail sound)) (omega arith) tt
