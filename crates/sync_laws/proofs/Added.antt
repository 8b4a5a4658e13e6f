-- The replies to the deeds of a synchronisation tell just what they add to the object.
use Rattle.std.proofs.Common.{◌≡◌, ◌≢◌, ℕ, ◌+◌, ◌*◌, Bool, true, false, cond, eqb, List, [], ◌∷◌, ◌++◌, length, map, filter, fold, codes, Option, None, Some, refl, sym, ap, ◌∙◌, subst, append_assoc, arith}
use Rattle.std.specs.List.{AllByRecursion, flat_map}
use Rattle.std.specs.Option.{IfSome}
use Rattle.std.proofs.lemmas.Bool.{and_parts, eqb-true, eq-eqb, ne_eqb, false_from_ne_true}
use Rattle.std.proofs.lemmas.List.{append-nil}
use Rattle.ofx_types.specs.DeedForm.{family_of}
use Rattle.ofx_types.specs.SyncForm.{object_family}
use Rattle.ofx_types.specs.declared.number.AcctId.{AcctId}
use Rattle.ofx_types.specs.declared.number.ObjectId.{ObjectId}
use Rattle.ofx_types.specs.declared.number.UserId.{UserId}
use Rattle.ofx_types.specs.declared.number.Moment.{Moment}
use Rattle.ofx_types.specs.declared.transfer.TransferRow.{TransferRow}
use Rattle.ofx_types.specs.declared.transfer.Deed.{Deed}
use Rattle.ofx_types.specs.declared.transfer.Deed.TheVariants.{Transfer, ModifyTransfer, CancelTransfer, Model, ModifyModel, CancelModel, BankMail, Mail}
use Rattle.ofx_types.specs.declared.transfer.Change.{Change}
use Rattle.ofx_types.specs.declared.transfer.DeedReply.{DeedReply}
use Rattle.ofx_types.specs.declared.transfer.Family.{Family}
use Rattle.ofx_types.specs.declared.transfer.Family.TheVariants as families
use Rattle.ofx_types.specs.declared.sync.ObjectName.{ObjectName}
use Rattle.ofx_types.specs.declared.sync.ObjectName.TheVariants as objects
use Rattle.ofx_types.specs.declared.sync.SyncAsk.{SyncAsk}
use Rattle.bank_model.specs.declared.entry.Entry.{Entry}
use Rattle.bank_model.specs.declared.setup.Setup.{Setup}
use Rattle.bank_model.specs.declared.event.State.{State}
use Rattle.bank_model.specs.SetupLookups.{account_of, own_account, is_owner}
use Rattle.bank_model.specs.Ledger.{row_of}
use Rattle.bank_model.specs.Models.{model_of, is_model_dropped, waiting_of}
use Rattle.bank_model.specs.Judging.{is_own_account}
use Rattle.bank_model.specs.Deeds.{intra_of, recurring_of, mail_about_of, mail_object, object_of, source_balance, entries_after, first_change, judged, done, code_of, answer_with, deed_answer}
use Rattle.bank_model.specs.Objects.{account_about, numbered, object_named, belongs_to, history_of}
use Rattle.bank_model.specs.Sync.{refused_with, rejection, deed_answers, deeds_or_rejection}
use Rattle.bank_model.specs.Sound.{IsSoundPair, IsSoundSync}
use Rattle.bank_model.specs.Stores.{Row, changed, change_done, applied}
use Rattle.sync_laws.proofs.Verdicts.{free_to_modify, free_to_cancel, own_transfer, free_model_to_modify, free_model_to_cancel, own_model, own_letter}
use Rattle.bank_invariants.proofs.DoneLemmas.{with_new_terms, dropping}
use Rattle.bank_invariants.proofs.DeedLemmas.{modify_entries, cancel_entries}
use Rattle.bank_invariants.proofs.StateLemmas.{IsAllowed-from_code}
use Rattle.sync_laws.proofs.Done.{along, modify_model_entries, cancel_model_entries}
use Rattle.sync_laws.proofs.Changes.{fold_entries, fold_entries-append, applied-append}
use Rattle.bank_model.proofs.Rejections.{rejection_coded}
use Rattle.bank_model.proofs.Histories.{history_of-append, history_of-none}

-- The entries that are added, of which those of the object say what the replies tell.
pub record AddsReported (family : Family) (object : ObjectId) (before after : List Entry) (replies : List DeedReply) : Type 0 where
  pub more : List Entry
  pub entries : after ≡ before ++ more
  pub reported : (rows : List Row) → applied family rows replies ≡ fold_entries family rows (history_of object more)

adds_nothing : (family : Family) (object : ObjectId) (entries : List Entry) → AddsReported family object entries entries []
adds_nothing family object entries = record {
  more = [];
  entries = sym (append-nil entries);
  reported = λ rows. sym (ap (fold_entries family rows) (history_of-none object));
}

adds_both : (family : Family) (object : ObjectId) (before mid after : List Entry) (first last : List DeedReply) → AddsReported family object before mid first → AddsReported family object mid after last → AddsReported family object before after (first ++ last)
adds_both family object before mid after first last one two = record {
  more = one.more ++ two.more;
  entries = two.entries ∙ ap (λ l. l ++ two.more) one.entries ∙ append_assoc before one.more two.more;
  reported = λ rows.
      (applied-append family rows first last
      ∙ ap (λ held. applied family held last) (one.reported rows)
      ∙ two.reported (fold_entries family rows (history_of object one.more))
      ∙ sym (ap (fold_entries family rows) (history_of-append object one.more two.more) ∙ fold_entries-append family rows (history_of object one.more) (history_of object two.more)));
}

-- Of some entries the first alone is one of the object.
record IsPlaced (object : ObjectId) (entries : List Entry) : Type 0 where
  entry : Entry
  rest : List Entry
  are : entries ≡ entry ∷ rest
  alone : history_of object (entry ∷ rest) ≡ entry ∷ []

-- a deed's reply says what it adds to the object
deed_adds : (setup : Setup) (S : State) (user : UserId) (at : Moment) (trnuid : List ℕ) (deed : Deed) (family : Family) (object : ObjectId) (code : ℕ) → (code ≡ 0 → IsPlaced object (done setup S user at trnuid deed)) → AddsReported family object S.entries (answer_with setup S user at trnuid deed code).after.entries ((answer_with setup S user at trnuid deed code).reply ∷ [])
deed_adds setup S user at trnuid deed family object code located = by_code (eqb code 0) refl
  where
    reply_with : List Entry → DeedReply
    reply_with entries = record { trnuid = trnuid; family = family_of deed; code = code; change = first_change entries }

    by_code : (zero : Bool) → eqb code 0 ≡ zero → AddsReported family object S.entries (S.entries ++ cond zero (done setup S user at trnuid deed) []) (reply_with (cond zero (done setup S user at trnuid deed) []) ∷ [])
    by_code true is =
        let here = located (eqb-true code 0 is) in
        record {
          more = done setup S user at trnuid deed;
          entries = refl;
          reported = λ rows.
              (ap (λ l. applied family rows (reply_with l ∷ [])) here.are
              ∙ ap (λ b. fold (changed family) rows (cond b (here.entry.change ∷ []) [] ++ [])) is
              ∙ sym (ap (λ l. fold_entries family rows (history_of object l)) here.are ∙ ap (fold_entries family rows) here.alone));
        }
    by_code false is = record {
      more = [];
      entries = refl;
      reported = λ rows.
          (ap (λ b. fold (changed family) rows (cond b [] [] ++ [])) is
          ∙ sym (ap (fold_entries family rows) (history_of-none object)));
    }

-- ---- where deeds stand

-- the account of a name is the only one that counts
own_only : (setup : Setup) (user : UserId) (account : AcctId) (number : Option AcctId → ObjectId) (found : Option AcctId) → is_own_account setup user (Some account) found ≡ true → number found ≡ number (Some account)
own_only setup user account number None own = cc
own_only setup user account number (Some known) own =
    let both = and_parts (is_owner setup user known) (eqb account.0 known.0) own in
    ap (λ (n : ℕ). number (Some (record { 0 = n }))) (sym (eqb-true account.0 known.0 both.1))

placed_is : (object : ObjectId) (entries : List Entry) (entry : Entry) (rest : List Entry) → entries ≡ entry ∷ rest → entry.object ≡ object → history_of object rest ≡ [] → IsPlaced object entries
unfolding history_of
placed_is object entries entry rest are here none = record {
  entry = entry;
  rest = rest;
  are = are;
  alone = ap (λ b. cond b (entry ∷ history_of object rest) (history_of object rest)) (eq-eqb entry.object.0 object.0 (ap (λ (o : ObjectId). o.0) here)) ∙ ap (λ l. entry ∷ l) none;
}

-- what goes along with a recurring transfer is in the histories of transfers
apart_from_transfers : (account : AcctId) (found : Option AcctId) → eqb (intra_of found).0 (3 * account.0 + 1) ≡ false
apart_from_transfers account None = ne_eqb 0 (3 * account.0 + 1) (omega arith)
apart_from_transfers account (Some known) = ne_eqb (3 * known.0) (3 * account.0 + 1) (omega arith)

after_elsewhere : (setup : Setup) (count : ℕ) (change : TransferRow → Change) (rows : List TransferRow) (account : AcctId) → history_of (recurring_of (Some account)) (entries_after setup count change rows) ≡ []
unfolding history_of entries_after
after_elsewhere setup count change [] account = refl
after_elsewhere setup count change (row ∷ more) account =
    ap (λ b. cond b (entry ∷ filter (belongs_to (recurring_of (Some account))) (entries_after setup (count + 1) change more)) (filter (belongs_to (recurring_of (Some account))) (entries_after setup (count + 1) change more))) (apart_from_transfers account (account_of setup row.from))
    ∙ after_elsewhere setup (count + 1) change more account
  where
    entry : Entry
    entry = record { number = count + 1; object = object_of setup row.from; trnuid = codes "0"; change = change row }

along_elsewhere : (setup : Setup) (S : State) (change : TransferRow → Change) (also : Bool) (id : ℕ) (account : AcctId) → history_of (recurring_of (Some account)) (along setup S change also id) ≡ []
along_elsewhere setup S change true id account = after_elsewhere setup (length S.entries + 1) change (waiting_of id S.entries) account
along_elsewhere setup S change false id account = history_of-none (recurring_of (Some account))

placed_intra : (setup : Setup) (S : State) (user : UserId) (account : AcctId) (at : Moment) (trnuid : List ℕ) (deed : Deed) → family_of deed ≡ families.Intra → judged setup S user (Some account) deed ≡ 0 → IsPlaced (intra_of (Some account)) (done setup S user at trnuid deed)
unfolding judged done
placed_intra setup S user account at trnuid (Transfer info) is none =
    placed_is _ _ _ [] refl (own_only setup user account intra_of (account_of setup info.from) (own_transfer setup user (Some account) info S.day (source_balance setup S info) none)) (history_of-none (intra_of (Some account)))
placed_intra setup S user account at trnuid (ModifyTransfer id info) is none =
    let free = free_to_modify setup user (Some account) (row_of id S.entries) info S.day none in
    placed_is _ _ _ [] (modify_entries setup S user at trnuid id info free.row free.is) (own_only setup user account intra_of (account_of setup free.row.from) free.own) (history_of-none (intra_of (Some account)))
placed_intra setup S user account at trnuid (CancelTransfer id) is none =
    let free = free_to_cancel setup user (Some account) (row_of id S.entries) none in
    placed_is _ _ _ [] (cancel_entries setup S user at trnuid id free.row free.is) (own_only setup user account intra_of (account_of setup free.row.from) free.own) (history_of-none (intra_of (Some account)))
placed_intra setup S user account at trnuid (Model recur info) is none = cc
placed_intra setup S user account at trnuid (ModifyModel id recur info also) is none = cc
placed_intra setup S user account at trnuid (CancelModel id also) is none = cc
placed_intra setup S user account at trnuid (BankMail about mail) is none = cc
placed_intra setup S user account at trnuid (Mail mail) is none = cc

placed_recurring : (setup : Setup) (S : State) (user : UserId) (account : AcctId) (at : Moment) (trnuid : List ℕ) (deed : Deed) → family_of deed ≡ families.RecIntra → judged setup S user (Some account) deed ≡ 0 → IsPlaced (recurring_of (Some account)) (done setup S user at trnuid deed)
unfolding judged done
placed_recurring setup S user account at trnuid (Model recur info) is none =
    placed_is _ _ _ [] refl (own_only setup user account recurring_of (account_of setup info.from) (own_model setup user (Some account) info S.day none)) (history_of-none (recurring_of (Some account)))
placed_recurring setup S user account at trnuid (ModifyModel id recur info also) is none =
    let free = free_model_to_modify setup user (Some account) (model_of id S.entries) (is_model_dropped id S.entries) info S.day none in
    placed_is _ _ _ _ (modify_model_entries setup S user at trnuid id recur info also free.row free.is) (own_only setup user account recurring_of (account_of setup free.row.from) free.own) (along_elsewhere setup S (with_new_terms info) also id account)
placed_recurring setup S user account at trnuid (CancelModel id also) is none =
    let free = free_model_to_cancel setup user (Some account) (model_of id S.entries) (is_model_dropped id S.entries) none in
    placed_is _ _ _ _ (cancel_model_entries setup S user at trnuid id also free.row free.is) (own_only setup user account recurring_of (account_of setup free.row.from) free.own) (along_elsewhere setup S dropping also id account)
placed_recurring setup S user account at trnuid (Transfer info) is none = cc
placed_recurring setup S user account at trnuid (ModifyTransfer id info) is none = cc
placed_recurring setup S user account at trnuid (CancelTransfer id) is none = cc
placed_recurring setup S user account at trnuid (BankMail about mail) is none = cc
placed_recurring setup S user account at trnuid (Mail mail) is none = cc

placed_letter : (setup : Setup) (S : State) (user : UserId) (account : AcctId) (at : Moment) (trnuid : List ℕ) (deed : Deed) → family_of deed ≡ families.BankMail → judged setup S user (Some account) deed ≡ 0 → IsPlaced (mail_about_of (Some account)) (done setup S user at trnuid deed)
unfolding judged done
placed_letter setup S user account at trnuid (BankMail about mail) is none =
    placed_is _ _ _ [] refl (own_only setup user account mail_about_of (account_of setup about) (own_letter setup user (Some account) about mail none)) (history_of-none (mail_about_of (Some account)))
placed_letter setup S user account at trnuid (Transfer info) is none = cc
placed_letter setup S user account at trnuid (ModifyTransfer id info) is none = cc
placed_letter setup S user account at trnuid (CancelTransfer id) is none = cc
placed_letter setup S user account at trnuid (Model recur info) is none = cc
placed_letter setup S user account at trnuid (ModifyModel id recur info also) is none = cc
placed_letter setup S user account at trnuid (CancelModel id also) is none = cc
placed_letter setup S user account at trnuid (Mail mail) is none = cc

placed_mail : (setup : Setup) (S : State) (user : UserId) (at : Moment) (trnuid : List ℕ) (deed : Deed) → family_of deed ≡ families.Mail → IsPlaced (mail_object setup user) (done setup S user at trnuid deed)
unfolding done
placed_mail setup S user at trnuid (Mail mail) is = placed_is _ _ _ [] refl refl (history_of-none (mail_object setup user))
placed_mail setup S user at trnuid (Transfer info) is = cc
placed_mail setup S user at trnuid (ModifyTransfer id info) is = cc
placed_mail setup S user at trnuid (CancelTransfer id) is = cc
placed_mail setup S user at trnuid (Model recur info) is = cc
placed_mail setup S user at trnuid (ModifyModel id recur info also) is = cc
placed_mail setup S user at trnuid (CancelModel id also) is = cc
placed_mail setup S user at trnuid (BankMail about mail) is = cc

-- the account of an object that is named
account_of_object : (number : Option AcctId → ObjectId) (found : Option AcctId) (object : ObjectId) → numbered number found ≡ Some object → (account : AcctId) × (found ≡ Some account) × (object ≡ number (Some account))
account_of_object number None object is = cc
account_of_object number (Some account) object is = (account, refl, (let same : number (Some account) ≡ object = cc in sym same))

placed_named : (setup : Setup) (S : State) (user : UserId) (at : Moment) (trnuid : List ℕ) (deed : Deed) (name : ObjectName) (object : ObjectId) → object_named setup user name ≡ Some object → family_of deed ≡ object_family name → judged setup S user (account_about setup user name) deed ≡ 0 → IsPlaced object (done setup S user at trnuid deed)
unfolding object_named
placed_named setup S user at trnuid deed (objects.Intra name) object is family none =
    let own = account_of_object intra_of (own_account setup user name) object is in
    subst (λ (o : ObjectId). IsPlaced o (done setup S user at trnuid deed)) (sym own.2) (placed_intra setup S user own.0 at trnuid deed family (ap (λ (only : Option AcctId). judged setup S user only deed) (sym own.1) ∙ none))
placed_named setup S user at trnuid deed (objects.RecIntra name) object is family none =
    let own = account_of_object recurring_of (own_account setup user name) object is in
    subst (λ (o : ObjectId). IsPlaced o (done setup S user at trnuid deed)) (sym own.2) (placed_recurring setup S user own.0 at trnuid deed family (ap (λ (only : Option AcctId). judged setup S user only deed) (sym own.1) ∙ none))
placed_named setup S user at trnuid deed (objects.BankMail name) object is family none =
    let own = account_of_object mail_about_of (own_account setup user name) object is in
    subst (λ (o : ObjectId). IsPlaced o (done setup S user at trnuid deed)) (sym own.2) (placed_letter setup S user own.0 at trnuid deed family (ap (λ (only : Option AcctId). judged setup S user only deed) (sym own.1) ∙ none))
placed_named setup S user at trnuid deed objects.Mail object is family none =
    let same : mail_object setup user ≡ object = cc in
    subst (λ (o : ObjectId). IsPlaced o (done setup S user at trnuid deed)) same (placed_mail setup S user at trnuid deed family)

-- ---- the deeds of a synchronisation

answers_add : (setup : Setup) (S : State) (user : UserId) (at : Moment) (name : ObjectName) (object : ObjectId) (deeds : List (List ℕ × Deed)) → object_named setup user name ≡ Some object → AllByRecursion (IsSoundPair (object_family name)) deeds → AddsReported (object_family name) object S.entries (deed_answers setup S user (account_about setup user name) at deeds).after.entries (deed_answers setup S user (account_about setup user name) at deeds).replies
unfolding deed_answers deed_answer
answers_add setup S user at name object [] is sound = adds_nothing (object_family name) object S.entries
answers_add setup S user at name object (deed ∷ deeds) is sound =
    let code : ℕ = code_of setup S user (account_about setup user name) at deed.0 deed.1 in
    let mid : State = (answer_with setup S user at deed.0 deed.1 code).after in
    adds_both (object_family name) object S.entries mid.entries _ _ _
    (deed_adds setup S user at deed.0 deed.1 (object_family name) object code (λ none. placed_named setup S user at deed.0 deed.1 name object is sound.0.2 (IsAllowed-from_code setup S user (account_about setup user name) at deed.0 deed.1 none).judged))
    (answers_add setup mid user at name object deeds is sound.1)

rejected_report : (family : Family) (code : ℕ) (deeds : List (List ℕ × Deed)) (rows : List Row) → code ≢ 0 → applied family rows (map (refused_with family code) deeds) ≡ rows
rejected_report family code [] rows other = refl
rejected_report family code (deed ∷ deeds) rows other =
    ap (λ b. fold (changed family) rows (cond b [] [] ++ flat_map change_done (map (refused_with family code) deeds))) (false_from_ne_true (eqb code 0) (λ same. other (eqb-true code 0 same)))
    ∙ rejected_report family code deeds rows other

deeds_add : (setup : Setup) (S : State) (user : UserId) (at : Moment) (ask : SyncAsk) (object : ObjectId) (code : Option ℕ) → object_named setup user ask.object ≡ Some object → IsSoundSync ask → IfSome code (λ (n : ℕ). n ≢ 0) → AddsReported (object_family ask.object) object S.entries (deeds_or_rejection setup S user at ask code).after.entries (deeds_or_rejection setup S user at ask code).replies
unfolding deeds_or_rejection
deeds_add setup S user at ask object None is sound other = answers_add setup S user at ask.object object ask.deeds is sound.deeds
deeds_add setup S user at ask object (Some code) is sound other = record {
  more = [];
  entries = sym (append-nil S.entries);
  reported = λ rows. (rejected_report (object_family ask.object) code ask.deeds rows other ∙ sym (ap (fold_entries (object_family ask.object) rows) (history_of-none object)));
}

pub sync_adds : (setup : Setup) (S : State) (user : UserId) (at : Moment) (ask : SyncAsk) (object : ObjectId) (number : ℕ) → object_named setup user ask.object ≡ Some object → IsSoundSync ask → AddsReported (object_family ask.object) object S.entries (deeds_or_rejection setup S user at ask (rejection ask.reject number ask.kind)).after.entries (deeds_or_rejection setup S user at ask (rejection ask.reject number ask.kind)).replies
sync_adds setup S user at ask object number is sound =
    deeds_add setup S user at ask object (rejection ask.reject number ask.kind) is sound (rejection_coded ask.reject number ask.kind)
